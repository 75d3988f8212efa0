-- M-104, worked: a box with D and F listed. FN and PN share F's sequence and records, in one batch too, whichever comes first; a record
-- says which session wrote it, and only market type N updates it.
use Rattle.std.specs.Prelude.{ℕ, ◌≡◌, refl, replicate}
use mathlib.Core.List.{List, [], ◌∷◌, ◌++◌, map, flat_map}
use Rattle.accumulator.specs.Accumulator.{bit_step, byte_step}
use Rattle.scan.specs.Read.{read_as, step, walk}
use Rattle.files.specs.File.{segments_of, letter_at, zero_at, count_at, offset_at, key_from, contracts_before}
use Rattle.lookup.specs.Halving.{halved_in}
use Rattle.lookup.specs.Lookup.{segment_of, lookup}
use Rattle.contracts.specs.SoundTests.{entry_sound, header_sound_by, key_sound, body_sound, sound_by}
use Rattle.pairs.specs.Lists.{Lists}
use Rattle.pairs.specs.NoSpreads.{no_spreads}
use Rattle.pairs.specs.SpreadTests.{pairs_listed, spread_header_sound, spreads_sound}
use Rattle.sequence.specs.Row.{gaps_of}
use Rattle.sequence.specs.RowLaid.{laid, sound_gap_row}
use Rattle.layout.specs.Read.{read_row}
use Rattle.forms.specs.declared.rows.Level.TheVariants.{One, Two}
use Rattle.forms.specs.declared.forms.Item.TheVariants.{Contract}
use Rattle.forms.specs.Forms.{named_rows, rows_of, meaning_of, form_of}
use Rattle.head.specs.Fields.{letter_of, segment_letter_of, second_of, length_of, number_of, sum_sent, end_byte, form_in, sum_in, right_sum, data_of}
use Rattle.head.specs.Rules.{head_of}
use Rattle.head.specs.Tests.{framed, coded, trailed, summed}
use Rattle.message.specs.Compared.{message_compared}
use Rattle.message.specs.Message.{message_key, key_place, acts_as}
use Rattle.message.specs.Reads.{contents_by, message_of}
use Rattle.turns.specs.Turns.{message_acts, messages_act}
use Rattle.batch.specs.Batch.{flag_of, size_of, count_of}
use Rattle.batch.specs.Acts.{batch_acts}
use Rattle.state.specs.Memory.{Lent, lends}
use Rattle.state.specs.State.{segment_rules}
use Rattle.starting.specs.Start.{each_starts, start_rules}
use Rattle.starting.specs.StartActs.{rows_started, records_cleared}
use Rattle.listing.specs.ListActs.{runs_put}
use Rattle.listing.specs.ListRules.{gaps_of_letter, list_rules}
use Rattle.reading.specs.ReadRules.{record_rules}
use Rattle.reading.specs.Record.{record_of_key}
use Rattle.history.specs.Calls.{Call, start, take, list_gaps, read_record}
use Rattle.history.specs.Step.{answer_numbers}
use Rattle.history.specs.Histories.{own, unstarted, all_answers}
use Rattle.written.specs.ReadBack.{plain_batch}
use Rattle.cases.specs.ListCases.{key_of_bytes, one_each}
use Rattle.cases.specs.MessageCases.{D, F, P, update}

-- M-104: D and F, with one contract each
abbrev listed : Lists
listed = record { contracts = one_each (D ∷ F ∷ []); pairs = no_spreads (one_each (D ∷ F ∷ [])) }

-- lent memory: gap rows for two segments and records for two contracts, with no lists yet
abbrev lent_first : Lent
lent_first = lends (record { contracts = []; pairs = [] }) (replicate 264 0) (replicate 104 0)

-- M-104: a level 1 update of F by the first byte of its code, its number, a key of one byte throughout, its market type and its sum;
-- every row is blank
abbrev future : ℕ → ℕ → ℕ → ℕ → List ℕ → List ℕ
future first number byte market sum = update first (0 ∷ 204 ∷ []) number byte market "" 153 sum

-- 01 "The message": a message without data: code, number below 256, and zero for its sum
abbrev bare : ℕ → ℕ → ℕ → List ℕ
bare first second number = first ∷ second ∷ 0 ∷ 11 ∷ 0 ∷ 0 ∷ 0 ∷ number ∷ 0 ∷ 0 ∷ 13 ∷ []

-- 01 "The batch": so many messages, taken
abbrev batch : ℕ → List ℕ → Call
batch count messages = take (plain_batch count messages)

-- 01 "What may be asked": the record of F's contract
abbrev recorded : Call
recorded = read_record Contract F (key_of_bytes F) One

-- M-104: calls made in turn
abbrev calls : List Call
calls =
    start listed (1 ∷ 1 ∷ []) ∷
    -- FN with number 1, and PN with number 2 behind it: its record was written in pre-open, and there is none of level 2
    batch 2 (future F 1 F 0x4E (117 ∷ 42 ∷ []) ++ future P 2 F 0x4E (103 ∷ 178 ∷ [])) ∷ recorded ∷ read_record Contract F (key_of_bytes F) Two ∷
    -- PN with market type O and a key that isn't listed: taken, and no key is compared; PO, passed over, and FN behind it: written in the
    -- normal market
    batch 1 (future P 3 65 0x4F (243 ∷ 198 ∷ [])) ∷ recorded ∷ batch 2 (bare P 0x4F 4 ++ future F 5 F 0x4E (246 ∷ 8 ∷ [])) ∷ recorded ∷ list_gaps F [] ∷
    -- PX; PO in a batch that D begins; P for a segment's letter
    batch 1 (bare P 0x58 6) ∷ batch 2 (bare D 0x48 0 ++ bare P 0x4F 6) ∷ read_record Contract P (key_of_bytes F) One ∷ []

-- what they answer: of a batch its messages taken, old and heartbeats, and the keys compared; of a record its number and its session
pub told : map answer_numbers (all_answers (unstarted lent_first) (map own calls))
    ≡ (0 ∷ [])
    ∷ (0 ∷ 2 ∷ 0 ∷ 0 ∷ 2 ∷ []) ∷ (0 ∷ 1 ∷ 2 ∷ 1 ∷ []) ∷ (0 ∷ 0 ∷ [])
    ∷ (0 ∷ 1 ∷ 0 ∷ 0 ∷ 0 ∷ []) ∷ (0 ∷ 1 ∷ 2 ∷ 1 ∷ []) ∷ (0 ∷ 2 ∷ 0 ∷ 0 ∷ 1 ∷ []) ∷ (0 ∷ 1 ∷ 5 ∷ 0 ∷ []) ∷ (0 ∷ 5 ∷ 0 ∷ [])
    ∷ (6 ∷ 0 ∷ 0 ∷ 0 ∷ 0 ∷ []) ∷ (6 ∷ 1 ∷ 0 ∷ 0 ∷ 0 ∷ []) ∷ (6 ∷ 0 ∷ 0 ∷ 0 ∷ []) ∷ []
unfolding bit_step byte_step step walk read_as halved_in lookup read_row record_rules record_of_key segment_rules list_rules runs_put gaps_of_letter flat_map no_spreads pairs_listed spread_header_sound spreads_sound start_rules each_starts key_from key_sound body_sound sound_by rows_started records_cleared segments_of letter_at zero_at count_at offset_at contracts_before segment_of entry_sound header_sound_by gaps_of laid sound_gap_row message_compared meaning_of form_of letter_of segment_letter_of second_of length_of number_of data_of sum_sent end_byte form_in sum_in right_sum framed coded trailed summed head_of message_key key_place acts_as contents_by message_of flag_of size_of count_of message_acts messages_act batch_acts rows_of named_rows
told = refl
