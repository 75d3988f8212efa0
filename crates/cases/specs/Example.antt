-- 01 "Cases", its last: with T listed and a start at 1, messages 1 and 4 leave 2 to 3 missing. A history that is there, so that
-- what is said of every history is said of something.
use Rattle.std.specs.Prelude.{ℕ, ◌*◌, ◌≤◌, ◌≡◌, refl, List, [], ◌∷◌, map, replicate}
use Rattle.std.proofs.Common.{sym, ap₂, subst, ◌∙◌, arith}
use Rattle.std.proofs.Math.Option.{some}
use Rattle.cases.specs.ListCases.{one_t}
use Rattle.files.specs.File.{segments_of, letter_at, zero_at, count_at, offset_at, key_from, contracts_before}
use Rattle.pairs.specs.Lists.{Lists}
use Rattle.pairs.specs.NoSpreads.{no_spreads}
use Rattle.pairs.specs.SpreadTests.{pairs_listed, spread_header_sound, spreads_sound}
use Rattle.lookup.specs.Lookup.{segment_of}
use Rattle.contracts.specs.SoundTests.{entry_sound, header_sound_by, key_sound, body_sound, sound_by}
use Rattle.sequence.specs.Row.{gaps_of}
use Rattle.sequence.specs.RowLaid.{laid, sound_gap_row}
use Rattle.forms.specs.Forms.{named_rows, rows_of, meaning_of, form_of}
use Rattle.head.specs.Fields.{letter_of, segment_letter_of, second_of, length_of, number_of, sum_sent, end_byte, form_in, sum_in, right_sum, data_of as data_in}
use Rattle.head.specs.Rules.{head_of}
use Rattle.head.specs.Tests.{framed, coded, trailed, summed}
use Rattle.message.specs.Compared.{message_compared}
use Rattle.message.specs.Message.{message_key, key_place, acts_as}
use Rattle.message.specs.Reads.{contents_by, message_of}
use Rattle.turns.specs.Turns.{message_acts, messages_act}
use Rattle.batch.specs.Batch.{flag_of, size_of, count_of}
use Rattle.batch.specs.Acts.{batch_acts}
use Rattle.state.specs.Answers.{Listed, runs_told}
use Rattle.state.specs.Memory.{lends, Lent}
use Rattle.listing.specs.ListPromises.{ListedRuns}
use Rattle.starting.specs.Start.{each_starts, start_rules}
use Rattle.starting.specs.StartActs.{rows_started, records_cleared}
use Rattle.history.specs.Past.{highest_in, missing_in, runs_standing}
use Rattle.history.specs.Calls.{start, take}
use Rattle.history.specs.Step.{answer_numbers}
use Rattle.history.specs.Histories.{Made, own, elsewhere, BoxNow, unstarted, all_after, all_answers, past_of, Reached}
use Rattle.history.proofs.HistoriesLaws.{calls_reach}
use Rattle.cases.specs.PaperCases.{those}
use Rattle.history.proofs.DemandsLaws.{after_calls}

-- 01 "Cases": the program starts at 1
abbrev starts : List ℕ
starts = 1 ∷ []

-- 01 "The contract list", M-100: T listed, with no pairs
abbrev listed : Lists
listed = record { contracts = one_t; pairs = no_spreads one_t }

-- a word of our own: two empty files
abbrev no_lists : Lists
no_lists = record { contracts = []; pairs = [] }

-- lent memory: gap rows for one segment and records for one contract, with no lists yet
abbrev lent_first : Lent
lent_first = lends no_lists (replicate 132 0) (replicate 52 0)

-- 01 "Cases", its last: one message of T that is passed over, with a number
abbrev batch : ℕ → List ℕ
batch n = 0x01 ∷ 0x00 ∷ 0x0B ∷ 0x00 ∷ 0x01 ∷ 0x54 ∷ 0x45 ∷ 0x00 ∷ 0x0B ∷ 0x00 ∷ 0x00 ∷ 0x00 ∷ n ∷ 0x00 ∷ 0x00 ∷ 0x0D ∷ []

-- 01 "Cases", its last: a start with nothing lent, which is refused; a start; number 1, then number 4
abbrev calls : List Made
calls = elsewhere (lends no_lists [] []) (start listed starts) ∷ own (start listed starts) ∷ own (take (batch 1)) ∷ own (take (batch 4)) ∷ []

-- 01 "Cases", its last: the box then
abbrev now : BoxNow
now = all_after (unstarted lent_first) calls

-- they answer: 15 for the 132 cells that the first start wants; started; one message taken, and one more, with no key compared
pub told : map answer_numbers (all_answers (unstarted lent_first) calls) ≡ (15 ∷ 0 ∷ 0 ∷ 132 ∷ []) ∷ (0 ∷ []) ∷ (0 ∷ 1 ∷ 0 ∷ 0 ∷ 0 ∷ []) ∷ (0 ∷ 1 ∷ 0 ∷ 0 ∷ 0 ∷ []) ∷ []
unfolding no_spreads pairs_listed spread_header_sound spreads_sound start_rules each_starts key_from key_sound body_sound sound_by rows_started records_cleared segments_of letter_at zero_at count_at offset_at contracts_before segment_of entry_sound header_sound_by gaps_of laid sound_gap_row message_compared meaning_of form_of letter_of segment_letter_of second_of length_of number_of data_in sum_sent end_byte form_in sum_in right_sum framed coded trailed summed head_of message_key key_place acts_as contents_by message_of flag_of size_of count_of message_acts messages_act batch_acts rows_of named_rows
told = refl

-- the history
pub reached : Reached starts now.lent (past_of now)
unfolding no_spreads pairs_listed spread_header_sound spreads_sound start_rules each_starts segments_of letter_at zero_at count_at offset_at key_from contracts_before entry_sound header_sound_by key_sound body_sound sound_by
reached = calls_reach lent_first calls (record { starts = starts; past = past_of now }) refl

-- its past says of segment 0, which is listed for T: highest 4, missing 2 and 3, one run
pub says : (segment_of now.lent.lists.contracts 84 ≡ some 0) × (highest_in 0 1 (past_of now) ≡ 4) × (those (missing_in 0 1 (past_of now)) 5 ≡ 2 ∷ 3 ∷ []) × (runs_standing 0 1 (past_of now) ≡ 1)
unfolding no_spreads pairs_listed spread_header_sound spreads_sound start_rules each_starts key_from key_sound body_sound sound_by rows_started records_cleared segments_of letter_at zero_at count_at offset_at contracts_before segment_of entry_sound header_sound_by gaps_of laid sound_gap_row meaning_of form_of letter_of segment_letter_of second_of length_of number_of data_in sum_sent end_byte form_in sum_in right_sum framed coded trailed summed head_of message_key key_place acts_as contents_by message_of flag_of size_of count_of message_acts messages_act batch_acts rows_of named_rows
says = (refl, refl, refl, refl)

-- and so listing its gaps with two cells lent answers highest 4 and one run
pub lists_gap : (answer : Listed) (cells' : List ℕ) → ListedRuns now.lent 84 (0 ∷ 0 ∷ []) answer cells' → answer ≡ runs_told 4 1
lists_gap answer cells' p =
    let one = says.3 in
    (after_calls reached).list_answered 84 0 says.0 (0 ∷ 0 ∷ []) answer cells' p (subst (λ (n : ℕ). 2 * n ≤ 2) (sym one) (omega arith)) ∙ ap₂ runs_told says.1 one
