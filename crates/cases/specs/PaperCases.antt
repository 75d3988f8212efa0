-- 01 "Cases": P1 to P14 as one statement. Each is evaluated by the definitions that the promises cite, and P11 to P13 also by
-- what the past of their calls says. Behind them, in the same way, the refusals that they leave out.
use Rattle.std.specs.Prelude.{ℕ, zero, suc, ◌+◌, ◌≡◌, refl, Bool, cond, List, [], ◌∷◌, ◌++◌, map, length, replicate, drop, set}
use Prim.Native.String.{String}
use Rattle.std.proofs.Math.Option.{some}
use Rattle.laws.specs.Texts.{codes}
use Rattle.accumulator.specs.Accumulator.{bit_step, byte_step}
use Rattle.checksum.specs.Checksum.{sum_of, checksum_of}
use Rattle.scan.specs.Answers.{number_numbers}
use Rattle.decimal.specs.Kinds.{price}
use Rattle.scan.specs.Read.{read_as, step, walk}
use Rattle.print.specs.Write.{size, size_in, text_of}
use Rattle.forms.specs.declared.rows.Level.TheVariants.{One, Two}
use Rattle.quote.specs.Quote.{quote_of, values_of}
use Rattle.layout.specs.Read.{read_row}
use Rattle.compose.specs.Write.{row_text}
use Rattle.cases.specs.ListCases.{key_of_bytes, two_of, three_keys}
use Rattle.files.specs.File.{segments_of, letter_at, zero_at, count_at, offset_at, key_from, contracts_before}
use Rattle.lookup.specs.Halving.{halved_in}
use Rattle.lookup.specs.Lookup.{segment_of, lookup}
use Rattle.contracts.specs.SoundTests.{entry_sound, header_sound_by, key_sound, body_sound, sound_by}
use Rattle.pairs.specs.Lists.{Lists}
use Rattle.pairs.specs.NoSpreads.{no_spreads}
use Rattle.pairs.specs.SpreadTests.{pairs_listed, spread_header_sound, spreads_sound}
use Rattle.forms.specs.declared.forms.Item.TheVariants.{Contract, Pair}
use Rattle.sequence.specs.Row.{gaps_of}
use Rattle.sequence.specs.RowLaid.{laid, sound_gap_row}
use Rattle.forms.specs.Forms.{named_rows, rows_of, meaning_of, form_of, written_form}
use Rattle.head.specs.Fields.{letter_of, segment_letter_of, second_of, length_of, number_of, sum_sent, end_byte, form_in, sum_in, right_sum, data_of as data_in}
use Rattle.head.specs.Rules.{head_of}
use Rattle.head.specs.Tests.{framed, coded, trailed, summed}
use Rattle.message.specs.Compared.{message_compared}
use Rattle.message.specs.Message.{message_key, key_place, acts_as}
use Rattle.message.specs.Reads.{contents_by, message_of}
use Rattle.turns.specs.Turns.{message_acts, messages_act}
use Rattle.batch.specs.Batch.{flag_of, size_of, count_of}
use Rattle.batch.specs.Acts.{batch_acts}
use Rattle.state.specs.Memory.{Lent, lends}
use Rattle.listing.specs.ListActs.{runs_put, lent_written_off}
use Rattle.listing.specs.ListRules.{gaps_of_letter, list_rules, write_off_rules}
use Rattle.reading.specs.ReadRules.{record_rules}
use Rattle.starting.specs.Start.{each_starts, start_rules}
use Rattle.starting.specs.StartActs.{rows_started, records_cleared}
use Rattle.state.specs.State.{segment_rules}
use Rattle.writer.specs.Writer.{data_written, length_written, write_rules, message_bytes}
use Rattle.history.specs.Past.{Event, is_taken, highest_in, missing_in, runs_standing}
use Rattle.history.specs.Exactly.{came_next}
use Rattle.history.specs.Calls.{Call, start, take, write_off, list_gaps, read_record}
use Rattle.history.specs.Step.{step as step_of, answer_numbers}
use Rattle.history.specs.Histories.{own, Since, BoxNow, unstarted, all_after, past_of, Reached, after_call}
use Rattle.history.proofs.HistoriesLaws.{calls_reach, all_since}
use Rattle.written.specs.ReadBack.{plain_batch}
use Rattle.written.specs.WrittenCases as writer

-- ---- the box that is asked: D and T listed, each started at 1

-- 01 "The contract list": D with one contract, T with two
abbrev contracts : List ℕ
contracts = two_of 68 84 18 57 three_keys

-- M-100: beside a contract list, the spread list without pairs
abbrev without_pairs : List ℕ → Lists
without_pairs list = record { contracts = list; pairs = no_spreads contracts }

-- 01 "The contract list": both lists
abbrev pub lists : Lists
lists = without_pairs contracts

-- 01 "The contract list": the letter T
abbrev pub T : ℕ
T = 84

-- 01 "The contract list": T's segment, which is listed behind D's
abbrev pub segment_t : ℕ
segment_t = 1

-- 01 "Cases": start 1, of both
abbrev starts : List ℕ
starts = 1 ∷ 1 ∷ []

-- lent memory: so many cells for gap rows, and records for three contracts, with no lists yet
abbrev lent_first : ℕ → Lent
lent_first cells = lends (record { contracts = []; pairs = [] }) (replicate cells 0) (replicate 156 0)

-- 01 "Cases": the box after its start: 264 cells are gap rows for two segments
abbrev pub started : BoxNow
started = after_call (unstarted (lent_first 264)) (own (start lists starts))

-- 01 "Cases": the box after its start and calls
abbrev pub box : List Call → BoxNow
box cs = all_after started (map own cs)

start_accepted : started.since ≡ some (record { starts = starts; past = [] })
unfolding start_rules each_starts segments_of letter_at zero_at count_at offset_at key_from contracts_before entry_sound header_sound_by key_sound body_sound sound_by no_spreads pairs_listed spread_header_sound spreads_sound
start_accepted = refl

-- whatever calls follow, they are a history
pub a_history : (cs : List Call) → (since : Since) × ((box cs).since ≡ some since) × Reached since.starts (box cs).lent since.past
a_history cs =
    let l = all_since started (record { starts = starts; past = [] }) start_accepted (map own cs) in
    (l.0, l.1, calls_reach (lent_first 264) (own (start lists starts) ∷ map own cs) l.0 l.1)

-- ---- what comes

-- P5: one heartbeat
abbrev p5 : List ℕ
p5 = 0x01 ∷ 0x00 ∷ 0x0B ∷ 0x00 ∷ 0x01 ∷ 0x44 ∷ 0x48 ∷ 0x00 ∷ 0x0B ∷ 0x00 ∷ 0x00 ∷ 0x00 ∷ 0x00 ∷ 0x00 ∷ 0x00 ∷ 0x0D ∷ []

-- P6: with size and count exchanged
abbrev p6 : List ℕ
p6 = 0x01 ∷ 0x00 ∷ 0x01 ∷ 0x00 ∷ 0x0B ∷ 0x44 ∷ 0x48 ∷ 0x00 ∷ 0x0B ∷ 0x00 ∷ 0x00 ∷ 0x00 ∷ 0x00 ∷ 0x00 ∷ 0x00 ∷ 0x0D ∷ []

-- 01 "The message": messages of T that are passed over, with these numbers, each below 256
abbrev messages : List ℕ → List ℕ
messages [] = []
messages (n ∷ ns) = 84 ∷ 69 ∷ 0 ∷ 11 ∷ 0 ∷ 0 ∷ 0 ∷ n ∷ 0 ∷ 0 ∷ 13 ∷ messages ns

-- 01 "The batch": a batch of them, taken
abbrev numbers : List ℕ → Call
numbers ns = take (plain_batch (length ns) (messages ns))

-- P13: so many numbers, each two above the one before
abbrev two_apart : ℕ → ℕ → List ℕ
two_apart n zero = []
two_apart n (suc more) = n ∷ two_apart (n + 2) more

-- P12 and P13: runs of one number each, as first and last
abbrev alone : List ℕ → List ℕ
alone [] = []
alone (n ∷ ns) = n ∷ n ∷ alone ns

-- 01 "What may be asked": list gaps, of T, with so many cells lent
abbrev gaps_in : ℕ → Call
gaps_in cells = list_gaps T (replicate cells 0)

-- P11: taking 1, 2, 5, 9, 4
abbrev p11 : List Call
p11 = numbers (1 ∷ 2 ∷ 5 ∷ 9 ∷ 4 ∷ []) ∷ []

-- P12: then 7
abbrev p12 : List Call
p12 = p11 ++ (numbers (7 ∷ []) ∷ [])

-- P12: then the lowest run, 3, written off
abbrev p12_off : List Call
p12_off = p12 ++ (write_off T ∷ [])

-- P13: taking 2, 4, up to 128
abbrev p13 : List Call
p13 = numbers (two_apart 2 64) ∷ []

-- P13: then 130, which is refused
abbrev p13_130 : List Call
p13_130 = p13 ++ (numbers (130 ∷ []) ∷ [])

-- P13: then 129 and 127
abbrev p13_127 : List Call
p13_127 = p13_130 ++ (numbers (129 ∷ []) ∷ numbers (127 ∷ []) ∷ [])

-- ---- what is asked, and the answer

-- a word of our own: the numbers below a bound that pass a test, ascending
abbrev pub those : (ℕ → Bool) → ℕ → List ℕ
those test zero = []
those test (suc n) = those test n ++ cond (test n) (n ∷ []) []

-- 01 "Cases": what is asked in one of them
pub data Asked : Type 0 where
  -- a text's sum, and its two bytes as sent
  sum sent : List ℕ → Asked
  -- a price's text
  text : String → Asked
  -- a call after others
  call : List Call → Call → Asked
  -- a call lent other memory than the box's own
  lent : Lent → Call → Asked
  -- what the past of calls says of T: its missing numbers, and how many runs they make
  missing standing : List Call → Asked
  -- of a number that comes next: 1 where it is taken, and how many runs would stand
  next : List Call → ℕ → Asked
  -- the writer, of a message
  write : writer.Asked → Asked

-- 01 "What may be asked": the numbers that a call answers
abbrev answers : Lent → Call → List ℕ
answers memory c = answer_numbers (step_of memory c).answer

-- demand 3: the past of these calls, made after the start
abbrev past : List Call → List Event
past cs = past_of (box cs)

-- 01 "Cases": the answer, by the definitions that the promises cite and by the past of the calls
abbrev answer_to : Asked → List ℕ
answer_to (sum bytes) = sum_of bytes ∷ []
answer_to (sent bytes) = checksum_of bytes
answer_to (text t) = number_numbers (read_as price (codes t))
answer_to (call cs c) = answers (box cs).lent c
answer_to (lent memory c) = answers memory c
answer_to (missing cs) = those (missing_in segment_t 1 (past cs)) (suc (highest_in segment_t 1 (past cs)))
answer_to (standing cs) = runs_standing segment_t 1 (past cs) ∷ []
answer_to (next cs n) = cond (is_taken segment_t 1 (past cs) (message_of lists T (messages (n ∷ [])))) 1 0 ∷ runs_standing segment_t 1 (came_next lists T segment_t (messages (n ∷ [])) (past cs)) ∷ []
answer_to (write a) = writer.answer_to a

-- 01 "Cases": what is asked, and what the paper says
pub record Case : Type 0 where
  pub asked : Asked
  pub says : List ℕ

-- 01 "Cases": P1 to P14
unfoldable pub cases : List Case
cases =
    record { asked = sum (codes "123456789"); says = 0x31C3 ∷ [] }  -- P1
    ∷ record { asked = sent (codes "123456789"); says = 0xC3 ∷ 0x31 ∷ [] }
    ∷ record { asked = sent []; says = 0x00 ∷ 0x00 ∷ [] }  -- P2
    ∷ record { asked = sent (0x01 ∷ []); says = 0x21 ∷ 0x10 ∷ [] }  -- P3
    ∷ record { asked = sum (0x32 ∷ []); says = 0x1611 ∷ [] }  -- P4
    ∷ record { asked = sent (0x32 ∷ []); says = 0x10 ∷ 0x16 ∷ [] }
    ∷ record { asked = call [] (take p5); says = 0 ∷ 0 ∷ 0 ∷ 1 ∷ 0 ∷ [] }  -- P5: none taken, none old, one heartbeat; M-102: no key compared
    ∷ record { asked = call [] (take p6); says = 1 ∷ 0 ∷ 0 ∷ 0 ∷ 0 ∷ [] }  -- P6
    ∷ record { asked = text "           100.25"; says = 0 ∷ 1_002_500_000 ∷ [] }  -- P7
    ∷ record { asked = text "99999999999.99999"; says = 0 ∷ 999_999_999_999_999_900 ∷ [] }  -- P8
    ∷ record { asked = text "100000000000"; says = 12 ∷ [] }  -- P9
    ∷ record { asked = text "1.00000000"; says = 12 ∷ [] }  -- P10
    ∷ record { asked = text "100."; says = 11 ∷ [] }
    ∷ record { asked = text "-1"; says = 11 ∷ [] }
    ∷ record { asked = call p11 (gaps_in 4); says = 0 ∷ 9 ∷ 2 ∷ 3 ∷ 3 ∷ 6 ∷ 8 ∷ [] }  -- P11: highest 9 and two runs
    ∷ record { asked = missing p11; says = 3 ∷ 6 ∷ 7 ∷ 8 ∷ [] }
    ∷ record { asked = call p12 (gaps_in 6); says = 0 ∷ 9 ∷ 3 ∷ alone (3 ∷ 6 ∷ 8 ∷ []) }  -- P12
    ∷ record { asked = missing p12; says = 3 ∷ 6 ∷ 8 ∷ [] }
    ∷ record { asked = call p12 (write_off T); says = 0 ∷ 3 ∷ 3 ∷ [] }
    ∷ record { asked = call p12_off (numbers (3 ∷ [])); says = 0 ∷ 0 ∷ 1 ∷ 0 ∷ 0 ∷ [] }
    ∷ record { asked = missing p12_off; says = 6 ∷ 8 ∷ [] }
    ∷ record { asked = next p12_off 3; says = 0 ∷ 2 ∷ [] }
    ∷ record { asked = call p13 (gaps_in 128); says = 0 ∷ 128 ∷ 64 ∷ alone (two_apart 1 64) }  -- P13: highest 128 and 64 runs
    ∷ record { asked = standing p13; says = 64 ∷ [] }
    ∷ record { asked = call p13 (numbers (130 ∷ [])); says = 14 ∷ 0 ∷ 0 ∷ 0 ∷ 0 ∷ [] }
    ∷ record { asked = next p13 130; says = 1 ∷ 65 ∷ [] }
    ∷ record { asked = call p13_130 (numbers (129 ∷ [])); says = 0 ∷ 1 ∷ 0 ∷ 0 ∷ 0 ∷ [] }
    ∷ record { asked = next p13_130 129; says = 1 ∷ 64 ∷ [] }
    ∷ record { asked = call p13_127 (gaps_in 126); says = 0 ∷ 129 ∷ 63 ∷ alone (two_apart 1 63) }
    ∷ record { asked = standing p13_127; says = 63 ∷ [] }
    ∷ record { asked = write (writer.asked 84 78 Two 1 writer.key 999_999_999_999_999_999 505); says = 12 ∷ 0 ∷ 26 ∷ 0 ∷ [] }  -- P14: at its row
    ∷ []

-- 01 "Cases": what the definitions say of each
unfoldable pub answered : List Case → List (List ℕ)
answered = map (λ (c : Case). answer_to c.asked)

-- 01 "Cases": what the paper says of each
unfoldable pub sayings : List Case → List (List ℕ)
sayings = map (λ (c : Case). c.says)

pub p1_to_p14 : answered cases ≡ sayings cases
unfolding no_spreads pairs_listed spread_header_sound spreads_sound cases answered sayings bit_step byte_step step walk read_as segments_of letter_at zero_at count_at offset_at contracts_before segment_of entry_sound header_sound_by gaps_of laid sound_gap_row message_compared meaning_of form_of written_form letter_of segment_letter_of second_of length_of number_of data_in sum_sent end_byte form_in sum_in right_sum framed coded trailed summed head_of message_key key_place acts_as contents_by message_of flag_of size_of count_of message_acts messages_act batch_acts gaps_of_letter list_rules runs_put write_off_rules lent_written_off rows_started records_cleared segment_rules write_rules length_written data_written row_text quote_of values_of text_of size size_in start_rules each_starts key_from key_sound body_sound sound_by rows_of named_rows
p1_to_p14 = refl

-- ---- the table of refusals, where P1 to P14 are silent

-- 01 "The message": one of these parts, with no data: code, length, number below 256, first byte of the sum, end byte
abbrev bare : ℕ → ℕ → ℕ → ℕ → ℕ → ℕ → List ℕ
bare letter second long number low end = letter ∷ second ∷ 0 ∷ long ∷ 0 ∷ 0 ∷ 0 ∷ number ∷ low ∷ 0 ∷ end ∷ []

-- P5's heartbeat
abbrev heartbeat : List ℕ
heartbeat = bare 68 72 11 0 0 13

-- 01 "The message": a level 1 update of D with its right sum, by the byte that its key is throughout, its market type and its
-- first price; every other row is blank
abbrev update : ℕ → ℕ → String → List ℕ
update byte market price = message_bytes (record { 0 = 68; 1 = 78 }) 7 (key_of_bytes byte ++ (market ∷ codes price ++ replicate 181 32))

-- 01 "Numbers in text": no price: all spaces
abbrev blank : String
blank = "                 "

-- 01 "The batch": a plain batch of so many messages that are these bytes, taken
abbrev batch : ℕ → List ℕ → Asked
batch count bytes = call [] (take (plain_batch count bytes))

-- 01 "What may be asked": a batch taken with these lists and these gap rows, whatever the start left
abbrev handed : Lists → List ℕ → List ℕ → Asked
handed lists' rows bytes = lent (lends lists' rows started.lent.records) (take bytes)

-- M-102: behind the numbers of a batch stands how many keys were compared: one where an update has come to 13, since D lists one contract
-- 01, the table of refusals: P5's batch with one thing wrong, in it or in the lists and gap rows that are handed with it; an update
-- behind its heartbeat with one thing wrong; and a start, a reading, a listing of P11's gaps and a write-off that are refused
unfoldable pub refusals : List Case
refusals =
    record { asked = call [] (take (0 ∷ drop 1 p5)); says = 2 ∷ 0 ∷ 0 ∷ 0 ∷ 0 ∷ [] }
    ∷ record { asked = call [] (take (2 ∷ drop 1 p5)); says = 3 ∷ 0 ∷ 0 ∷ 0 ∷ 0 ∷ [] }
    ∷ record { asked = batch 0 heartbeat; says = 4 ∷ 0 ∷ 0 ∷ 0 ∷ 0 ∷ [] }
    ∷ record { asked = batch 1 (heartbeat ++ (0 ∷ [])); says = 4 ∷ 0 ∷ 0 ∷ 0 ∷ 0 ∷ [] }  -- a byte left over
    ∷ record { asked = batch 2 heartbeat; says = 5 ∷ 1 ∷ 0 ∷ 0 ∷ 0 ∷ [] }  -- at the message that isn't there
    ∷ record { asked = batch 1 (bare 88 72 11 0 0 13); says = 6 ∷ 0 ∷ 0 ∷ 0 ∷ 0 ∷ [] }
    ∷ record { asked = batch 1 (bare 68 72 11 0 0 14); says = 7 ∷ 0 ∷ 0 ∷ 0 ∷ 0 ∷ [] }
    ∷ record { asked = batch 1 (bare 68 78 11 0 0 13); says = 8 ∷ 0 ∷ 0 ∷ 0 ∷ 0 ∷ [] }
    ∷ record { asked = batch 1 (bare 68 72 11 0 1 13); says = 9 ∷ 0 ∷ 0 ∷ 0 ∷ 0 ∷ [] }
    ∷ record { asked = batch 1 (bare 68 72 11 1 0 13); says = 10 ∷ 0 ∷ 0 ∷ 0 ∷ 0 ∷ [] }
    ∷ record { asked = lent (lent_first 264) (start lists (1 ∷ 0 ∷ [])); says = 10 ∷ 0 ∷ 0 ∷ 0 ∷ [] }
    ∷ record { asked = batch 2 (heartbeat ++ update 65 79 blank); says = 11 ∷ 1 ∷ 5 ∷ 0 ∷ 0 ∷ [] }  -- at its market type O
    ∷ record { asked = batch 2 (heartbeat ++ update 65 78 "               -1"); says = 11 ∷ 1 ∷ 6 ∷ 0 ∷ 0 ∷ [] }  -- at P10's text
    ∷ record { asked = batch 2 (heartbeat ++ update 65 78 "     100000000000"); says = 12 ∷ 1 ∷ 6 ∷ 0 ∷ 0 ∷ [] }  -- at P9's text
    ∷ record { asked = batch 2 (heartbeat ++ update 66 78 blank); says = 13 ∷ 1 ∷ 0 ∷ 0 ∷ 1 ∷ [] }
    ∷ record { asked = batch 1 (update 65 78 blank ++ (0 ∷ [])); says = 4 ∷ 0 ∷ 0 ∷ 0 ∷ 1 ∷ [] }  -- M-102: a byte left over, behind a lookup
    ∷ record { asked = call [] (read_record Contract T (key_of_bytes 65) One); says = 13 ∷ 0 ∷ 0 ∷ 0 ∷ [] }  -- a key of D
    ∷ record { asked = call p11 (gaps_in 3); says = 15 ∷ 0 ∷ 0 ∷ 4 ∷ 0 ∷ 0 ∷ 0 ∷ [] }  -- and three cells as before
    ∷ record { asked = lent (lent_first 263) (start lists starts); says = 15 ∷ 0 ∷ 0 ∷ 264 ∷ [] }
    ∷ record { asked = handed lists (drop 1 started.lent.rows) p5; says = 15 ∷ 0 ∷ 0 ∷ 264 ∷ 0 ∷ [] }
    ∷ record { asked = lent (lent_first 264) (start (without_pairs (two_of 68 84 18 57 (key_of_bytes 65 ++ key_of_bytes 66 ++ key_of_bytes 66))) starts); says = 16 ∷ 0 ∷ 0 ∷ 0 ∷ [] }  -- a key twice
    ∷ record { asked = handed (without_pairs (contracts ++ (65 ∷ []))) started.lent.rows p5; says = 16 ∷ 0 ∷ 0 ∷ 0 ∷ 0 ∷ [] }  -- a byte too many
    ∷ record { asked = lent (lent_first 264) (start (record { contracts = contracts; pairs = [] }) starts); says = 16 ∷ 0 ∷ 0 ∷ 0 ∷ [] }  -- M-100: no spread list
    ∷ record { asked = handed (record { contracts = contracts; pairs = [] }) started.lent.rows p5; says = 16 ∷ 0 ∷ 0 ∷ 0 ∷ 0 ∷ [] }
    ∷ record { asked = call [] (read_record Pair T (key_of_bytes 66 ++ key_of_bytes 66) One); says = 13 ∷ 0 ∷ 0 ∷ 0 ∷ [] }  -- M-100: a pair that isn't listed
    ∷ record { asked = call [] (write_off T); says = 17 ∷ 0 ∷ 0 ∷ 0 ∷ [] }
    ∷ record { asked = handed lists (set started.lent.rows 132 0) p5; says = 18 ∷ 0 ∷ 0 ∷ 0 ∷ 0 ∷ [] }  -- T's row, start 0
    ∷ []

pub refusals_told : answered refusals ≡ sayings refusals
unfolding no_spreads pairs_listed spread_header_sound spreads_sound refusals answered sayings bit_step byte_step step walk read_as segments_of letter_at zero_at count_at offset_at key_from contracts_before segment_of lookup halved_in entry_sound header_sound_by key_sound body_sound sound_by gaps_of laid sound_gap_row message_compared meaning_of form_of written_form letter_of segment_letter_of second_of length_of number_of data_in sum_sent end_byte form_in sum_in right_sum framed coded trailed summed head_of message_key key_place acts_as contents_by message_of flag_of size_of count_of message_acts messages_act batch_acts gaps_of_letter list_rules runs_put write_off_rules record_rules start_rules each_starts rows_started records_cleared segment_rules message_bytes read_row rows_of named_rows
refusals_told = refl
