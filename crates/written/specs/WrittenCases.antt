-- What the writer answers and writes, by the definitions that its promise cites.
use Rattle.std.specs.Prelude.{ℕ, ◌+◌, ◌-◌, ◌^◌, ◌≡◌, refl, List, [], ◌∷◌, ◌++◌, map, replicate, set, Option, Some}
use Rattle.laws.specs.Rules.{first_broken}
use Rattle.print.specs.Write.{size, size_in, text_of}
use Rattle.quote.specs.declared.quote.Quote.{Quote}
use Rattle.spread.specs.declared.spread.SpreadQuote.{SpreadQuote}
use Rattle.forms.specs.declared.rows.Level.{Level}
use Rattle.forms.specs.declared.rows.Level.TheVariants.{One, Two}
use Rattle.layout.specs.Cells.{none, minus}
use Rattle.quote.specs.Quote.{quote_of, values_of}
use Rattle.spread.specs.Spread.{spread_quote_of, spread_values_of}
use Rattle.forms.specs.declared.forms.Form.{Form}
use Rattle.forms.specs.declared.forms.Form.TheVariants.{PairOne, PairTwo, FutureTwo}
use Rattle.forms.specs.declared.forms.Item.{Item}
use Rattle.forms.specs.declared.forms.Item.TheVariants.{Contract, Pair}
use Rattle.forms.specs.Forms.{named_rows, rows_of, meaning_of, written_form}
use Rattle.forms.specs.Sizes.{most_rows, key_bytes, pair_bytes}
use Rattle.compose.specs.Write.{row_text}
use Rattle.writer.specs.declared.writing.Code.{Code}
use Rattle.state.specs.Answers.{answered}
use Rattle.writer.specs.Writer.{values_written, data_written, length_written, write_rules, message_bytes}
use Rattle.writer.specs.Chosen.{form_written}

-- 01 "The contract list": a key of 39 bytes, each an A
abbrev pub key : List ℕ
key = replicate key_bytes 65

-- 01 "The message", M-104: a market type, a time stamp, a last traded price, and status S; every other number is none
abbrev quote_at : ℕ → ℕ → ℕ → Quote
quote_at market stamp last = quote_of FutureTwo (set (set (set (set (replicate most_rows none) 5 market) 6 stamp) 27 last) 29 83)

-- M-100: a pair's key, two such keys
abbrev pub pair : List ℕ
pair = replicate pair_bytes 65

-- M-100: every number of a pair's quote is none but the last traded price
abbrev spread_at : ℕ → SpreadQuote
spread_at last = spread_quote_of PairTwo (set (replicate most_rows none) 30 last)

-- 01 "What may be asked": write a message: what the writer is handed, and how many bytes it is lent
pub record Asked : Type 0 where
  item : Item
  code : Code
  level : Level
  number : ℕ
  key : List ℕ
  values : Form → List ℕ
  room : ℕ

-- 01 "What may be asked": the writer asked by code, level, number, key, last traded price and room, in the normal market
abbrev pub asked : ℕ → ℕ → Level → ℕ → List ℕ → ℕ → ℕ → Asked
asked first second level number key last room =
    record { item = Contract; code = record { 0 = first; 1 = second }; level = level; number = number; key = key; values = λ form. values_of form (quote_at 78 none last); room = room }

-- M-104: the writer asked for a contract's update by code, level, market type, time stamp and last traded price
abbrev pub asked_in : ℕ → ℕ → Level → ℕ → ℕ → ℕ → Asked
asked_in first second level market stamp last =
    record { item = Contract; code = record { 0 = first; 1 = second }; level = level; number = 1; key = key; values = λ form. values_of form (quote_at market stamp last); room = 505 }

-- M-100: the writer of pairs asked by code and level
abbrev pub asked_pair : ℕ → ℕ → Level → Asked
asked_pair first second level =
    record { item = Pair; code = record { 0 = first; 1 = second }; level = level; number = 1; key = pair; values = λ form. spread_values_of form (spread_at none); room = 483 }

-- 01 "What may be asked": the writer's answer in numbers, by the form that it writes
abbrev answer_by : Option Form → ℕ → List ℕ → (Form → List ℕ) → ℕ → List ℕ
answer_by form number key values room =
    answered (first_broken (write_rules form number key (values_written form values) room)) (length_written form ∷ [])

-- 01 "What may be asked": the writer's answer in numbers
abbrev pub answer_to : Asked → List ℕ
answer_to a = answer_by (form_written a.item a.code a.level) a.number a.key a.values a.room

-- AN, DX and DP, a heartbeat with a number and an update without one, a byte 31 of the key, a byte too few, and accepted ones
pub answers : map answer_to (
    asked 65 78 Two 1 key none 505 ∷ asked 68 88 Two 1 key none 505 ∷ asked 68 80 Two 1 key none 505 ∷ asked 68 72 Two 1 key none 505 ∷ asked 68 78 Two 0 key none 505
    ∷ asked 84 78 One 1 (set key 6 31) none 249 ∷ asked 84 78 Two 1 key none 504
    ∷ asked 84 78 Two 1 key none 505 ∷ asked 68 78 One 1 key none 249 ∷ asked 84 72 One 0 [] none 11 ∷ [])
    ≡ (6 ∷ 0 ∷ 0 ∷ 0 ∷ []) ∷ (6 ∷ 0 ∷ 0 ∷ 0 ∷ []) ∷ (6 ∷ 0 ∷ 0 ∷ 0 ∷ []) ∷ (10 ∷ 0 ∷ 0 ∷ 0 ∷ []) ∷ (10 ∷ 0 ∷ 0 ∷ 0 ∷ [])
    ∷ (11 ∷ 0 ∷ 1 ∷ 0 ∷ []) ∷ (15 ∷ 0 ∷ 0 ∷ 505 ∷ [])
    ∷ (0 ∷ 505 ∷ []) ∷ (0 ∷ 249 ∷ []) ∷ (0 ∷ 11 ∷ []) ∷ []
unfolding write_rules length_written data_written written_form meaning_of rows_of named_rows row_text quote_of values_of text_of size size_in
answers = refl

-- M-100: the writer of pairs asked for a contract's code, a heartbeat's, and one outside the table
pub pair_codes : map answer_to (asked_pair 68 78 One ∷ asked_pair 84 78 Two ∷ asked_pair 84 72 One ∷ asked_pair 65 80 Two ∷ []) ≡ replicate 4 (6 ∷ 0 ∷ 0 ∷ 0 ∷ [])
unfolding write_rules length_written data_written written_form meaning_of rows_of named_rows row_text spread_quote_of spread_values_of text_of size size_in
pair_codes = refl

-- M-100: an update of a pair without a number, with a byte 31 in its second key, with a last traded price over the largest on either
-- side of zero, with one for which there is no text of 17 characters, and with a byte too few; minus a hundred million, and minus zero
pub pair_answers_lem : answer_by (Some PairTwo) 0 pair (λ form. spread_values_of form (spread_at none)) 483
    ∷ answer_by (Some PairOne) 1 (set pair 77 31) (λ form. spread_values_of form (spread_at none)) 227
    ∷ map (λ last. answer_by (Some PairTwo) 1 pair (λ form. spread_values_of form (spread_at last)) 483) ((10 ^ 18) ∷ (minus + 10 ^ 18) ∷ (minus + 10 ^ 18 - 1) ∷ [])
    ++ answer_by (Some PairTwo) 1 pair (λ form. spread_values_of form (spread_at none)) 482
    ∷ map (λ last. answer_by (Some PairTwo) 1 pair (λ form. spread_values_of form (spread_at last)) 483) ((minus + 10 ^ 15) ∷ minus ∷ [])
    ≡ (10 ∷ 0 ∷ 0 ∷ 0 ∷ []) ∷ (11 ∷ 0 ∷ 9 ∷ 0 ∷ []) ∷ (12 ∷ 0 ∷ 30 ∷ 0 ∷ []) ∷ (12 ∷ 0 ∷ 30 ∷ 0 ∷ []) ∷ (12 ∷ 0 ∷ 30 ∷ 0 ∷ []) ∷ (15 ∷ 0 ∷ 0 ∷ 483 ∷ [])
    ∷ (0 ∷ 483 ∷ []) ∷ (0 ∷ 483 ∷ []) ∷ []
unfolding write_rules length_written data_written rows_of named_rows row_text spread_quote_of spread_values_of text_of size size_in
pair_answers_lem = refl

-- M-104: FP, PX and PH; a heartbeat with a number and PN without one; a byte 31 of the key, and a byte too few; FN and PN of either
-- level, and FH
pub future_codes_lem : map answer_to (
    asked 70 80 One 1 key none 505 ∷ asked 80 88 One 1 key none 505 ∷ asked 80 72 One 0 [] none 505 ∷ asked 70 72 One 1 [] none 505 ∷ asked 80 78 Two 0 key none 505
    ∷ asked 70 78 One 1 (set key 38 31) none 204 ∷ asked 80 78 Two 1 key none 403
    ∷ asked 70 78 One 1 key none 204 ∷ asked 70 78 Two 1 key none 404 ∷ asked 80 78 One 1 key none 204 ∷ asked 80 78 Two 1 key none 404 ∷ asked 70 72 Two 0 [] none 11 ∷ [])
    ≡ (6 ∷ 0 ∷ 0 ∷ 0 ∷ []) ∷ (6 ∷ 0 ∷ 0 ∷ 0 ∷ []) ∷ (6 ∷ 0 ∷ 0 ∷ 0 ∷ []) ∷ (10 ∷ 0 ∷ 0 ∷ 0 ∷ []) ∷ (10 ∷ 0 ∷ 0 ∷ 0 ∷ [])
    ∷ (11 ∷ 0 ∷ 4 ∷ 0 ∷ []) ∷ (15 ∷ 0 ∷ 0 ∷ 404 ∷ [])
    ∷ (0 ∷ 204 ∷ []) ∷ (0 ∷ 404 ∷ []) ∷ (0 ∷ 204 ∷ []) ∷ (0 ∷ 404 ∷ []) ∷ (0 ∷ 11 ∷ []) ∷ []
unfolding write_rules length_written data_written written_form meaning_of rows_of named_rows row_text quote_of values_of text_of size size_in
future_codes_lem = refl

-- M-104: market types N, O, S, A and X in FN; O in DN and in TN
pub markets : map (λ market. answer_to (asked_in 70 78 One market none none)) (78 ∷ 79 ∷ 83 ∷ 65 ∷ 88 ∷ []) ++ map (λ first. answer_to (asked_in first 78 One 79 none none)) (68 ∷ 84 ∷ [])
    ≡ (0 ∷ 204 ∷ []) ∷ (0 ∷ 204 ∷ []) ∷ (0 ∷ 204 ∷ []) ∷ (0 ∷ 204 ∷ []) ∷ (11 ∷ 0 ∷ 5 ∷ 0 ∷ []) ∷ (11 ∷ 0 ∷ 5 ∷ 0 ∷ []) ∷ (11 ∷ 0 ∷ 5 ∷ 0 ∷ []) ∷ []
unfolding write_rules length_written data_written written_form meaning_of rows_of named_rows row_text quote_of values_of text_of size size_in
markets = refl

-- M-104: a time stamp of 11 digits and one of 12 in PN, and the same in TN, which has none; a last traded price of 9,999,999,999 and of
-- 10,000,000,000 in FN of either level, and the same in DN, whose prices are wider
pub future_widths : map (λ stamp. answer_to (asked_in 80 78 Two 78 stamp none)) (99_999_999_999 ∷ 100_000_000_000 ∷ []) ++ answer_to (asked_in 84 78 Two 78 100_000_000_000 none)
    ∷ map (λ last. answer_to (asked_in 70 78 One 78 none last)) (99_999_999_990_000_000 ∷ (10 ^ 17) ∷ []) ++ answer_to (asked_in 70 78 Two 78 none (10 ^ 17)) ∷ answer_to (asked_in 68 78 Two 78 none (10 ^ 17)) ∷ []
    ≡ (0 ∷ 404 ∷ []) ∷ (12 ∷ 0 ∷ 6 ∷ 0 ∷ []) ∷ (0 ∷ 505 ∷ []) ∷ (0 ∷ 204 ∷ []) ∷ (12 ∷ 0 ∷ 11 ∷ 0 ∷ []) ∷ (12 ∷ 0 ∷ 27 ∷ 0 ∷ []) ∷ (0 ∷ 505 ∷ []) ∷ []
unfolding write_rules length_written data_written written_form meaning_of rows_of named_rows row_text quote_of values_of text_of size size_in
future_widths = refl

-- P5's heartbeat
pub heartbeat : message_bytes (record { 0 = 68; 1 = 72 }) 0 [] ≡ 68 ∷ 72 ∷ 0 ∷ 11 ∷ 0 ∷ 0 ∷ 0 ∷ 0 ∷ 0 ∷ 0 ∷ 13 ∷ []
unfolding message_bytes meaning_of
heartbeat = refl
