-- Laws of writing a message: each check in its turn, and the message laid over the front of the lent bytes.
use Prim.Native.Nat.{ℕ, suc, ◌+◌, ◌-◌, ◌≤◌, ◌<◌}
use Rattle.layout.specs.declared.read.BadRow.TheVariants as bad_row
use Rattle.layout.specs.Answers.{Verdict}
use Rattle.std.specs.Prelude.{◌≡◌, refl, true, false, get_or, set, take, Option, Some, None, Result, Ok, Err}
use Rattle.std.proofs.Math.Path.{ap, sym}
use Rattle.std.proofs.Common.{◌∙◌, le-leb, length-drop, take_all, take_at, drop-drop}
use mathlib.Core.List.{List, [], ◌∷◌, ◌++◌, append_assoc}
use Rattle.std.proofs.Math.Option.{Option as Maybe, none, some}
use native.Mathlib.Omega.{arith}
use Rattle.std.proofs.lemmas.Bool.{lt-leb}
use borrow.Rule.Slice.PartMut.{mid_of, put_mid, Post-is, mid_len}
use Rattle.std.proofs.Math.ListN.{length, drop, length-append}
use Rattle.std.proofs.Math.Seq.{sets, drop-append-add}
use Rattle.std.proofs.lemmas.List.Edits.{sets-eq}
use Rattle.laws.specs.Rules.{first_broken}
use Rattle.laws.specs.RulesLaws.{front_holds, none_hold, front_broken}
use Rattle.forms.specs.declared.rows.Level.{Level}
use Rattle.forms.specs.declared.forms.Form.{Form}
use Rattle.forms.specs.declared.forms.Item.{Item}
use Rattle.forms.specs.declared.forms.Named.TheVariants as is
use Rattle.forms.specs.declared.forms.Sum.{Sum}
use Rattle.forms.specs.declared.forms.Sum.TheVariants.{Zero, Right, RightOrZero}
use Rattle.forms.specs.Forms.{rows_of, sum_rule}
use Rattle.forms.specs.Rows.{data_length}
use Rattle.forms.specs.Sizes.{bare_length}
use Rattle.layout.specs.AnswersLaws.{verdict_told}
use Rattle.compose.specs.Write.{Laid, over_front, where_good, WritesUpdate, write_rows}
use Rattle.compose.specs.WriteLaws.{good_length}
use Rattle.compose.specs.PutLaws.{laid_whole}
use Rattle.head.specs.Tests.{takes_number}
use Rattle.state.specs.declared.refusal.Refusal.{Refusal}
use Rattle.state.specs.declared.refusal.Refusal.TheVariants.{Code as CodeOver, Numbering, Memory}
use Rattle.writer.specs.declared.writing.Code.{Code}
use Rattle.state.specs.Answers.{left_by, answered, checked_numbers, checked_by}
use Rattle.state.specs.Refusals.{Rule}
use Rattle.writer.specs.Writer.{code_rules, rows_written, data_written, rows_rules, room_rules, length_written, write_rules, head_bytes, sum_written, end_byte, before_trailer, message_bytes, message_put, LaysRows, PutsMessage}
use Rattle.writer.specs.Chosen.{form_written}
use Rattle.writer.specs.WriterPromises.{WroteForm, WroteValues}

-- ---- the code

module _ (form : Form) (number : ℕ) where
  pub other_number : takes_number (is.Form form) number ≡ false → first_broken (code_rules (Some form) number) ≡ some (Numbering 0)
  other_number f = rw f

  pub code_holds : takes_number (is.Form form) number ≡ true → first_broken (code_rules (Some form) number) ≡ none
  code_holds f = rw f

-- ---- the rows

-- the rows of a form
pub form_rows : (form : Form) (key values : List ℕ) {before after : List ℕ} {v : Verdict} {answer : Result (Unit {0}) Refusal}
    → WritesUpdate (write_rows 0 (rows_of form) key values) before v after → checked_numbers answer ≡ checked_by (first_broken (rows_rules v))
    → LaysRows (data_written (Some form) key values) before answer after
unfolding data_written
form_rows form key values {v = v} wrote told =
    let same = verdict_told v (write_rows 0 (rows_of form) key values).verdict wrote.answers in
    record { answers = told ∙ ap (λ (w : Verdict). checked_by (first_broken (rows_rules w))) same; leaves = wrote.leaves }

pub rows_pass : (v : Verdict) → first_broken (rows_rules v) ≡ none → v ≡ Ok tt
rows_pass (Ok good) e = refl
rows_pass (Err (bad_row.Field row)) e = cc
rows_pass (Err (bad_row.Range row)) e = cc

-- good rows are as long as they are wide
pub long_data : (form : Option Form) (key values : List ℕ) → (data_written form key values).verdict ≡ Ok tt
    → length (data_written form key values).bytes ≡ data_length (rows_written form)
unfolding data_written
long_data form key values good = good_length 0 (rows_written form) key values good

-- ---- the message in front

pub sum_two : (sum : Sum) (bytes : List ℕ) → length (sum_written sum bytes) ≡ 2
sum_two Zero bytes = refl
sum_two Right bytes = refl
sum_two RightOrZero bytes = refl

-- "The length counts the whole message"
pub message_long : (code : Code) (number : ℕ) (bytes : List ℕ) → length (message_bytes code number bytes) ≡ length bytes + bare_length
unfolding message_bytes
message_long code number bytes =
    let two = sum_two (sum_rule code.0 code.1) (before_trailer code number bytes) in
    simp (length-append, two) (omega arith)

-- what is stored behind what stands in front already
stored_behind : (front bytes out : List ℕ) (n : ℕ) → length front ≡ n → n + length bytes ≤ length out
    → sets (front ++ drop n out) n bytes ≡ (front ++ bytes) ++ drop (n + length bytes) out
stored_behind front bytes out n e room =
    let s : List ℕ = front ++ drop n out in
    let there : n + length bytes ≤ length s = simp (length-append, length-drop) (omega arith) in
    let rest : drop (n + length bytes) s ≡ drop (n + length bytes) out =
    ap (λ (k : ℕ). drop (k + length bytes) s) (sym e) ∙ drop-append-add front (drop n out) (length bytes) ∙ drop-drop (length bytes) n out in
    sets-eq bytes s n there ∙ rw (take_at front (drop n out) n e, rest)

-- two bytes and one behind them
pub stored_three : (two out : List ℕ) (at last : ℕ) → length two ≡ 2
    → set (set (set out at (get_or two 0 0)) (at + 1) (get_or two 1 0)) (at + 2) last ≡ sets out at (two ++ (last ∷ []))
stored_three [] out at last e = absurd (omega arith)
stored_three (a ∷ []) out at last e = absurd (omega arith)
stored_three (a ∷ b ∷ []) out at last e =
    let one : at + 1 ≡ suc at = omega arith in
    let more : at + 2 ≡ suc (suc at) = omega arith in
    rw (one, more)
stored_three (a ∷ b ∷ c ∷ rest) out at last e = absurd (omega arith)

-- bytes put into their part
pub part_put : (bytes out : List ℕ) (n : ℕ) → n ≡ length bytes → 8 + n ≤ length out
    → put_mid 8 (8 + n - 8) out (over_front bytes (mid_of 8 (8 + n - 8) out)) ≡ sets out 8 bytes
part_put bytes out n e room =
    let part : length bytes ≡ length (mid_of 8 (8 + n - 8) out) = sym (mid_len 8 (8 + n) out room ∙ omega arith) in
    rw (laid_whole bytes (mid_of 8 (8 + n - 8) out) part, Post-is 8 (8 + n) out (omega arith), e)
    (sym (append_assoc (take 8 out) bytes (drop (8 + length bytes) out)) ∙ sym (sets-eq bytes out 8 (omega arith)))

module _ (code : Code) (number : ℕ) (bytes out : List ℕ) (room : length bytes + bare_length ≤ length out) where
  abbrev whole : ℕ
  whole = length bytes + bare_length

  abbrev before : List ℕ
  before = before_trailer code number bytes

  before_long : length before ≡ 8 + length bytes
  before_long = length-append (head_bytes code whole number) bytes

  -- head and data
  begins : sets (sets out 0 (head_bytes code whole number)) 8 bytes ≡ before ++ drop (8 + length bytes) out
  begins =
      let head : List ℕ = head_bytes code whole number in
      let first : sets out 0 head ≡ head ++ drop 8 out = sets-eq head out 0 (omega arith) in
      ap (λ (s : List ℕ). sets s 8 bytes) first ∙ stored_behind head bytes out 8 refl (omega arith)

  -- and the trailer behind them
  all_put : sets (sets (sets out 0 (head_bytes code whole number)) 8 bytes) (8 + length bytes)
      (sum_written (sum_rule code.0 code.1) (take (8 + length bytes) (sets (sets out 0 (head_bytes code whole number)) 8 bytes)) ++ (end_byte ∷ []))
      ≡ message_put code number bytes out
  unfolding message_bytes message_put
  all_put =
      let end : ℕ = 8 + length bytes in
      let trailer : List ℕ = sum_written (sum_rule code.0 code.1) before ++ (end_byte ∷ []) in
      let two = sum_two (sum_rule code.0 code.1) before in
      let three : length trailer ≡ 3 = length-append (sum_written (sum_rule code.0 code.1) before) (end_byte ∷ []) ∙ omega arith in
      let last : end + length trailer ≡ whole = omega arith in
      ap (λ (s : List ℕ). sets s end (sum_written (sum_rule code.0 code.1) (take end s) ++ (end_byte ∷ []))) begins
      ∙ ap (λ (s : List ℕ). sets (before ++ drop end out) end (sum_written (sum_rule code.0 code.1) s ++ (end_byte ∷ []))) (take_at before (drop end out) end before_long)
      ∙ stored_behind before trailer out end before_long (omega arith)
      ∙ ap (λ (n : ℕ). (before ++ trailer) ++ drop n out) last

  puts : {out' : List ℕ} → out' ≡ message_put code number bytes out → PutsMessage code number bytes out (Ok whole) out'
  puts e = let t = le-leb whole (length out) room in record { answers = rw t; leaves = rw t e }

-- head, data and trailer as they are stored
pub message_put_lem : (code : Code) (number : ℕ) (bytes out : List ℕ) (n : ℕ) → length bytes ≡ n → n + bare_length ≤ length out → (sum : Sum) {headed filled out' : List ℕ}
    → headed ≡ sets out 0 (head_bytes code (n + bare_length) number) → filled ≡ sets headed 8 bytes → sum ≡ sum_rule code.0 code.1
    → out' ≡ sets filled (8 + n) (sum_written sum (take (8 + n) filled) ++ (end_byte ∷ [])) → PutsMessage code number bytes out (Ok (n + bare_length)) out'
message_put_lem code number bytes out n e room sum {headed} {filled} first second is third =
    let trailed : List ℕ → Sum → List ℕ = λ (s : List ℕ) (k : Sum). sets s (8 + length bytes) (sum_written k (take (8 + length bytes) s) ++ (end_byte ∷ [])) in
    let head : headed ≡ sets out 0 (head_bytes code (length bytes + bare_length) number) = rw (← e) at first in
    let data_in : filled ≡ sets (sets out 0 (head_bytes code (length bytes + bare_length) number)) 8 bytes = second ∙ ap (λ (s : List ℕ). sets s 8 bytes) head in
    rw (← e)
    (puts code number bytes out (rw (← e) at room)
    ((rw (← e) at third) ∙ ap (trailed filled) is ∙ ap (λ (s : List ℕ). trailed s (sum_rule code.0 code.1)) data_in ∙ all_put code number bytes out (rw (← e) at room)))

pub no_room : (code : Code) (number : ℕ) (bytes out : List ℕ) (n : ℕ) → n ≡ length bytes + bare_length → length out < n
    → PutsMessage code number bytes out (Err (Memory n)) out
no_room code number bytes out n e h =
    let t : _ = lt-leb (length bytes + bare_length) (length out) (omega arith) in
    rw e (record { answers = rw t; leaves = rw t })

-- ---- the checks in their order

module _ (form : Option Form) (code : Code) (number : ℕ) (key values out : List ℕ) where
  abbrev rows : Laid
  rows = data_written form key values

  abbrev broken : Maybe Refusal
  broken = first_broken (write_rules form number key values (length out))

  refuses : (r : Refusal) → broken ≡ some r → WroteForm form code number key values out (Err r) out
  refuses r e =
      record {
        answers = sym (ap (λ (o : Maybe Refusal). answered o (length_written form ∷ [])) e);
        out_left = sym (ap (λ (o : Maybe Refusal). left_by o out (message_put code number rows.bytes out)) e);
      }

  abbrev behind : List Rule
  behind = room_rules (length_written form) (length out)

  pub code_refused : (r : Refusal) → first_broken (code_rules form number) ≡ some r → WroteForm form code number key values out (Err r) out
  unfolding write_rules
  code_refused r e = refuses r (front_broken (code_rules form number) (rows_rules rows.verdict ++ behind) r e)

  module _ (coded : first_broken (code_rules form number) ≡ none) where
    pub rows_refused : (r : Refusal) → first_broken (rows_rules rows.verdict) ≡ some r → WroteForm form code number key values out (Err r) out
    unfolding write_rules
    rows_refused r e =
        refuses r (front_holds (code_rules form number) (rows_rules rows.verdict ++ behind) (none_hold (code_rules form number) coded) ∙ front_broken (rows_rules rows.verdict) behind r e)

    module _ (good : first_broken (rows_rules rows.verdict) ≡ none) where
      pub long_rows : length rows.bytes ≡ data_length (rows_written form)
      long_rows = long_data form key values (rows_pass rows.verdict good)

      -- the rows as they lie on scratch memory
      pub laid_rows : {before after : List ℕ} {answer : Result (Unit {0}) Refusal} → length rows.bytes ≤ length before → LaysRows rows before answer after
          → take (data_length (rows_written form)) after ≡ rows.bytes
      laid_rows {before} room l =
          let n : ℕ = data_length (rows_written form) in
          let front : over_front rows.bytes before ≡ rows.bytes ++ drop (length rows.bytes) before =
          ap (λ (b : List ℕ). b ++ drop (length rows.bytes) before) (take_all (length before) rows.bytes room) in
          ap (take n)
          (l.leaves ∙ ap (λ v. where_good v (over_front rows.bytes before) before) (rows_pass rows.verdict good) ∙ front)
          ∙ take_at rows.bytes (drop (length rows.bytes) before) n long_rows

      pub sent : {answer : Result ℕ Refusal} {out' : List ℕ} → PutsMessage code number rows.bytes out answer out' → WroteForm form code number key values out answer out'
      unfolding write_rules length_written
      sent p =
          let decides = front_holds (code_rules form number) (rows_rules rows.verdict ++ behind) (none_hold (code_rules form number) coded) ∙ front_holds (rows_rules rows.verdict) behind (none_hold (rows_rules rows.verdict) good) in
          let same : length rows.bytes + bare_length ≡ length_written form = ap (λ (n : ℕ). n + bare_length) long_rows in
          let put : List ℕ = message_put code number rows.bytes out in
          record {
            answers =
                p.answers ∙ ap (λ (n : ℕ). answered (first_broken (room_rules n (length out))) (n ∷ [])) same
                ∙ sym (ap (λ (o : Maybe Refusal). answered o (length_written form ∷ [])) decides);
            out_left =
                p.leaves ∙ ap (λ (n : ℕ). left_by (first_broken (room_rules n (length out))) out put) same
                ∙ sym (ap (λ (o : Maybe Refusal). left_by o out put) decides);
          }

-- ---- the form that is chosen

module _ (item : Item) (code : Code) (level : Level) (number : ℕ) (key : List ℕ) (values : Form → List ℕ) (out : List ℕ) where
  -- it is written from its own values
  pub form_chosen_lem : {form : Form} {given out' : List ℕ} {answer : Result ℕ Refusal} → form_written item code level ≡ Some form → given ≡ values form
      → WroteForm (Some form) code number key given out answer out' → WroteValues item code level number key values out answer out'
  form_chosen_lem chose same wrote = rw (chose, ← same) wrote

  -- 6 where there is none
  pub none_chosen : form_written item code level ≡ None → WroteValues item code level number key values out (Err (CodeOver 0)) out
  none_chosen chose = rw chose (code_refused None code number key [] out (CodeOver 0) refl)
