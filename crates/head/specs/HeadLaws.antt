-- Laws of the head: each rule's test in the paper's words.
use Rattle.std.specs.Prelude.{ℕ, ◌-◌, ◌≤◌, ◌≡◌, refl, Bool, true, false, cond, ◌&&◌, ◌||◌, ◌↔◌, eqb, length, Ok, Err}
use Rattle.std.proofs.Math.Path.{ap}
use Rattle.std.proofs.Common.{ap₂, ◌∙◌, inl, inr, ⊎_elim, arith, eqb-true, eq-eqb, ne_eqb}
use Rattle.std.proofs.Math.Bool.{and-true, or-true, or-false}
use Rattle.std.proofs.lemmas.Bool.{false≢true, eqb-false}
use mathlib.Core.List.Memᴰ
use mathlib.Core.List.{List, [], ◌∷◌, Memᴰ}
use Rattle.std.proofs.Math.Option.{Option, none, some}
use Rattle.laws.specs.Tests.{eqb_is, leb_is, and_is, or_is}
use Rattle.wire.specs.Number.{number_at}
use Rattle.files.specs.BelowLaws.{first_passes, none_passes}
use Rattle.files.specs.File.{segments_of, letter_at}
use Rattle.lookup.specs.Lookup.{segment_of}
use Rattle.forms.specs.declared.forms.Form.{Form}
use Rattle.forms.specs.declared.forms.Named.{Named}
use Rattle.forms.specs.declared.forms.Named.TheVariants as is
use Rattle.forms.specs.declared.forms.Item.TheVariants.{Contract}
use Rattle.forms.specs.declared.rows.Level.{Level}
use Rattle.forms.specs.declared.forms.Subject.{Subject}
use Rattle.forms.specs.declared.forms.Subject.TheVariants.{Nothing, Of}
use Rattle.forms.specs.declared.forms.Sum.{Sum}
use Rattle.forms.specs.declared.forms.Sum.TheVariants.{Zero, Right, RightOrZero}
use Rattle.forms.specs.Sizes.{bare_length}
use Rattle.forms.specs.Rows.{message_length}
use Rattle.forms.specs.Forms.{rows_of, subject_of, session_of, is_stamped, forms_of, of_length, named_by, form_of}
use Rattle.forms.specs.FormsLaws.{told_form, nothing_zero, stamped_code, session_code}
use Rattle.head.specs.declared.head.Fault.{Fault}
use Rattle.head.specs.Faults.{Head}
use Rattle.head.specs.Rules.{first_fault, head_of}
use Rattle.head.specs.RulesLaws.{good_hold, and_then, first_append}
use Rattle.head.specs.GoodHead.{Framed, IsPreOpen, IsCode, Coded, LetterListed, HasLength, HasSum, NumberFor, HasNumber}
use Rattle.head.specs.Fields.{data_at, letter_of, pre_open_letter, segment_letter_of, session_sent, second_of, length_of, sum_sent, end_byte, form_in, sum_in, right_sum, zero_sum}
use Rattle.head.specs.Head.{frame_rules, form_rules}
use Rattle.head.specs.Tests.{framed, is_capital, is_pre_open, is_code, coded, trailed, takes_length, summed, takes_sum, numbers_subject, takes_number, tells_nothing, is_heartbeat, is_some, same_bytes}

-- 5
pub framed_exact : (bytes : List ℕ) → framed bytes ≡ true ↔ Framed bytes
unfolding framed
framed_exact bytes =
    let tests = and_is (and_is (leb_is data_at (length bytes)) (leb_is bare_length (length_of bytes))) (leb_is (length_of bytes) (length bytes)) in (
      (λ e. let p = tests.0 e in record { begun = p.0.0; least = p.0.1; within = p.1 }),
      (λ f. tests.1 ((f.begun, f.least), f.within)),
    )

-- a letter is found exactly when a segment has it
pub listed_exact : (list : List ℕ) (letter : ℕ) → is_some (segment_of list letter) ≡ true ↔ LetterListed list letter
unfolding segment_of
listed_exact list letter = (found, (λ h. there h (segment_of list letter) refl))
  where
    has : ℕ → Bool
    has i = eqb (letter_at list i) letter

    found : is_some (segment_of list letter) ≡ true → LetterListed list letter
    found e = go (segment_of list letter) refl e
      where
        go : (o : Option ℕ) → segment_of list letter ≡ o → is_some o ≡ true → LetterListed list letter
        go none e f = absurd (false≢true f)
        go (some i) e f = let h = first_passes has (segments_of list) i e in (i, h.0, eqb-true (letter_at list i) letter h.1)

    there : LetterListed list letter → (o : Option ℕ) → segment_of list letter ≡ o → is_some (segment_of list letter) ≡ true
    there h none e = absurd (eqb-false (letter_at list h.0) letter (none_passes has (segments_of list) e h.0 h.1) h.2)
    there h (some i) e = rw e

code_exact : (letter second : ℕ) → is_code letter second ≡ true ↔ IsCode letter second
code_exact letter second = ((λ e. says (eqb letter pre_open_letter) refl e), said)
  where
    pre_open : is_pre_open second ≡ true ↔ IsPreOpen second
    pre_open = or_is (eqb_is second 78) (or_is (eqb_is second 79) (eqb_is second 67))

    capital : is_capital second ≡ true ↔ (65 ≤ second) × (second ≤ 90)
    capital = and_is (leb_is 65 second) (leb_is second 90)

    says : (t : Bool) → eqb letter pre_open_letter ≡ t → cond t (is_pre_open second) (is_capital second) ≡ true → IsCode letter second
    says true is e = inl (eqb-true letter pre_open_letter is, pre_open.0 e)
    says false is e = inr (eqb-false letter pre_open_letter is, capital.0 e)

    said : IsCode letter second → is_code letter second ≡ true
    said = ⊎_elim (λ h. rw (eq-eqb letter pre_open_letter h.0) (pre_open.1 h.1)) (λ h. rw (ne_eqb letter pre_open_letter h.0) (capital.1 h.1))

-- 6
pub coded_exact : (list : List ℕ) (letter : ℕ) (bytes : List ℕ) → coded letter (segment_of list letter) bytes ≡ true ↔ Coded list letter bytes
unfolding coded
coded_exact list letter bytes =
    let tests =
    and_is (and_is (eqb_is (segment_letter_of bytes) letter) (code_exact (letter_of bytes) (second_of bytes))) (listed_exact list letter) in (
      (λ e. let p = tests.0 e in record { same_segment = p.0.0; code = p.0.1; listed = p.1 }),
      (λ h. tests.1 ((h.same_segment, h.code), h.listed)),
    )

-- 7
pub trailed_exact : (bytes : List ℕ) → trailed bytes ≡ true ↔ end_byte bytes ≡ 13
unfolding trailed
trailed_exact bytes = eqb_is (end_byte bytes) 13

-- byte for byte the same is the same
pub bytes_exact : (a b : List ℕ) → same_bytes a b ≡ true ↔ a ≡ b
bytes_exact [] [] = ((λ e. refl), (λ e. refl))
bytes_exact [] (y ∷ b) = ((λ e. absurd (false≢true e)), (λ e. cc))
bytes_exact (x ∷ a) [] = ((λ e. absurd (false≢true e)), (λ e. cc))
bytes_exact (x ∷ a) (y ∷ b) =
    let parts = and_is (eqb_is x y) (bytes_exact a b) in (
      (λ e. let p = parts.0 e in ap₂ {C = List ℕ} ◌∷◌ p.0 p.1),
      (λ e. let head : x ≡ y = cc in let rest : a ≡ b = cc in parts.1 (head, rest)),
    )

-- 8: a length that names no form of the code is none of its lengths
takes_some : (forms : List Form) (n : ℕ) {form : Form} → Memᴰ form forms → n ≡ message_length (rows_of form) → takes_length (of_length forms n) ≡ true
takes_some [] n m e = absurd (Memᴰ.not-nil m)
takes_some (first ∷ rest) n {form} m e = go (eqb n (message_length (rows_of first))) refl (λ h. takes_some rest n h e)
  where
    go : (same : Bool) → eqb n (message_length (rows_of first)) ≡ same → (Memᴰ form rest → takes_length (of_length rest n) ≡ true)
        → takes_length (of_length (first ∷ rest) n) ≡ true
    go true t later = rw t
    go false t later =
        rw t
        (⊎_elim (λ (h : form ≡ first). absurd (eqb-false n (message_length (rows_of first)) t (e ∙ ap (λ f. message_length (rows_of f)) h)))
        later
        (Memᴰ.cases_cons m))

some_taken : (forms : List Form) (n : ℕ) (named : Named) → of_length forms n ≡ named → takes_length named ≡ true
    → (form : Form) × (of_length forms n ≡ is.Form form)
some_taken forms n (is.Form form) e t = (form, e)
some_taken forms n is.NoLength e t = absurd (false≢true t)
some_taken forms n is.PassedOver e t = absurd (never_passed forms e)
  where
    never_passed : (forms : List Form) → of_length forms n ≡ is.PassedOver → ⊥
    never_passed [] e = let z : ◌≡◌ {A = ℕ} 0 1 = cc in omega arith
    never_passed (first ∷ rest) e = go (eqb n (message_length (rows_of first))) refl (never_passed rest)
      where
        go : (same : Bool) → eqb n (message_length (rows_of first)) ≡ same → (of_length rest n ≡ is.PassedOver → ⊥) → ⊥
        go true t later = let z : is.Form first ≡ is.PassedOver = rw t at e in let y : ◌≡◌ {A = ℕ} 0 1 = cc in omega arith
        go false t later = later (rw t at e)

lengths_exact : (forms : List Form) (n : ℕ) → takes_length (named_by forms n) ≡ true ↔ HasLength forms n
lengths_exact [] n = ((λ e. tt), (λ h. refl))
lengths_exact (first ∷ rest) n = (
  (λ e.
      let some = some_taken (first ∷ rest) n (of_length (first ∷ rest) n) refl e in
      let told = told_form (first ∷ rest) n some.0 some.1 in
      (some.0, told.0, told.1)),
  (λ h. takes_some (first ∷ rest) n h.1 h.2),
)

pub length_exact : (bytes : List ℕ) → takes_length (form_in bytes) ≡ true ↔ HasLength (forms_of (letter_of bytes) (second_of bytes)) (length_of bytes)
unfolding form_in form_of
length_exact bytes = lengths_exact (forms_of (letter_of bytes) (second_of bytes)) (length_of bytes)

-- 9
sum_exact : (rule : Sum) (sent right : List ℕ) → takes_sum rule sent right ≡ true ↔ HasSum rule sent right
sum_exact Zero sent right = bytes_exact sent zero_sum
sum_exact Right sent right = bytes_exact sent right
sum_exact RightOrZero sent right = or_is (bytes_exact sent zero_sum) (bytes_exact sent right)

pub summed_exact : (bytes : List ℕ) → summed bytes ≡ true ↔ HasSum (sum_in bytes) (sum_sent bytes) (right_sum bytes)
unfolding summed
summed_exact bytes = sum_exact (sum_in bytes) (sum_sent bytes) (right_sum bytes)

-- 10
subject_number : (subject : Subject) (number : ℕ) → numbers_subject subject number ≡ true ↔ NumberFor subject number
subject_number Nothing number = eqb_is number 0
subject_number (Of item level) number = leb_is 1 number

pub number_exact : (named : Named) (number : ℕ) → takes_number named number ≡ true ↔ HasNumber named number
number_exact (is.Form form) number = subject_number (subject_of form) number
number_exact is.NoLength number = leb_is 1 number
number_exact is.PassedOver number = leb_is 1 number

-- M-104: an update of a contract has a time stamp exactly where it belongs to F
pub stamped_by : (bytes : List ℕ) (form : Form) (level : Level) → form_in bytes ≡ is.Form form → subject_of form ≡ Of Contract level → is_stamped form ≡ eqb (segment_letter_of bytes) 0x46
unfolding form_in segment_letter_of
stamped_by bytes form level e s = stamped_code (letter_of bytes) (second_of bytes) (length_of bytes) form level e s ∙ by_letter (eqb (letter_of bytes) pre_open_letter)
  where
    by_letter : (t : Bool) → (eqb (letter_of bytes) 0x46 || t) ≡ eqb (cond t 0x46 (letter_of bytes)) 0x46
    by_letter true = or-true (eqb (letter_of bytes) 0x46)
    by_letter false = or-false (eqb (letter_of bytes) 0x46)

-- and its form tells its session
pub session_by : (bytes : List ℕ) (form : Form) → form_in bytes ≡ is.Form form → session_of form ≡ session_sent bytes
unfolding form_in session_sent
session_by bytes form e = session_code (letter_of bytes) (second_of bytes) (length_of bytes) form e

-- the parts of 6, each as the code tests it
pub coded_parts : (letter : ℕ) (segment : Option ℕ) (bytes : List ℕ) (first second : Bool)
    → eqb (segment_letter_of bytes) letter ≡ first → is_code (letter_of bytes) (second_of bytes) ≡ second
    → coded letter segment bytes ≡ first && second && is_some segment
unfolding coded
coded_parts letter segment bytes first second e f = rw (e, f)

-- the sum as sent, byte by byte
pub sum_bytes : (bytes : List ℕ) (whole first second : ℕ) → whole ≡ length_of bytes
    → same_bytes (sum_sent bytes) (first ∷ second ∷ []) ≡ eqb (number_at 1 bytes (whole - 3)) first && eqb (number_at 1 bytes (whole - 2)) second
unfolding sum_sent
sum_bytes bytes whole first second e = rw (e, and-true)

-- 5 to 7 are judged before 8 to 10
module _ (letter : ℕ) (segment : Option ℕ) (bytes : List ℕ) where
  abbrev frame_here : Head
  frame_here = first_fault (frame_rules letter segment bytes)

  in_turn_lem : (frame : Head) → frame_here ≡ frame → head_of letter segment bytes ≡ and_then frame (first_fault (form_rules bytes))
  unfolding head_of
  in_turn_lem frame e = first_append (frame_rules letter segment bytes) (form_rules bytes) ∙ ap (λ (h : Head). and_then h (first_fault (form_rules bytes))) e

  pub good_frame : frame_here ≡ Ok tt → (framed bytes ≡ true) × (head_of letter segment bytes ≡ first_fault (form_rules bytes))
  good_frame e = ((good_hold (frame_rules letter segment bytes) e).0, in_turn_lem (Ok tt) e)

  pub bad_frame : (fault : Fault) → frame_here ≡ Err fault → head_of letter segment bytes ≡ Err fault
  bad_frame fault e = in_turn_lem (Err fault) e

-- what is named a heartbeat is a form that tells of nothing
pub heartbeat_form : (named : Named) → is_heartbeat named ≡ true → (form : Form) × (named ≡ is.Form form) × (subject_of form ≡ Nothing)
heartbeat_form (is.Form form) e = (form, refl, nothing (subject_of form) e)
  where
    nothing : (subject : Subject) → tells_nothing subject ≡ true → subject ≡ Nothing
    nothing Nothing e = refl
    nothing (Of item level) e = absurd (false≢true e)
heartbeat_form is.NoLength e = absurd (false≢true e)
heartbeat_form is.PassedOver e = absurd (false≢true e)

-- 8 to 10 of a heartbeat: its sum and its number are zero
module _ (bytes : List ℕ) (e : is_heartbeat (form_in bytes) ≡ true) where
  pub heartbeat_length : takes_length (form_in bytes) ≡ true
  heartbeat_length = rw (heartbeat_form (form_in bytes) e).1

  pub heartbeat_sum : summed bytes ≡ same_bytes (sum_sent bytes) zero_sum
  unfolding summed sum_in form_in
  heartbeat_sum =
      let (form, named, nothing) = heartbeat_form (form_in bytes) e in
      rw (nothing_zero (letter_of bytes) (second_of bytes) (length_of bytes) form named nothing)

  pub heartbeat_number : (number : ℕ) → takes_number (form_in bytes) number ≡ eqb number 0
  heartbeat_number number =
      let (form, named, nothing) = heartbeat_form (form_in bytes) e in
      rw (named, nothing)
