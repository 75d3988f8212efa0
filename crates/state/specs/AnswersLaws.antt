-- An answer's numbers tell the answer: a way back from the numbers, and so which rule was broken, or that none was.
use Rattle.std.specs.Prelude.{ℕ, ◌≡◌, refl, cond, List, [], ◌∷◌, eqb, get_or, drop, Result, Ok, Err, Option as Maybe, Some, None, ok_or}
use Rattle.std.proofs.Common.{sym, ap}
use Rattle.std.proofs.Math.Option.{Option, none, some}
use Rattle.laws.specs.Told.{told}
use Rattle.forms.specs.declared.forms.Session.TheVariants as session
use Rattle.layout.specs.Cells.{session_in}
use Rattle.state.specs.declared.refusal.Refusal.{Refusal}
use Rattle.state.specs.declared.answers.Judged.{Judged}
use Rattle.state.specs.declared.answers.Recorded.{Recorded}
use Rattle.state.specs.Refusals.{refusal_numbers}
use Rattle.state.specs.RefusalsLaws.{refusal_of, accepts, refusal_behind, refusal_back, refusal_told, never}
use Rattle.state.specs.Answers.{Listed, WrittenOff, runs_told, run_told, judged_numbers, started_numbers, listed_numbers, written_off_numbers, recorded_numbers, written_numbers, checked_numbers, answered, left_by, checked_by}

-- ---- which rule was broken

-- a refusal that is answered is that of the first broken rule
pub refused_by_lem : (o : Option Refusal) (values : List ℕ) (r : Refusal) → refusal_numbers r ≡ answered o values → o ≡ some r
refused_by_lem none values r e = absurd (never r values e)
refused_by_lem (some s) values r e = ap some (refusal_told s r (sym e))

-- where a call is accepted no rule is broken, and its values are those of the call
pub accepted_by : (o : Option Refusal) (values answer : List ℕ) → 0 ∷ answer ≡ answered o values → (o ≡ none) × (answer ≡ values)
accepted_by none values answer e = (refl, (cc))
accepted_by (some s) values answer e = absurd (never s answer (sym e))

-- ---- checks

-- the refusal that a check answers, where there is one
abbrev pub checked_refusal : Result (Unit {0}) Refusal → Option Refusal
checked_refusal (Ok _) = none
checked_refusal (Err refusal) = some refusal

pub checked_told : (c : Result (Unit {0}) Refusal) (o : Option Refusal) → checked_numbers c ≡ checked_by o → checked_refusal c ≡ o
checked_told (Ok _) o e = sym (accepted_by o [] [] e).0
checked_told (Err r) o e = sym (refused_by_lem o [] r e)

-- ---- what is there, or a refusal

pub there_told : {A : Type 0} (o : Maybe A) (r : Refusal) {a : A} → ok_or o r ≡ Ok a → o ≡ Some a
there_told (Some b) r e = cc
there_told None r e = cc

pub refusal_there : {A : Type 0} (o : Maybe A) (r : Refusal) {s : Refusal} → ok_or o r ≡ Err s → (o ≡ None) × (s ≡ r)
refusal_there (Some b) r e = cc
refusal_there None r e = (refl, (cc))

-- ---- answers

-- the way back to an answer that is a refusal or what an accepted call's numbers make
module _ {A : Type 0} (accepted : List ℕ → A) (refused : Refusal → A) where
  abbrev answer_of : List ℕ → A
  answer_of ns = cond (accepts ns) (accepted ns) (refused (refusal_of ns))

  refused_back : (r : Refusal) → answer_of (refusal_numbers r) ≡ refused r
  refused_back r = let b = refusal_back r in rw (b.1, b.0)

abbrev started_of : List ℕ → Result (Unit {0}) Refusal
started_of = answer_of (λ ns. (Ok tt)) Err

started_back : (a : Result (Unit {0}) Refusal) → started_of (started_numbers a) ≡ a
started_back (Ok _) = refl
started_back (Err r) = refused_back (λ ns. (Ok tt)) Err r

pub started_told : (a b : Result (Unit {0}) Refusal) → started_numbers a ≡ started_numbers b → a ≡ b
started_told = told started_numbers started_of started_back

-- behind a refusal of a batch stands how many keys were compared
abbrev judged_of : List ℕ → Judged
judged_of ns =
    cond (accepts ns) (Judged.Accepted (get_or ns 1 0) (get_or ns 2 0) (get_or ns 3 0) (get_or ns 4 0)) (Judged.Refused (refusal_of ns) (get_or (drop 4 ns) 0 0))

judged_back : (a : Judged) → judged_of (judged_numbers a) ≡ a
judged_back (Judged.Accepted taken old heartbeats compared) = refl
judged_back (Judged.Refused r compared) = let b = refusal_behind r (compared ∷ []) in rw (b.1, b.0, b.2)

pub judged_told : (a b : Judged) → judged_numbers a ≡ judged_numbers b → a ≡ b
judged_told = told judged_numbers judged_of judged_back

abbrev runs_answered : List ℕ → Listed
runs_answered ns = runs_told (get_or ns 1 0) (get_or ns 2 0)

listed_back : (a : Listed) → answer_of runs_answered Err (listed_numbers a) ≡ a
listed_back (Ok gaps) = refl
listed_back (Err r) = refused_back runs_answered Err r

pub listed_told : (a b : Listed) → listed_numbers a ≡ listed_numbers b → a ≡ b
listed_told = told listed_numbers (answer_of runs_answered Err) listed_back

abbrev run_answered : List ℕ → WrittenOff
run_answered ns = run_told (get_or ns 1 0) (get_or ns 2 0)

written_off_back : (a : WrittenOff) → answer_of run_answered Err (written_off_numbers a) ≡ a
written_off_back (Ok run) = refl
written_off_back (Err r) = refused_back run_answered Err r

pub written_off_told : (a b : WrittenOff) → written_off_numbers a ≡ written_off_numbers b → a ≡ b
written_off_told = told written_off_numbers (answer_of run_answered Err) written_off_back

abbrev record_answered : List ℕ → Recorded
record_answered ns = cond (eqb (get_or ns 1 0) 0) Recorded.NoRecord (Recorded.Record (get_or ns 2 0) (session_in (get_or ns 3 0)))

recorded_back : (a : Recorded) → answer_of record_answered Recorded.Refused (recorded_numbers a) ≡ a
recorded_back (Recorded.Record number session.Normal) = refl
recorded_back (Recorded.Record number session.PreOpen) = refl
recorded_back Recorded.NoRecord = refl
recorded_back (Recorded.Refused r) = refused_back record_answered Recorded.Refused r

pub recorded_told : (a b : Recorded) → recorded_numbers a ≡ recorded_numbers b → a ≡ b
recorded_told = told recorded_numbers (answer_of record_answered Recorded.Refused) recorded_back

abbrev length_answered : List ℕ → Result ℕ Refusal
length_answered ns = Ok (get_or ns 1 0)

written_back : (a : Result ℕ Refusal) → answer_of length_answered Err (written_numbers a) ≡ a
written_back (Ok length) = refl
written_back (Err r) = refused_back length_answered Err r

pub written_told : (a b : Result ℕ Refusal) → written_numbers a ≡ written_numbers b → a ≡ b
written_told = told written_numbers (answer_of length_answered Err) written_back

-- ---- what a call leaves

pub left_as : {A : Type 0} (o : Option Refusal) (r : Refusal) (before after : A) → o ≡ some r → left_by o before after ≡ before
left_as o r before after e = rw e

pub left_new : {A : Type 0} (o : Option Refusal) (before after : A) → o ≡ none → left_by o before after ≡ after
left_new o before after e = rw e
