-- Laws of the code's steps on runs: where a number stands, and which runs are left when it is taken.
use Prim.Native.Nat.{ℕ, zero, suc, ◌+◌, ◌-◌, ◌≤◌, ◌<◌}
use mathlib.Core.Path.{◌≡◌, refl, sym, ap, ◌∙◌}
use mathlib.Core.Bool.{true, false, true≢false}
use mathlib.Core.List.{List, [], ◌∷◌, ◌++◌}
use mathlib.Core.Logic.{⊎_elim}
use native.Mathlib.Nat.{le_of_suc-le-suc, not-suc-le-zero}
use native.Mathlib.Omega.{arith}
use borrow.Author.Tests.{lt-ltb, le-ltb}
use lib.ListN.{length, take, drop, take-append-drop}
use lib.Seq.{drop-cons}
use Rattle.laws.specs.Tests.{or-true, or_none}
use Rattle.laws.specs.Order.{order}
use Rattle.sequence.specs.Runs.{Run, ◌to◌, run, names, missing}
use Rattle.sequence.specs.Changes.{span, join, parted, without}
use Rattle.sequence.specs.Apart.{Apart, none, next}
use Rattle.sequence.specs.RunsLaws.{names_in, names_above, named, missing_append, meet_apart, no_room, join_last, join_apart}
use Rattle.sequence.specs.SoundLaws.{at_run}
use Rattle.sequence.specs.Steps.{instead, divided}

-- ---- where a number stands

pub missing_from : (rs : List Run) (i j k : ℕ) → i ≡ suc j → i ≤ length rs → names (run rs j) k ≡ false → missing (drop i rs) k ≡ false → missing (drop j rs) k ≡ false
missing_from rs i j k e h n m = rw (drop-cons rs j (0 to 0) (omega arith)) (simp (n, ← e) m)

-- runs below one that begins at the number or below end below it
lower_runs : {highest from : ℕ} {rs : List Run} (i k : ℕ) → Apart highest from rs → i < length rs → (run rs i).first ≤ k → missing (take i rs) k ≡ false
lower_runs i k none h l = absurd (not-suc-le-zero h)
lower_runs zero k (next r f m u p) h l = refl
lower_runs (suc i) k (next r f m u p) h l =
    let later = at_run i p (le_of_suc-le-suc h) in
    simp (names_above r k (omega arith)) (lower_runs i k p (le_of_suc-le-suc h) l)

pub missing_nowhere : {highest from : ℕ} (rs : List Run) (i k : ℕ) → Apart highest from rs → i < length rs → (run rs i).first ≤ k → missing (drop i rs) k ≡ false → missing rs k ≡ false
missing_nowhere rs i k p h l m =
    ap (λ (ss : List Run). missing ss k) (sym (take-append-drop i rs)) ∙ (missing_append (take i rs) (drop i rs) k ∙ simp (lower_runs i k p h l, m))

pub missing_here : (rs : List Run) (i k : ℕ) → i < length rs → names (run rs i) k ≡ true → missing rs k ≡ true
missing_here [] i k h e = absurd (not-suc-le-zero h)
missing_here (r ∷ rs) zero k h e = simp e
missing_here (r ∷ rs) (suc i) k h e = simp (missing_here rs i k (le_of_suc-le-suc h) e, or-true)

-- ---- the run that names a number

-- it is the only one
lower_not : {highest : ℕ} {rs : List Run} (r : Run) (i k : ℕ) → Apart highest (r.last + 2) rs → i < length rs → names (run rs i) k ≡ true → r.last + 2 ≤ k
lower_not {rs = rs} r i k p h e = let l = at_run i p h in let n = named (run rs i) k e in omega arith

pub without_at : {highest from : ℕ} {rs : List Run} (i k : ℕ) → Apart highest from rs → i < length rs → names (run rs i) k ≡ true → without rs k ≡ instead rs i (parted (run rs i) k)
without_at i k none h e = absurd (not-suc-le-zero h)
without_at zero k (next r {rs = rs} f l u p) h e = simp e
without_at (suc i) k (next r f l u p) h e =
    let n = lower_not r i k p (le_of_suc-le-suc h) e in
    simp (names_above r k (omega arith)) (ap (λ (ss : List Run). r ∷ ss) (without_at i k p (le_of_suc-le-suc h) e))

pub span_none : (a c : ℕ) → c ≤ a → span a c ≡ []
span_none a c h = simp (le-ltb a c h)

pub span_one : (a c d : ℕ) → a < c → c ≡ d + 1 → span a c ≡ a to d ∷ []
span_one a c d h e = let l : c - 1 ≡ d = omega arith in simp (lt-ltb a c h, l)

-- what is left of a run without one of its numbers: nothing, one end, or both
module _ (r : Run) (k : ℕ) where
  pub parted_none : k ≤ r.first → r.last ≤ k → parted r k ≡ []
  parted_none f l = rw (span_none r.first k f, span_none (k + 1) (r.last + 1) (omega arith)) refl

  pub parted_first : k ≤ r.first → k < r.last → parted r k ≡ (k + 1) to r.last ∷ []
  parted_first f l = rw (span_none r.first k f, span_one (k + 1) (r.last + 1) r.last (omega arith) refl) refl

  pub parted_last : r.first < k → r.last ≤ k → parted r k ≡ r.first to (k - 1) ∷ []
  parted_last f l = rw (span_one r.first k (k - 1) f (omega arith), span_none (k + 1) (r.last + 1) (omega arith)) refl

  pub parted_both : r.first < k → k < r.last → parted r k ≡ divided r (k - 1) (k + 1)
  parted_both f l = rw (span_one r.first k (k - 1) f (omega arith), span_one (k + 1) (r.last + 1) r.last (omega arith) refl) refl

-- ---- a hole behind runs

pub join_at : {highest from : ℕ} {rs : List Run} (i d : ℕ) → Apart highest from rs → i < length rs → names (run rs i) highest ≡ true → highest < d → join rs ((highest + 1) to d ∷ []) ≡ instead rs i ((run rs i).first to d ∷ [])
join_at i d none h e o = absurd (not-suc-le-zero h)
join_at {highest} zero d (next r f l u p) h e o =
    let n = named r highest e in
    join_last r d (omega arith) p ∙ ap (λ (ss : List Run). r.first to d ∷ ss) (sym (no_room (omega arith) p))
join_at {highest} (suc i) d (next r f l u p) h e o =
    let n = lower_not r i highest p (le_of_suc-le-suc h) e in
    meet_apart r (join_apart d (omega arith) o p) ∙ ap (λ (ss : List Run). r ∷ ss) (join_at i d p (le_of_suc-le-suc h) e o)

pub join_behind : {highest from : ℕ} {rs : List Run} (d : ℕ) → Apart highest from rs → missing rs highest ≡ false → highest < d → join rs ((highest + 1) to d ∷ []) ≡ rs ++ ((highest + 1) to d ∷ [])
join_behind d none e o = refl
join_behind {highest} d (next r {rs = rs} f l u p) e o =
    let both = or_none (names r highest) (missing rs highest) e in
    ⊎_elim (λ (m : highest ≤ r.last). absurd (true≢false (sym (names_in r highest (omega arith) m) ∙ both.0)))
    (λ (m : r.last < highest). meet_apart r (join_apart d (omega arith) o p) ∙ ap (λ (ss : List Run). r ∷ ss) (join_behind d p both.1 o))
    (order highest r.last)
