-- The test passes exactly where the gaps are sound, and that is where the runs stand apart from start to highest.
use Rattle.std.specs.Prelude.{ℕ, zero, suc, ◌+◌, ◌-◌, ◌≤◌, ◌<◌, ◌≡◌, refl, true, false, List, [], ◌∷◌, ◌↔◌, ◌⊎◌, leb, ltb, length, drop}
use Rattle.std.proofs.Common.{suc-le-suc, ⊎_elim, le_of_suc-le-suc, not-suc-le-zero, add-one, arith, le-leb, leb-true, lt-ltb, ltb-true, drop_of_length-le, drop-cons}
use Rattle.std.proofs.lemmas.Bool.{lt-leb}
use Rattle.laws.specs.Tests.{and_false, all_four}
use Rattle.sequence.specs.Runs.{Run, ◌to◌, run}
use Rattle.sequence.specs.Apart.{Apart, none, next}
use Rattle.sequence.specs.Gaps.{Gaps, most}
use Rattle.sequence.specs.Sound.{SoundGaps}
use Rattle.sequence.specs.SoundTests.{sound_runs, sound_gaps}

-- ---- runs that stand apart, one by one

pub at_run : {highest from : ℕ} {rs : List Run} (i : ℕ) → Apart highest from rs → i < length rs → (from ≤ (run rs i).first) × ((run rs i).first ≤ (run rs i).last) × ((run rs i).last ≤ highest)
at_run i none h = absurd (not-suc-le-zero h)
at_run zero (next r f l u p) h = (f, l, u)
at_run (suc i) (next r f l u p) h = let later = at_run i p (le_of_suc-le-suc h) in (omega arith, later.1, later.2)

at_next : {highest from : ℕ} {rs : List Run} (i : ℕ) → Apart highest from rs → suc i < length rs → (run rs i).last + 1 < (run rs (suc i)).first
at_next i none h = absurd (not-suc-le-zero h)
at_next zero (next r f l u p) h = let later = at_run 0 p (le_of_suc-le-suc h) in omega arith
at_next (suc i) (next r f l u p) h = at_next i p (le_of_suc-le-suc h)

-- every run behind a first one begins two above its last, or further on
ahead : (r : Run) (rs : List Run)
    → ((i : ℕ) → i < length (r ∷ rs) → (run (r ∷ rs) i).first ≤ (run (r ∷ rs) i).last)
    → ((i : ℕ) → suc i < length (r ∷ rs) → (run (r ∷ rs) i).last + 1 < (run (r ∷ rs) (suc i)).first)
    → (i : ℕ) → i < length rs → r.last + 2 ≤ (run rs i).first
ahead r rs proper ascending zero h = let a = ascending 0 (suc-le-suc h) in omega arith
ahead r rs proper ascending (suc i) h =
    let before = ahead r rs proper ascending i (omega arith) in
    let own = proper (suc i) (omega arith) in
    let a = ascending (suc i) (suc-le-suc h) in
    omega arith

apart_of : (from highest : ℕ) (rs : List Run)
    → ((i : ℕ) → i < length rs → (run rs i).first ≤ (run rs i).last)
    → ((i : ℕ) → suc i < length rs → (run rs i).last + 1 < (run rs (suc i)).first)
    → ((i : ℕ) → i < length rs → (from ≤ (run rs i).first) × ((run rs i).last ≤ highest))
    → Apart highest from rs
apart_of from highest [] proper ascending inside = none
apart_of from highest (r ∷ rs) proper ascending inside =
    let here : 0 < length (r ∷ rs) = omega arith in
    next r (inside 0 here).0 (proper 0 here) (inside 0 here).1
    (apart_of (r.last + 2) highest rs
    (λ i h. proper (suc i) (suc-le-suc h))
    (λ i h. ascending (suc i) (suc-le-suc h))
    (λ i h. (ahead r rs proper ascending i h, (inside (suc i) (suc-le-suc h)).1)))

pub sound_apart : {g : Gaps} → SoundGaps g → Apart g.highest g.start g.runs
sound_apart {g} s = apart_of g.start g.highest g.runs s.proper s.ascending s.inside

pub apart_sound : (g : Gaps) → 0 < g.start → g.start - 1 ≤ g.highest → length g.runs ≤ most → Apart g.highest g.start g.runs → SoundGaps g
apart_sound g started reached few p =
    record {
      started = started;
      reached = reached;
      few = few;
      proper = λ i h. (at_run i p h).1;
      ascending = λ i h. at_next i p h;
      inside = λ i h. ((at_run i p h).0, (at_run i p h).2);
    }

-- ---- the test

runs_apart : (from : ℕ) (rs : List Run) (highest : ℕ) → sound_runs from rs highest ≡ true → Apart highest from rs
runs_apart from [] highest e = none
runs_apart from (r ∷ rs) highest e =
    let all = all_four (leb from r.first) _ _ _ e in
    next r (leb-true _ _ all.0) (leb-true _ _ all.1) (leb-true _ _ all.2) (runs_apart (r.last + 2) rs highest all.3)

apart_runs : {highest from : ℕ} {rs : List Run} → Apart highest from rs → sound_runs from rs highest ≡ true
apart_runs none = refl
apart_runs {highest} {from} (next r f l u p) = simp (le-leb from r.first f, le-leb r.first r.last l, le-leb r.last highest u) (apart_runs p)

test_sound : (g : Gaps) → sound_gaps g ≡ true → SoundGaps g
test_sound g e =
    let all = all_four (ltb 0 g.start) _ _ _ e in
    apart_sound g (ltb-true _ _ all.0) (leb-true _ _ all.1) (leb-true _ _ all.2) (runs_apart g.start g.runs g.highest all.3)

sound_test : (g : Gaps) → SoundGaps g → sound_gaps g ≡ true
sound_test g s =
    simp (lt-ltb 0 g.start s.started, le-leb (g.start - 1) g.highest s.reached, le-leb (length g.runs) most s.few)
    (apart_runs (sound_apart s))

-- 18, exactly when
pub sound_exactly : (g : Gaps) → (sound_gaps g ≡ true) ↔ SoundGaps g
sound_exactly g = (test_sound g, sound_test g)

-- ---- the test, run by run

module _ (from : ℕ) (rs : List Run) (highest i : ℕ) (h : i < length rs) where
  pub sound_step : from ≤ (run rs i).first → (run rs i).first ≤ (run rs i).last → (run rs i).last ≤ highest → sound_runs from (drop i rs) highest ≡ sound_runs ((run rs i).last + 2) (drop (i + 1) rs) highest
  sound_step f l u =
      rw (add-one i, drop-cons rs i (0 to 0) h)
      (simp (le-leb from (run rs i).first f, le-leb (run rs i).first (run rs i).last l, le-leb (run rs i).last highest u))

  pub sound_stop : ((run rs i).first < from) ⊎ (((run rs i).last < (run rs i).first) ⊎ (highest < (run rs i).last)) → sound_runs from (drop i rs) highest ≡ false
  sound_stop w =
      rw (drop-cons rs i (0 to 0) h)
      (⊎_elim (λ (f : (run rs i).first < from). simp (lt-leb from (run rs i).first f))
      (⊎_elim (λ (l : (run rs i).last < (run rs i).first). simp (lt-leb (run rs i).first (run rs i).last l, and_false))
      (λ (u : highest < (run rs i).last). simp (lt-leb (run rs i).last highest u, and_false)))
      w)

pub sound_end : (from : ℕ) (rs : List Run) (highest i : ℕ) → length rs ≤ i → sound_runs from (drop i rs) highest ≡ true
sound_end from rs highest i h = rw (drop_of_length-le rs h) refl
