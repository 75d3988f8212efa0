-- Laws of a segment's gaps: what taking a number and writing off do to the numbers missing, that gaps stay sound, that no
-- number leaves its 32 bits, and when each answer is given.
use Rattle.std.specs.Prelude.{ℕ, suc, ◌+◌, ◌-◌, ◌^◌, ◌≤◌, ◌<◌, max, ◌≡◌, Bool, cond, ◌&&◌, ◌||◌, List, [], ◌∷◌, ◌↔◌, ltb, length, get_or}
use Rattle.std.proofs.Math.Path.{refl, fun_ext}
use Rattle.std.proofs.Common.{sym, ap, ◌∙◌, true≢false, le_refl, arith, lt-ltb, le-ltb, ltb-false, eq-eqb, ne_eqb}
use Rattle.std.proofs.Math.Bool.{true, false, not}
use Rattle.std.proofs.Math.Logic.{⊎_elim}
use Rattle.std.proofs.Math.Dec.{eqb}
use Rattle.laws.specs.Tests.{and_false, or-false, same_test}
use Rattle.laws.specs.Choice.{either}
use Rattle.laws.specs.Order.{order, same}
use Rattle.sequence.specs.Runs.{Run, ◌to◌, run, names, missing, runs_in}
use Rattle.sequence.specs.Changes.{span, join, begun, runs_after, after, full, without_lowest, wrote_off}
use Rattle.sequence.specs.Apart.{Apart, none, next}
use Rattle.sequence.specs.RunsLaws.{apart_from, apart_up, none_below, none_above, without_apart, without_itself, without_others, join_none, join_apart, missing_join, names_in, named, same_runs}
use Rattle.sequence.specs.RunsCountLaws.{runs_counted}
use Rattle.sequence.specs.Gaps.{Gaps, most, takes}
use Rattle.sequence.specs.Answers.{write_off_answer, lowest, refused_no_gap, written_off, take_answer, refused_gaps, one_old, one_taken, took}
use Rattle.sequence.specs.Sound.{SoundGaps}
use Rattle.sequence.specs.SoundLaws.{sound_apart, apart_sound}

-- ---- the runs when a number is taken

-- above highest: the numbers between
hole_apart : {from highest : ℕ} {rs : List Run} (k : ℕ) → from ≤ highest + 1 → highest < k → Apart highest from rs → Apart k from (join rs (span (highest + 1) k))
hole_apart {from} {highest} k m h p =
    ⊎_elim (λ (o : k ≤ highest + 1). simp (le-ltb (highest + 1) k o, join_none p) (apart_up (omega arith) p))
    (λ (o : highest + 1 < k). simp (lt-ltb (highest + 1) k o) (apart_up (omega arith) (join_apart (k - 1) m (omega arith) p)))
    (order k (highest + 1))

-- no number stands between a number and the next
none_between : (a c j : ℕ) → c ≤ a + 1 → ltb a j && ltb j c ≡ false
none_between a c j h =
    ⊎_elim (λ (o : j ≤ a). simp (le-ltb a j o))
    (λ (o : a < j). simp (le-ltb j c (omega arith), and_false))
    (order j a)

missing_hole : {from highest : ℕ} {rs : List Run} (k j : ℕ) → from ≤ highest + 1 → highest < k → Apart highest from rs → missing (join rs (span (highest + 1) k)) j ≡ missing rs j || ltb highest j && ltb j k
missing_hole {from} {highest} k j m h p =
    ⊎_elim (λ (o : k ≤ highest + 1). simp (le-ltb (highest + 1) k o, join_none p, none_between highest k j o, or-false))
    (λ (o : highest + 1 < k).
    simp (
      lt-ltb (highest + 1) k o,
      missing_join (k - 1) j m (omega arith) p,
      same_test (highest + 1) j (suc highest) j (λ l. omega arith) (λ l. omega arith),
      same_test j (k - 1) (suc j) k (λ l. omega arith) (λ l. omega arith),
    ))
    (order k (highest + 1))

module _ (g : Gaps) (s : SoundGaps g) (k : ℕ) where
  runs_apart : Apart (max g.highest k) g.start (runs_after g k)
  runs_apart =
      let p = sound_apart s in
      let r = s.reached in
      ⊎_elim (λ (o : k ≤ g.highest). simp (le-ltb g.highest k o) (apart_up (omega arith) (without_apart k p)))
      (λ (o : g.highest < k). simp (lt-ltb g.highest k o) (apart_up (omega arith) (hole_apart k (omega arith) o p)))
      (order k g.highest)

  -- taking a number removes it from those missing, and above highest makes those between missing
  pub after_missing : (j : ℕ) → missing (after g k).runs j ≡ not (eqb j k) && (missing g.runs j || ltb g.highest j && ltb j k)
  after_missing j = ⊎_elim late early (order k g.highest)
    where
      late : k ≤ g.highest → missing (runs_after g k) j ≡ not (eqb j k) && (missing g.runs j || ltb g.highest j && ltb j k)
      late o =
          simp (le-ltb g.highest k o, none_between g.highest k j (omega arith), or-false)
          (⊎_elim (λ (e : j ≡ k). rw (eq-eqb j k e) (rw e (without_itself k (sound_apart s))))
          (λ (n : j ≡ k → ⊥). rw (ne_eqb j k n) (without_others g.runs k j n))
          (same j k))

      early : g.highest < k → missing (runs_after g k) j ≡ not (eqb j k) && (missing g.runs j || ltb g.highest j && ltb j k)
      early o =
          let r = s.reached in
          simp (lt-ltb g.highest k o, missing_hole k j (omega arith) o (sound_apart s))
          (⊎_elim (λ (e : j ≡ k). simp (eq-eqb j k e, none_above j (sound_apart s) (omega arith), le-ltb j k (omega arith), and_false))
          (λ (n : j ≡ k → ⊥). simp (ne_eqb j k n))
          (same j k))

  -- 14 counts the runs of the numbers that would be missing
  pub after_counted : length (after g k).runs ≡ runs_in (λ j. not (eqb j k) && (missing g.runs j || ltb g.highest j && ltb j k)) (suc (max g.highest k))
  after_counted =
      runs_counted (suc (max g.highest k)) runs_apart (le_refl _)
      ∙ ap (λ (held : ℕ → Bool). runs_in held (suc (max g.highest k))) (fun_ext after_missing)

  -- gaps stay sound
  pub after_sound : full g k ≡ false → SoundGaps (after g k)
  after_sound e =
      let r = s.reached in
      apart_sound (after g k) s.started (omega arith) (ltb-false most (length (runs_after g k)) e) runs_apart

  pub took_sound : SoundGaps (took g k)
  unfolding took
  took_sound =
      ⊎_elim (λ (t : takes g k ≡ true).
      ⊎_elim (λ (f : full g k ≡ true). simp (t, f) s) (λ (f : full g k ≡ false). simp (t, f) (after_sound f)) (either (full g k)))
      (λ (t : takes g k ≡ false). simp t s)
      (either (takes g k))

pub begun_sound : (n : ℕ) → 0 < n → SoundGaps (begun n)
begun_sound n h = apart_sound (begun n) h (le_refl _) (omega arith) none

-- ---- the lowest run written off

behind_lowest : {highest from : ℕ} {rs : List Run} (r : Run) (k : ℕ) → k ≤ r.last + 1 → Apart highest from (r ∷ rs) → missing rs k ≡ false
behind_lowest r k h (next _ f l u p) = none_below k p (omega arith)

lowest_missing : {highest from : ℕ} {rs : List Run} (r : Run) (k : ℕ) → Apart highest from (r ∷ rs) → missing rs k ≡ not (names r k) && missing (r ∷ rs) k
lowest_missing r k (next _ f l u p) =
    ⊎_elim (λ (e : names r k ≡ true). let both = named r k e in simp e (behind_lowest r k (omega arith) (next r f l u p)))
    (λ (e : names r k ≡ false). simp e)
    (either (names r k))

lowest_apart : {highest from : ℕ} {rs : List Run} → Apart highest from rs → Apart highest from (without_lowest rs)
lowest_apart none = none
lowest_apart (next r f l u p) = apart_from (omega arith) p

lowest_fewer : (rs : List Run) → length (without_lowest rs) ≤ length rs
lowest_fewer [] = omega arith
lowest_fewer (r ∷ rs) = omega arith

pub wrote_off_sound : {g : Gaps} → SoundGaps g → SoundGaps (wrote_off g)
wrote_off_sound {g} s =
    let l = lowest_fewer g.runs in
    let f = s.few in
    apart_sound (wrote_off g) s.started s.reached (omega arith) (lowest_apart (sound_apart s))

-- 17 is given where nothing is missing
pub no_gap_exactly : {g : Gaps} → SoundGaps g → (write_off_answer g ≡ refused_no_gap) ↔ ((k : ℕ) → missing g.runs k ≡ false)
unfolding write_off_answer
no_gap_exactly {g} s = (none_missing g.runs, none_there g.runs (sound_apart s))
  where
    none_missing : (rs : List Run) → lowest rs ≡ refused_no_gap → (k : ℕ) → missing rs k ≡ false
    none_missing [] e k = refl
    none_missing (r ∷ rs) e k = let z : ◌≡◌ {A = ℕ} 0 1 = cc in absurd (omega arith)

    none_there : (rs : List Run) → Apart g.highest g.start rs → ((k : ℕ) → missing rs k ≡ false) → lowest rs ≡ refused_no_gap
    none_there [] p e = refl
    none_there (r ∷ rs) (next _ f l u p) e = absurd (true≢false (sym (simp (names_in r r.first (le_refl _) l)) ∙ e r.first))

lowest_is : (rs : List Run) (a b : ℕ) → lowest rs ≡ written_off a b → rs ≡ a to b ∷ without_lowest rs
lowest_is [] a b e = let z : ◌≡◌ {A = ℕ} 0 1 = cc in absurd (omega arith)
lowest_is (r ∷ rs) a b e =
    let first : r.first ≡ a = cc in
    let last : r.last ≡ b = cc in
    λ i. first i to last i ∷ rs

module _ (g : Gaps) (s : SoundGaps g) (a b : ℕ) (e : write_off_answer g ≡ written_off a b) where
  has_lowest : g.runs ≡ a to b ∷ without_lowest g.runs
  unfolding write_off_answer
  has_lowest = lowest_is g.runs a b e

  rest_apart : Apart g.highest g.start (a to b ∷ without_lowest g.runs)
  rest_apart = rw has_lowest at (sound_apart s)

  -- a write-off's answer is the lowest run: up to one above its last, its numbers are those missing
  pub wrote_off_lowest : (k : ℕ) → k ≤ b + 1 → missing g.runs k ≡ names (a to b) k
  wrote_off_lowest k h =
      ap (λ (rs : List Run). missing rs k) has_lowest ∙ simp (behind_lowest (a to b) k h rest_apart, or-false)

  -- it is a run
  pub wrote_off_proper : a ≤ b
  wrote_off_proper = go rest_apart
    where
      go : Apart g.highest g.start (a to b ∷ without_lowest g.runs) → a ≤ b
      go (next _ f l u p) = l

  -- its numbers are missing no more, and no others
  pub wrote_off_missing : (k : ℕ) → missing (wrote_off g).runs k ≡ not (names (a to b) k) && missing g.runs k
  wrote_off_missing k =
      lowest_missing (a to b) k rest_apart
      ∙ ap (λ (rs : List Run). not (names (a to b) k) && missing rs k) (sym has_lowest)

-- ---- when each answer is given

module _ (g : Gaps) (k : ℕ) where
  pub took_taken : takes g k ≡ true → full g k ≡ false → (take_answer g k ≡ one_taken) × (took g k ≡ after g k)
  unfolding take_answer took
  took_taken t f = (simp (t, f), simp (t, f))

  pub took_full : takes g k ≡ true → full g k ≡ true → (take_answer g k ≡ refused_gaps) × (took g k ≡ g)
  unfolding take_answer took
  took_full t f = (simp (t, f), simp (t, f))

  pub took_old : takes g k ≡ false → (take_answer g k ≡ one_old) × (took g k ≡ g)
  unfolding take_answer took
  took_old t = (simp t, simp t)

  -- an answer's numbers tell the case
  told_takes : takes g k ≡ not (eqb (get_or (take_answer g k) 2 0) 1)
  unfolding take_answer
  told_takes = go (takes g k) (full g k)
    where
      go : (t f : Bool) → t ≡ not (eqb (get_or (cond t (cond f refused_gaps one_taken) one_old) 2 0) 1)
      go true true = refl
      go true false = refl
      go false f = refl

  told_full : takes g k ≡ true → full g k ≡ eqb (get_or (take_answer g k) 0 0) 14
  unfolding take_answer
  told_full t = simp t (go (full g k))
    where
      go : (f : Bool) → f ≡ eqb (get_or (cond f refused_gaps one_taken) 0 0) 14
      go true = refl
      go false = refl

  pub taken_exactly : (take_answer g k ≡ one_taken) ↔ ((takes g k ≡ true) × (full g k ≡ false))
  taken_exactly = ((λ e. let t = rw e at told_takes in (t, rw e at (told_full t))), λ w. (took_taken w.0 w.1).0)

  pub old_exactly : (take_answer g k ≡ one_old) ↔ (takes g k ≡ false)
  old_exactly = ((λ e. rw e at told_takes), λ t. (took_old t).0)

  pub full_exactly : (take_answer g k ≡ refused_gaps) ↔ ((takes g k ≡ true) × (full g k ≡ true))
  full_exactly = ((λ e. let t = rw e at told_takes in (t, rw e at (told_full t))), λ w. (took_full w.0 w.1).0)

-- ---- no number leaves its 32 bits

-- every number of gaps is one of 32 bits
pub record Small (g : Gaps) : Type 0 where
  pub start : g.start < 2 ^ 32
  pub highest : g.highest < 2 ^ 32
  pub runs : (i : ℕ) → i < length g.runs → ((run g.runs i).first < 2 ^ 32) × ((run g.runs i).last < 2 ^ 32)

sound_small : {g : Gaps} → SoundGaps g → g.start < 2 ^ 32 → g.highest < 2 ^ 32 → Small g
sound_small s start highest =
    record {
      start = start;
      highest = highest;
      runs = λ i h. (omega (arith, s.proper i h, (s.inside i h).1), omega (arith, (s.inside i h).1));
    }

pub begun_small : (n : ℕ) → 0 < n → n < 2 ^ 32 → Small (begun n)
begun_small n some small = sound_small (begun_sound n some) small (omega arith)

pub took_small : (g : Gaps) → SoundGaps g → Small g → (k : ℕ) → k < 2 ^ 32 → Small (took g k)
unfolding took
took_small g s small k few = sound_small (took_sound g s k) (go (takes g k) (full g k)).0 (go (takes g k) (full g k)).1
  where
    go : (t f : Bool) → let g' = cond t (cond f g (after g k)) g in (g'.start < 2 ^ 32) × (g'.highest < 2 ^ 32)
    go true true = (small.start, small.highest)
    go true false = (small.start, omega (arith, small.highest))
    go false f = (small.start, small.highest)

pub wrote_off_small : {g : Gaps} → SoundGaps g → Small g → Small (wrote_off g)
wrote_off_small s small = sound_small (wrote_off_sound s) small.start small.highest

-- "Numbers don't wrap: after 4,294,967,295 only missing ones are taken"
pub no_wrap : (g : Gaps) (k : ℕ) → g.highest ≡ 4294967295 → k < 2 ^ 32 → takes g k ≡ missing g.runs k
no_wrap g k h l = simp (le-ltb g.highest k (omega arith))

-- a number missing stands inside
pub missing_inside : {g : Gaps} (k : ℕ) → SoundGaps g → missing g.runs k ≡ true → (g.start ≤ k) × (k ≤ g.highest)
missing_inside {g} k s m = (
  ⊎_elim (λ (o : g.start ≤ k). o) (λ (o : k < g.start). absurd (true≢false (sym m ∙ none_below k (sound_apart s) o))) (order g.start k),
  ⊎_elim (λ (o : k ≤ g.highest). o) (λ (o : g.highest < k). absurd (true≢false (sym m ∙ none_above k (sound_apart s) o))) (order k g.highest),
)

-- the numbers missing make the runs what they are, and so their number
pub same_gaps : {g h : Gaps} → SoundGaps g → SoundGaps h → ((k : ℕ) → missing g.runs k ≡ missing h.runs k) → g.runs ≡ h.runs
same_gaps {g} {h} s t e = same_runs g.runs h.runs (sound_apart s) (sound_apart t) e
