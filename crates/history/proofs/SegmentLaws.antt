-- A start, a message and a write-off keep a segment's gaps beside what its past says.
use Rattle.std.specs.Prelude.{ℕ, suc, ◌-◌, ◌≤◌, ◌<◌, max, ◌≡◌, refl, Bool, true, false, not, ◌&&◌, ◌||◌, List, [], ◌∷◌, leb, ltb, eqb, length}
use Rattle.std.proofs.Common.{sym, ap, ◌∙◌, true≢false, ⊎_elim, arith, le-leb, lt-ltb, le-ltb, eq-eqb, ne_eqb, eqb-true}
use Rattle.std.proofs.Math.Path.{fun_ext}
use Rattle.std.proofs.lemmas.Bool.{lt-leb}
use Rattle.laws.specs.Choice.{either}
use Rattle.laws.specs.Order.{order, same}
use Rattle.laws.specs.Tests.{and_false, and-true, or-false, any}
use Rattle.sequence.specs.Runs.{◌to◌, names, missing, runs_in}
use Rattle.sequence.specs.RunsCountLaws.{runs_counted}
use Rattle.sequence.specs.SoundLaws.{sound_apart}
use Rattle.sequence.specs.RunsLaws.{named}
use Rattle.sequence.specs.Gaps.{Gaps, takes}
use Rattle.sequence.specs.Changes.{begun, full, after, wrote_off}
use Rattle.sequence.specs.Answers.{write_off_answer, written_off as removed}
use Rattle.sequence.specs.GapsLaws.{begun_sound, after_sound, after_missing, after_counted, wrote_off_sound, wrote_off_lowest, wrote_off_missing, missing_inside}
use Rattle.message.specs.Message.{Message}
use Rattle.history.specs.Segment.{Fits}
use Rattle.history.specs.Machine.{held, is_new, highest_of, missing_by, standing_by, sequence_number}

-- a number taken is not above the highest
pub held_below : (start : ℕ) (taken : List Message) (n : ℕ) → held taken n ≡ true → n ≤ highest_of start taken
held_below start [] n e = absurd (true≢false (sym e))
held_below start (m ∷ ms) n e =
    let rest = held_below start ms n in
    ⊎_elim (λ (f : eqb (sequence_number m) n ≡ true). let same = eqb-true (sequence_number m) n f in omega arith)
    (λ (f : held ms n ≡ true). let under = rest f in omega arith)
    (any (eqb (sequence_number m) n) (held ms n) e)

pub not_held : (start : ℕ) (taken : List Message) (n : ℕ) → highest_of start taken < n → held taken n ≡ false
not_held start taken n h =
    ⊎_elim (λ (e : held taken n ≡ true). let under = held_below start taken n e in absurd (omega arith)) (λ (e : held taken n ≡ false). e) (either (held taken n))

-- ---- a start

pub fits_begun : (start : ℕ) → 0 < start → Fits start [] (λ n. false) (begun start)
fits_begun start h =
    record {
      sound = begun_sound start h;
      start_is = refl;
      highest_is = refl;
      missing_is = λ n.
          ⊎_elim (λ (o : start ≤ n). simp (lt-leb n (start - 1) (omega arith), and_false))
          (λ (o : n < start). simp (lt-leb start n o))
          (order start n);
      off_below = λ n e. absurd (true≢false (sym e));
    }

module _ (start : ℕ) (taken : List Message) (written_off : ℕ → Bool) (g : Gaps) (f : Fits start taken written_off g) where
  not_off : (n : ℕ) → g.highest < n → written_off n ≡ false
  not_off n h =
      ⊎_elim (λ (e : written_off n ≡ true). let under = f.off_below n e in absurd (omega arith)) (λ (e : written_off n ≡ false). e) (either (written_off n))

  above_not_held : (n : ℕ) → g.highest < n → held taken n ≡ false
  above_not_held n h = let e = f.highest_is in not_held start taken n (omega arith)

  -- ---- a number comes: it is taken exactly where it is not below the start, was not taken and was not written off

  pub takes_new : (n : ℕ) → takes g n ≡ is_new start taken written_off n
  takes_new n =
      let high = f.highest_is in
      let reached = f.sound.reached in
      let started = f.start_is in
      ⊎_elim (λ (o : n ≤ g.highest). simp (le-ltb g.highest n o, f.missing_is n, le-leb n (highest_of start taken) (omega arith), and-true))
      (λ (o : g.highest < n). simp (lt-ltb g.highest n o, le-leb start n (omega arith), above_not_held n o, not_off n o))
      (order n g.highest)

  -- the numbers that are missing when a message has been taken
  module _ (m : Message) where
    abbrev k : ℕ
    k = sequence_number m

    pub after_is : (j : ℕ) → missing (after g k).runs j ≡ missing_by start (m ∷ taken) written_off j
    after_is j = after_missing g f.sound k j ∙ missing_now j
      where
        Now : ℕ → Type 0
        Now j = not (eqb j k) && (missing g.runs j || ltb g.highest j && ltb j k) ≡ missing_by start (m ∷ taken) written_off j

        above : (j : ℕ) → (j ≡ k → ⊥) → g.highest < j → Now j
        above j n o =
            let high = f.highest_is in
            let reached = f.sound.reached in
            let started = f.start_is in
            simp (
              ne_eqb j k n,
              ne_eqb k j (λ e. n (sym e)),
              f.missing_is j,
              lt-leb j (highest_of start taken) (omega arith),
              lt-ltb g.highest j o,
              le-leb start j (omega arith),
              above_not_held j o,
              not_off j o,
              and-true,
            )
            (⊎_elim (λ (l : j ≤ k). simp (lt-ltb j k (omega arith), le-leb j (max k (highest_of start taken)) (omega arith)))
            (λ (l : k < j). simp (le-ltb j k (omega arith), lt-leb j (max k (highest_of start taken)) (omega arith)))
            (order j k))

        below : (j : ℕ) → (j ≡ k → ⊥) → j ≤ g.highest → Now j
        below j n o =
            let high = f.highest_is in
            simp (
              ne_eqb j k n,
              ne_eqb k j (λ e. n (sym e)),
              f.missing_is j,
              le-ltb g.highest j o,
              or-false,
              le-leb j (highest_of start taken) (omega arith),
              le-leb j (max k (highest_of start taken)) (omega arith),
            )

        missing_now : (j : ℕ) → Now j
        missing_now j =
            ⊎_elim (λ (e : j ≡ k). simp (eq-eqb j k e, eq-eqb k j (sym e), and_false))
            (λ (n : j ≡ k → ⊥). ⊎_elim (below j n) (above j n) (order j g.highest))
            (same j k)

    pub highest_after : (after g k).highest ≡ highest_of start (m ∷ taken)
    highest_after = let high = f.highest_is in omega arith

    -- 14 counts the runs that would stand by the missing numbers
    pub after_standing : length (after g k).runs ≡ standing_by start (m ∷ taken) written_off
    after_standing =
        after_counted g f.sound k
        ∙ ap (λ (missed : ℕ → Bool). runs_in missed (suc (after g k).highest)) (fun_ext (λ j. sym (after_missing g f.sound k j) ∙ after_is j))
        ∙ ap (λ (n : ℕ). runs_in (missing_by start (m ∷ taken) written_off) (suc n)) highest_after

    pub fits_taken : full g k ≡ false → Fits start (m ∷ taken) written_off (after g k)
    fits_taken few =
        record {
          sound = after_sound g f.sound k few;
          start_is = f.start_is;
          highest_is = highest_after;
          missing_is = after_is;
          off_below = λ j e. let under = f.off_below j e in omega arith;
        }

  -- as many runs stand as the missing numbers make
  pub fits_standing : length g.runs ≡ standing_by start taken written_off
  fits_standing =
      runs_counted (suc g.highest) (sound_apart f.sound) (omega arith)
      ∙ ap (λ (missed : ℕ → Bool). runs_in missed (suc g.highest)) (fun_ext f.missing_is)
      ∙ ap (λ (n : ℕ). runs_in (missing_by start taken written_off) (suc n)) f.highest_is

  -- ---- a run is written off

  module _ (a b : ℕ) (e : write_off_answer g ≡ removed a b) where
    pub fits_off : Fits start taken (λ n. names (a to b) n || written_off n) (wrote_off g)
    fits_off =
        record {
          sound = wrote_off_sound f.sound;
          start_is = f.start_is;
          highest_is = f.highest_is;
          missing_is = λ n.
              wrote_off_missing g f.sound a b e n ∙ ap (λ (t : Bool). not (names (a to b) n) && t) (f.missing_is n)
              ∙ apart (names (a to b) n) (leb start n && leb n (highest_of start taken) && not (held taken n)) (written_off n);
          off_below = λ n w.
              ⊎_elim (λ (in_run : names (a to b) n ≡ true).
              let both = named (a to b) n in_run in
              (missing_inside n f.sound (wrote_off_lowest g f.sound a b e n (omega arith) ∙ in_run)).1)
              (λ (before : written_off n ≡ true). f.off_below n before)
              (any (names (a to b) n) (written_off n) w);
        }
      where
        apart : (s t u : Bool) → not s && (t && not u) ≡ t && not (s || u)
        apart true true u = refl
        apart true false u = refl
        apart false t u = refl
