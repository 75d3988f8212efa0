-- What a write-off answers and does after every history, in the words of the past: 01 "Sequence and gaps".
use Rattle.std.specs.Prelude.{ℕ, suc, ◌+◌, ◌≤◌, ◌≡◌, refl, true, false, ◌&&◌, ◌||◌, List, [], ◌∷◌, ◌↔◌, eqb, length, Err}
use Rattle.std.proofs.Common.{sym, ap, subst, ◌∙◌, true≢false, arith, lt-ltb}
use Rattle.std.proofs.Math.Logic.{⊎_elim}
use Rattle.std.proofs.Math.Option.{Option, none, some}
use Rattle.std.proofs.Math.Dec.{ltb}
use Rattle.laws.specs.Choice.{clash, either}
use Rattle.laws.specs.Rules.{first_broken}
use Rattle.laws.specs.RulesLaws.{last_holds, last_broken}
use Rattle.lookup.specs.Lookup.{segment_of}
use Rattle.lookup.specs.LookupLaws.{segment_has}
use Rattle.sequence.specs.Answers.{write_off_answer, lowest, refused_no_gap}
use Rattle.sequence.specs.Gaps.{Gaps}
use Rattle.sequence.specs.GapsLaws.{wrote_off_lowest, wrote_off_proper, no_gap_exactly}
use Rattle.sequence.specs.Row.{gaps_of}
use Rattle.sequence.specs.Runs.{Run, ◌to◌, names}
use Rattle.sequence.specs.RunsLaws.{names_in, names_below, names_above}
use Rattle.state.specs.declared.refusal.Refusal.{Refusal}
use Rattle.state.specs.declared.refusal.Refusal.TheVariants.{NoGap}
use Rattle.state.specs.Answers.{answered, WrittenOff, run_told}
use Rattle.state.specs.AnswersLaws.{written_off_told}
use Rattle.state.specs.Memory.{Lent, gap_row_of}
use Rattle.state.specs.Refusals.{Rule}
use Rattle.state.specs.State.{segment_rules}
use Rattle.listing.specs.ListPromises.{WroteOffRun}
use Rattle.listing.specs.ListPromisesLaws.{off_refusal_lem}
use Rattle.listing.specs.ListActs.{run_values, lowest_run}
use Rattle.listing.specs.ListRules.{gaps_of_letter, write_off_rules}
use Rattle.starting.specs.Start.{start_of}
use Rattle.history.specs.Past.{Event, after_write_off, off_in, wrote_off_in, taken_of, missing_in}
use Rattle.history.specs.Segment.{Fits}
use Rattle.history.specs.Histories.{Reached}
use Rattle.history.proofs.HoldsLaws.{reached_holds, off_answer_lem}
use Rattle.history.proofs.ListingLaws.{segment_good, fits_here}
use Rattle.history.specs.Machine.{LowestRun}

-- no run is there exactly when the lowest is none
no_runs : (rs : List Run) → ltb 0 (length rs) ≡ false → lowest rs ≡ refused_no_gap
no_runs [] e = refl
no_runs (r ∷ rs) e = absurd (true≢false (sym (lt-ltb 0 (length (r ∷ rs)) (omega arith)) ∙ e))

some_runs : (rs : List Run) → lowest rs ≡ refused_no_gap → ltb 0 (length rs) ≡ false
some_runs [] e = refl
some_runs (r ∷ rs) e = absurd (let z : ◌≡◌ {A = ℕ} 0 1 = cc in omega arith)

module _ {starts : List ℕ} {lent : Lent} {past : List Event} (r : Reached starts lent past) (letter i : ℕ) (s : segment_of lent.lists.contracts letter ≡ some i) where
  abbrev start : ℕ
  start = start_of starts i

  -- ---- a run is removed

  module _ (first last : ℕ) (lent' : Lent) (p : WroteOffRun lent letter (run_told first last) lent') where
    abbrev here : Gaps
    here = gaps_of (gap_row_of lent.rows i)

    fits : Fits start (taken_of i start past) (wrote_off_in i past) here
    fits = (reached_holds r).gaps_fit i (segment_has lent.lists.contracts letter i s).0

    up_to_next : (n : ℕ) → n ≤ last + 1 → missing_in i start past n ≡ names (first to last) n
    up_to_next n h = sym (fits.missing_is n) ∙ wrote_off_lowest here fits.sound first last (off_answer_lem first last p i s) n h

    -- the answer is the lowest run of the missing numbers
    pub off_lowest : LowestRun (missing_in i start past) first last
    off_lowest =
        let proper : first ≤ last = wrote_off_proper here fits.sound first last (off_answer_lem first last p i s) in
        record {
          ascending = proper;
          all_held = λ n h l. up_to_next n (omega arith) ∙ names_in (first to last) n h l;
          none_below = λ n h. up_to_next n (omega arith) ∙ names_below (first to last) n h;
          ends = up_to_next (suc last) (omega arith) ∙ names_above (first to last) (suc last) (omega arith);
        }

  -- ---- none is removed

  abbrev runs : List Run
  runs = (gaps_of_letter lent letter).runs

  abbrev some_gap : Rule
  some_gap = record { holds = ltb 0 (length runs); refusal = NoGap }

  -- 17 is all that a write-off of a listed segment can be refused with
  pub only_none : (refusal : Refusal) (lent' : Lent) → WroteOffRun lent letter (Err refusal) lent' → refusal ≡ NoGap
  unfolding write_off_rules
  only_none refusal lent' p =
      let broken = (off_refusal_lem refusal p).0 in
      ⊎_elim (λ (h : ltb 0 (length runs) ≡ true). let held = last_holds (segment_rules lent letter) some_gap (segment_good r letter i s) h in absurd (clash (cc)))
      (λ (h : ltb 0 (length runs) ≡ false). let none_left = last_broken (segment_rules lent letter) some_gap (segment_good r letter i s) h in cc)
      (either (ltb 0 (length runs)))

  -- 17 exactly when no number is missing
  pub off_none : (answer : WrittenOff) (lent' : Lent) → WroteOffRun lent letter answer lent'
      → answer ≡ Err NoGap ↔ ((n : ℕ) → missing_in i start past n ≡ false)
  unfolding write_off_rules write_off_answer
  off_none answer lent' p = (none_missing, none_there)
    where
      f : Fits start (taken_of i start past) (wrote_off_in i past) (gaps_of_letter lent letter)
      f = fits_here r letter i s

      none_missing : answer ≡ Err NoGap → (n : ℕ) → missing_in i start past n ≡ false
      none_missing e n =
          let broken : first_broken (write_off_rules lent letter) ≡ some NoGap = (off_refusal_lem NoGap (subst (λ (a : WrittenOff). WroteOffRun lent letter a lent') e p)).0 in
          ⊎_elim
          (λ (h : ltb 0 (length runs) ≡ true). let held : first_broken (write_off_rules lent letter) ≡ none = last_holds (segment_rules lent letter) some_gap (segment_good r letter i s) h in absurd (clash (cc)))
          (λ (h : ltb 0 (length runs) ≡ false). sym (f.missing_is n) ∙ (no_gap_exactly f.sound).0 (no_runs runs h) n)
          (either (ltb 0 (length runs)))

      none_there : ((n : ℕ) → missing_in i start past n ≡ false) → answer ≡ Err NoGap
      none_there h =
          let empty : ltb 0 (length runs) ≡ false = some_runs runs ((no_gap_exactly f.sound).1 (λ n. f.missing_is n ∙ h n)) in
          let broken : first_broken (write_off_rules lent letter) ≡ some NoGap = last_broken (segment_rules lent letter) some_gap (segment_good r letter i s) empty in
          written_off_told answer (Err NoGap)
          (p.answers ∙ ap (λ (o : Option Refusal). answered o (run_values (lowest_run (gaps_of_letter lent letter)))) broken)

  -- ---- what is written off afterwards

  pub off_after : (first last j n : ℕ)
      → wrote_off_in j (after_write_off lent.lists letter (run_told first last) past) n ≡ eqb i j && names (first to last) n || wrote_off_in j past n
  off_after first last j n = ap (λ (o : Option ℕ). wrote_off_in j (off_in o (first to last) past) n) s
