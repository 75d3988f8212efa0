-- Demand 3, "After any sequence of calls from a fresh start, the gap list names exactly the missing numbers".
use Rattle.std.specs.Prelude.{ℕ, suc, ◌*◌, ◌≤◌, ◌<◌, ◌≡◌, refl, true, List, [], ◌∷◌, length, Err}
use Rattle.std.proofs.Common.{sym, ◌∙◌, ⊎_elim, add-one, arith}
use Rattle.std.proofs.Math.Path.{ap, ap₂}
use Rattle.std.proofs.Math.Option.{Option, none, some}
use borrow.Author.Tests.{le-leb, lt-leb}
use Rattle.std.proofs.Math.Dec.{leb}
use Rattle.laws.specs.Rules.{first_broken}
use Rattle.laws.specs.RulesLaws.{last_holds, last_broken}
use Rattle.laws.specs.Order.{three, climbs}
use Rattle.lookup.specs.Lookup.{segment_of}
use Rattle.lookup.specs.LookupLaws.{segment_has}
use Rattle.sequence.specs.Runs.{Run, run, names, missing}
use Rattle.sequence.specs.RunsLaws.{named}
use Rattle.sequence.specs.Gaps.{Gaps, wanted}
use Rattle.sequence.specs.Row.{pairs}
use Rattle.sequence.specs.RowLaid.{flat}
use Rattle.sequence.specs.Sound.{SoundGaps}
use Rattle.sequence.specs.SoundLaws.{sound_apart}
use Rattle.listing.specs.ListPromises.{ListedRuns}
use Rattle.listing.specs.ListPromisesLaws.{answers_runs, runs_in_cells}
use Rattle.listing.specs.ListActsLaws.{gaps_are}
use Rattle.listing.specs.ListActs.{list_values}
use Rattle.listing.specs.ListRules.{gaps_of_letter, list_rules}
use Rattle.state.specs.Answers.{answered, listed_numbers, Listed, runs_told}
use Rattle.state.specs.AnswersLaws.{listed_told}
use Rattle.starting.specs.Start.{start_of}
use Rattle.state.specs.Memory.{Lent}
use Rattle.state.specs.State.{segment_rules}
use Rattle.state.specs.StateLaws.{good_unrefused, segment_holds}
use Rattle.state.specs.declared.refusal.Refusal.{Refusal}
use Rattle.state.specs.declared.refusal.Refusal.TheVariants.{Memory}
use Rattle.history.specs.Past.{Event, wrote_off_in, taken_of, highest_in, runs_standing}
use Rattle.history.specs.Segment.{Fits}
use Rattle.history.proofs.SegmentLaws.{fits_standing}
use Rattle.history.specs.Histories.{Reached}
use Rattle.history.proofs.HoldsLaws.{reached_holds}
use Rattle.history.specs.Exactly.{NamesMissing}
use Rattle.history.specs.Machine.{runs_there}

pairs_flat : (rs : List Run) → pairs (flat rs) ≡ rs
pairs_flat [] = refl
pairs_flat (r ∷ rs) = ap (λ (l : List Run). r ∷ l) (pairs_flat rs)

-- runs that ascend and don't touch name no number twice
module _ {g : Gaps} (s : SoundGaps g) where
  abbrev Before : ℕ → ℕ → Type 0
  Before i j = ((run g.runs i).last < (run g.runs j).first) × ((run g.runs j).first ≤ (run g.runs j).last)

  before : (i j : ℕ) → i < j → j < length g.runs → Before i j
  before =
      climbs Before (λ a b c p q. (omega arith, q.1)) (length g.runs)
      (λ k h.
      let next = s.ascending k (omega arith) in
      let own = s.proper (suc k) (omega arith) in
      rw (add-one k) (omega arith, own))

  pub named_once : (n i j : ℕ) → i < length g.runs → j < length g.runs → names (run g.runs i) n ≡ true → names (run g.runs j) n ≡ true → i ≡ j
  named_once n i j h l e f =
      let in_i = named (run g.runs i) n e in
      let in_j = named (run g.runs j) n f in
      ⊎_elim (λ (o : i < j). let b = before i j o l in absurd (omega arith))
      (⊎_elim (λ (o : j < i). let b = before j i o h in absurd (omega arith)) (λ (o : i ≡ j). o))
      (three i j)

-- ---- the theorem

module _ {starts : List ℕ} {lent : Lent} {past : List Event} (r : Reached starts lent past) (letter i : ℕ) (s : segment_of lent.lists.contracts letter ≡ some i) where
  abbrev start : ℕ
  start = start_of starts i

  pub segment_good : first_broken (segment_rules lent letter) ≡ none
  segment_good = segment_holds lent letter (good_unrefused lent (reached_holds r).state) i s

  pub fits_here : Fits start (taken_of i start past) (wrote_off_in i past) (gaps_of_letter lent letter)
  fits_here = rw (gaps_are lent letter segment_good i s) ((reached_holds r).gaps_fit i (segment_has lent.lists.contracts letter i s).0)

  -- as many runs stand as the missing numbers make
  pub runs_are : length (gaps_of_letter lent letter).runs ≡ runs_standing i start past
  runs_are = fits_standing start (taken_of i start past) (wrote_off_in i past) (gaps_of_letter lent letter) fits_here

  -- "After any sequence of calls from a fresh start, the gap list names exactly the missing numbers"
  pub gaps_exactly : (cells : List ℕ) (highest runs : ℕ) (cells' : List ℕ) → ListedRuns lent letter cells (runs_told highest runs) cells'
      → NamesMissing i start past highest runs cells'
  gaps_exactly cells highest runs cells' p =
      let g : Gaps = gaps_of_letter lent letter in
      let said = answers_runs highest runs p in
      let put : runs_there runs cells' ≡ g.runs = ap pairs (runs_in_cells highest runs p).0 ∙ pairs_flat g.runs in
      let f = fits_here in
      record {
        highest_taken = said.0 ∙ f.highest_is;
        as_many = ap length put ∙ sym said.1;
        ascending = rw (put, said.0, ← f.start_is) (sound_apart f.sound);
        each_once = λ n a b h l. rw put (named_once f.sound n a b (rw (← said.1) h) (rw (← said.1) l));
        exactly = λ n. ap (λ (rs : List Run). missing rs n) put ∙ f.missing_is n;
      }

  -- ---- what is answered: highest and the number of runs where the cells are enough, else 15

  wanted_are : wanted (gaps_of_letter lent letter).runs ≡ 2 * runs_standing i start past
  wanted_are = ap (λ (n : ℕ). 2 * n) runs_are

  module _ (cells : List ℕ) (answer : Listed) (cells' : List ℕ) (p : ListedRuns lent letter cells answer cells') where
    abbrev told : Option Refusal → List ℕ
    told o = answered o (list_values (gaps_of_letter lent letter))

    pub runs_answered_lem : 2 * runs_standing i start past ≤ length cells → answer ≡ runs_told (highest_in i start past) (runs_standing i start past)
    unfolding list_rules
    runs_answered_lem h =
        let g : Gaps = gaps_of_letter lent letter in
        let room = le-leb (wanted g.runs) (length cells) (rw wanted_are h) in
        let holds = last_holds (segment_rules lent letter) (record { holds = leb (wanted g.runs) (length cells); refusal = Memory (wanted g.runs) }) segment_good room in
        let values : 0 ∷ list_values g ≡ listed_numbers (runs_told (highest_in i start past) (runs_standing i start past)) = ap₂ (λ (a b : ℕ). 0 ∷ a ∷ b ∷ []) fits_here.highest_is runs_are in
        listed_told answer (runs_told (highest_in i start past) (runs_standing i start past)) (p.answers ∙ ap told holds ∙ values)

    pub runs_refused : length cells < 2 * runs_standing i start past → answer ≡ Err (Memory (2 * runs_standing i start past))
    unfolding list_rules
    runs_refused h =
        let g : Gaps = gaps_of_letter lent letter in
        let short = lt-leb (wanted g.runs) (length cells) (rw wanted_are h) in
        let broken = last_broken (segment_rules lent letter) (record { holds = leb (wanted g.runs) (length cells); refusal = Memory (wanted g.runs) }) segment_good short in
        listed_told answer (Err (Memory (2 * runs_standing i start past)))
        (p.answers ∙ ap told broken ∙ ap (λ (n : ℕ). listed_numbers (Err (Memory n))) wanted_are)
