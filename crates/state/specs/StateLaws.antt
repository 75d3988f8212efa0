-- Laws of the state: the cells wanted, when its checks refuse nothing, and what a good state gives.
use Rattle.std.specs.Prelude.{ℕ, ◌+◌, ◌*◌, ◌≤◌, ◌<◌, ◌≡◌, refl, true, false, ◌↔◌, List, [], ◌∷◌, ◌++◌, length, Ok, Err, Option as Found, Some, None, ok_or}
use Rattle.std.proofs.Common.{ap, ap₂, sym, ◌∙◌, true≢false, arith, le-leb, leb-true}
use Rattle.std.proofs.Math.Option.{Option, none, some}
use Rattle.laws.specs.Rules.{first_broken, Hold}
use Rattle.laws.specs.RulesLaws.{none_hold, hold_none, front_broken, last_holds, last_broken, last_held}
use Rattle.files.specs.File.{sum_below, segments_of, count_at, contracts_of}
use Rattle.files.specs.BelowLaws.{each_passes, all_pass, sum_same}
use Rattle.files.specs.FileLaws.{before_sum}
use Rattle.contracts.specs.HeaderLaws.{header_exact}
use Rattle.lookup.specs.Answers.{place_of}
use Rattle.lookup.specs.Lookup.{segment_of}
use Rattle.lookup.specs.LookupLaws.{segment_has}
use Rattle.contracts.specs.SoundTests.{header_sound}
use Rattle.pairs.specs.SpreadTests.{spread_header_sound}
use Rattle.pairs.specs.SpreadLaws.{spread_header_exact}
use Rattle.forms.specs.declared.forms.Item.TheVariants.{Contract, Pair}
use Rattle.pairs.specs.Lists.{Lists}
use Rattle.sequence.specs.RowLaid.{sound_gap_row}
use Rattle.head.specs.Tests.{is_some}
use Rattle.state.specs.declared.refusal.Refusal.{Refusal}
use Rattle.state.specs.declared.refusal.Refusal.TheVariants.{Code, List as ListOf, State}
use Rattle.state.specs.Refusals.{Rule}
use Rattle.state.specs.Memory.{Lent, gap_row_cells, gap_rows_wanted, gap_row_of}
use Rattle.state.specs.MemoryRows.{gap_rows_sound}
use Rattle.state.specs.AnswersLaws.{accepted_by, refused_by_lem}
use Rattle.state.specs.State.{state_rules, memory_rules, segment_rules, segment_values, Asks}
use Rattle.slots.specs.Slots.{records_wanted, item_cells}
use Rattle.state.specs.GoodState.{GoodState}

-- ---- the cells wanted

-- 01 "What may be asked": "at most 1,024 a gap row and 2,048 a record": the two records of a contract together have no more, nor have a pair's
pub cells_few : (gap_row_cells ≤ 1024) × (item_cells Contract ≤ 2048) × (item_cells Pair ≤ 2048)
cells_few = (omega arith, omega arith, omega arith)

-- the counts of a file alone: of its segments, and of each the keys
abbrev SameCounts : List ℕ → List ℕ → Type 0
SameCounts file other = (segments_of file ≡ segments_of other) × ((i : ℕ) → i < segments_of file → count_at file i ≡ count_at other i)

same_keys : (file other : List ℕ) → SameCounts file other → contracts_of file ≡ contracts_of other
same_keys file other counts =
    before_sum file (segments_of file) (omega arith)
    ∙ sum_same (count_at file) (count_at other) (segments_of file) counts.1
    ∙ ap (λ (n : ℕ). sum_below n (count_at other)) counts.0
    ∙ sym (before_sum other (segments_of other) (omega arith))

-- 01 "What may be asked": "a number that the lists' counts alone fix": lists of the same counts want the same
pub counts_fix : (lists other : Lists) → SameCounts lists.contracts other.contracts → SameCounts lists.pairs other.pairs
    → (gap_rows_wanted lists ≡ gap_rows_wanted other) × (records_wanted lists ≡ records_wanted other)
counts_fix lists other same pairs = (
  ap (λ (n : ℕ). gap_row_cells * n) same.0,
  ap₂ (λ (n m : ℕ). item_cells Contract * n + item_cells Pair * m) (same_keys lists.contracts other.contracts same) (same_keys lists.pairs other.pairs pairs),
)

-- 15 in its two places
pub memory_lent : (lists : Lists) (rows records : ℕ) → Hold (memory_rules lists rows records) → (gap_rows_wanted lists ≤ rows) × (records_wanted lists ≤ records)
memory_lent lists rows records h = (leb-true (gap_rows_wanted lists) rows h.0, leb-true (records_wanted lists) records h.1.0)

pub is_some_lem : (o : Option ℕ) → is_some o ≡ true → (i : ℕ) × (o ≡ some i)
is_some_lem none e = absurd (true≢false (sym e))
is_some_lem (some i) e = (i, refl)

one_value : (o : Option ℕ) (i : ℕ) → i ∷ [] ≡ segment_values o → o ≡ some i
one_value none i e = cc
one_value (some j) i e = cc

-- a segment that may be asked for
abbrev pub AskedFor : Lent → ℕ → ℕ → Type 0
AskedFor lent letter i = (first_broken (segment_rules lent letter) ≡ none) × (segment_of lent.lists.contracts letter ≡ some i)

module _ (lent : Lent) where
  abbrev soundness : Rule
  soundness = record { holds = gap_rows_sound (segments_of lent.lists.contracts) lent.rows; refusal = State }

  abbrev memory : List Rule
  memory = memory_rules lent.lists (length lent.rows) (length lent.records)

  abbrev behind : List Rule
  behind = memory ++ (soundness ∷ [])

  -- ---- the first broken rule, check by check

  pub list_broken : header_sound lent.lists.contracts ≡ false → first_broken (state_rules lent) ≡ some ListOf
  list_broken h = rw h

  pub spreads_broken : header_sound lent.lists.contracts ≡ true → spread_header_sound lent.lists.contracts lent.lists.pairs ≡ false
      → first_broken (state_rules lent) ≡ some ListOf
  spreads_broken h s = rw (h, s)

  module _ (h : header_sound lent.lists.contracts ≡ true) (s : spread_header_sound lent.lists.contracts lent.lists.pairs ≡ true) where
    header_holds : first_broken (state_rules lent) ≡ first_broken behind
    header_holds = rw (h, s)

    pub memory_broken : (r : Refusal) → first_broken memory ≡ some r → first_broken (state_rules lent) ≡ some r
    memory_broken r e = header_holds ∙ front_broken memory (soundness ∷ []) r e

    pub row_broken : first_broken memory ≡ none → gap_rows_sound (segments_of lent.lists.contracts) lent.rows ≡ false → first_broken (state_rules lent) ≡ some State
    row_broken e s = header_holds ∙ last_broken memory soundness e s

    pub state_holds : first_broken memory ≡ none → gap_rows_sound (segments_of lent.lists.contracts) lent.rows ≡ true → first_broken (state_rules lent) ≡ none
    state_holds e s = header_holds ∙ last_holds memory soundness e s

  -- ---- 16, 15 and 18 are not given exactly where the state is good

  pub state_exact : Hold (state_rules lent) ↔ GoodState lent
  state_exact = (
    (λ h. record {
      headers =
          record {
            contracts_header = (header_exact lent.lists.contracts).0 h.0;
            pairs_header = (spread_header_exact lent.lists.contracts lent.lists.pairs).0 h.1.0;
          };
      rows_lent = leb-true (gap_rows_wanted lent.lists) (length lent.rows) h.1.1.0;
      records_lent = leb-true (records_wanted lent.lists) (length lent.records) h.1.1.1.0;
      rows_sound = each_passes (λ i. sound_gap_row (gap_row_of lent.rows i)) (segments_of lent.lists.contracts) h.1.1.1.1.0;
    }),
    (λ g. (
      (header_exact lent.lists.contracts).1 g.headers.contracts_header,
      (
        (spread_header_exact lent.lists.contracts lent.lists.pairs).1 g.headers.pairs_header,
        (
          le-leb (gap_rows_wanted lent.lists) (length lent.rows) g.rows_lent,
          (
            le-leb (records_wanted lent.lists) (length lent.records) g.records_lent,
            (all_pass (λ i. sound_gap_row (gap_row_of lent.rows i)) (segments_of lent.lists.contracts) g.rows_sound, tt),
          ),
        ),
      ),
    )),
  )

  is_good : first_broken (state_rules lent) ≡ none → GoodState lent
  is_good e = state_exact.0 (none_hold (state_rules lent) e)

  pub good_unrefused : GoodState lent → first_broken (state_rules lent) ≡ none
  good_unrefused good = hold_none (state_rules lent) (state_exact.1 good)

  -- ---- the segment that is asked for

  module _ (letter : ℕ) where
    abbrev listed : Rule
    listed = record { holds = is_some (segment_of lent.lists.contracts letter); refusal = Code 0 }

    pub state_broken : (r : Refusal) → first_broken (state_rules lent) ≡ some r → first_broken (segment_rules lent letter) ≡ some r
    unfolding segment_rules
    state_broken r e = front_broken (state_rules lent) (listed ∷ []) r e

    pub letter_broken : first_broken (state_rules lent) ≡ none → segment_of lent.lists.contracts letter ≡ none → first_broken (segment_rules lent letter) ≡ some (Code 0)
    unfolding segment_rules
    letter_broken e n = last_broken (state_rules lent) listed e (rw n)

    pub segment_holds : first_broken (state_rules lent) ≡ none → (i : ℕ) → segment_of lent.lists.contracts letter ≡ some i → first_broken (segment_rules lent letter) ≡ none
    unfolding segment_rules
    segment_holds e i s = last_holds (state_rules lent) listed e (rw s)

    pub state_held : first_broken (segment_rules lent letter) ≡ none → GoodState lent
    unfolding segment_rules
    state_held e = is_good (last_held (state_rules lent) listed e).0

    pub letter_listed : first_broken (segment_rules lent letter) ≡ none → is_some (segment_of lent.lists.contracts letter) ≡ true
    unfolding segment_rules
    letter_listed e = (last_held (state_rules lent) listed e).1

    -- what is answered of it

    pub asks_segment : first_broken (segment_rules lent letter) ≡ none → (i : ℕ) → segment_of lent.lists.contracts letter ≡ some i → Asks lent letter (Ok i)
    asks_segment e i s = rw (e, s)

    pub asks_refused : (r : Refusal) → first_broken (segment_rules lent letter) ≡ some r → Asks lent letter (Err r)
    asks_refused r e = rw e

    pub asks_listed : first_broken (state_rules lent) ≡ none → (listed : Found ℕ) → place_of listed ≡ segment_of lent.lists.contracts letter
        → Asks lent letter (ok_or listed (Code 0))
    asks_listed e (Some i) s = asks_segment (segment_holds e i (sym s)) i (sym s)
    asks_listed e None s = asks_refused (Code 0) (letter_broken e (sym s))

    pub asked_segment : (i : ℕ) → Asks lent letter (Ok i) → AskedFor lent letter i
    asked_segment i a =
        let t = accepted_by (first_broken (segment_rules lent letter)) (segment_values (segment_of lent.lists.contracts letter)) (i ∷ []) a in
        (t.0, one_value (segment_of lent.lists.contracts letter) i t.1)

    pub asked_refused : (r : Refusal) → Asks lent letter (Err r) → first_broken (segment_rules lent letter) ≡ some r
    asked_refused r a = refused_by_lem (first_broken (segment_rules lent letter)) (segment_values (segment_of lent.lists.contracts letter)) r a

    -- the row of a segment that is asked for is there, and sound
    module _ (e : first_broken (segment_rules lent letter) ≡ none) (i : ℕ) (s : segment_of lent.lists.contracts letter ≡ some i) where
      inside : i < segments_of lent.lists.contracts
      inside = (segment_has lent.lists.contracts letter i s).0

      pub row_there : gap_row_cells * i + gap_row_cells ≤ length lent.rows
      row_there = let room = (state_held e).rows_lent in let h = inside in omega arith

      pub row_sound : sound_gap_row (gap_row_of lent.rows i) ≡ true
      row_sound = (state_held e).rows_sound i inside
