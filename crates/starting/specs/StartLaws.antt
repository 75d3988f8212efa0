-- Laws of a start: when it is refused, and what an accepted one leaves.
use Rattle.std.specs.Prelude.{ℕ, zero, suc, ◌+◌, ◌*◌, ◌≤◌, ◌<◌, ◌≡◌, refl, true, false, ◌↔◌, List, ◌++◌, length, drop, replicate}
use Rattle.std.proofs.Common.{ap, sym, ◌∙◌, ⊎_elim, append_assoc, arith, add-one, length-append}
use Rattle.std.proofs.Math.Option.{none, some}
use borrow.Author.Tests.{le-leb, ltb-true, lt-ltb}
use Rattle.std.proofs.Math.Dec.{ltb}
use Rattle.laws.specs.Rules.{first_broken}
use Rattle.laws.specs.RulesLaws.{none_hold}
use Rattle.laws.specs.Order.{order}
use Rattle.files.specs.BelowLaws.{each_passes, all_pass}
use Rattle.files.specs.File.{segments_of}
use Rattle.contracts.specs.SoundTests.{sound}
use Rattle.contracts.specs.SoundLaws.{sound_exact}
use Rattle.pairs.specs.Lists.{Lists}
use Rattle.pairs.specs.SpreadTests.{spreads_sound}
use Rattle.pairs.specs.SpreadLaws.{spreads_exact}
use Rattle.sequence.specs.Changes.{begun}
use Rattle.sequence.specs.RowLaws.{laid_length}
use Rattle.state.specs.declared.refusal.Refusal.TheVariants.{Numbering, List as ListOf}
use Rattle.state.specs.Refusals.{Rule}
use Rattle.state.specs.Memory.{gap_row_cells, gap_rows_wanted, gap_row_of}
use Rattle.state.specs.MemoryRows.{with_gap_row}
use Rattle.state.specs.State.{memory_rules}
use Rattle.slots.specs.Slots.{records_wanted}
use Rattle.state.specs.RowsLaws.{row_laid, row_behind}
use Rattle.state.specs.StateLaws.{memory_lent}
use Rattle.starting.specs.Start.{start_of, each_starts, start_rules, GoodStart}
use Rattle.starting.specs.StartActs.{started_row, started_rows}

module _ (lists : Lists) (starts : List ℕ) (rows records : ℕ) where
  abbrev numbers : Rule
  numbers = record { holds = each_starts (segments_of lists.contracts) starts; refusal = Numbering 0 }

  pub unsound_list : sound lists.contracts ≡ false → first_broken (start_rules lists starts rows records) ≡ some ListOf
  unfolding start_rules
  unsound_list h = rw h

  pub unsound_spreads : sound lists.contracts ≡ true → spreads_sound lists.contracts lists.pairs ≡ false → first_broken (start_rules lists starts rows records) ≡ some ListOf
  unfolding start_rules
  unsound_spreads h s = rw (h, s)

  module _ (h : sound lists.contracts ≡ true) (s : spreads_sound lists.contracts lists.pairs ≡ true) where
    pub no_start : each_starts (segments_of lists.contracts) starts ≡ false → first_broken (start_rules lists starts rows records) ≡ some (Numbering 0)
    unfolding start_rules
    no_start n = rw (h, s, n)

    pub memory_decides : each_starts (segments_of lists.contracts) starts ≡ true → first_broken (start_rules lists starts rows records) ≡ first_broken (memory_rules lists rows records)
    unfolding start_rules
    memory_decides n = rw (h, s, n)

  is_good : first_broken (start_rules lists starts rows records) ≡ none → GoodStart lists starts rows records
  unfolding start_rules each_starts
  is_good e =
      let h = none_hold (start_rules lists starts rows records) e in
      let room = memory_lent lists rows records h.1.1.1 in
      let listed = (sound_exact lists.contracts).0 h.0 in
      record {
        lists_sound = record { contracts_sound = listed; pairs_sound = (spreads_exact lists.contracts lists.pairs listed).0 h.1.0 };
        started = λ i l. ltb-true 0 (start_of starts i) (each_passes (λ j. ltb 0 (start_of starts j)) (segments_of lists.contracts) h.1.1.0 i l);
        rows_lent = room.0;
        records_lent = room.1;
      }

  good_holds : GoodStart lists starts rows records → first_broken (start_rules lists starts rows records) ≡ none
  unfolding each_starts
  good_holds good =
      memory_decides ((sound_exact lists.contracts).1 good.lists_sound.contracts_sound)
      ((spreads_exact lists.contracts lists.pairs good.lists_sound.contracts_sound).1 good.lists_sound.pairs_sound)
      (all_pass (λ j. ltb 0 (start_of starts j)) (segments_of lists.contracts) (λ i h. lt-ltb 0 (start_of starts i) (good.started i h)))
      ∙ rw (le-leb (gap_rows_wanted lists) rows good.rows_lent, le-leb (records_wanted lists) records good.records_lent)

  -- a start is accepted exactly when it is good
  pub start_exact : first_broken (start_rules lists starts rows records) ≡ none ↔ GoodStart lists starts rows records
  start_exact = (is_good, good_holds)

-- ---- the rows that a start leaves

pub started_length : (number : ℕ) → length (started_row number) ≡ gap_row_cells
started_length number = laid_length (replicate gap_row_cells 0) (begun number) refl (omega arith)

module _ (starts : List ℕ) where
  pub started_lengths : (n : ℕ) → length (started_rows n starts) ≡ gap_row_cells * n
  started_lengths zero = refl
  started_lengths (suc n) =
      simp (length-append, started_lengths n, started_length (start_of starts n)) (omega arith)

  -- one segment more
  pub started_more : (n : ℕ) (rows : List ℕ)
      → with_gap_row (started_rows n starts ++ drop (gap_row_cells * n) rows) n (started_row (start_of starts n))
      ≡ started_rows (n + 1) starts ++ drop (gap_row_cells * (n + 1)) rows
  started_more n rows =
      let end : gap_row_cells * n + gap_row_cells ≡ gap_row_cells * (n + 1) = omega arith in
      row_laid (started_rows n starts) rows (started_row (start_of starts n)) n (started_lengths n)
      ∙ ap (λ (k : ℕ). started_rows (suc n) starts ++ drop k rows) end
      ∙ ap (λ (k : ℕ). started_rows k starts ++ drop (gap_row_cells * (n + 1)) rows) (sym (add-one n))

  -- each segment's row
  pub started_row_lem : (n : ℕ) (rest : List ℕ) (i : ℕ) → i < n → gap_row_of (started_rows n starts ++ rest) i ≡ started_row (start_of starts i)
  started_row_lem zero rest i h = absurd (omega arith)
  started_row_lem (suc n) rest i h =
      let row : List ℕ = started_row (start_of starts n) in
      ⊎_elim (λ (l : n ≤ i).
      let here : i ≡ n = omega arith in
      rw here (row_behind (started_rows n starts) row rest n (started_lengths n) (started_length (start_of starts n))))
      (λ (l : i < n). rw (append_assoc (started_rows n starts) row rest) (started_row_lem n (row ++ rest) i l))
      (order n i)
