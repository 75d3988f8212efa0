-- The numbers of a row up to a run and from a run on, and what stores at a run's place make of the row.
use Rattle.std.proofs.Common.{ℕ, suc, ◌+◌, ◌-◌, ◌*◌, ◌≤◌, ◌<◌, ◌≡◌, refl, sym, ap, ap₂, ◌∙◌, true, List, [], ◌∷◌, ◌++◌, append_assoc, le_of_lt, arith, length, get_or, set, take, drop, length-append, length-drop, take-append-drop, take_at, drop_at, drop-cons, length-take-le, take-suc}
use lib.Seq.{get_or_at, append_snoc}
use Rattle.laws.specs.Moves.{stores_at}
use Rattle.sequence.specs.Runs.{Run, ◌to◌, run}
use Rattle.sequence.specs.Gaps.{most}
use Rattle.sequence.specs.Changes.{with_runs}
use Rattle.sequence.specs.Row.{cells, count, gaps_of, runs_of}
use Rattle.sequence.specs.RowLaid.{cell, flat, laid, sound_gap_row}
use Rattle.sequence.specs.RowLaws.{length_flat, flat_append, length_runs, count_runs, parts, sound_row_exactly}
use Rattle.sequence.specs.Steps.{moved, instead, replaced, divided, Stands}

-- the four numbers in front of others, and of runs
abbrev behind_head : List ℕ → List ℕ → List ℕ
behind_head row ns = (gaps_of row).start ∷ (gaps_of row).highest ∷ count row ∷ get_or row 3 0 ∷ ns

abbrev fronted : List ℕ → List Run → List ℕ
fronted row rs = behind_head row (flat rs)

abbrev rest : List ℕ → List ℕ
rest row = drop (cell (length (runs_of row))) row

next_run : (i : ℕ) → cell i + 2 ≡ cell (suc i)
next_run i = omega arith

module _ (row : List ℕ) (e : length row ≡ cells) where
  pub few_runs : length (runs_of row) ≤ most
  few_runs = let n = length_runs row e in omega arith

  pub stands_at : (i : ℕ) → i < length (runs_of row) → Stands row i
  stands_at i h = let f = few_runs in record { wide = e; stands = h; within = omega arith }

  module _ (i : ℕ) (h : i ≤ length (runs_of row)) where
    split_runs : row ≡ fronted row (take i (runs_of row)) ++ (flat (drop i (runs_of row)) ++ rest row)
    split_runs =
        parts row e
        ∙ ap (behind_head row)
        (ap (λ (rs : List Run). flat rs ++ rest row) (sym (take-append-drop i (runs_of row)))
        ∙ simp (flat_append, append_assoc))

    length_fronted : length (fronted row (take i (runs_of row))) ≡ cell i
    length_fronted = simp (length_flat, length-take-le i (runs_of row) h) (omega arith)

    take_runs : take (cell i) row ≡ fronted row (take i (runs_of row))
    take_runs = ap (take (cell i)) split_runs ∙ take_at _ _ (cell i) length_fronted

    drop_runs : drop (cell i) row ≡ flat (drop i (runs_of row)) ++ rest row
    drop_runs = ap (drop (cell i)) split_runs ∙ drop_at (fronted row (take i (runs_of row))) _ (cell i) length_fronted

  module _ (i : ℕ) (h : i ≤ length (runs_of row)) where
    runs_from : (n : ℕ) → n ≡ 2 * (length (runs_of row) - i) → take n (drop (cell i) row) ≡ flat (drop i (runs_of row))
    runs_from n m =
        ap (take n) (drop_runs i h)
        ∙ take_at (flat (drop i (runs_of row))) (rest row) n (simp (length_flat, length-drop) (sym m))

  -- the numbers of a run
  module _ (i : ℕ) (h : i < length (runs_of row)) where
    at_run : row ≡ fronted row (take i (runs_of row)) ++ ((run (runs_of row) i).first ∷ (run (runs_of row) i).last ∷ (flat (drop (suc i) (runs_of row)) ++ rest row))
    at_run =
        split_runs i (le_of_lt h)
        ∙ ap (λ (rs : List Run). fronted row (take i (runs_of row)) ++ (flat rs ++ rest row)) (drop-cons (runs_of row) i (0 to 0) h)

    pub first_at : get_or row (cell i) 0 ≡ (run (runs_of row) i).first
    first_at = ap (λ (ns : List ℕ). get_or ns (cell i) 0) at_run ∙ get_or_at (fronted row (take i (runs_of row))) _ _ 0 (cell i) (length_fronted i (le_of_lt h))

    pub last_at : get_or row (cell i + 1) 0 ≡ (run (runs_of row) i).last
    last_at =
        ap (λ (ns : List ℕ). get_or ns (cell i + 1) 0) (at_run ∙ sym (append_snoc (fronted row (take i (runs_of row))) (run (runs_of row) i).first _))
        ∙ get_or_at (fronted row (take i (runs_of row)) ++ ((run (runs_of row) i).first ∷ [])) _ _ 0 (cell i + 1) (simp (length-append, length_fronted i (le_of_lt h)))

  -- a row with other runs instead of one, number by number
  module _ (i : ℕ) (others : List Run) (m : ℕ) (n : length (instead (runs_of row) i others) ≡ m) where
    replaced_as : replaced row i others ≡ (gaps_of row).start ∷ (gaps_of row).highest ∷ m ∷ get_or row 3 0 ∷ (flat (take i (runs_of row)) ++ (flat others ++ (flat (drop (suc i) (runs_of row)) ++ drop (cell m) row)))
    unfolding laid
    replaced_as = rw n (simp (flat_append, append_assoc))

  pub length_instead : (i : ℕ) (others : List Run) → i < length (runs_of row) → length (instead (runs_of row) i others) + 1 ≡ length (runs_of row) + length others
  length_instead i others h = simp (length-append, length-take-le i (runs_of row) (le_of_lt h), length-drop) (omega arith)

  pub put_row : (i a b : ℕ) → i < length (runs_of row) → count row ≤ most → set (set row (cell i) a) (cell i + 1) b ≡ replaced row i (a to b ∷ [])
  put_row i a b h c =
      let n = count_runs row e c in
      let l = length_instead i (a to b ∷ []) h in
      ap (λ (ns : List ℕ). set (set ns (cell i) a) (cell i + 1) b) (at_run i h)
      ∙ stores_at (fronted row (take i (runs_of row))) _ _ a b _ (cell i) _ (length_fronted i (le_of_lt h)) refl
      ∙ sym (replaced_as i (a to b ∷ []) (count row) (omega arith) ∙ rw n)

  -- one run more behind the others
  pub append_row : (a b : ℕ) → length (runs_of row) < most → set (set (set row (cell (length (runs_of row))) a) (cell (length (runs_of row)) + 1) b) 2 (length (runs_of row) + 1) ≡ laid row (with_runs (gaps_of row) (runs_of row ++ (a to b ∷ [])))
  unfolding laid
  append_row a b h =
      let n : ℕ = cell (length (runs_of row)) in
      let more : suc (suc n) ≡ cell (length (runs_of row) + 1) = omega arith in
      ap (λ (ns : List ℕ). set (set (set ns n a) (n + 1) b) 2 (length (runs_of row) + 1)) (parts row e ∙ ap (λ (ns : List ℕ). fronted row (runs_of row) ++ ns) (drop-cons row n 0 (omega arith) ∙ ap (λ (ns : List ℕ). get_or row n 0 ∷ ns) (drop-cons row (suc n) 0 (omega arith))))
      ∙ ap (λ (ns : List ℕ). set ns 2 (length (runs_of row) + 1)) (stores_at (fronted row (runs_of row)) _ _ a b _ n (n + 1) (simp length_flat (omega arith)) refl)
      ∙ rw more (simp (flat_append, length-append, append_assoc))

  -- a run's room is taken
  pub remove_row : (i : ℕ) → i < length (runs_of row) → set (moved row (cell i + 2) (cell i) (cell (length (runs_of row)) - (cell i + 2))) 2 (length (runs_of row) - 1) ≡ replaced row i []
  remove_row i h =
      let l = length_instead i [] h in
      let end : cell i + (cell (length (runs_of row)) - (cell i + 2)) ≡ cell (length (runs_of row) - 1) = omega arith in
      ap (λ (ns : List ℕ). set ns 2 (length (runs_of row) - 1))
      (ap₂ ◌++◌
      (ap₂ ◌++◌ (take_runs i (le_of_lt h)) (ap (λ (k : ℕ). take (cell (length (runs_of row)) - (cell i + 2)) (drop k row)) (next_run i) ∙ runs_from (suc i) h (cell (length (runs_of row)) - (cell i + 2)) (omega arith)))
      (ap (λ (k : ℕ). drop k row) end))
      ∙ ap (λ (ns : List ℕ). (gaps_of row).start ∷ (gaps_of row).highest ∷ (length (runs_of row) - 1) ∷ get_or row 3 0 ∷ ns) (append_assoc (flat (take i (runs_of row))) _ _)
      ∙ sym (replaced_as i [] (length (runs_of row) - 1) (omega arith))

  -- a run's place is given to two
  module _ (i : ℕ) (h : i < length (runs_of row)) where
    spread_as : moved row (cell i) (cell i + 2) (cell (length (runs_of row)) - (cell i))
        ≡ (fronted row (take i (runs_of row)) ++ ((run (runs_of row) i).first ∷ [])) ++ ((run (runs_of row) i).last ∷ (run (runs_of row) i).first ∷ ((run (runs_of row) i).last ∷ (flat (drop (suc i) (runs_of row)) ++ drop (cell (length (runs_of row) + 1)) row)))
    spread_as =
        let end : cell i + 2 + (cell (length (runs_of row)) - (cell i)) ≡ cell (length (runs_of row) + 1) = omega arith in
        ap₂ ◌++◌
        (ap₂ ◌++◌
        (ap (λ (k : ℕ). take k row) (next_run i)
        ∙ take_runs (suc i) h
        ∙ ap (fronted row) (take-suc (runs_of row) i (0 to 0) h)
        ∙ ap (behind_head row) (flat_append (take i (runs_of row)) (run (runs_of row) i ∷ [])))
        (runs_from i (le_of_lt h) (cell (length (runs_of row)) - cell i) (omega arith) ∙ ap flat (drop-cons (runs_of row) i (0 to 0) h)))
        (ap (λ (k : ℕ). drop k row) end)
        ∙ simp append_assoc

    pub divide_row : (end begin : ℕ) → set (set (set (moved row (cell i) (cell i + 2) (cell (length (runs_of row)) - (cell i))) (cell i + 1) end) (cell i + 2) begin) 2 (length (runs_of row) + 1)
        ≡ replaced row i (divided (run (runs_of row) i) end begin)
    divide_row end begin =
        let l = length_instead i (divided (run (runs_of row) i) end begin) h in
        ap (λ (ns : List ℕ). set (set (set ns (cell i + 1) end) (cell i + 2) begin) 2 (length (runs_of row) + 1)) spread_as
        ∙ ap (λ (ns : List ℕ). set ns 2 (length (runs_of row) + 1))
        (stores_at (fronted row (take i (runs_of row)) ++ ((run (runs_of row) i).first ∷ [])) _ _ end begin _ (cell i + 1) (cell i + 2) (simp (length-append, length_fronted i (le_of_lt h))) (omega arith))
        ∙ ap (λ (ns : List ℕ). (gaps_of row).start ∷ (gaps_of row).highest ∷ (length (runs_of row) + 1) ∷ get_or row 3 0 ∷ ns) (append_assoc (flat (take i (runs_of row))) ((run (runs_of row) i).first ∷ []) _)
        ∙ sym (replaced_as i (divided (run (runs_of row) i) end begin) (length (runs_of row) + 1) (omega arith))

pub sound_stands : (row : List ℕ) (i : ℕ) → sound_gap_row row ≡ true → i < length (runs_of row) → Stands row i
sound_stands row i s h = let all = (sound_row_exactly row).0 s in stands_at row all.0 i h
