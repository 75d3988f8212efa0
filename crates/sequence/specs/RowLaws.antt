-- Laws of a row: gaps laid into a row read back the same, a row is its own gaps laid into it, and a sound row stays sound.
use Rattle.std.specs.Prelude.{ℕ, zero, suc, ◌*◌, ◌≤◌, ◌<◌, min, ◌≡◌, refl, true, List, [], ◌∷◌, ◌++◌, ◌↔◌, eqb, length, get_or, take, drop}
use Rattle.std.proofs.Common.{sym, ap, ap₂, ◌∙◌, arith, le-leb, leb-true, eq-eqb, eqb-true, length-append, length-drop, length-take, take-append-drop, drop-drop}
use Rattle.std.proofs.Math.Seq.{take-append_seam}
use Rattle.laws.specs.Tests.{all_three}
use Rattle.sequence.specs.Runs.{Run}
use Rattle.sequence.specs.Gaps.{Gaps, most, wanted}
use Rattle.sequence.specs.Sound.{SoundGaps}
use Rattle.sequence.specs.SoundLaws.{sound_exactly}
use Rattle.sequence.specs.Row.{cells, head, pairs, count, gaps_of}
use Rattle.sequence.specs.RowLaid.{cell, flat, laid, sound_gap_row}

-- ---- runs as numbers

twice_suc : (n : ℕ) → 2 * suc n ≡ suc (suc (2 * n))
twice_suc n = omega arith

pub length_flat : (rs : List Run) → length (flat rs) ≡ wanted rs
length_flat [] = refl
length_flat (r ∷ rs) = let rest = length_flat rs in omega arith

pub flat_append : (rs ss : List Run) → flat (rs ++ ss) ≡ flat rs ++ flat ss
flat_append [] ss = refl
flat_append (r ∷ rs) ss = simp (flat_append rs ss)

pairs_flat : (rs : List Run) (more : List ℕ) → pairs (flat rs ++ more) ≡ rs ++ pairs more
pairs_flat [] more = refl
pairs_flat (r ∷ rs) more = simp (pairs_flat rs more)

flat_pairs : (n : ℕ) (ns : List ℕ) → flat (take n (pairs ns)) ≡ take (wanted (take n (pairs ns))) ns
flat_pairs zero ns = refl
flat_pairs (suc n) [] = refl
flat_pairs (suc n) (a ∷ []) = refl
flat_pairs (suc n) (a ∷ (b ∷ ns)) = rw (twice_suc (length (take n (pairs ns)))) (simp (flat_pairs n ns))

length_pairs : (n : ℕ) (ns : List ℕ) → length ns ≡ 2 * n → length (pairs ns) ≡ n
length_pairs zero [] e = refl
length_pairs zero (a ∷ ns) e = absurd (omega arith)
length_pairs (suc n) [] e = absurd (omega arith)
length_pairs (suc n) (a ∷ []) e = absurd (omega arith)
length_pairs (suc n) (a ∷ (b ∷ ns)) e = ap suc (length_pairs n ns (omega arith))

-- ---- a row's parts

pub flat_runs : (row : List ℕ) → flat (gaps_of row).runs ≡ take (wanted (gaps_of row).runs) (drop head row)
unfolding gaps_of
flat_runs row = flat_pairs (count row) (drop head row)

pub length_runs : (row : List ℕ) → length row ≡ cells → length (gaps_of row).runs ≡ min (count row) most
unfolding gaps_of
length_runs row e = simp (length-take, length_pairs most (drop head row) (simp length-drop (omega arith)))

in_front : (row : List ℕ) → 3 < length row → row ≡ get_or row 0 0 ∷ get_or row 1 0 ∷ get_or row 2 0 ∷ get_or row 3 0 ∷ drop 4 row
in_front [] h = absurd (omega arith)
in_front (a ∷ []) h = absurd (omega arith)
in_front (a ∷ (b ∷ [])) h = absurd (omega arith)
in_front (a ∷ (b ∷ (c ∷ []))) h = absurd (omega arith)
in_front (a ∷ (b ∷ (c ∷ (d ∷ ns)))) h = refl

-- the numbers in front, the runs that stand, and the rest
pub parts : (row : List ℕ) → length row ≡ cells → row ≡ (gaps_of row).start ∷ (gaps_of row).highest ∷ count row ∷ get_or row 3 0 ∷ (flat (gaps_of row).runs ++ drop (cell (length (gaps_of row).runs)) row)
unfolding gaps_of
parts row e =
    in_front row (omega arith)
    ∙ ap (λ (ns : List ℕ). get_or row 0 0 ∷ get_or row 1 0 ∷ get_or row 2 0 ∷ get_or row 3 0 ∷ ns)
    (sym (take-append-drop (wanted (take (count row) (pairs (drop head row)))) (drop head row))
    ∙ ap₂ ◌++◌ (sym (flat_pairs (count row) (drop head row))) (drop-drop (wanted (take (count row) (pairs (drop head row)))) head row))

pub count_runs : (row : List ℕ) → length row ≡ cells → count row ≤ most → length (gaps_of row).runs ≡ count row
count_runs row e h = length_runs row e ∙ omega arith

-- ---- gaps laid into a row

pub laid_self : (row : List ℕ) → length row ≡ cells → count row ≤ most → laid row (gaps_of row) ≡ row
unfolding laid
laid_self row e h = sym (rw (sym (count_runs row e h)) at (parts row e))

pub laid_length : (row : List ℕ) (g : Gaps) → length row ≡ cells → length g.runs ≤ most → length (laid row g) ≡ cells
unfolding laid
laid_length row g e h = simp (length-append, length_flat, length-drop) (omega arith)

pub laid_gaps : (row : List ℕ) (g : Gaps) → gaps_of (laid row g) ≡ g
unfolding laid gaps_of
laid_gaps row g =
    let same : take (length g.runs) (pairs (flat g.runs ++ drop (cell (length g.runs)) row)) ≡ g.runs = rw (pairs_flat g.runs (drop (cell (length g.runs)) row)) (take-append_seam g.runs _) in
    λ i. record { start = g.start; highest = g.highest; runs = same i }

-- ---- sound rows

pub sound_row_exactly : (row : List ℕ) → (sound_gap_row row ≡ true) ↔ ((length row ≡ cells) × (count row ≤ most) × SoundGaps (gaps_of row))
unfolding sound_gap_row
sound_row_exactly row = (
  (λ e.
      let all = all_three (eqb (length row) cells) _ _ e in
      (eqb-true _ _ all.0, leb-true _ _ all.1, (sound_exactly (gaps_of row)).0 all.2)),
  λ w. simp (eq-eqb (length row) cells w.0, le-leb (count row) most w.1) ((sound_exactly (gaps_of row)).1 w.2),
)

laid_count : (row : List ℕ) (g : Gaps) → count (laid row g) ≡ length g.runs
unfolding laid
laid_count row g = refl

pub laid_sound : (row : List ℕ) (g : Gaps) → length row ≡ cells → SoundGaps g → sound_gap_row (laid row g) ≡ true
laid_sound row g e s =
    (sound_row_exactly (laid row g)).1 (laid_length row g e s.few, rw (laid_count row g) s.few, rw (laid_gaps row g) s)
