-- Laws of a row of runs seen as numbers.
use Rattle.std.specs.Prelude.{ℕ, zero, suc, min, ◌+◌, ◌*◌, ◌<◌, ◌≡◌, refl, length, get_or, set, take, drop}
use Rattle.std.proofs.Common.{ap, ap₂, sym, ◌∙◌, subst, add-one, arith, length-take, take-suc, drop-cons, take-suc-set, length-take-le}
use mathlib.Core.List.{List, [], ◌∷◌, ◌++◌, append_assoc, head-eq_of_cons-eq, tail-eq_of_cons-eq}
use Rattle.std.proofs.Math.Seq.{take-nil, drop-nil}
use Rattle.laws.specs.Lists.{take_min}
use Rattle.laws.specs.Moves.{stores_at}
use Rattle.copies.specs.declared.run.Run.{Run}
use Rattle.copies.specs.Rows.{flat, blank, most_runs}

-- two numbers a run
pub length_flat : (rows : List Run) → length (flat rows) ≡ 2 * length rows
length_flat [] = refl
length_flat (run ∷ rows) = let e = length_flat rows in omega arith

pub flat_append : (xs ys : List Run) → flat (xs ++ ys) ≡ flat xs ++ flat ys
flat_append [] ys = refl
flat_append (x ∷ xs) ys = ap (λ (l : List ℕ). x.first ∷ x.last ∷ l) (flat_append xs ys)

pub flat_take : (n : ℕ) (rows : List Run) → flat (take n rows) ≡ take (2 * n) (flat rows)
flat_take zero rows = refl
flat_take (suc n) [] = sym (take-nil (2 * suc n))
flat_take (suc n) (run ∷ rows) =
    let e : 2 * suc n ≡ suc (suc (2 * n)) = omega arith in
    rw e (ap (λ (l : List ℕ). run.first ∷ run.last ∷ l) (flat_take n rows))

pub flat_drop : (n : ℕ) (rows : List Run) → flat (drop n rows) ≡ drop (2 * n) (flat rows)
flat_drop zero rows = refl
flat_drop (suc n) [] = sym (drop-nil (2 * suc n))
flat_drop (suc n) (run ∷ rows) =
    let e : 2 * suc n ≡ suc (suc (2 * n)) = omega arith in
    rw e (flat_drop n rows)

-- the numbers tell the runs
pub flat_told : (xs ys : List Run) → flat xs ≡ flat ys → xs ≡ ys
flat_told [] [] e = refl
flat_told [] (y ∷ ys) e = cc
flat_told (x ∷ xs) [] e = cc
flat_told (x ∷ xs) (y ∷ ys) e =
    let rest = tail-eq_of_cons-eq e in
    let first = head-eq_of_cons-eq e in
    let last = head-eq_of_cons-eq rest in
    let more = flat_told xs ys (tail-eq_of_cons-eq rest) in
    λ i. record { first = first i; last = last i } ∷ more i

-- one run more is stored as numbers
pub flat_more : (runs : List Run) (d : List ℕ) (i : ℕ) → i < length runs → 2 * i + 1 < length d
    → set (set (flat (take i runs) ++ drop (2 * i) d) (2 * i) (get_or runs i blank).first) (2 * i + 1) (get_or runs i blank).last ≡ flat (take (i + 1) runs) ++ drop (2 * (i + 1)) d
flat_more runs d i h k =
    let front : List ℕ = flat (take i runs) in
    let run : Run = get_or runs i blank in
    let rest : List ℕ = drop (suc (suc (2 * i))) d in
    let long : length front ≡ 2 * i = length_flat (take i runs) ∙ ap (λ (n : ℕ). 2 * n) (length-take-le i runs (omega arith)) in
    let far : 2 * (i + 1) ≡ suc (suc (2 * i)) = omega arith in
    let apart : drop (2 * i) d ≡ get_or d (2 * i) 0 ∷ get_or d (suc (2 * i)) 0 ∷ rest =
    drop-cons d (2 * i) 0 (omega arith) ∙ ap (λ (l : List ℕ). get_or d (2 * i) 0 ∷ l) (drop-cons d (suc (2 * i)) 0 (omega arith)) in
    let one : flat (take (suc i) runs) ≡ front ++ (run.first ∷ run.last ∷ []) = ap flat (take-suc runs i blank h) ∙ flat_append (take i runs) (run ∷ []) in
    ap (λ (l : List ℕ). set (set (front ++ l) (2 * i) run.first) (2 * i + 1) run.last) apart
    ∙ stores_at front _ _ run.first run.last rest (2 * i) (2 * i + 1) long refl
    ∙ sym
    (ap (λ (n : ℕ). flat (take n runs) ++ drop (2 * (i + 1)) d) (add-one i)
    ∙ ap (λ (n : ℕ). flat (take (suc i) runs) ++ drop n d) far
    ∙ ap (λ (l : List ℕ). l ++ rest) one
    ∙ append_assoc front (run.first ∷ run.last ∷ []) rest)

-- one run more is read out of numbers
pub paired_more : (runs : List Run) (numbers : List ℕ) (i : ℕ) → i < length runs → 2 * i + 1 < length numbers → flat (take i runs) ≡ take (2 * i) numbers
    → flat (take (i + 1) (set runs i (record { first = get_or numbers (2 * i) 0; last = get_or numbers (2 * i + 1) 0 }))) ≡ take (2 * (i + 1)) numbers
paired_more runs numbers i h k e =
    let run : Run = record { first = get_or numbers (2 * i) 0; last = get_or numbers (2 * i + 1) 0 } in
    let far : 2 * (i + 1) ≡ suc (suc (2 * i)) = omega arith in
    let next : 2 * i + 1 ≡ suc (2 * i) = omega arith in
    ap (λ (n : ℕ). flat (take n (set runs i run))) (add-one i)
    ∙ ap flat (take-suc-set runs i run h)
    ∙ flat_append (take i runs) (run ∷ [])
    ∙ ap (λ (l : List ℕ). l ++ (run.first ∷ run.last ∷ [])) e
    ∙ sym (append_assoc (take (2 * i) numbers) (run.first ∷ []) (run.last ∷ []))
    ∙ ap (λ (l : List ℕ). l ++ (run.last ∷ [])) (sym (take-suc numbers (2 * i) 0 (omega arith)))
    ∙ ap (λ (n : ℕ). take (suc (2 * i)) numbers ++ (get_or numbers n 0 ∷ [])) next
    ∙ sym (take-suc numbers (suc (2 * i)) 0 (omega arith))
    ∙ ap (λ (n : ℕ). take n numbers) (sym far)

-- the front of an array of runs, of which so many are lent
module _ (runs : List Run) (lent : ℕ) (long : length runs ≡ most_runs) where
  front_min : take (min lent most_runs) runs ≡ take lent runs
  front_min = ap (λ (n : ℕ). take (min lent n) runs) (sym long) ∙ take_min lent runs

  front_numbers : take (2 * min lent most_runs) (flat runs) ≡ flat (take lent runs)
  front_numbers = sym (flat_take (min lent most_runs) runs) ∙ ap flat front_min

  pub front_length : length (take lent runs) ≡ min lent most_runs
  front_length = length-take lent runs ∙ ap (min lent) long

-- what holds of the numbers lent holds of the runs lent, seen as numbers
pub in_front : (P : List ℕ → Type 0) (runs : List Run) (numbers : List ℕ) (lent count : ℕ) → length runs ≡ most_runs → count ≡ min lent most_runs → numbers ≡ flat runs
    → P (take (2 * count) numbers) → P (flat (take lent runs))
in_front P runs numbers lent count long few e p =
    subst P (ap₂ (λ (n : ℕ) (l : List ℕ). take (2 * n) l) few e ∙ front_numbers runs lent long) p

-- the same of the runs left
pub in_fronts : (P : List ℕ → List ℕ → Type 0) (runs runs' : List Run) (numbers numbers' : List ℕ) (lent count : ℕ) → length runs ≡ most_runs → length runs' ≡ most_runs → count ≡ min lent most_runs
    → numbers ≡ flat runs → flat runs' ≡ numbers' → P (take (2 * count) numbers) (take (2 * count) numbers') → P (flat (take lent runs)) (flat (take lent runs'))
in_fronts P runs runs' numbers numbers' lent count long long' few e e' p =
    in_front (λ ns. P ns (flat (take lent runs'))) runs numbers lent count long few e (in_front (P (take (2 * count) numbers)) runs' numbers' lent count long' few (sym e') p)
