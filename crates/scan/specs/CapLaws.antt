-- No largest amount reaches the ceiling, so that a capped amount reads on as the amount itself.
use Rattle.std.specs.Prelude.{◌≡◌, ℕ, suc, ◌+◌, ◌-◌, ◌*◌, ◌^◌, ◌<◌, ◌≤◌, cond, nat_le, Err}
use Rattle.std.proofs.Common.{sym, ◌∙◌, ap, ⊎_elim, add-zero, le-mul_of_pos_right, mul_assoc, arith}
use Rattle.std.proofs.Math.Nat.{min-eq_left, min-eq_right, one-le-pow, pow-succ'}
use Rattle.std.proofs.lemmas.Bool.{lt-leb}
use Rattle.laws.specs.Order.{order}
use Rattle.scan.specs.Parts.{cap}
use Rattle.scan.specs.Read.{in_range, ranged}
use Rattle.decimal.specs.declared.Kind.{Kind}
use Rattle.decimal.specs.declared.FieldFault.TheVariants.{OutOfRange}
use Rattle.scan.specs.Answers.{Number}

-- ## The ceiling

cap_below : (n : ℕ) → n < 2 ^ 64 → cap n ≡ n
cap_below n h = min-eq_left (omega arith)

cap_above : (n : ℕ) → 2 ^ 64 ≤ n + 1 → cap n ≡ 2 ^ 64 - 1
cap_above n h = min-eq_right (omega arith)

-- an amount up to the ceiling, and more behind it
pub cap_grown : (n p v : ℕ) → 0 < p → cap (cap n * p + v) ≡ cap (n * p + v)
cap_grown n p v h = ⊎_elim
    (λ (l : 2 ^ 64 - 1 ≤ n).
    let capped_over : cap n ≤ cap n * p = le-mul_of_pos_right (cap n) h in
    let over : n ≤ n * p = le-mul_of_pos_right n h in
    cap_above (cap n * p + v) (omega arith) ∙ sym (cap_above (n * p + v) (omega arith)))
    (λ (l : n < 2 ^ 64 - 1). rw (cap_below n (omega arith)))
    (order (2 ^ 64 - 1) n)

cap_scaled : (n p : ℕ) → 0 < p → cap (cap n * p) ≡ cap (n * p)
cap_scaled n p h = simp add-zero at (cap_grown n p 0 h)

-- a nought behind it, and so many more
pub one_nought : (n k : ℕ) → n * 10 * 10 ^ k ≡ n * 10 ^ suc k
one_nought n k = simp (mul_assoc, pow-succ')

pub noughts_over : (n k : ℕ) → 2 ^ 64 ≤ n * 10 → cap (n * 10 ^ suc k) ≡ 2 ^ 64 - 1
noughts_over n k h =
    let longer : n * 10 ≤ n * 10 * 10 ^ k = le-mul_of_pos_right (n * 10) (one-le-pow k 10 (omega arith)) in
    cap_above (n * 10 ^ suc k) (omega (arith, one_nought n k))

pub in_range_cap : (kind : Kind) (n : ℕ) → kind.most + 1 < 2 ^ 64 → in_range kind (cap n) ≡ in_range kind n
in_range_cap kind n h = ⊎_elim
    (λ (l : n ≤ kind.most). rw (cap_below n (omega arith)))
    (λ (l : kind.most < n). rw (lt-leb n kind.most l, lt-leb (cap n) kind.most (omega arith)))
    (order n kind.most)

-- ## What the capped amount reads as

pub ranged_cap : (kind : Kind) → kind.most + 1 < 2 ^ 64 → (n k : ℕ) → ranged kind (cap n) k ≡ ranged kind n k
ranged_cap kind h n k =
    let p : ℕ = 10 ^ (kind.places - k) in
    let alike : cap (cap n * p) ≡ cap (n * p) = cap_scaled n p (one-le-pow (kind.places - k) 10 (omega arith)) in
    let capped : in_range kind (cap (cap n * p)) ≡ in_range kind (cap (n * p)) = ap (in_range kind) alike in
    ap (λ (r : Number). cond (nat_le k kind.places) r (Err OutOfRange)) (sym (in_range_cap kind (cap n * p) h) ∙ capped ∙ in_range_cap kind (n * p) h)
