-- A byte's bits seen at the top of sixteen.
use Rattle.std.specs.Prelude.{◌≡◌, ℕ, suc, ◌+◌, ◌-◌, ◌*◌, ◌/◌, ◌%◌, ◌^◌, ◌<◌}
use Rattle.std.proofs.Common.{ap, sym, ◌∙◌, arith, add-zero, mul-add, pow-add, pow_pos}
use Rattle.std.proofs.Math.Nat.{mul-div-mul_right, mul-mod_left, two-pow-succ}
use Rattle.std.proofs.Math.Arith.{mod-mul}
use Rattle.std.proofs.Math.Pow.{field, mod-mod-pow}
use Rattle.std.proofs.lemmas.Nat.{shl-shr}
use Rattle.accumulator.specs.Accumulator.{bits, bit_step, bit_steps}

one_more : (k : ℕ) → 1 + k ≡ suc k
one_more k = omega arith

-- where the lowest m + 1 bits of a byte stand at the top of sixteen, the highest of them is the top bit
top_bit : (byte m j : ℕ) → m + j ≡ 15 → byte % 2 ^ suc m * 2 ^ j / 2 ^ 15 ≡ byte / 2 ^ m % 2
top_bit byte m j whole =
    let split : 2 ^ 15 ≡ 2 ^ m * 2 ^ j = ap (λ (k : ℕ). 2 ^ k) (sym whole) ∙ pow-add 2 m j in
    rw (split, mul-div-mul_right (byte % 2 ^ suc m) (2 ^ m) (pow_pos j), ← one_more m) (field byte 1 m)

-- doubled in sixteen bits, the bits below it come to the top
next_bits : (byte m j : ℕ) → m + j ≡ 15
    → (byte % 2 ^ suc m * 2 ^ j + byte % 2 ^ suc m * 2 ^ j) % 2 ^ 16 ≡ byte % 2 ^ m * 2 ^ suc j
next_bits byte m j whole =
    let x : ℕ = byte % 2 ^ suc m in
    let c : ℕ = 2 ^ suc j in
    let twice : x * 2 ^ j + x * 2 ^ j ≡ x * c = sym (mul-add x (2 ^ j) (2 ^ j)) ∙ ap (λ (k : ℕ). x * k) (sym (two-pow-succ j)) in
    let sixteen : m + suc j ≡ 16 = omega (arith, whole) in
    let split : 2 ^ 16 ≡ 2 ^ m * c = ap (λ (k : ℕ). 2 ^ k) (sym sixteen) ∙ pow-add 2 m (suc j) in
    let low : x % 2 ^ m ≡ byte % 2 ^ m = rw (← one_more m) (mod-mod-pow byte 1 m) in
    rw (twice, split, mod-mul (x * c) (pow_pos m) (pow_pos (suc j)), shl-shr x (suc j), mul-mod_left x c, low)
    (add-zero _)

-- after k bits of a byte those that are left stand at the top of `d`
abbrev pub AtTop : ℕ → ℕ → ℕ → Type 0
AtTop byte k d = d ≡ byte % 2 ^ (8 - k) * 2 ^ (8 + k)

module _ (byte k d : ℕ) (some_left : k < 8) (at_top : AtTop byte k d) where
  left : 8 - k ≡ suc (7 - k)
  left = omega arith

  fewer : 8 - (k + 1) ≡ 7 - k
  fewer = omega arith

  whole : 7 - k + (8 + k) ≡ 15
  whole = omega arith

  pub doubled_top : AtTop byte (k + 1) ((d + d) % 2 ^ 16)
  doubled_top =
      let e : 8 + (k + 1) ≡ suc (8 + k) = omega arith in
      rw (fewer, e, at_top, left) (next_bits byte (7 - k) (8 + k) whole)

  pub one_bit : (acc : ℕ)
      → bit_steps acc (bits (8 - k) byte) ≡ bit_steps (bit_step acc (d / 2 ^ 15)) (bits (8 - (k + 1)) byte)
  one_bit acc = rw (fewer, at_top, left, top_bit byte (7 - k) (8 + k) whole)
