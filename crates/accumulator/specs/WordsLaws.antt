-- Four words stand for all before them: the one that leaves comes back in those behind it.
use Rattle.std.specs.Prelude.{◌≡◌, ℕ, ◌+◌, ◌-◌, ◌*◌, ◌/◌, ◌%◌, ◌^◌, ◌≤◌, ◌⊎◌, bit_and, bit_xor, refl}
use Rattle.std.proofs.Common.{ap, ap₂, sym, ◌∙◌, inl, inr, arith, mod-lt, zero-add, pow_pos, shl_exact}
use Rattle.std.proofs.Math.Nat.{div-eq_of_lt, mul-mod_left}
use Rattle.std.proofs.lemmas.Nat.{shl-shr, and_mask}
use Rattle.std.specs.Int.Bits.{xor_zero_r}
use Rattle.accumulator.specs.Accumulator.{byte_step}
use Rattle.accumulator.specs.Words.{word_step}
use Rattle.accumulator.specs.Linear.{Small, step_small, step_linear, step_parts, step_low}
use Rattle.accumulator.specs.Powers.{zeros, zeros_more, zeros_of_zero, ComesBack, comes_back}

-- a quarter of a word of 8, 16 or 32 bits, which are half of another
abbrev pub Halving : ℕ → Type 0
Halving q = (q ≡ 2) ⊎ ((q ≡ 4) ⊎ (q ≡ 8))

-- or of one of 64
abbrev pub Quarter : ℕ → Type 0
Quarter q = (q ≡ 16) ⊎ Halving q

quarter_comes_back : (q : ℕ) → Quarter q → ComesBack q
quarter_comes_back q (inl e) = rw e (comes_back 4)
quarter_comes_back q (inr (inl e)) = rw e (comes_back 1)
quarter_comes_back q (inr (inr (inl e))) = rw e (comes_back 2)
quarter_comes_back q (inr (inr (inr e))) = rw e (comes_back 3)

pub halving_under : (q : ℕ) → Halving q → q ≤ 8
halving_under q (inl e) = omega arith
halving_under q (inr (inl e)) = omega arith
halving_under q (inr (inr e)) = omega arith

pub quarter_under : (q : ℕ) → Quarter q → q ≤ 16
quarter_under q (inl e) = omega arith
quarter_under q (inr h) = omega (arith, halving_under q h)

pub one_up : (q : ℕ) → Quarter q → 1 * 2 ^ q % 2 ^ 64 ≡ 2 ^ q
one_up q quarter =
    let few : q ≤ 16 = quarter_under q quarter in
    let plain : 1 * 2 ^ q ≡ 2 ^ q = omega arith in
    shl_exact {a = 1} 1 q 64 (omega arith) (omega arith) ∙ plain

-- four words of so many bits, from an accumulator
abbrev four : ℕ → ℕ → ℕ → ℕ → ℕ → ℕ → ℕ
four w acc x y z u = word_step w (word_step w (word_step w (word_step w acc x) y) z) u

module _ (w : ℕ) where
  four_linear : (a b x y z u x' y' z' u' : ℕ) → Small a → Small b
      → four w (bit_xor a b) (bit_xor x x') (bit_xor y y') (bit_xor z z') (bit_xor u u') ≡ bit_xor (four w a x y z u) (four w b x' y' z' u')
  four_linear a b x y z u x' y' z' u' ha hb =
      let ha1 : Small (word_step w a x) = step_small w a x ha in
      let hb1 : Small (word_step w b x') = step_small w b x' hb in
      let ha2 : Small (word_step w (word_step w a x) y) = step_small w _ y ha1 in
      let hb2 : Small (word_step w (word_step w b x') y') = step_small w _ y' hb1 in
      rw (step_linear w a b x x' ha hb, step_linear w _ _ y y' ha1 hb1, step_linear w _ _ z z' ha2 hb2)
      (step_linear w _ _ u u' (step_small w _ z ha2) (step_small w _ z' hb2))

  -- where only the first, the middle two or the last of four words say something
  only_last : (n : ℕ) → four w 0 0 0 0 n ≡ word_step w 0 n
  only_last n = rw (zeros_of_zero w, zeros_of_zero w, zeros_of_zero w)

  pub all_zeros : four w 0 0 0 0 0 ≡ 0
  all_zeros = rw (zeros_of_zero w, zeros_of_zero w, zeros_of_zero w) (zeros_of_zero w)

  only_middle : (y z : ℕ) → four w 0 0 y z 0 ≡ zeros w (word_step w (word_step w 0 y) z)
  only_middle y z = rw (zeros_of_zero w)

module _ (q first : ℕ) (quarter : Quarter q) where
  abbrev width : ℕ
  width = 4 * q

  -- its highest quarter, and the others that many bits further up
  abbrev highest : ℕ
  highest = bit_and (first / 2 ^ (3 * q)) (1 * 2 ^ q % 2 ^ 64 - 1)

  abbrev others : ℕ
  others = first * 2 ^ q % 2 ^ 64

  highest_is : highest ≡ first / 2 ^ (3 * q) % 2 ^ q
  highest_is =
      ap (λ (n : ℕ). bit_and (first / 2 ^ (3 * q)) (n - 1)) (one_up q quarter) ∙ and_mask (first / 2 ^ (3 * q)) q

  abbrev left : ℕ
  left = word_step width 0 first

  left_small : Small left
  left_small = step_small width 0 first (omega arith)

  -- moved up by a quarter, the word that leaves is what its own bits give, and a quarter of a word of zeros
  moved_up : word_step width (word_step width 0 highest) others ≡ zeros q left
  moved_up =
      let few : q ≤ 16 = quarter_under q quarter in
      let wide : 64 ≡ 64 - 4 * q + 4 * q = omega arith in
      let kept : word_step width (word_step width 0 highest) others ≡ word_step width (word_step width 0 highest) (first * 2 ^ q) =
      rw (← wide) at (step_low (64 - 4 * q) (4 * q) (word_step width 0 highest) (first * 2 ^ q)) in
      let upper : 4 * q ≡ 3 * q + q = omega arith in
      let lower : 4 * q ≡ q + 3 * q = omega arith in
      let front : word_step (3 * q + q) 0 highest ≡ word_step q 0 (first / 2 ^ (3 * q)) =
      ap (word_step (3 * q + q) 0) highest_is ∙ step_parts (3 * q) q 0 (first / 2 ^ (3 * q) % 2 ^ q)
      ∙ rw (div-eq_of_lt (mod-lt (first / 2 ^ (3 * q)) (pow_pos q)), zeros_of_zero (3 * q)) (rw (zero-add q) at (step_low 0 q 0 (first / 2 ^ (3 * q)))) in
      let zero_low : word_step q (word_step (4 * q) 0 first) (first * 2 ^ q) ≡ zeros q left =
      sym (step_low 0 q left (first * 2 ^ q)) ∙ ap (word_step q left) (rw (zero-add q) (mul-mod_left first (2 ^ q))) in
      kept ∙ ap (λ (w : ℕ). word_step w (word_step w 0 highest) (first * 2 ^ q)) upper
      ∙ ap (λ (acc : ℕ). word_step (3 * q + q) acc (first * 2 ^ q)) front
      ∙ step_parts (3 * q) q (word_step q 0 (first / 2 ^ (3 * q))) (first * 2 ^ q)
      ∙ rw (shl-shr first q, ← step_parts q (3 * q) 0 first, ← lower) zero_low

  -- the word that leaves, four words further on, is where it comes back
  comes_in : zeros width (zeros width (zeros width (zeros width left))) ≡ four width 0 first highest others first
  comes_in =
      let w : ℕ = 4 * q in
      let m : ℕ = others in
      let sixteen : 16 * q ≡ w + w + w + w = omega arith in
      let twelve : 12 * q ≡ w + w + w = omega arith in
      let five : 5 * q ≡ q + w = omega arith in
      let far : zeros (16 * q) left ≡ zeros w (zeros w (zeros w (zeros w left))) =
      rw (sixteen, zeros_more (w + w + w) w left, zeros_more (w + w) w left, zeros_more w w left) in
      let once : zeros (12 * q) left ≡ four w 0 first 0 0 0 = rw (twelve, zeros_more (w + w) w left, zeros_more w w left) in
      let then : zeros (5 * q) left ≡ four w 0 0 highest m 0 =
      rw (five, zeros_more q w left) (sym (only_middle w highest m ∙ ap (zeros w) moved_up)) in
      let later : four w 0 0 highest m first ≡ bit_xor (four w 0 0 highest m 0) (four w 0 0 0 0 first) =
      rw (xor_zero_r highest, xor_zero_r m) at (four_linear w 0 0 0 highest m 0 0 0 0 first (omega arith) (omega arith)) in
      let all : four w 0 first highest m first ≡ bit_xor (four w 0 first 0 0 0) (four w 0 0 highest m first) =
      rw (xor_zero_r first) at (four_linear w 0 0 first 0 0 0 0 highest m first (omega arith) (omega arith)) in
      sym far ∙ quarter_comes_back q quarter left left_small
      ∙ ap₂ bit_xor once (ap₂ bit_xor then (sym (only_last w first)) ∙ sym later) ∙ sym all

  pub word_on : (second third fourth word : ℕ)
      → four width 0 (bit_xor second first) (bit_xor third highest) (bit_xor fourth others) (bit_xor word first)
      ≡ four width left second third fourth word
  word_on second third fourth word =
      four_linear width 0 0 second third fourth word first highest others first (omega arith) (omega arith)
      ∙ ap (bit_xor (four width 0 second third fourth word)) (sym comes_in)
      ∙ sym (four_linear width 0 left second third fourth word 0 0 0 0 (omega arith) left_small)
      ∙ rw (xor_zero_r second, xor_zero_r third, xor_zero_r fourth, xor_zero_r word)

-- a word's halves in turn are the word
pub halves : (q acc word : ℕ) → word_step (4 * q) (word_step (4 * q) acc (word / 2 ^ (4 * q))) word ≡ word_step (8 * q) acc word
halves q acc word =
    let e : 8 * q ≡ 4 * q + 4 * q = omega arith in
    rw e (sym (step_parts (4 * q) (4 * q) acc word))

pub no_bits : (acc word : ℕ) → word_step 0 acc word ≡ acc
unfolding word_step
no_bits acc word = refl

-- a byte is a word of eight bits
pub byte_word : (acc byte : ℕ) → byte_step acc byte ≡ word_step 8 acc byte
unfolding byte_step word_step
byte_word acc byte = refl

pub lowest_byte_lem : (acc word : ℕ) → byte_step acc (word % 256) ≡ word_step 8 acc word
lowest_byte_lem acc word = byte_word acc (word % 256) ∙ step_low 0 8 acc word
