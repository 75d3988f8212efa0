-- What zeros behind the data make of the accumulator, and how it comes back: POLY says it of sixteen zeros, and squaring of twice
-- as many each time, since the middle terms of a square stand twice and go.
use Rattle.std.specs.Prelude.{◌≡◌, ℕ, zero, suc, ◌+◌, ◌*◌, ◌/◌, ◌%◌, ◌^◌, ◌<◌, bit_xor, refl}
use Rattle.std.proofs.Common.{ap, ap₂, sym, ◌∙◌, arith, add_comm, div-add-mod', mod-eq_of_lt}
use Rattle.std.proofs.Math.Nat.{two-pow-succ, zero-div, div-eq_of_lt}
use Rattle.std.proofs.Math.Arith.{bin_ind}
use Rattle.std.specs.Int.Bits.{xor_shifted}
use Rattle.std.proofs.lemmas.Nat.{xor_lt}
use Rattle.accumulator.specs.Accumulator.{bit_step}
use Rattle.accumulator.specs.Words.{word_step}
use Rattle.accumulator.specs.BitsLaws.{by_digit, bit_under, inner, cancel}
use Rattle.accumulator.specs.Linear.{Small, step_small, step_linear, step_parts}

-- the accumulator after k zero bits
abbrev pub zeros : ℕ → ℕ → ℕ
zeros k acc = word_step k acc 0

zero_shifted : (k : ℕ) → 0 / 2 ^ k ≡ 0
zero_shifted k = zero-div (2 ^ k)

pub zeros_more : (j k acc : ℕ) → zeros (j + k) acc ≡ zeros k (zeros j acc)
zeros_more j k acc = rw (zero_shifted k) at (step_parts j k acc 0)

pub zeros_linear : (k a b : ℕ) → Small a → Small b → zeros k (bit_xor a b) ≡ bit_xor (zeros k a) (zeros k b)
zeros_linear k a b = step_linear k a b 0 0

pub zeros_of_zero : (k : ℕ) → zeros k 0 ≡ 0
unfolding word_step bit_step
zeros_of_zero zero = refl
zeros_of_zero (suc k) = rw (zero_shifted k) (zeros_of_zero k)

zeros_swapped : (j k acc : ℕ) → zeros k (zeros j acc) ≡ zeros j (zeros k acc)
zeros_swapped j k acc = sym (zeros_more j k acc) ∙ ap (λ (n : ℕ). zeros n acc) (add_comm j k) ∙ zeros_more k j acc

-- where the accumulator comes back, for POLY spread out m times
abbrev back : ℕ → ℕ → ℕ
back m acc = bit_xor (zeros (12 * m) acc) (bit_xor (zeros (5 * m) acc) acc)

abbrev pub ComesBack : ℕ → Type 0
ComesBack m = (acc : ℕ) → Small acc → zeros (16 * m) acc ≡ back m acc

back_linear : (m a b : ℕ) → Small a → Small b → back m (bit_xor a b) ≡ bit_xor (back m a) (back m b)
back_linear m a b ha hb =
    ap₂ bit_xor (zeros_linear (12 * m) a b ha hb)
    (ap (λ (n : ℕ). bit_xor n (bit_xor a b)) (zeros_linear (5 * m) a b ha hb) ∙ inner (zeros (5 * m) a) (zeros (5 * m) b) a b)
    ∙ inner (zeros (12 * m) a) (zeros (12 * m) b) (bit_xor (zeros (5 * m) a) a) (bit_xor (zeros (5 * m) b) b)

-- twice as many zeros: of the nine terms of the square six stand in pairs
doubled : (m : ℕ) → ComesBack m → ComesBack (m + m)
doubled m comes acc h =
    let c : ℕ = zeros (12 * m) acc in
    let g : ℕ = zeros (5 * m) acc in
    let b : ℕ = zeros (5 * m) c in
    let hc : Small c = step_small (12 * m) acc 0 h in
    let hg : Small g = step_small (5 * m) acc 0 h in
    let sixteen : 16 * (m + m) ≡ 16 * m + 16 * m = omega arith in
    let twelve : 12 * (m + m) ≡ 12 * m + 12 * m = omega arith in
    let five : 5 * (m + m) ≡ 5 * m + 5 * m = omega arith in
    let first : zeros (16 * (m + m)) acc ≡ bit_xor (zeros (16 * m) c) (bit_xor (zeros (16 * m) g) (zeros (16 * m) acc)) =
    ap (λ (n : ℕ). zeros n acc) sixteen ∙ zeros_more (16 * m) (16 * m) acc ∙ ap (zeros (16 * m)) (comes acc h)
    ∙ zeros_linear (16 * m) c (bit_xor g acc) hc (xor_lt 16 g acc hg h) ∙ ap (bit_xor (zeros (16 * m) c)) (zeros_linear (16 * m) g acc hg h) in
    let middle : bit_xor (zeros (16 * m) g) (zeros (16 * m) acc) ≡ bit_xor (bit_xor b c) (bit_xor (zeros (5 * m) g) acc) =
    ap₂ bit_xor (comes g hg ∙ ap (λ (n : ℕ). bit_xor n (bit_xor (zeros (5 * m) g) g)) (zeros_swapped (5 * m) (12 * m) acc)) (comes acc h)
    ∙ inner b (bit_xor (zeros (5 * m) g) g) c (bit_xor g acc)
    ∙ ap (bit_xor (bit_xor b c)) (cancel (zeros (5 * m) g) g acc) in
    let whole : bit_xor (zeros (16 * m) c) (bit_xor (zeros (16 * m) g) (zeros (16 * m) acc)) ≡ bit_xor (zeros (12 * m) c) (bit_xor (zeros (5 * m) g) acc) =
    ap₂ bit_xor (comes c hc) middle ∙ cancel (zeros (12 * m) c) (bit_xor b c) (bit_xor (zeros (5 * m) g) acc) in
    rw (twelve, zeros_more (12 * m) (12 * m) acc, five, zeros_more (5 * m) (5 * m) acc) (first ∙ whole)

-- half an accumulator, doubled by one zero bit
one_zero : (half : ℕ) → half < 2 ^ 15 → zeros 1 half ≡ half + half
unfolding word_step bit_step
one_zero half h = rw (div-eq_of_lt h) (mod-eq_of_lt (omega arith))

-- one zero bit more goes through
back_more : (m acc : ℕ) → Small acc → back m (zeros 1 acc) ≡ zeros 1 (back m acc)
back_more m acc h =
    let c : ℕ = zeros (12 * m) acc in
    let g : ℕ = zeros (5 * m) acc in
    let hc : Small c = step_small (12 * m) acc 0 h in
    let hg : Small g = step_small (5 * m) acc 0 h in
    ap₂ (λ (x y : ℕ). bit_xor x (bit_xor y (zeros 1 acc))) (zeros_swapped 1 (12 * m) acc) (zeros_swapped 1 (5 * m) acc)
    ∙ ap (bit_xor (zeros 1 c)) (sym (zeros_linear 1 g acc hg h))
    ∙ sym (zeros_linear 1 c (bit_xor g acc) hc (xor_lt 16 g acc hg h))

of_digit : (d : ℕ) → d < 2 → zeros 16 d ≡ back 1 d
unfolding word_step bit_step
of_digit = by_digit (λ (d : ℕ). zeros 16 d ≡ back 1 d) refl refl

-- sixteen zeros, digit by digit of the accumulator
once : ComesBack 1
once acc =
    bin_ind (λ (n : ℕ). Small n → zeros 16 n ≡ back 1 n) (λ h. of_digit 0 (omega arith))
    (λ n ih h.
    let half : n / 2 < 2 ^ 15 = omega arith in
    let small : Small (n / 2) = omega arith in
    let d : ℕ = n % 2 in
    let hd : Small d = omega arith in
    let u : ℕ = zeros 1 (n / 2) in
    let hu : Small u = step_small 1 (n / 2) 0 small in
    let twice : zeros 1 (n / 2) ≡ n / 2 * 2 = one_zero (n / 2) half ∙ omega arith in
    let joined : n ≡ bit_xor u d = sym (ap (λ (x : ℕ). bit_xor x d) twice ∙ xor_shifted (n / 2) 1 d (bit_under n) ∙ div-add-mod' n 2) in
    rw joined
    (zeros_linear 16 u d hu hd ∙ ap₂ bit_xor (zeros_swapped 1 16 (n / 2) ∙ ap (zeros 1) (ih small) ∙ sym (back_more 1 (n / 2) small)) (of_digit d (bit_under n))
    ∙ sym (back_linear 1 u d hu hd)))
    acc

pub comes_back : (j : ℕ) → ComesBack (2 ^ j)
comes_back zero = once
comes_back (suc j) = rw (two-pow-succ j) (doubled (2 ^ j) (comes_back j))
