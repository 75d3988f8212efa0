-- The accumulator is linear: what the exclusive or of two data makes of the exclusive or of two accumulators is the exclusive or
-- of what each makes of its own. And a word may be taken in two parts.
use Rattle.std.specs.Prelude.{◌≡◌, ℕ, zero, suc, ◌+◌, ◌*◌, ◌/◌, ◌%◌, ◌^◌, ◌<◌, Bool, true, false, cond, ◌==◌, bit_xor, refl}
use Rattle.std.proofs.Common.{ap, ap₂, sym, ◌∙◌, arith, mod-lt, zero-add, suc-add, add_comm, pow_pos, shr-shr, shr_lt}
use Rattle.std.proofs.Math.Pow.{field, mod-mod-pow, high, low}
use Rattle.std.proofs.lemmas.Nat.{xor_shr, xor_mod, xor_lt}
use Rattle.std.specs.Int.Bits.{xor_zero_r}
use Rattle.accumulator.specs.Accumulator.{poly, bit_step, bits, bit_steps}
use Rattle.accumulator.specs.Words.{word_step}
use Rattle.accumulator.specs.BitsLaws.{by_digit, bit_under, inner, xor_doubled}

-- an accumulator has sixteen bits
abbrev pub Small : ℕ → Type 0
Small acc = acc < 2 ^ 16

-- what is exclusive-ored in, and that by whether two bits differ
abbrev fed : ℕ → ℕ → ℕ
fed top bit = cond (top == bit) 0 poly

bit_fed : (acc bit : ℕ) → bit_step acc bit ≡ bit_xor ((acc + acc) % 2 ^ 16) (fed (acc / 2 ^ 15) bit)
unfolding bit_step
bit_fed acc bit = chosen (acc / 2 ^ 15 == bit)
  where
    chosen : (b : Bool)
        → cond b ((acc + acc) % 2 ^ 16) (bit_xor ((acc + acc) % 2 ^ 16) poly) ≡ bit_xor ((acc + acc) % 2 ^ 16) (cond b 0 poly)
    chosen true = sym (xor_zero_r _)
    chosen false = refl

fed_small : (top bit : ℕ) → Small (fed top bit)
fed_small top bit = chosen (top == bit)
  where
    chosen : (b : Bool) → Small (cond b 0 poly)
    chosen true = omega arith
    chosen false = omega arith

abbrev Differing : ℕ → ℕ → Type 0
Differing x y = fed x y ≡ fed (bit_xor x y) 0

differing : (x y : ℕ) → x < 2 → y < 2 → Differing x y
differing x y hx hy =
    by_digit (λ (x : ℕ). Differing x y) (by_digit (Differing 0) refl refl y hy) (by_digit (Differing 1) refl refl y hy) x hx

abbrev Apart : ℕ → ℕ → Type 0
Apart x y = fed (bit_xor x y) 0 ≡ bit_xor (fed x 0) (fed y 0)

apart : (x y : ℕ) → x < 2 → y < 2 → Apart x y
apart x y hx hy = by_digit (λ (x : ℕ). Apart x y) (by_digit (Apart 0) refl refl y hy) (by_digit (Apart 1) refl refl y hy) x hx

fed_linear : (p q x y : ℕ) → p < 2 → q < 2 → x < 2 → y < 2 → fed (bit_xor p q) (bit_xor x y) ≡ bit_xor (fed p x) (fed q y)
fed_linear p q x y hp hq hx hy =
    differing (bit_xor p q) (bit_xor x y) (xor_lt 1 p q hp hq) (xor_lt 1 x y hx hy)
    ∙ ap (λ (d : ℕ). fed d 0) (inner p q x y)
    ∙ apart (bit_xor p x) (bit_xor q y) (xor_lt 1 p x hp hx) (xor_lt 1 q y hq hy)
    ∙ ap₂ bit_xor (sym (differing p x hp hx)) (sym (differing q y hq hy))

bit_linear : (a b x y : ℕ) → Small a → Small b → x < 2 → y < 2
    → bit_step (bit_xor a b) (bit_xor x y) ≡ bit_xor (bit_step a x) (bit_step b y)
bit_linear a b x y ha hb hx hy =
    bit_fed (bit_xor a b) (bit_xor x y)
    ∙ ap₂ bit_xor
    (ap (λ (n : ℕ). n % 2 ^ 16) (xor_doubled a b) ∙ xor_mod (a + a) (b + b) 16)
    (ap (λ (top : ℕ). fed top (bit_xor x y)) (xor_shr a b 15) ∙ fed_linear (a / 2 ^ 15) (b / 2 ^ 15) x y (shr_lt 1 15 ha) (shr_lt 1 15 hb) hx hy)
    ∙ inner ((a + a) % 2 ^ 16) ((b + b) % 2 ^ 16) (fed (a / 2 ^ 15) x) (fed (b / 2 ^ 15) y)
    ∙ sym (ap₂ bit_xor (bit_fed a x) (bit_fed b y))

bit_small : (acc bit : ℕ) → Small (bit_step acc bit)
bit_small acc bit =
    rw (bit_fed acc bit) (xor_lt 16 _ _ (mod-lt (acc + acc) (pow_pos 16)) (fed_small (acc / 2 ^ 15) bit))

pub step_small : (k acc n : ℕ) → Small acc → Small (word_step k acc n)
unfolding word_step
step_small zero acc n h = h
step_small (suc k) acc n h = step_small k (bit_step acc (n / 2 ^ k % 2)) n (bit_small acc (n / 2 ^ k % 2))

pub step_linear : (k a b m n : ℕ) → Small a → Small b
    → word_step k (bit_xor a b) (bit_xor m n) ≡ bit_xor (word_step k a m) (word_step k b n)
unfolding word_step
step_linear zero a b m n ha hb = refl
step_linear (suc k) a b m n ha hb =
    let x : ℕ = m / 2 ^ k % 2 in
    let y : ℕ = n / 2 ^ k % 2 in
    let bit : bit_xor m n / 2 ^ k % 2 ≡ bit_xor x y =
    ap (λ (d : ℕ). d % 2) (xor_shr m n k) ∙ xor_mod (m / 2 ^ k) (n / 2 ^ k) 1 in
    ap (λ (acc : ℕ). bit_steps acc (bits k (bit_xor m n))) (ap (bit_step (bit_xor a b)) bit ∙ bit_linear a b x y ha hb (bit_under _) (bit_under _))
    ∙ step_linear k (bit_step a x) (bit_step b y) m n (bit_small a x) (bit_small b y)

-- a word's upper bits first, then the lower ones
pub step_parts : (j k acc n : ℕ) → word_step (j + k) acc n ≡ word_step k (word_step j acc (n / 2 ^ k)) n
unfolding word_step
step_parts zero k acc n = rw (zero-add k)
step_parts (suc j) k acc n =
    rw (suc-add j k, shr-shr n k j, add_comm k j) (step_parts j k (bit_step acc (n / 2 ^ (j + k) % 2)) n)

-- only so many of the lowest bits count
pub step_low : (j k acc n : ℕ) → word_step k acc (n % 2 ^ (j + k)) ≡ word_step k acc n
unfolding word_step
step_low j zero acc n = refl
step_low j (suc k) acc n =
    let e : j + suc k ≡ suc j + k = omega arith in
    let f : suc j ≡ j + 1 = omega arith in
    let bit : n % 2 ^ (suc j + k) / 2 ^ k % 2 ≡ n / 2 ^ k % 2 =
    ap (λ (d : ℕ). d % 2) (field n (suc j) k) ∙ rw f (mod-mod-pow (n / 2 ^ k) j 1) in
    rw (e, bit) (step_low (suc j) k (bit_step acc (n / 2 ^ k % 2)) n)

-- two words put together are the one, then the other
pub step_joined : (j k acc first rest : ℕ) → rest < 2 ^ k → word_step (j + k) acc (first * 2 ^ k + rest) ≡ word_step k (word_step j acc first) rest
step_joined j k acc first rest under =
    let n : ℕ = first * 2 ^ k + rest in
    let few : n % 2 ^ (0 + k) ≡ rest = rw (zero-add k) (low first k under) in
    step_parts j k acc n ∙ ap (λ (m : ℕ). word_step k (word_step j acc m) n) (high first k under)
    ∙ sym (step_low 0 k (word_step j acc first) n) ∙ ap (word_step k (word_step j acc first)) few
