-- Laws of `bit_xor` that the library lacks: it is associative, and it goes through a doubling.
use Rattle.std.specs.Prelude.{◌≡◌, ℕ, zero, suc, ◌+◌, ◌*◌, ◌/◌, ◌%◌, ◌^◌, ◌<◌, bit_xor, refl}
use Rattle.std.proofs.Common.{ap, ap₂, sym, ◌∙◌, arith, mod-lt, pow_pos}
use Rattle.std.proofs.Math.Arith.{bin_ind}
use Rattle.std.specs.Int.Bits.{differ, xor_step, xor_self}
use Rattle.std.proofs.lemmas.Nat.{xor_shr, xor_mod, xor_comm, xor_block}

-- what holds of both digits holds of every number below two
pub by_digit : (P : ℕ → Type 0) → P 0 → P 1 → (n : ℕ) → n < 2 → P n
by_digit P p q zero h = p
by_digit P p q (suc zero) h = q
by_digit P p q (suc (suc n)) h = absurd (omega arith)

pub bit_under : (n : ℕ) → n % 2 < 2
bit_under n = mod-lt n (pow_pos 1)

abbrev Assoc : ℕ → ℕ → ℕ → Type 0
Assoc x y z = differ (bit_xor x y) z ≡ differ x (bit_xor y z)

differ_assoc : (x y z : ℕ) → x < 2 → y < 2 → z < 2 → Assoc x y z
differ_assoc x y z hx hy hz =
    by_digit (λ (x : ℕ). Assoc x y z)
    (by_digit (λ (y : ℕ). Assoc 0 y z) (by_digit (Assoc 0 0) refl refl z hz) (by_digit (Assoc 0 1) refl refl z hz) y hy)
    (by_digit (λ (y : ℕ). Assoc 1 y z) (by_digit (Assoc 1 0) refl refl z hz) (by_digit (Assoc 1 1) refl refl z hz) y hy)
    x hx

pub xor_assoc : (a b c : ℕ) → bit_xor (bit_xor a b) c ≡ bit_xor a (bit_xor b c)
xor_assoc a =
    bin_ind (λ (n : ℕ). (b c : ℕ) → bit_xor (bit_xor n b) c ≡ bit_xor n (bit_xor b c)) (λ b c. refl)
    (λ n ih b c.
    xor_step (bit_xor n b) c
    ∙ ap₂ (λ (x y : ℕ). x * 2 + y)
    (ap (λ (x : ℕ). bit_xor x (c / 2)) (xor_shr n b 1) ∙ ih (b / 2) (c / 2) ∙ ap (bit_xor (n / 2)) (sym (xor_shr b c 1)))
    (ap (λ (x : ℕ). differ x (c % 2)) (xor_mod n b 1) ∙ differ_assoc (n % 2) (b % 2) (c % 2) (bit_under n) (bit_under b) (bit_under c) ∙ ap (differ (n % 2)) (sym (xor_mod b c 1)))
    ∙ sym (xor_step n (bit_xor b c)))
    a

-- what stands on both sides of a seam goes
pub cancel : (a b c : ℕ) → bit_xor (bit_xor a b) (bit_xor b c) ≡ bit_xor a c
cancel a b c =
    xor_assoc a b (bit_xor b c) ∙ ap (bit_xor a) (sym (xor_assoc b b c) ∙ ap (λ (x : ℕ). bit_xor x c) (xor_self b))

-- the inner two of four change places
pub inner : (a b c d : ℕ) → bit_xor (bit_xor a b) (bit_xor c d) ≡ bit_xor (bit_xor a c) (bit_xor b d)
inner a b c d =
    xor_assoc a b (bit_xor c d)
    ∙ ap (bit_xor a) (sym (xor_assoc b c d) ∙ ap (λ (x : ℕ). bit_xor x d) (xor_comm b c) ∙ xor_assoc c b d)
    ∙ sym (xor_assoc a c (bit_xor b d))

twice : (n : ℕ) → n * 2 ^ 1 + 0 ≡ n + n
twice n = omega arith

pub xor_doubled : (a b : ℕ) → bit_xor a b + bit_xor a b ≡ bit_xor (a + a) (b + b)
xor_doubled a b =
    sym (twice (bit_xor a b)) ∙ sym (xor_block 1 a b 0 0 (pow_pos 1) (pow_pos 1)) ∙ ap₂ bit_xor (twice a) (twice b)
