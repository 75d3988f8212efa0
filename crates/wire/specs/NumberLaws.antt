-- Laws of big-endian numbers, over the width.
use Rattle.std.specs.Prelude.{ℕ, zero, suc, ◌+◌, ◌*◌, ◌/◌, ◌%◌, ◌^◌, ◌≤◌, ◌<◌, ◌≡◌, refl, List, [], ◌∷◌, ◌++◌, length, get_or, take, set}
use Rattle.std.proofs.Common.{ap, sym, ◌∙◌, arith, add-one, suc-add, zero-add, add-zero, mul_assoc, add-mul, mod-lt, pow-suc, mul_comm, add_assoc, pow-add, length-set, get_or-set_same, get_or-set_other, get_or-take}
use Rattle.std.proofs.Math.Nat.{mod-one, div-div-eq-div-mul, one-le-pow}
use Rattle.std.proofs.Math.Arith.{mod-mul, digits_div, digits_mod, digits_lt}
use Rattle.std.proofs.Math.ListN.{get_or-eq_default}
use Rattle.std.proofs.lemmas.List.Edits.{sets}
use Rattle.std.proofs.Math.Seq.{set_out}
use Rattle.laws.specs.Lists.{sets_append}
use Rattle.wire.specs.Number.{number_at, bytes_of}

-- past the end every number is zero
pub past_zero : (width : ℕ) (s : List ℕ) (at : ℕ) → length s ≤ at → number_at width s at ≡ 0
past_zero zero s at h = refl
past_zero (suc w) s at h =
    rw (get_or-eq_default s 0 {n = at} h, past_zero w s (at + 1) (omega arith)) (omega arith)

-- past the end nothing is written
pub past_kept : (vs s : List ℕ) (at : ℕ) → length s ≤ at → sets s at vs ≡ s
past_kept [] s at h = refl
past_kept (v ∷ vs) s at h = rw (set_out s at v h) (past_kept vs s (suc at) (omega arith))

-- a number of v and w bytes is the number of its first v, and that of the w behind them
pub joined : (v w : ℕ) (s : List ℕ) (at : ℕ) → number_at (v + w) s at ≡ number_at v s at * 256 ^ w + number_at w s (at + v)
joined zero w s at = rw (zero-add w, add-zero at) (omega arith)
joined (suc v) w s at =
    let e : at + 1 + v ≡ at + suc v = omega arith in
    rw (suc-add v w, joined v w s (at + 1), pow-add 256 v w, add-mul, e)
    (rw (← mul_assoc) (sym (add_assoc _ _ _)))

-- the powers of 256 are above zero
positive : (k : ℕ) → 0 < 256 ^ k
positive k = one-le-pow k 256 (omega arith)

-- a byte of a number's remainder is the number's, where the remainder has it
byte_low : (j k n : ℕ) → n % 256 ^ (suc j + k) / 256 ^ k % 256 ≡ n / 256 ^ k % 256
byte_low j k n =
    let below : 0 < 256 = omega arith in
    rw (pow-add 256 (suc j) k, mod-mul n (positive (suc j)) (positive k), digits_div (n / 256 ^ k % 256 ^ suc j) (mod-lt n (positive k)), pow-suc 256 j, mod-mul (n / 256 ^ k) (positive j) below, digits_mod (n / 256 ^ k / 256 % 256 ^ j) (mod-lt (n / 256 ^ k) {m = 256} (omega arith)))

-- the bytes of a number's remainder are the number's
bytes_low : (j w n : ℕ) → bytes_of w (n % 256 ^ (j + w)) ≡ bytes_of w n
bytes_low j zero n = refl
bytes_low j (suc w) n =
    let e : j + suc w ≡ suc j + w = omega arith in
    rw (e, byte_low j w n, bytes_low (suc j) w n)

-- the bytes of a number at v and w bytes are those of its upper part and those of its lower part
pub bytes_joined : (v w n : ℕ) → bytes_of (v + w) n ≡ bytes_of v (n / 256 ^ w) ++ bytes_of w (n % 256 ^ w)
bytes_joined zero w n =
    rw (zero-add w) (sym (rw (zero-add w) at (bytes_low 0 w n)))
bytes_joined (suc v) w n =
    rw (suc-add v w, div-div-eq-div-mul n (256 ^ w) (256 ^ v), mul_comm (256 ^ w) (256 ^ v), ← pow-add 256 v w, bytes_joined v w n)

pub length_bytes : (w n : ℕ) → length (bytes_of w n) ≡ w
length_bytes zero n = refl
length_bytes (suc w) n = ap suc (length_bytes w n)

-- a number is stored as its upper part, and its lower part behind that
pub stored_joined : (v w n : ℕ) (s : List ℕ) (at : ℕ)
    → sets s at (bytes_of (v + w) n) ≡ sets (sets s at (bytes_of v (n / 256 ^ w))) (at + v) (bytes_of w (n % 256 ^ w))
stored_joined v w n s at =
    rw (bytes_joined v w n, sets_append (bytes_of v (n / 256 ^ w)) (bytes_of w (n % 256 ^ w)) s at, length_bytes v (n / 256 ^ w))

-- what is stored further on leaves what stands before it
pub sets_before : (vs s : List ℕ) (at i : ℕ) → i < at → get_or (sets s at vs) i 0 ≡ get_or s i 0
sets_before [] s at i h = refl
sets_before (v ∷ vs) s at i h =
    sets_before vs (set s at v) (suc at) i (omega arith) ∙ get_or-set_other s at i v 0 (λ e. omega arith)

-- what was written reads back
pub read_back : (w n : ℕ) (s : List ℕ) (at : ℕ) → at + w ≤ length s → number_at w (sets s at (bytes_of w n)) at ≡ n % 256 ^ w
read_back zero n s at h = sym (mod-one n)
read_back (suc w) n s at h =
    let b : ℕ = n / 256 ^ w % 256 in
    let s' : List ℕ = set s at b in
    let first : get_or (sets s' (suc at) (bytes_of w n)) at 0 ≡ b =
    sets_before (bytes_of w n) s' (suc at) at (omega arith) ∙ get_or-set_same s at b 0 (omega arith) in
    let rest : number_at w (sets s' (suc at) (bytes_of w n)) (at + 1) ≡ n % 256 ^ w =
    rw (add-one at) (read_back w n s' (suc at) (rw (length-set s at b) (omega arith))) in
    rw (first, rest, pow-suc 256 w, mul_comm (256 ^ w) 256, mod-mul n {m = 256} (omega arith) (positive w))

-- a number of so many bytes stands below that power of 256
pub number_under : (s : List ℕ) → ((i : ℕ) → get_or s i 0 < 256) → (width at : ℕ) → number_at width s at < 256 ^ width
number_under s byte zero at = omega arith
number_under s byte (suc w) at =
    let rest : number_at w s (at + 1) < 256 ^ w = number_under s byte w (at + 1) in
    rw (pow-suc 256 w, mul_comm (256 ^ w) 256) (digits_lt (byte at) rest)

-- a number that lies in the front of a list is the list's
pub number_of_front : (width n : ℕ) (s : List ℕ) (at : ℕ) → at + width ≤ n → number_at width (take n s) at ≡ number_at width s at
number_of_front zero n s at h = refl
number_of_front (suc w) n s at h =
    rw (get_or-take n s at 0 (omega arith), number_of_front w n s (at + 1) (omega arith))
