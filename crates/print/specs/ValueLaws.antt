-- Laws of digits one after the other: what they count by place, and that they are digits.
use Rattle.std.specs.Prelude.{ℕ, zero, suc, ◌+◌, ◌*◌, ◌^◌, ◌<◌, ◌≡◌, refl, List, [], ◌∷◌, ◌++◌, length, replicate}
use Rattle.std.proofs.Math.Nat.{pow-succ'}
use Rattle.std.proofs.Common.{zero-mul, add-zero, zero-add, add-mul, mul_assoc, add_assoc, pow-add, lit<, length-append}
use Rattle.std.proofs.Math.Arith.{digits_lt}
use Rattle.std.proofs.lemmas.List.{length-replicate}
use Rattle.decimal.specs.Denotes.{value, Digits}
use Rattle.laws.specs.Powers.{ten_pos}

-- the first count the more for every digit behind them
pub value_append : (ds es : List ℕ) → value (ds ++ es) ≡ value ds * 10 ^ length es + value es
value_append [] es = rw (zero-mul, zero-add)
value_append (d ∷ ds) es = rw (value_append ds es, length-append ds es, pow-add, ← mul_assoc, add-mul, add_assoc)

zeros_none : (k : ℕ) → value (replicate k 0) ≡ 0
zeros_none zero = refl
zeros_none (suc k) = rw (zero-mul, zero-add, zeros_none k)

pub value_zeros : (ds : List ℕ) (k : ℕ) → value (ds ++ replicate k 0) ≡ value ds * 10 ^ k
value_zeros ds k = rw (value_append ds (replicate k 0), zeros_none, length-replicate, add-zero)

-- k digits count less than one at the place above them
pub value_lt : (ds : List ℕ) → Digits ds → value ds < 10 ^ length ds
value_lt [] h = ten_pos 0
value_lt (d ∷ ds) h = rw pow-succ' (digits_lt h.0 (value_lt ds h.1))

pub digits_append : (ds es : List ℕ) → Digits ds → Digits es → Digits (ds ++ es)
digits_append [] es h t = t
digits_append (d ∷ ds) es h t = (h.0, digits_append ds es h.1 t)

pub digits_front : (ds es : List ℕ) → Digits (ds ++ es) → Digits ds
digits_front [] es h = tt
digits_front (d ∷ ds) es h = (h.0, digits_front ds es h.1)

pub digits_zeros : (k : ℕ) → Digits (replicate k 0)
digits_zeros zero = tt
digits_zeros (suc k) = (lit< tt, digits_zeros k)
