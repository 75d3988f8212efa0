-- Laws of the file: how large its numbers are, and how contracts add up over its segments.
use Prim.Native.Nat.{ℕ, ◌+◌, ◌-◌, ◌*◌, ◌^◌, ◌≤◌, ◌<◌, min}
use Rattle.std.specs.Prelude.{◌≡◌, List, get_or, drop}
use Rattle.std.proofs.Common.{ap, sym, ◌∙◌, mul-le-mul}
use Rattle.std.proofs.Math.Nat.{min-eq_left, zero-min}
use native.Mathlib.Omega.{arith}
use Rattle.std.proofs.Math.ListN.{length, length-drop}
use Rattle.std.proofs.Math.Seq.{length-take-le}
use Rattle.wire.specs.NumberLaws.{number_under}
use Rattle.files.specs.File.{sum_below, segments_of, count_at, offset_at, key_from, contracts_before, contracts_of}
use Rattle.files.specs.BelowLaws.{sum_on, sum_reaches, sum_under}

module _ (list : List ℕ) where
  module _ (byte : (i : ℕ) → get_or list i 0 < 256) where
    pub segments_under : segments_of list < 65536
    unfolding segments_of
    segments_under = number_under list byte 2 0

    pub count_under : (i : ℕ) → count_at list i < 65536
    unfolding count_at
    count_under i = number_under list byte 2 _

    pub offset_under : (i : ℕ) → offset_at list i < 2 ^ 32
    unfolding offset_at
    offset_under i = number_under list byte 4 _

    pub before_under : (i : ℕ) → contracts_before list i ≤ 65535 * 65535
    unfolding contracts_before
    before_under i =
        let n : ℕ = min i (segments_of list) in
        let few : n ≤ 65535 = omega (arith, segments_under) in
        let sum = sum_under (count_at list) n 65535 (λ j h. omega (arith, count_under j)) in
        omega arith

    -- of keys of less than 65,536 bytes
    pub bodies_under : (size i : ℕ) → size < 65536 → size * contracts_before list i ≤ 65535 * (65535 * 65535)
    bodies_under size i few = let h : size ≤ 65535 = omega arith in mul-le-mul h (before_under i)

  -- no segment stands before the first
  pub none_before : contracts_before list 0 ≡ 0
  unfolding contracts_before
  none_before = rw (zero-min (segments_of list))

  pub before_sum : (i : ℕ) → i ≤ segments_of list → contracts_before list i ≡ sum_below i (count_at list)
  unfolding contracts_before
  before_sum i h = rw (min-eq_left h)

  -- one segment more
  pub before_next : (i : ℕ) → i < segments_of list → contracts_before list (i + 1) ≡ contracts_before list i + count_at list i
  before_next i h =
      before_sum (i + 1) (omega arith) ∙ sum_on (count_at list) i ∙ ap (λ (n : ℕ). n + count_at list i) (sym (before_sum i (omega arith)))

  -- the contracts of a segment are among all
  pub before_reaches : (i : ℕ) → i < segments_of list → contracts_before list i + count_at list i ≤ contracts_of list
  before_reaches i h =
      rw (before_sum i (omega arith), before_sum (segments_of list) (omega arith))
      (sum_reaches (count_at list) (segments_of list) i h)

  -- a key that ends within the file has all its bytes
  pub whole_key : (size at : ℕ) → at + size ≤ length list → length (key_from size list at) ≡ size
  unfolding key_from
  whole_key size at h =
      let left : length (drop at list) ≡ length list - at = length-drop at list in
      length-take-le size (drop at list) (omega arith)
