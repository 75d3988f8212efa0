-- The order of keys is a strict one, and two keys are the same exactly when they are equal.
use Rattle.std.specs.Prelude.{ℕ, zero, suc, ◌+◌, ◌*◌, ◌^◌, ◌≤◌, ◌<◌, ◌≡◌, refl, ◌⊎◌, List, [], ◌∷◌, length, get_or, drop}
use Rattle.std.proofs.Common.{ap, ap₂, sym, ◌∙◌, inl, inr, ⊎_elim, arith, add-zero, add-one, drop_of_length-le, drop-cons, lt-ltb, le-ltb}
use Rattle.std.proofs.Math.Arith.{digits_lt}
use Rattle.wire.specs.NumberLaws.{number_under}
use Rattle.laws.specs.Order.{three}
use Rattle.wire.specs.Number.{number_at}
use Rattle.std.specs.declared.cmp.Ordering.TheVariants.{Less, Equal, Greater}
use Rattle.files.specs.Keys.{order_of}

module _ (x y : ℕ) (xs ys : List ℕ) where
  first_below_lem : x < y → order_of (x ∷ xs) (y ∷ ys) ≡ Less
  first_below_lem h = rw (lt-ltb x y h)

  first_above : y < x → order_of (x ∷ xs) (y ∷ ys) ≡ Greater
  first_above h = let k : y ≤ x = omega arith in rw (le-ltb x y k, lt-ltb y x h)

  first_same : x ≡ y → order_of (x ∷ xs) (y ∷ ys) ≡ order_of xs ys
  first_same e =
      let h : y ≤ x = omega arith in
      let k : x ≤ y = omega arith in
      rw (le-ltb x y h, le-ltb y x k)

-- a key stands above the lower of two keys, or below the higher
pub between : (s a b : List ℕ) → order_of a b ≡ Less → (order_of s a ≡ Greater) ⊎ (order_of s b ≡ Less)
between [] [] [] e = inr e
between [] [] (y ∷ ys) e = inr refl
between [] (x ∷ xs) [] e = inr (cc)
between [] (x ∷ xs) (y ∷ ys) e = inr refl
between (z ∷ zs) [] b e = inl refl
between (z ∷ zs) (x ∷ xs) [] e = inr (cc)
between (z ∷ zs) (x ∷ xs) (y ∷ ys) e = go (between zs xs ys) (three z x) (three x y)
  where
    go : (order_of xs ys ≡ Less → (order_of zs xs ≡ Greater) ⊎ (order_of zs ys ≡ Less))
        → (z < x) ⊎ ((x < z) ⊎ (z ≡ x)) → (x < y) ⊎ ((y < x) ⊎ (x ≡ y))
        → (order_of (z ∷ zs) (x ∷ xs) ≡ Greater) ⊎ (order_of (z ∷ zs) (y ∷ ys) ≡ Less)
    go rest p (inr (inl k)) = inr (cc (first_above x y xs ys k))
    go rest (inl h) (inl k) = inr (first_below_lem z y zs ys (omega arith))
    go rest (inl h) (inr (inr k)) = inr (first_below_lem z y zs ys (omega arith))
    go rest (inr (inl h)) (inl k) = inl (first_above z x zs xs h)
    go rest (inr (inl h)) (inr (inr k)) = inl (first_above z x zs xs h)
    go rest (inr (inr h)) (inl k) = inr (first_below_lem z y zs ys (omega arith))
    go rest (inr (inr h)) (inr (inr k)) =
        ⊎_elim (λ (l : order_of zs xs ≡ Greater). inl (first_same z x zs xs h ∙ l))
        (λ (l : order_of zs ys ≡ Less). inr (first_same z y zs ys (h ∙ k) ∙ l))
        (rest (sym (first_same x y xs ys k) ∙ e))

pub below_trans : (a b c : List ℕ) → order_of a b ≡ Less → order_of b c ≡ Less → order_of a c ≡ Less
below_trans a b c e f =
    ⊎_elim (λ (l : order_of a b ≡ Greater). (cc)) (λ (l : order_of a c ≡ Less). l) (between a b c f)

pub same_key : (a b : List ℕ) → order_of a b ≡ Equal → a ≡ b
same_key [] [] e = refl
same_key [] (y ∷ ys) e = cc
same_key (x ∷ xs) [] e = cc
same_key (x ∷ xs) (y ∷ ys) e = go (same_key xs ys) (three x y)
  where
    go : (order_of xs ys ≡ Equal → xs ≡ ys) → (x < y) ⊎ ((y < x) ⊎ (x ≡ y)) → x ∷ xs ≡ y ∷ ys
    go rest (inl h) = cc (first_below_lem x y xs ys h)
    go rest (inr (inl h)) = cc (first_above x y xs ys h)
    go rest (inr (inr h)) = ap₂ {C = List ℕ} ◌∷◌ h (rest (sym (first_same x y xs ys h) ∙ e))

pub key_same : (a : List ℕ) → order_of a a ≡ Equal
key_same [] = refl
key_same (x ∷ xs) = first_same x x xs xs refl ∙ key_same xs

-- the order of what is left of two keys behind their first i bytes
module _ (a b : List ℕ) (i : ℕ) where
  pub left_goes_on : i < length a → length b ≤ i → order_of (drop i a) (drop i b) ≡ Greater
  left_goes_on h k = rw (drop-cons a i 0 h, drop_of_length-le b k)

  pub right_goes_on : length a ≤ i → i < length b → order_of (drop i a) (drop i b) ≡ Less
  right_goes_on h k = rw (drop_of_length-le a h, drop-cons b i 0 k)

  pub both_end : length a ≤ i → length b ≤ i → order_of (drop i a) (drop i b) ≡ Equal
  both_end h k = rw (drop_of_length-le a h, drop_of_length-le b k)

  module _ (h : i < length a) (k : i < length b) where
    both_go_on : order_of (drop i a) (drop i b) ≡ order_of (get_or a i 0 ∷ drop (suc i) a) (get_or b i 0 ∷ drop (suc i) b)
    both_go_on = rw (drop-cons a i 0 h, drop-cons b i 0 k)

    pub byte_below : get_or a i 0 < get_or b i 0 → order_of (drop i a) (drop i b) ≡ Less
    byte_below l = both_go_on ∙ first_below_lem (get_or a i 0) (get_or b i 0) (drop (suc i) a) (drop (suc i) b) l

    pub byte_above : get_or b i 0 < get_or a i 0 → order_of (drop i a) (drop i b) ≡ Greater
    byte_above l = both_go_on ∙ first_above (get_or a i 0) (get_or b i 0) (drop (suc i) a) (drop (suc i) b) l

    pub byte_same : get_or a i 0 ≡ get_or b i 0 → order_of (drop i a) (drop i b) ≡ order_of (drop (i + 1) a) (drop (i + 1) b)
    byte_same e = rw (add-one i) (both_go_on ∙ first_same (get_or a i 0) (get_or b i 0) (drop (suc i) a) (drop (suc i) b) e)

-- how two keys stand from byte i on, where both go on for so many bytes: by the numbers that these make, and where those are
-- equal as from behind them
pub record ByWord (a b : List ℕ) (width i : ℕ) : Type 0 where
  pub below : number_at width a i < number_at width b i → order_of (drop i a) (drop i b) ≡ Less
  pub above : number_at width b i < number_at width a i → order_of (drop i a) (drop i b) ≡ Greater
  pub same : number_at width a i ≡ number_at width b i → order_of (drop i a) (drop i b) ≡ order_of (drop (i + width) a) (drop (i + width) b)

-- of bytes, since the first in which two numbers differ decides their order
module _ (a b : List ℕ) (byte_a : (i : ℕ) → get_or a i 0 < 256) (byte_b : (i : ℕ) → get_or b i 0 < 256) where
  one_byte_more : (w i : ℕ) → i < length a → i < length b → ByWord a b w (i + 1) → ByWord a b (suc w) i
  one_byte_more w i h k rest = go (three (get_or a i 0) (get_or b i 0))
    where
      p : number_at w a (i + 1) < 256 ^ w
      p = number_under a byte_a w (i + 1)

      q : number_at w b (i + 1) < 256 ^ w
      q = number_under b byte_b w (i + 1)

      go : (get_or a i 0 < get_or b i 0) ⊎ ((get_or b i 0 < get_or a i 0) ⊎ (get_or a i 0 ≡ get_or b i 0)) → ByWord a b (suc w) i
      go (inl l) =
          let less = digits_lt l p in
          record {
            below = λ n. byte_below a b i h k l;
            above = λ n. absurd (omega arith);
            same = λ n. absurd (omega arith);
          }
      go (inr (inl l)) =
          let more = digits_lt l q in
          record {
            below = λ n. absurd (omega arith);
            above = λ n. byte_above a b i h k l;
            same = λ n. absurd (omega arith);
          }
      go (inr (inr l)) =
          let first : get_or a i 0 * 256 ^ w ≡ get_or b i 0 * 256 ^ w = ap (λ (n : ℕ). n * 256 ^ w) l in
          let on : i + 1 + w ≡ i + suc w = omega arith in
          record {
            below = λ n. byte_same a b i h k l ∙ rest.below (omega arith);
            above = λ n. byte_same a b i h k l ∙ rest.above (omega arith);
            same = λ n. byte_same a b i h k l ∙ rw (← on) (rest.same (omega arith));
          }

  pub by_word : (width i : ℕ) → i + width ≤ length a → i + width ≤ length b → ByWord a b width i
  by_word zero i h k = record { below = λ n. absurd (omega arith); above = λ n. absurd (omega arith); same = λ n. rw (add-zero i) }
  by_word (suc w) i h k = one_byte_more w i (omega arith) (omega arith) (by_word w (i + 1) (omega arith) (omega arith))
