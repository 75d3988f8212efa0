-- The order of keys is the library's order of two rows of bytes.
use Rattle.std.specs.Prelude.{ℕ, ◌-◌, ◌<◌, ◌≡◌, refl, ◌⊎◌, List, [], ◌∷◌, cond, ltb, length, take, drop}
use Rattle.std.proofs.Common.{sym, ◌∙◌, inl, inr, arith, lt-ltb, le-ltb, length-drop, take_all}
use Rattle.std.specs.declared.cmp.Ordering.{Ordering}
use Rattle.std.specs.declared.cmp.Ordering.TheVariants.{Less, Equal, Greater}
use Rattle.std.specs.Ordering.{nat_cmp, ordering_then}
use Rattle.std.specs.Cmp.{nat_cmp_is}
use Rattle.std.specs.Cmp.Lexicographic.{slice_cmp}
use Rattle.laws.specs.Order.{three}
use Rattle.wire.specs.Number.{number_at}
use Rattle.files.specs.Keys.{order_of}
use Rattle.files.specs.KeysLaws.{ByWord}

-- a byte decides where it differs
first : (x y : ℕ) (rest : Ordering) → (x < y) ⊎ ((y < x) ⊎ (x ≡ y))
    → ordering_then (nat_cmp x y) rest ≡ cond (ltb x y) Less (cond (ltb y x) Greater rest)
first x y rest (inl h) = rw (← nat_cmp_is x y Less h, lt-ltb x y h) refl
first x y rest (inr (inl h)) = rw (← nat_cmp_is x y Greater h, le-ltb x y (omega arith), lt-ltb y x h) refl
first x y rest (inr (inr h)) = rw (← nat_cmp_is x y Equal h, le-ltb x y (omega arith), le-ltb y x (omega arith)) refl

bytes_order : (a b : List ℕ) → slice_cmp nat_cmp a b ≡ order_of a b
bytes_order [] [] = refl
bytes_order [] (y ∷ ys) = refl
bytes_order (x ∷ xs) [] = refl
bytes_order (x ∷ xs) (y ∷ ys) = rw (bytes_order xs ys) (first x y (order_of xs ys) (three x y))

-- from byte i on
rest : (xs : List ℕ) (i : ℕ) → take (length xs - i) (drop i xs) ≡ drop i xs
rest xs i = let left = length-drop i xs in take_all (length xs - i) (drop i xs) (omega arith)

pub rest_order : (a b : List ℕ) (i : ℕ)
    → slice_cmp nat_cmp (take (length a - i) (drop i a)) (take (length b - i) (drop i b)) ≡ order_of (drop i a) (drop i b)
rest_order a b i = rw (rest a i, rest b i) (bytes_order (drop i a) (drop i b))

-- of eight bytes each, two numbers that differ stand as what is left of the keys does
pub word_order : {a b : List ℕ} {width i x y : ℕ} {o : Ordering} → ByWord a b width i → x ≡ number_at width a i → y ≡ number_at width b i
    → (x ≡ y → ⊥) → o ≡ nat_cmp x y → order_of (drop i a) (drop i b) ≡ o
word_order {a = a} {b = b} {i = i} {x = x} {y = y} {o = o} word e f n is = go (three x y)
  where
    go : (x < y) ⊎ ((y < x) ⊎ (x ≡ y)) → order_of (drop i a) (drop i b) ≡ o
    go (inl h) = word.below (rw (← e, ← f) h) ∙ nat_cmp_is x y Less h ∙ sym is
    go (inr (inl h)) = word.above (rw (← e, ← f) h) ∙ nat_cmp_is x y Greater h ∙ sym is
    go (inr (inr h)) = absurd (n h)
