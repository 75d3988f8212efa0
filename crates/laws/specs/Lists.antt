-- Parts of lists.
use Rattle.std.specs.Prelude.{ℕ, zero, suc, ◌+◌, ◌-◌, min, ◌≤◌, ◌<◌, ◌≡◌, refl, List, [], ◌∷◌, ◌++◌, length, get_or, take, drop, set}
use Rattle.std.proofs.Common.{ap, sym, ◌∙◌, append_assoc, ⊎_elim, arith, add-one, le_of_suc-le-suc, not-suc-le-zero, zero-add, add-zero, suc-add, drop_of_length-le, length-drop, take_all, take-suc, drop-cons, length-take-le, take-take}
use Rattle.std.proofs.lemmas.List.{set_at}
use Rattle.std.proofs.Math.Seq.{take-nil, drop-nil}
use Rattle.std.proofs.lemmas.List.Edits.{sets}
use Rattle.laws.specs.Order.{order}

module _ {A : Type 0} where
  -- no more can be taken than there is
  pub take_min : (n : ℕ) (l : List A) → take (min n (length l)) l ≡ take n l
  take_min n l =
      ⊎_elim
      (λ (h : n ≤ length l). let e : min n (length l) ≡ n = omega arith in ap (λ (k : ℕ). take k l) e)
      (λ (h : length l < n). take_all (min n (length l)) l (omega arith) ∙ sym (take_all n l (omega arith)))
      (order n (length l))

  pub drop_min : (n : ℕ) (l : List A) → drop (min n (length l)) l ≡ drop n l
  drop_min n l =
      ⊎_elim
      (λ (h : n ≤ length l). let e : min n (length l) ≡ n = omega arith in ap (λ (k : ℕ). drop k l) e)
      (λ (h : length l < n). drop_of_length-le l {i = min n (length l)} (omega arith) ∙ sym (drop_of_length-le l {i = n} (omega arith)))
      (order n (length l))

  -- two runs are stored one behind the other
  pub sets_append : (xs ys s : List A) (at : ℕ) → sets s at (xs ++ ys) ≡ sets (sets s at xs) (at + length xs) ys
  sets_append [] ys s at = rw (add-zero at)
  sets_append (x ∷ xs) ys s at =
      let e : suc at + length xs ≡ at + suc (length xs) = omega arith in
      rw (sets_append xs ys (set s at x) (suc at), e)

  -- one more of `s` copied over the front of `d`
  pub copy_one : (s d : List A) (i : ℕ) (a : A) → i < length s → i < length d
      → set (take i s ++ drop i d) i (get_or s i a) ≡ take (suc i) s ++ drop (suc i) d
  copy_one s d i a h k =
      rw (drop-cons d i a k, set_at (take i s) (get_or d i a) (drop (suc i) d) (get_or s i a) i (length-take-le i s (omega arith)), take-suc s i a h, append_assoc (take i s))

  -- the same at the code's `i + 1`
  pub copy_next : (s d : List A) (i : ℕ) (a : A) → i < length s → i < length d
      → set (take i s ++ drop i d) i (get_or s i a) ≡ take (i + 1) s ++ drop (i + 1) d
  copy_next s d i a h k = rw (add-one i) (copy_one s d i a h k)

  -- a list filled from its end: the element before those that are there already
  pub set_before : (l behind : List A) (i : ℕ) (a : A) → i < length l → set (take (suc i) l ++ behind) i a ≡ take i l ++ (a ∷ behind)
  set_before [] behind i a h = absurd (not-suc-le-zero h)
  set_before (x ∷ l) behind zero a h = refl
  set_before (x ∷ l) behind (suc i) a h = ap (λ (t : List A). x ∷ t) (set_before l behind i a (le_of_suc-le-suc h))

  drop_take : (b n : ℕ) (l : List A) → drop b (take (b + n) l) ≡ take n (drop b l)
  drop_take zero n l = rw (zero-add n)
  drop_take (suc b) n [] = rw (take-nil (suc b + n), drop-nil (suc b), take-nil n)
  drop_take (suc b) n (x ∷ l) = rw (suc-add b n) (drop_take b n l)

  -- a part that lies in the front of a list is the list's
  pub part_of_front : (b k n : ℕ) (l : List A) → b + k ≤ n → take k (drop b (take n l)) ≡ take k (drop b l)
  part_of_front b k n l h =
      let e : n ≡ b + (n - b) = omega arith in
      rw (e, drop_take b (n - b) l) (take-take k (n - b) (drop b l) (omega arith))

  -- one more store of a run of stores
  pub sets_more : (l vs : List A) (k i : ℕ) (a : A) → i < length vs → set (sets l k (take i vs)) (k + i) (get_or vs i a) ≡ sets l k (take (suc i) vs)
  sets_more l [] k i a h = absurd (omega arith)
  sets_more l (v ∷ vs) k zero a h = rw (add-zero k)
  sets_more l (v ∷ vs) k (suc i) a h =
      let e : k + suc i ≡ suc k + i = omega arith in
      rw e (sets_more (set l k v) vs (suc k) i a (omega arith))

  -- what stands between two places, cut from either side first
  pub middle : (l : List A) (b n : ℕ) → n ≤ length l → take (n - b) (drop b l) ≡ drop b (take n l)
  middle l b n h =
      ⊎_elim (λ (le : b ≤ n). sym (part_of_front b (n - b) n l (omega arith)) ∙ take_all (n - b) (drop b (take n l)) (omega (arith, length-drop b (take n l), length-take-le n l h)))
      (λ (lt : n < b).
      let e : n - b ≡ 0 = omega arith in
      rw e (sym (drop_of_length-le (take n l) {i = b} (omega (arith, length-take-le n l h)))))
      (order b n)
