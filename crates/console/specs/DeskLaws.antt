-- Bytes that move to the front, and those that stay there.
use Rattle.std.specs.Prelude.{ℕ, ◌+◌, ◌≤◌, ◌<◌, ◌≡◌, List, [], ◌∷◌, ◌++◌, length, get_or, set, take, drop}
use Rattle.std.proofs.Common.{sym, ap, ◌∙◌, add-one, arith, length-drop, take-suc, take-suc-set, take-take, drop-drop, drop-set-lt, get_or-drop}

-- what stays of a longer front stays of a shorter one
pub shorter_front : (a b : List ℕ) (m n : ℕ) → n ≤ m → take m a ≡ take m b → take n a ≡ take n b
shorter_front a b m n h e = sym (take-take n m a h) ∙ ap (take n) e ∙ take-take n m b h

module _ (room before : List ℕ) (at i : ℕ) (fits : at + i < length before) (long : length room ≡ length before)
    (front : take i room ≡ take i (drop at before)) (behind : drop i room ≡ drop i before) where
  -- the byte that moves is not yet written over
  moves : get_or room (at + i) 0 ≡ get_or (drop at before) i 0
  moves =
      let e : at + i ≡ i + at = omega arith in
      ap (λ (k : ℕ). get_or room k 0) e ∙ sym (get_or-drop i room at 0) ∙ ap (λ (l : List ℕ). get_or l at 0) behind
      ∙ get_or-drop i before at 0 ∙ ap (λ (k : ℕ). get_or before k 0) (sym e) ∙ sym (get_or-drop at before i 0)

  pub moved_front : take (i + 1) (set room i (get_or room (at + i) 0)) ≡ take (i + 1) (drop at before)
  moved_front =
      let inside : i < length room = omega arith in
      let inside' : i < length (drop at before) = simp length-drop (omega arith) in
      rw (add-one i)
      (take-suc-set room i (get_or room (at + i) 0) inside
      ∙ ap (λ (l : List ℕ). l ++ (get_or room (at + i) 0 ∷ [])) front
      ∙ ap (λ (x : ℕ). take i (drop at before) ++ (x ∷ [])) moves
      ∙ sym (take-suc (drop at before) i 0 inside'))

  pub moved_behind : drop (i + 1) (set room i (get_or room (at + i) 0)) ≡ drop (i + 1) before
  moved_behind =
      drop-set-lt (i + 1) room i (get_or room (at + i) 0) (omega arith)
      ∙ sym (drop-drop 1 i room) ∙ ap (drop 1) behind ∙ drop-drop 1 i before
