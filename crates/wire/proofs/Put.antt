-- Bytes that are put at a place: as many as there is room for.
use Rattle.std.specs.Prelude.{ℕ, suc, ◌+◌, ◌-◌, ◌≤◌, ◌<◌, ◌≡◌, refl, ◌⊎◌, List, [], ◌∷◌, ◌++◌, length, take, drop, min}
use Rattle.std.proofs.Common.{ap, ap₂, sym, ◌∙◌, inl, inr, arith, length-take-le, take_all, drop_of_length-le}
use Rattle.std.proofs.lemmas.List.{set_past, take-append-drop}
use Rattle.std.proofs.lemmas.List.Edits.{sets, sets-eq}
use borrow.Rule.Slice.PartMut.{put_mid}
use Rattle.std.proofs.lemmas.Slice.{take-put_mid, drop-put_mid}
use Rattle.std.proofs.Math.Seq.{length-sets}
use Rattle.laws.specs.Lists.{sets_append}
use Rattle.laws.specs.Order.{order}

-- nothing is put past the end
past : (vs s : List ℕ) (at : ℕ) → length s ≤ at → sets s at vs ≡ s
past [] s at h = refl
past (v ∷ vs) s at h = rw (set_past s at v h) (past vs s (suc at) (omega arith))

-- the bytes that there is room for, and those that there is none for
parted : (vs s : List ℕ) (at n : ℕ) → n ≤ length vs → at + n ≤ length s → (n ≡ length vs) ⊎ (length s ≤ at + n)
    → take at s ++ take n vs ++ drop (at + n) s ≡ sets s at vs
parted vs s at n h k room =
    let long : length (take n vs) ≡ n = length-take-le n vs h in
    let there : sets s at (take n vs) ≡ take at s ++ take n vs ++ drop (at + n) s =
    sets-eq (take n vs) s at (omega arith) ∙ ap (λ m. take at s ++ take n vs ++ drop (at + m) s) long in
    let both : sets s at vs ≡ sets (sets s at (take n vs)) (at + length (take n vs)) (drop n vs) =
    ap (sets s at) (sym (take-append-drop n vs)) ∙ sets_append (take n vs) (drop n vs) s at in
    sym there ∙ go room long ∙ sym both
  where
    go : (n ≡ length vs) ⊎ (length s ≤ at + n) → length (take n vs) ≡ n
        → sets s at (take n vs) ≡ sets (sets s at (take n vs)) (at + length (take n vs)) (drop n vs)
    go (inl all) long =
        let end : length vs ≤ n = omega arith in
        rw (drop_of_length-le vs end) refl
    go (inr full) long = sym (past (drop n vs) (sets s at (take n vs)) (at + length (take n vs)) (omega (arith, length-sets s at (take n vs))))

pub put_there : (vs s : List ℕ) (at a n : ℕ) → a ≡ min at (length s) → n ≡ min (length vs) (length s - a)
    → take a s ++ take n vs ++ drop (a + n) s ≡ sets s at vs
put_there vs s at a n e f = go (order at (length s)) (order (length vs) (length s - a))
  where
    go : (at ≤ length s) ⊎ (length s < at) → (length vs ≤ length s - a) ⊎ (length s - a < length vs)
        → take a s ++ take n vs ++ drop (a + n) s ≡ sets s at vs
    go (inl h) (inl k) =
        let here : a ≡ at = omega arith in
        rw here (parted vs s at n (omega arith) (omega arith) (inl (omega arith)))
    go (inl h) (inr k) =
        let here : a ≡ at = omega arith in
        rw here (parted vs s at n (omega arith) (omega arith) (inr (omega arith)))
    go (inr h) k =
        parted vs s a n (omega arith) (omega arith) (inr (omega arith)) ∙ past vs s a (omega arith) ∙ sym (past vs s at (omega arith))

-- what a slice holds after a write to a part of it
pub put_part : (vs s : List ℕ) (at a n k : ℕ) → a ≡ min at (length s) → n ≡ min (length vs) (length s - a) → k ≡ n
    → put_mid a k s (take n vs) ≡ sets s at vs
put_part vs s at a n k e f same =
    let long : length (take n vs) ≡ n = length-take-le n vs (omega arith) in
    let part : List ℕ = put_mid a k s (take n vs) in
    sym (take-append-drop (a + n) part)
    ∙ ap₂ ◌++◌ (take-put_mid a k s (take n vs) (a + n) (omega arith) (omega arith)) (drop-put_mid a k s (take n vs) (a + n) (omega arith) (omega arith) (omega arith))
    ∙ put_there vs s at a n e f

-- after a write of all of them
pub put_all : (vs s : List ℕ) (at a k : ℕ) → a ≡ min at (length s) → length vs ≤ length s - a → k ≡ length vs → put_mid a k s vs ≡ sets s at vs
put_all vs s at a k e room same =
    let all : take (length vs) vs ≡ vs = take_all (length vs) vs (omega arith) in
    ap (put_mid a k s) (sym all) ∙ put_part vs s at a (length vs) k e (omega arith) same
