-- Numbers of a list moved to other places of it: what a loop of stores makes.
use Rattle.std.specs.Prelude.{ℕ, suc, ◌+◌, ◌-◌, ◌≤◌, ◌<◌, ◌≡◌, List, [], ◌∷◌, ◌++◌, length, get_or, set, take, drop}
use Rattle.std.proofs.Common.{sym, ap, ap₂, ◌∙◌, append_assoc, le_of_lt, arith, length-append, length-drop, get_or-append-add, get_or-drop, length-take-le, take-suc, drop-cons, get_or-take}
use Rattle.std.proofs.Math.ListN.{get_or-append}
use Rattle.std.proofs.Math.Seq.{paste, paste-zero, append_snoc, paste-suc, length_paste_head}
use Rattle.std.proofs.lemmas.List.{set_at}

-- two stores side by side
pub stores_at : (p : List ℕ) (x y a b : ℕ) (ns : List ℕ) (n m : ℕ) → length p ≡ n → n + 1 ≡ m → set (set (p ++ x ∷ y ∷ ns) n a) m b ≡ p ++ a ∷ b ∷ ns
stores_at p x y a b ns n m e f =
    ap (λ (l : List ℕ). set l m b) (set_at p x (y ∷ ns) a n e ∙ sym (append_snoc p a (y ∷ ns)))
    ∙ (set_at (p ++ (a ∷ [])) y ns b m (simp (length-append, e) f) ∙ append_snoc p a (b ∷ ns))

pub paste_none : (d : List ℕ) (at : ℕ) (s : List ℕ) (n : ℕ) → n ≡ 0 → d ≡ paste d at s n
paste_none d at s n e = paste-zero d at s ∙ ap (paste d at s) (sym e)

-- what stands behind a copy is as it was
paste_behind : (d : List ℕ) (at : ℕ) (s : List ℕ) (n i k : ℕ) → at ≤ length d → n ≤ length s → at + n + i ≡ k → get_or (paste d at s n) k 0 ≡ get_or d k 0
paste_behind d at s n i k h l e =
    ap (λ (m : ℕ). get_or (paste d at s n) m 0) (sym (ap (λ (m : ℕ). m + i) (length_paste_head d at s n h l) ∙ e))
    ∙ (get_or-append-add (take at d ++ take n s) (drop (at + n) d) i 0 ∙ (get_or-drop (at + n) d i 0 ∙ ap (λ (m : ℕ). get_or d m 0) e))

-- numbers copied to two places before them, from the first on
pub draw_more : (d : List ℕ) (at j : ℕ) → at ≤ j → j + 2 < length d
    → set (paste d at (drop (at + 2) d) (j - at)) j (get_or (paste d at (drop (at + 2) d) (j - at)) (j + 2) 0) ≡ paste d at (drop (at + 2) d) (j + 1 - at)
draw_more d at j h l =
    let s : List ℕ = drop (at + 2) d in
    let room : j - at < length s = simp length-drop (omega arith) in
    let place : at + (j - at) ≡ j = omega arith in
    let from : at + 2 + (j - at) ≡ j + 2 = omega arith in
    let more : suc (j - at) ≡ j + 1 - at = omega arith in
    ap₂ (λ (k v : ℕ). set (paste d at s (j - at)) k v) (sym place)
    (paste_behind d at s (j - at) 2 (j + 2) (omega arith) (le_of_lt room) (omega arith)
    ∙ sym (get_or-drop (at + 2) d (j - at) 0 ∙ ap (λ (k : ℕ). get_or d k 0) from))
    ∙ (paste-suc d at s (j - at) 0 (omega arith) room ∙ ap (paste d at s) more)

-- a copy of one number more, in front
paste_front : (d : List ℕ) (at : ℕ) (s : List ℕ) (n v : ℕ) → at < length d → set (paste d (suc at) s n) at v ≡ paste d at (v ∷ s) (suc n)
paste_front d at s n v h =
    let behind : List ℕ = take n s ++ drop (suc at + n) d in
    let more : suc at + n ≡ at + suc n = omega arith in
    ap (λ (ns : List ℕ). set ns at v)
    (append_assoc (take (suc at) d) (take n s) (drop (suc at + n) d)
    ∙ ap (λ (ns : List ℕ). ns ++ behind) (take-suc d at 0 h)
    ∙ append_snoc (take at d) (get_or d at 0) behind)
    ∙ set_at (take at d) (get_or d at 0) behind v at (length-take-le at d (le_of_lt h))
    ∙ ap (λ (k : ℕ). take at d ++ v ∷ (take n s ++ drop k d)) more
    ∙ sym (append_assoc (take at d) (v ∷ take n s) (drop (at + suc n) d))

-- what stands in front of a copy is as it was
paste_before : (d : List ℕ) (at : ℕ) (s : List ℕ) (n k : ℕ) → at ≤ length d → k < at → get_or (paste d at s n) k 0 ≡ get_or d k 0
paste_before d at s n k h l =
    let all : length (take at d) ≡ at = length-take-le at d h in
    ap (λ (ns : List ℕ). get_or ns k 0) (append_assoc (take at d) (take n s) (drop (at + n) d))
    ∙ (get_or-append (take at d) (take n s ++ drop (at + n) d) 0 k (omega arith) ∙ get_or-take at d k 0 l)

-- numbers copied to two places behind them, from the last on
pub spread_more : (d : List ℕ) (i j end : ℕ) → i ≡ suc j → i ≤ end → end + 2 ≤ length d
    → set (paste d (i + 2) (drop i d) (end - i)) (j + 2) (get_or (paste d (i + 2) (drop i d) (end - i)) j 0) ≡ paste d (j + 2) (drop j d) (end - j)
spread_more d i j end e h l =
    let place : i + 2 ≡ suc (j + 2) = omega arith in
    let more : suc (end - i) ≡ end - j = omega arith in
    ap₂ (λ (k v : ℕ). set (paste d k (drop i d) (end - i)) (j + 2) v) place
    (paste_before d (i + 2) (drop i d) (end - i) j (omega arith) (omega arith))
    ∙ (paste_front d (j + 2) (drop i d) (end - i) (get_or d j 0) (omega arith)
    ∙ ap₂ (λ (s : List ℕ) (n : ℕ). paste d (j + 2) s n) (ap (λ (k : ℕ). get_or d j 0 ∷ drop k d) e ∙ sym (drop-cons d j 0 (omega arith))) more)
