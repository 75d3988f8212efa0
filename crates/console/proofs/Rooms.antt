-- What a room has yet to be used.
use Rattle.std.proofs.Common.{ℕ, ◌+◌, ◌-◌, ◌≤◌, ◌≡◌, List, take, drop, ap, sym, ◌∙◌, arith, drop-drop}
use Rattle.std.proofs.lemmas.List.{drop-take}

-- what is left behind so many bytes that are used
pub left_behind : (bytes : List ℕ) (at end count : ℕ) → count ≤ end - at
    → take (end - (at + count)) (drop (at + count) bytes) ≡ drop count (take (end - at) (drop at bytes))
left_behind bytes at end count within =
    let parts : end - at ≡ count + (end - (at + count)) = omega arith in
    ap (take (end - (at + count))) (sym (drop-drop count at bytes))
    ∙ sym (drop-take count (end - (at + count)) (drop at bytes))
    ∙ ap (λ (k : ℕ). drop count (take k (drop at bytes))) (sym parts)
