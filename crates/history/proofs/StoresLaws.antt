-- Numbers stored one behind the other in a list: what stands there then, and that what stands apart is as it was.
use Rattle.std.specs.Prelude.{ℕ, ◌+◌, ◌-◌, ◌≤◌, ◌≡◌, refl, List, ◌++◌, ◌⊎◌, length, get_or, take, drop}
use Rattle.std.proofs.Common.{sym, ap, ◌∙◌, append_assoc, ⊎_elim, arith, length-append, take_at, drop_at, drop-drop, length-take-le, get_or-take, get_or-drop}
use Rattle.std.proofs.lemmas.List.Edits.{sets, sets-eq}
use Rattle.std.proofs.Math.Seq.{drop-append-add}
use Rattle.laws.specs.Lists.{part_of_front}

-- a number by the part that it is
pub part_first : (l : List ℕ) (at k : ℕ) → 1 ≤ k → get_or (take k (drop at l)) 0 0 ≡ get_or l at 0
part_first l at k h =
    let e : at + 0 ≡ at = omega arith in
    get_or-take k (drop at l) 0 0 h ∙ get_or-drop at l 0 0 ∙ ap (λ (n : ℕ). get_or l n 0) e

module _ (l vs : List ℕ) (at : ℕ) (room : at + length vs ≤ length l) where
  stored : sets l at vs ≡ take at l ++ vs ++ drop (at + length vs) l
  stored = sets-eq vs l at room

  front : length (take at l) ≡ at
  front = length-take-le at l (omega arith)

  -- what was stored
  pub stored_here : take (length vs) (drop at (sets l at vs)) ≡ vs
  stored_here =
      ap (λ (r : List ℕ). take (length vs) (drop at r)) (stored ∙ append_assoc (take at l) vs (drop (at + length vs) l))
      ∙ ap (take (length vs)) (drop_at (take at l) (vs ++ drop (at + length vs) l) at front)
      ∙ take_at vs (drop (at + length vs) l) (length vs) refl

  module _ (from k : ℕ) where
    stored_behind : from + k ≤ at → take k (drop from (sets l at vs)) ≡ take k (drop from l)
    stored_behind h =
        sym (part_of_front from k at (sets l at vs) h)
        ∙ ap (λ (r : List ℕ). take k (drop from r))
        (ap (take at) (stored ∙ append_assoc (take at l) vs (drop (at + length vs) l)) ∙ take_at (take at l) (vs ++ drop (at + length vs) l) at front)
        ∙ part_of_front from k at l h

    stored_before : at + length vs ≤ from → take k (drop from (sets l at vs)) ≡ take k (drop from l)
    stored_before h =
        let end : ℕ = at + length vs in
        let more : ℕ = from - end in
        let there : from ≡ end + more = omega arith in
        let long : length (take at l ++ vs) ≡ end = length-append (take at l) vs ∙ ap (λ (n : ℕ). n + length vs) front in
        ap (take k)
        (ap (drop from) stored
        ∙ ap (λ (n : ℕ). drop n (take at l ++ vs ++ drop end l)) (there ∙ ap (λ (n : ℕ). n + more) (sym long))
        ∙ drop-append-add (take at l ++ vs) (drop end l) more
        ∙ drop-drop more end l
        ∙ ap (λ (n : ℕ). drop n l) (sym there))

    -- what stands apart
    pub stored_apart : (from + k ≤ at) ⊎ (at + length vs ≤ from) → take k (drop from (sets l at vs)) ≡ take k (drop from l)
    stored_apart w = ⊎_elim stored_behind stored_before w
