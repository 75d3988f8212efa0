-- By what is returned and what `answer` holds, a host knows which refusal it is told.
use Rattle.std.specs.Prelude.{ℕ, ◌≡◌, refl, List, [], ◌∷◌, ◌++◌, false, get_or, drop}
use Rattle.std.proofs.Common.{ap, ap₂, sym, ◌∙◌}
use Rattle.std.proofs.lemmas.Bool.{eqb-false}
use Rattle.state.specs.declared.refusal.Refusal.{Refusal}
use Rattle.state.specs.declared.refusal.Refusal.TheVariants.{Size, Packed, Flag, Count, Frame, Code, Trailer, Length, Checksum, Numbering, Field, Range, Contract, Gaps, Memory, List as ListOf, NoGap, State}
use Rattle.state.specs.declared.answers.Judged.{Judged}
use Rattle.state.specs.Answers.{judged_numbers}
use Rattle.state.specs.Refusals.{refusal_numbers}
use Rattle.state.specs.RefusalsLaws.{refusal_of, accepts, refusal_behind, refusal_back}
use Rattle.told.specs.Told.{told_of, Tells}
use Rattle.turns.specs.Compared.{compared_of, reached_in}
use Rattle.hosted.specs.HostDemands.{reached_told, IsRefused}

-- the number returned and `answer` have the first four numbers
first_told : (ns : List ℕ) → refusal_of ((told_of ns).number ∷ (told_of ns).answer) ≡ refusal_of ns
first_told [] = refl
first_told (a ∷ []) = refl
first_told (a ∷ (b ∷ [])) = refl
first_told (a ∷ (b ∷ (c ∷ []))) = refl
first_told (a ∷ (b ∷ (c ∷ (d ∷ ns)))) = refl

-- of a batch, with the keys compared behind its refusal
pub which_refusal : (r : Refusal) (compared : ℕ) {returned : ℕ} {answer' : List ℕ} → Tells (judged_numbers (Judged.Refused r compared)) returned answer' → refusal_of (returned ∷ answer') ≡ r
which_refusal r compared t =
    ap₂ (λ (n : ℕ) (ns : List ℕ). refusal_of (n ∷ ns)) t.number t.values ∙ first_told (refusal_numbers r ++ (compared ∷ [])) ∙ (refusal_behind r (compared ∷ [])).0

-- a refusal's number is not 0, whatever stands behind it
not_zero : {numbers : List ℕ} {returned : ℕ} {answer' : List ℕ} → accepts numbers ≡ false → Tells numbers returned answer' → IsRefused returned
not_zero {numbers} a t e = eqb-false (get_or numbers 0 0) 0 a (sym t.number ∙ e)

pub is_refused : (r : Refusal) {returned : ℕ} {answer' : List ℕ} → Tells (refusal_numbers r) returned answer' → IsRefused returned
is_refused r t = not_zero (refusal_back r).1 t

pub batch_refused : (r : Refusal) (compared : ℕ) {returned : ℕ} {answer' : List ℕ} → Tells (judged_numbers (Judged.Refused r compared)) returned answer' → IsRefused returned
batch_refused r compared t = not_zero (refusal_behind r (compared ∷ [])).1 t

-- M-102: how many messages have come to their lookup, as the host is told it
pub reached_told_lem : (count : ℕ) (a : Judged) → reached_told count (told_of (judged_numbers a)).number (get_or (told_of (judged_numbers a)).answer 0 0) ≡ reached_in count a
reached_told_lem count (Judged.Accepted taken old heartbeats compared) = refl
reached_told_lem count (Judged.Refused Size compared) = refl
reached_told_lem count (Judged.Refused Packed compared) = refl
reached_told_lem count (Judged.Refused Flag compared) = refl
reached_told_lem count (Judged.Refused Count compared) = refl
reached_told_lem count (Judged.Refused (Frame message) compared) = refl
reached_told_lem count (Judged.Refused (Code message) compared) = refl
reached_told_lem count (Judged.Refused (Trailer message) compared) = refl
reached_told_lem count (Judged.Refused (Length message) compared) = refl
reached_told_lem count (Judged.Refused (Checksum message) compared) = refl
reached_told_lem count (Judged.Refused (Numbering message) compared) = refl
reached_told_lem count (Judged.Refused (Field message row) compared) = refl
reached_told_lem count (Judged.Refused (Range message row) compared) = refl
reached_told_lem count (Judged.Refused (Contract message) compared) = refl
reached_told_lem count (Judged.Refused (Gaps message) compared) = refl
reached_told_lem count (Judged.Refused (Memory wanted) compared) = refl
reached_told_lem count (Judged.Refused ListOf compared) = refl
reached_told_lem count (Judged.Refused NoGap compared) = refl
reached_told_lem count (Judged.Refused State compared) = refl

-- and how many keys were compared
pub keys_told : (a : Judged) → get_or (told_of (judged_numbers a)).answer 3 0 ≡ compared_of a
keys_told (Judged.Accepted taken old heartbeats compared) = refl
keys_told (Judged.Refused r compared) = fourth (refusal_numbers r ++ (compared ∷ [])) ∙ ap (λ (ns : List ℕ). get_or ns 0 0) (refusal_behind r (compared ∷ [])).2
  where
    fourth : (ns : List ℕ) → get_or (told_of ns).answer 3 0 ≡ get_or (drop 4 ns) 0 0
    fourth [] = refl
    fourth (a ∷ []) = refl
    fourth (a ∷ (b ∷ [])) = refl
    fourth (a ∷ (b ∷ (c ∷ []))) = refl
    fourth (a ∷ (b ∷ (c ∷ (d ∷ [])))) = refl
    fourth (a ∷ (b ∷ (c ∷ (d ∷ (e ∷ ns))))) = refl
