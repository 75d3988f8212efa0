-- The numbers of a lookup tell the place that it gives.
use Rattle.std.specs.Prelude.{ℕ, ◌≡◌, refl, Option as Found, Some, None}
use Rattle.std.proofs.Math.Option.{Option, none, some}
use Rattle.lookup.specs.Answers.{place_of, found_numbers, looked_up}

pub found_told : (refusal : ℕ) (r : Found ℕ) (o : Option ℕ) → found_numbers refusal r ≡ looked_up refusal o → place_of r ≡ o
found_told refusal (Some place) none e = cc
found_told refusal (Some place) (some other) e = cc
found_told refusal None none e = refl
found_told refusal None (some place) e = cc
