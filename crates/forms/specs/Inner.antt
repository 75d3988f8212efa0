-- Answers of inner functions, which no promise reaches.
use Rattle.std.specs.Prelude.{[], ◌∷◌}
use Rattle.forms.specs.declared.forms.Family.{Family}
use Rattle.forms.specs.declared.forms.Family.TheVariants as family
use Rattle.forms.specs.declared.forms.Form.TheVariants.{Heartbeat, LevelOne, LevelTwo, PairOne, PairTwo, FutureOne, FutureTwo, PreOpenOne, PreOpenTwo}
use Rattle.forms.specs.declared.forms.Sum.TheVariants.{Zero, Right, RightOrZero}
use Rattle.forms.specs.Forms.{Meaning}

-- a word of our own: what the codes of a family mean
abbrev pub family_meaning : Family → Meaning
family_meaning family.Heartbeat = record { sum = Zero; forms = Heartbeat ∷ [] }
family_meaning family.Contract = record { sum = Right; forms = LevelOne ∷ LevelTwo ∷ [] }
family_meaning family.Pair = record { sum = Right; forms = PairOne ∷ PairTwo ∷ [] }
family_meaning family.Future = record { sum = Right; forms = FutureOne ∷ FutureTwo ∷ [] }
family_meaning family.PreOpen = record { sum = Right; forms = PreOpenOne ∷ PreOpenTwo ∷ [] }
family_meaning family.Unsummed = record { sum = RightOrZero; forms = [] }
family_meaning family.Outside = record { sum = Right; forms = [] }
