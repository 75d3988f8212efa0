-- Quoted texts, as the cases of the papers write them.
use Rattle.std.specs.Prelude.{ℕ, List, [], ◌∷◌}
use Prim.Native.Char.{code}
use Prim.Native.String.{String}

-- 01 "Cases": texts are quoted: the codes of a quoted text's characters
abbrev pub codes : String → List ℕ
codes = elim [ String.[] ↦ [] | String.◌∷◌ c (s → cs) ↦ code c ∷ cs ]
