-- Words of a text in PNML, quoted (document 02, A10).
use Rattle.std.specs.Prelude.{ℕ, List}
use Prim.Native.String.{String, [], ◌∷◌}
use Prim.Native.Char.{code}
use mathlib.Core.List as L

-- the bytes of a quoted word (each character below 128)
abbrev pub bytes : String → List ℕ
bytes [] = L.[]
bytes (c ∷ s) = L.◌∷◌ (code c) (bytes s)
