-- Texts as lists of bytes, and their padding.
use Rattle.std.specs.Prelude.{List, [], ◌∷◌, ◌++◌, ℕ, ◌-◌, length, replicate}
use Prim.Native.Char.{code}
use Prim.Native.String.{String, [] as ε, ◌∷◌ as ◌◂◌}

-- the bytes of a text's characters
abbrev pub bytes : String → List ℕ
bytes ε = []
bytes (c ◂ s) = code c ∷ bytes s

-- with spaces behind, up to a number of characters
abbrev pub padded : ℕ → List ℕ → List ℕ
padded n t = t ++ replicate (n - length t) 32
