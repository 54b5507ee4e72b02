-- The bytes of a quoted text, for worked examples. Each character is one byte: it is meant for ASCII.
use mathlib.Core.List.{List, [] as none, ◌∷◌ as ◌then◌}
use Prim.Native.Char.{code}
use Prim.Native.Nat.{ℕ}
use Prim.Native.String.{String, [], ◌∷◌}

unfoldable pub ascii : String → List ℕ
ascii [] = none
ascii (c ∷ s) = code c then ascii s
