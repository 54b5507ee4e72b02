-- Words of a text: what stands before a separator, and where the separator stands.
use Rattle.std.specs.Prelude.{cond, List, [], ◌∷◌, ℕ, ◌+◌, eqb, length, drop}

-- the bytes before the first separator, or all where there is none
unfoldable pub before : ℕ → List ℕ → List ℕ
before separator [] = []
before separator (byte ∷ bytes) = cond (eqb byte separator) [] (byte ∷ before separator bytes)

-- the bytes from the first separator on, or none where there is none
unfoldable pub onwards : ℕ → List ℕ → List ℕ
onwards separator [] = []
onwards separator (byte ∷ bytes) = cond (eqb byte separator) (byte ∷ bytes) (onwards separator bytes)

-- the place of the first separator at `place` or after it; where there is none, the end of the text, or `place` if that is beyond the end
unfoldable pub next_place : ℕ → ℕ → List ℕ → ℕ
next_place separator place text = place + length (before separator (drop place text))
