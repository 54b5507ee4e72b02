-- A line without its LF: a letter, then fields, each a separator and a number. Where that is not so, the line is malformed.
use Rattle.std.specs.Prelude.{cond, List, [], ◌∷◌, ℕ, zero, suc, eqb, ℤ, Option, Some, None}
use Rattle.text.specs.Number.{number}
use Rattle.text.specs.Words.{before, onwards}

-- a first field and those after it
abbrev pub joined : Option ℤ → Option (List ℤ) → Option (List ℤ)
joined (Some z) (Some zs) = Some (z ∷ zs)
joined (Some z) None = None
joined None others = None

-- The numbers of `count` fields, with nothing after them: each a separator and a number, which goes up to the next separator or the end.
unfoldable pub fields : ℕ → ℕ → List ℕ → Option (List ℤ)
fields separator zero [] = Some []
fields separator zero (byte ∷ bytes) = None
fields separator (suc count) [] = None
fields separator (suc count) (byte ∷ bytes) =
    cond (eqb byte separator)
    (joined (number (before separator bytes)) (fields separator count (onwards separator bytes)))
    None

-- the letter, and `count` fields
unfoldable pub line : ℕ → ℕ → ℕ → List ℕ → Option (List ℤ)
line letter separator count [] = None
line letter separator count (byte ∷ bytes) = cond (eqb byte letter) (fields separator count bytes) None
