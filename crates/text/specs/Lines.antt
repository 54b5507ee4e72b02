-- The lines of a text. LF ends a line; what stands after the last LF, if anything does, is a last line that is not ended.
use Rattle.std.specs.Prelude.{Bool, true, false, cond, List, [], ◌∷◌, ℕ, eqb}

-- a line: its bytes without the LF, and whether an LF ends it
pub record Line : Type 0 where
  pub bytes : List ℕ
  pub ended : Bool

-- the lines where one byte more stands before them, which is no LF
abbrev pub led_by : ℕ → List Line → List Line
led_by byte [] = record { bytes = byte ∷ []; ended = false } ∷ []
led_by byte (first ∷ others) = record { bytes = byte ∷ first.bytes; ended = first.ended } ∷ others

unfoldable pub lines : List ℕ → List Line
lines [] = []
lines (byte ∷ text) = cond (eqb byte 10) (record { bytes = []; ended = true } ∷ lines text) (led_by byte (lines text))
