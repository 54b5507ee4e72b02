-- The rule of a pair of types.
use Rattle.std.specs.Prelude.{Bool, ◌&&◌, ℕ, ◌+◌, ◌*◌, eqb}
use Rattle.gaze.specs.declared.Rule.{Rule}

abbrev pub of_types : ℕ → ℕ → Rule → Bool
of_types a b r = eqb r.source a && eqb r.target b

-- A pair of types as one number.
abbrev pub pair_number : ℕ → ℕ → ℕ
pair_number a b = 32 * a + b

abbrev pub pair : Rule → ℕ
pair r = pair_number r.source r.target
