-- The Q lines of a pair of types.
use Rattle.std.specs.Prelude.{Bool, ◌&&◌, ℕ, ◌+◌, ◌*◌, eqb}
use Rattle.gaze.specs.declared.Qualifier.{Qualifier}

abbrev pub of_types : ℕ → ℕ → Qualifier → Bool
of_types a b q = eqb q.source a && eqb q.target b

-- A pair of types as one number.
abbrev pub pair_number : ℕ → ℕ → ℕ
pair_number a b = 32 * a + b

abbrev pub pair : Qualifier → ℕ
pair q = pair_number q.source q.target
