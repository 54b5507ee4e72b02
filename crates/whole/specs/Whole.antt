-- Whole numbers: a quotient rounded towards minus infinity, the larger of two, and the sum of a list.
use Rattle.std.specs.Prelude.{cond, List, [], ◌∷◌, ℕ, ◌/◌, ℤ, pos, negsuc, ◌+ℤ◌}
use Rattle.std.specs.Int.Signed.{le_z}

-- z / m rounded towards minus infinity, for m at least 1. `negsuc a` is -1 - a: what lies from -m to -1 goes to -1.
abbrev pub floor_of : ℤ → ℕ → ℤ
floor_of (pos a) m = pos (a / m)
floor_of (negsuc a) m = negsuc (a / m)

abbrev pub larger_of : ℤ → ℤ → ℤ
larger_of a b = cond (le_z a b) b a

abbrev pub sum_of : List ℤ → ℤ
sum_of [] = pos 0
sum_of (z ∷ l) = z +ℤ sum_of l
