-- The points of the cases: function 1 falls to a last point, 2 has one point alone, and 3 begins late and ends at the longest distance.
use Rattle.std.specs.Prelude.{List, [], ◌∷◌, ℕ, ℤ, pos, negsuc}
use Rattle.gaze.specs.declared.Point.{Point}

abbrev pub point : ℕ → ℕ → ℤ → Point
point function distance penalty = record { function = function; distance = distance; penalty = penalty }

abbrev pub points : List Point
points = point 1 0 (pos 0) ∷ point 1 3 (negsuc 9) ∷ point 2 7 (pos 250) ∷ point 3 10 (negsuc 4) ∷ point 3 4000000 (pos 9999) ∷ []
