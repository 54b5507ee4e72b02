-- The length penalty, in thousandths, of a function at a distance.
use Rattle.std.specs.Prelude.{cond, List, [], ◌∷◌, ℕ, ◌-◌, min, leb, eqb, ℤ, pos, ◌+ℤ◌, ◌-ℤ◌, ◌*ℤ◌}
use Rattle.whole.specs.Whole.{floor_of}
use Rattle.gaze.specs.declared.Point.{Point}
use Rattle.gaze.specs.Lists.{keep}

-- On the line through the points p and q, at a distance d not before p.
abbrev pub on_line : Point → Point → ℕ → ℤ
on_line p q d = p.penalty +ℤ floor_of ((q.penalty -ℤ p.penalty) *ℤ pos (d - p.distance)) (q.distance - p.distance)

-- Beyond the last point, q, of which p is the one before: q's penalty.
abbrev pub beyond : Point → Point → ℕ → ℤ
beyond p q d = q.penalty

-- Past the point p, where q is the next one and the list holds those after it.
unfoldable pub past : Point → Point → List Point → ℕ → ℤ
past p q [] d = cond (leb d q.distance) (on_line p q d) (beyond p q d)
past p q (r ∷ l) d = cond (leb d q.distance) (on_line p q d) (past q r l d)

-- The penalty that points of rising distance give: up to the first point that point's, and so everywhere where there is but one.
unfoldable pub interpolated : List Point → ℕ → ℤ
interpolated [] d = pos 0
interpolated (p ∷ []) d = p.penalty
interpolated (p ∷ q ∷ l) d = cond (leb d p.distance) p.penalty (past p q l d)

-- Function 17, the shipped intron penalty: five points, and from 1,023 on the last one's penalty.
abbrev pub intron_point : ℕ → ℕ → Point
intron_point d penalty = record { function = 17; distance = d; penalty = pos penalty }

abbrev pub intron_points : List Point
intron_points = intron_point 0 9000 ∷ intron_point 40 3000 ∷ intron_point 56 0 ∷ intron_point 400 1500 ∷ intron_point 1023 4000 ∷ []

unfoldable pub intron_penalty : ℕ → ℤ
intron_penalty d = interpolated intron_points (min d 1023)

-- Functions 1 to 16 are lists of points.
abbrev pub points_of : List Point → ℕ → List Point
points_of points function = keep (λ p. eqb p.function function) points

-- Among the points of a sheet.
unfoldable pub penalty : List Point → ℕ → ℕ → ℤ
penalty points function d =
    cond (eqb function 0) (pos 0) (cond (eqb function 17) (intron_penalty d) (interpolated (points_of points function) d))
