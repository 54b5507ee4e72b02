-- How large a penalty can be: of points in range, at a distance of at most 4,000,000.
use Rattle.std.proofs.Common.{ℕ, ◌-◌, ◌≤◌, List, [], ◌∷◌, Bool, true, false, cond, arith, min, ℤ, pos, ◌-ℤ◌, ◌*ℤ◌}
use Rattle.std.specs.Prelude.{nat_abs, leb, eqb}
use Rattle.whole.specs.Whole.{floor_of}
use Rattle.whole.proofs.Size.{abs_sum, abs_dif, abs_mul_le}
use Rattle.whole.proofs.Quotients.{abs_floor}
use Rattle.gaze.specs.declared.Point.{Point}
use Rattle.gaze.specs.Lists.{Each}
use Rattle.gaze.specs.Ranges.{Thousandths, PointRanges}
use Rattle.gaze.specs.Penalty.{on_line, past, interpolated, intron_points, intron_penalty, points_of, penalty}
use Rattle.gaze.proofs.ListLaws.{each_map, each_kept}

abbrev pub Small : ℤ → Type 0
Small z = nat_abs z ≤ 80000010000000

either : (b : Bool) (x y : ℤ) → Small x → Small y → Small (cond b x y)
either true x y h k = h
either false x y h k = k

single : (z : ℤ) → Thousandths z → Small z
single z h = omega arith

module _ (d : ℕ) (bounded : d ≤ 4000000) where
  line_small : (p q : Point) → Thousandths p.penalty → Thousandths q.penalty → Small (on_line p q d)
  line_small p q h k =
      let rise = q.penalty -ℤ p.penalty in
      let run = d - p.distance in
      let r : nat_abs rise ≤ 20000000 = omega (arith, abs_dif q.penalty p.penalty) in
      let product : nat_abs (rise *ℤ pos run) ≤ 80000000000000 = abs_mul_le rise run 20000000 4000000 r (omega arith) in
      omega (arith, abs_sum p.penalty (floor_of (rise *ℤ pos run) (q.distance - p.distance)), abs_floor (rise *ℤ pos run) (q.distance - p.distance))

  past_small : (p q : Point) (l : List Point) → Thousandths p.penalty → Thousandths q.penalty → Each (λ p. Thousandths p.penalty) l → Small (past p q l d)
  unfolding past Each
  past_small p q [] h k e = either (leb d q.distance) _ _ (line_small p q h k) (single q.penalty k)
  past_small p q (r ∷ l) h k e = either (leb d q.distance) _ _ (line_small p q h k) (past_small q r l k e.0 e.1)

  pub interpolated_small : (l : List Point) → Each (λ p. Thousandths p.penalty) l → Small (interpolated l d)
  unfolding interpolated Each
  interpolated_small [] e = omega arith
  interpolated_small (p ∷ []) e = single p.penalty e.0
  interpolated_small (p ∷ q ∷ l) e = either (leb d p.distance) _ _ (single p.penalty e.0) (past_small p q l e.0 e.1.0 e.1.1)

intron_small : (d : ℕ) → Small (intron_penalty d)
unfolding intron_penalty Each
intron_small d = interpolated_small (min d 1023) (omega arith) intron_points (omega arith, (omega arith, (omega arith, (omega arith, (omega arith, tt)))))

pub penalty_small : (points : List Point) → Each PointRanges points → (function d : ℕ) → d ≤ 4000000 → Small (penalty points function d)
unfolding penalty
penalty_small points ranged function d bounded =
    either (eqb function 0) _ _ (omega arith)
    (either (eqb function 17) _ _ (intron_small d)
    (interpolated_small d bounded (points_of points function)
    (each_kept (λ p. Thousandths p.penalty) (λ p. eqb p.function function) points (each_map PointRanges (λ p. Thousandths p.penalty) points (λ p r. r.penalty) ranged))))
