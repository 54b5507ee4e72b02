-- `penalty_at` is right because each function's number leads to what the definition says of it, and a function's own points are all that it asks for.
use Rattle.std.proofs.Common.{◌≡◌, ap, sym, ◌∙◌, arith, subst, List, to_z, of_z, w64}
use Rattle.whole.proofs.Bits.{back}
use Rattle.gaze.specs.declared.Point.{Point}
use Rattle.gaze.specs.Lists.{Each}
use Rattle.gaze.specs.Ranges.{PointRanges}
use Rattle.gaze.specs.Penalty.{interpolated, points_of, penalty}
use Rattle.penalty.proofs.Functions.{penalty_none, penalty_intron, penalty_points}
use Rattle.penalty.proofs.Own.{own_rise, own_ranged, own_stand}
use Rattle.penalty.proofs.Sizes.{penalty_small}
use Rattle.penalty.proofs.Curves.penalty_at.Goals as goal

pub returns-then-function-eq0-clause-value : goal.returns-then-function-eq0-clause-value
returns-then-function-eq0-clause-value c = sym (penalty_none c.args.self.now c.args.function c.args.d c.if-function-eq0.true)

pub returns-then-function-eq17 : goal.returns-then-function-eq17
returns-then-function-eq17 c =
    let a = c.args in
    let value : to_z w64 (of_z w64 c.intron_at.result) ≡ penalty a.self.now a.function a.d =
    back c.intron_at.result c.intron_at.type_inv ∙ (c.intron_at.ensures ∙ sym (penalty_intron a.self.now a.function a.d c.if-function-eq17.true)) in
    let ranged = subst (Each PointRanges) c.self.view_is c.self.invariant.points.each in
    record { value = value; small = rw value (penalty_small a.self.now ranged a.function a.d (omega arith)) }

pub curve_at-requires : goal.curve_at-requires
curve_at-requires c =
    let points = c.self.inside.points.now in
    let group = c.self.invariant.points in
    let stand = own_stand points group c.args.function c.self.invariant.first (omega arith) in
    record { rising = rw (← stand) (own_rise points group c.args.function); ranged = rw (← stand) (own_ranged points group c.args.function) }

pub returns : goal.returns
returns c =
    let a = c.args in
    let stand = own_stand c.self.inside.points.now c.self.invariant.points a.function c.self.invariant.first (omega arith) in
    let value : to_z w64 (of_z w64 c.curve_at.result) ≡ penalty a.self.now a.function a.d =
    back c.curve_at.result c.curve_at.type_inv
    ∙ (c.curve_at.ensures
    ∙ (ap (λ (points : List Point). interpolated points a.d) (sym stand)
    ∙ (ap (λ (points : List Point). interpolated (points_of points a.function) a.d) c.self.view_is
    ∙ sym (penalty_points a.self.now a.function a.d c.if-function-eq0.false c.if-function-eq17.false)))) in
    let ranged = subst (Each PointRanges) c.self.view_is c.self.invariant.points.each in
    record { value = value; small = rw value (penalty_small a.self.now ranged a.function a.d (omega arith)) }
