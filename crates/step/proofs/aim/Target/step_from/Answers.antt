use Rattle.std.proofs.Common.{◌^◌, ◌<◌, ◌∙◌, arith}
use Rattle.whole.proofs.Bits.{back, small_back, small_fits}
use Rattle.whole.proofs.Size.{abs_sum, abs_dif}
use Rattle.regions.proofs.Held.{held_within}
use Rattle.step.proofs.Steps.{source_kind, target_kind, target_within, meets_rises, step_rises, source_from_one, score_small, no_rule, not_met, is_met}
use Rattle.step.proofs.aim.Target.step_from.Goals as goal

pub candidate-from-requires : goal.candidate-from-requires
candidate-from-requires c =
    let before : c.args.source < c.self.inside.number = rw (← c.self.view_is) at c.requires in
    held_within c.self.invariant.held c.args.source (omega arith)

pub of_types-requires-clause-source_type : goal.of_types-requires-clause-source_type
of_types-requires-clause-source_type c = source_kind c.self.invariant c.args.source (rw (← c.self.view_is) at c.requires) c.candidate-from.ensures

pub of_types-requires-clause-target_type : goal.of_types-requires-clause-target_type
of_types-requires-clause-target_type c = target_kind c.self.invariant c.args.source (rw (← c.self.view_is) at c.requires) c.candidate-from.ensures

pub returns-in_err-rule : goal.returns-in_err-rule
returns-in_err-rule c =
    rw (← c.self.view_is)
    (c.from_residual.ensures ∙ no_rule c.self.invariant c.args.source (rw (← c.self.view_is) at c.requires) c.candidate-from.ensures c.in_err-rule.ensures.rule)

pub meets-requires-clause-ordered : goal.meets-requires-clause-ordered
meets-requires-clause-ordered c = meets_rises c.self.invariant c.args.source (rw (← c.self.view_is) at c.requires) c.candidate-from.ensures

pub meets-requires-clause-within : goal.meets-requires-clause-within
meets-requires-clause-within c = target_within c.self.invariant c.args.source (rw (← c.self.view_is) at c.requires) c.candidate-from.ensures

pub returns-then-not-meets : goal.returns-then-not-meets
returns-then-not-meets c =
    rw (← c.self.view_is)
    (not_met c.self.invariant c.args.source (rw (← c.self.view_is) at c.requires) c.candidate-from.ensures c.in_ok-rule.ensures.rule c.meets.ensures
    c.if-not-meets.true)

pub overflow_sub-self-inside : goal.overflow_sub-self-inside
overflow_sub-self-inside c =
    let before : c.args.source < c.self.inside.number = rw (← c.self.view_is) at c.requires in
    let rises = step_rises c.self.invariant c.args.source before c.candidate-from.ensures in
    let from_one = source_from_one c.self.invariant c.args.source before c.candidate-from.ensures in
    omega arith

pub minus-requires : goal.minus-requires
minus-requires c =
    let own = score_small c.self.invariant c.args.source (rw (← c.self.view_is) at c.requires) c.candidate-from.ensures in
    let region = c.region_score-region in
    let penalty = c.penalty_at-penalty in
    simp (back region.result region.type_inv, back penalty.result penalty.type_inv, small_back c.self.inside.feature.score 10000000 own (omega arith))
    (small_fits _ (2 ^ 50) (omega (arith, abs_dif, region.ensures.small, penalty.ensures.small, own)) (omega arith))

pub plus-requires : goal.plus-requires
plus-requires c =
    let own = score_small c.self.invariant c.args.source (rw (← c.self.view_is) at c.requires) c.candidate-from.ensures in
    let region = c.region_score-region in
    let penalty = c.penalty_at-penalty in
    rw (back c.minus.result c.minus.type_inv)
    (simp (c.minus.ensures, back region.result region.type_inv, back penalty.result penalty.type_inv, small_back c.self.inside.feature.score 10000000 own (omega arith))
    (small_fits _ (2 ^ 50) (omega (arith, abs_sum, abs_dif, region.ensures.small, penalty.ensures.small, own)) (omega arith)))

pub returns : goal.returns
returns c =
    let before : c.args.source < c.self.inside.number = rw (← c.self.view_is) at c.requires in
    let own = score_small c.self.invariant c.args.source before c.candidate-from.ensures in
    rw (← c.self.view_is, back c.plus.result c.plus.type_inv)
    (is_met c.self.invariant c.args.source before c.candidate-from.ensures c.in_ok-rule.ensures.rule c.meets.ensures c.if-not-meets.false
    c.region_score-region.ensures.value c.penalty_at-penalty.ensures.value
    (rw (back c.region_score-region.result c.region_score-region.type_inv, back c.penalty_at-penalty.result c.penalty_at-penalty.type_inv) at c.minus.ensures)
    (rw (back c.minus.result c.minus.type_inv, small_back c.self.inside.feature.score 10000000 own (omega arith)) at c.plus.ensures))
