use Rattle.std.proofs.Common.{List, map, get_or, ap, arith}
use mathlib.Core.Path.{◌∙◌}
use lib.Seq.{take_all}
use Rattle.whole.specs.Whole.{sum_of}
use Rattle.whole.proofs.Bits.{back}
use Rattle.gaze.specs.declared.Qualifier.{Qualifier}
use Rattle.gaze.specs.Ranges.{QualifierRanges}
use Rattle.gaze.proofs.ListLaws.{each_at}
use Rattle.sums.specs.Sums.{position}
use Rattle.regions.specs.Evidence.{Narrowed, worth}
use Rattle.regions.proofs.Totals.{sum_fits, sum_more}
use Rattle.regions.proofs.Held.{held_within, held_placed, region_of, line_small, held_narrowed, total_is, total_small}
use Rattle.regions.proofs.Evidence.region_score.Goals as goal

pub candidate-requires : goal.candidate-requires
candidate-requires c = held_within c.requires.held c.args.source c.requires.ordered

pub candidate-requires-2 : goal.candidate-requires-2
candidate-requires-2 c = held_within c.requires.held c.args.target (omega arith)

pub of_types-lines-requires-clause-source_type : goal.of_types-lines-requires-clause-source_type
of_types-lines-requires-clause-source_type c =
    rw c.candidate.ensures (omega (arith, (held_placed c.requires.held c.args.source c.requires.ordered).kind))

pub of_types-lines-requires-clause-target_type : goal.of_types-lines-requires-clause-target_type
of_types-lines-requires-clause-target_type c =
    rw c.candidate-2.ensures (omega (arith, (held_placed c.requires.held c.args.target (omega arith)).kind))

pub line_score-score-requires-clause-region : goal.line_score-score-requires-clause-region
line_score-score-requires-clause-region c = region_of c.requires.held c.args.source c.requires.ordered

pub line_score-score-requires-clause-ranged : goal.line_score-score-requires-clause-ranged
line_score-score-requires-clause-ranged c =
    each_at QualifierRanges _ c.of_types-lines.result.now c.of_types-lines.ensures.ranged c.loop-q.q-index c.loop-q-test.true

pub line_score-score-requires-clause-narrowed : goal.line_score-score-requires-clause-narrowed
line_score-score-requires-clause-narrowed c =
    let e = c.args.self.now in
    each_at (Narrowed e.slots.now e.narrowed.now (position e.candidates.now c.args.target)) _ c.of_types-lines.result.now
    (rw c.of_types-lines.ensures.lines (held_narrowed c.requires.held _ _)) c.loop-q.q-index c.loop-q-test.true

pub plus-sum-requires : goal.plus-sum-requires
plus-sum-requires c =
    let a = c.args in
    let z = c.line_score-score in
    sum_fits (worth a.self.now a.source a.target) c.of_types-lines.result.now c.loop-q.q-index _ c.loop-q-test.true _ c.loop-q.invariant.1
    (back z.result z.type_inv ∙ z.ensures) (line_small c.requires.held a.source c.requires.ordered (get_or c.of_types-lines.result.now c.loop-q.q-index _)) c.of_types-lines.ensures.few

pub loop-q-preserved : goal.loop-q-preserved
loop-q-preserved c =
    let a = c.args in
    let z = c.line_score-score in
    sum_more (worth a.self.now a.source a.target) c.of_types-lines.result.now c.loop-q.q-index _ c.loop-q-test.true _ c.loop-q.invariant.1
    (back z.result z.type_inv ∙ z.ensures) (line_small c.requires.held a.source c.requires.ordered (get_or c.of_types-lines.result.now c.loop-q.q-index _))
    (back c.plus-sum.result c.plus-sum.type_inv ∙ c.plus-sum.ensures) c.loop-q.invariant.0

pub returns-clause-value : goal.returns-clause-value
returns-clause-value c =
    let a = c.args in
    c.loop-q.invariant.0
    ∙ (ap (λ (l : List Qualifier). sum_of (map (worth a.self.now a.source a.target) l)) (take_all c.loop-q.q-index c.of_types-lines.result.now c.loop-q-test.false)
    ∙ total_is c.requires.held a.source c.requires.ordered c.of_types-lines.result.now c.candidate.ensures c.candidate-2.ensures c.of_types-lines.ensures.lines)

pub returns-clause-small : goal.returns-clause-small
returns-clause-small c = rw (returns-clause-value c) (total_small c.requires.held c.args.source c.requires.ordered)
