-- `of_types` is right because the lines of a pair stand together.
use Rattle.std.proofs.Common.{ap, sym, ◌∙◌, arith, List}
use Rattle.gaze.specs.declared.Qualifier.{Qualifier}
use Rattle.gaze.specs.Lists.{keep}
use Rattle.gaze.specs.Ranges.{QualifierRanges}
use Rattle.gaze.proofs.ListLaws.{each_kept}
use Rattle.lines.specs.Lines.{of_types}
use Rattle.lines.proofs.Pairs.{pair_stands}
use Rattle.lines.proofs.Lines.of_types.Goals as goal

pub returns-clause-lines : goal.returns-clause-lines
returns-clause-lines c =
    let a = c.args in
    rw c.pair_of-pair.ensures
    (sym (pair_stands c.self.inside.qualifiers.now c.self.invariant.qualifiers c.self.invariant.first a.source a.target (omega arith) (omega arith))
    ∙ ap (λ (lines : List Qualifier). keep (of_types a.source a.target) lines) c.self.view_is)

pub returns-clause-ranged : goal.returns-clause-ranged
returns-clause-ranged c =
    let a = c.args in
    let lines = c.self.inside.qualifiers.now in
    let group = c.self.invariant.qualifiers in
    rw (c.pair_of-pair.ensures, ← pair_stands lines group c.self.invariant.first a.source a.target (omega arith) (omega arith))
    (each_kept QualifierRanges (of_types a.source a.target) lines group.each)
