use Rattle.std.proofs.Common.{◌⊎◌, arith, false, get_or}
use mathlib.Core.Logic.{inl, inr, ⊎_elim}
use Rattle.std.specs.Fn.{FnReturnsAt}
use Rattle.std.proofs.lemmas.Fn.{says_at}
use Rattle.gaze.specs.declared.Qualifier.{Qualifier}
use Rattle.gaze.specs.Ranges.{QualifierRanges}
use Rattle.gaze.proofs.ListLaws.{each_at, each_of}
use Rattle.step.specs.Steps.{SlotsMarked}
use Rattle.step.proofs.Tables.{one_line_more}
use Rattle.step.proofs.prepared.marks.Goals as goal
use Rattle.step.proofs.prepared.marks.Goals.{then-asks, else-asks}

pub mark-requires-clause-kind_small : goal.mark-requires-clause-kind_small
mark-requires-clause-kind_small g c = (each_at QualifierRanges _ c.args.qualifiers.now c.requires.ranged c.loop-q.q-index c.loop-q-test.true).kind

pub mark-requires-clause-phase_small : goal.mark-requires-clause-phase_small
mark-requires-clause-phase_small g c = (each_at QualifierRanges _ c.args.qualifiers.now c.requires.ranged c.loop-q.q-index c.loop-q-test.true).phase

pub loop-q-preserved : goal.loop-q-preserved
loop-q-preserved g c =
    let l = c.loop-q in
    elim c.if-asks.branch [
      | then-asks w ↦
          rw w.marks-is
          (one_line_more (λ q. FnReturnsAt g.F.Fn c.args.asks q false ⊎ SlotsMarked w.mark.new.used q) c.args.qualifiers.now l.q-index _ c.loop-q-test.true
          (λ k d h. ⊎_elim inl (λ (m : SlotsMarked l.marks (get_or c.args.qualifiers.now k d)). inr (λ t. w.mark.ensures.kept _ (m t))) (l.invariant k d h))
          (inr w.mark.ensures.marked))
      | else-asks w ↦
          rw w.marks-is
          (one_line_more (λ q. FnReturnsAt g.F.Fn c.args.asks q false ⊎ SlotsMarked l.marks q) c.args.qualifiers.now l.q-index _ c.loop-q-test.true l.invariant
          (inl (says_at g.F.Fn c.asks.ensures w.if-asks.false)))
    ]

pub returns : goal.returns
returns g c =
    each_of (λ q. FnReturnsAt g.F.Fn c.args.asks q false ⊎ SlotsMarked c.loop-q.marks q) any_line c.args.qualifiers.now
    (λ i h. c.loop-q.invariant i any_line (omega (arith, c.loop-q-test.false)))
  where
    any_line : Qualifier
    any_line = record { source = 0; target = 0; kind = 0; method = 0; phase = 0; matching = 0 }
