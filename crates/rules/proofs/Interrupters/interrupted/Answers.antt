-- `interrupted` is right because the table has the last position before the target at which an interrupter of the type and the class stands.
use Rattle.std.proofs.Common.{ap, sym, ◌∙◌, subst}
use Rattle.gaze.specs.declared.Interruption.{Interruption}
use Rattle.gaze.specs.Ranges.{InterruptionRanges}
use Rattle.gaze.specs.Step.{interrupted}
use Rattle.rules.specs.Interrupters.{Ended}
use Rattle.rules.proofs.LastSeen.{none_seen, source_seen, target_seen}
use Rattle.rules.proofs.Interrupters.interrupted.Goals as goal

pub returns-in-None : goal.returns-in-None
returns-in-None c =
    let i = c.self.inside in
    let s = c.args.source.now in
    none_seen i.features.now i.target s i.last c.self.invariant
    ∙ (ap (λ (j : Interruption). interrupted i.features.now j s i.target) (sym c.in-None.is)
    ∙ ap (λ (v : Ended). interrupted v.features c.args.interruption s v.target) c.self.view_is)

pub returns-in-FromSource : goal.returns-in-FromSource
returns-in-FromSource c =
    let i = c.self.inside in
    let s = c.args.source.now in
    source_seen i.features.now i.target s i.last c.self.invariant c.in-FromSource.kind c.in-FromSource.remainder (subst InterruptionRanges c.in-FromSource.is c.requires.ranged)
    ∙ (ap (λ (j : Interruption). interrupted i.features.now j s i.target) (sym c.in-FromSource.is)
    ∙ ap (λ (v : Ended). interrupted v.features c.args.interruption s v.target) c.self.view_is)

pub returns-in-FromTarget : goal.returns-in-FromTarget
returns-in-FromTarget c =
    let i = c.self.inside in
    let s = c.args.source.now in
    target_seen i.features.now i.target s i.last c.self.invariant c.in-FromTarget.kind c.in-FromTarget.remainder (subst InterruptionRanges c.in-FromTarget.is c.requires.ranged)
    ∙ (ap (λ (j : Interruption). interrupted i.features.now j s i.target) (sym c.in-FromTarget.is)
    ∙ ap (λ (v : Ended). interrupted v.features c.args.interruption s v.target) c.self.view_is)
