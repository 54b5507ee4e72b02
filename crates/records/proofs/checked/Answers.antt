use Rattle.std.proofs.Common.{◌∙◌, sym, pos}
use Rattle.gaze.specs.declared.Segment.{Segment}
use Rattle.records.proofs.Faults.{none_left, fault_here, fault_later}
use Rattle.records.proofs.checked.Goals as goal

-- what a place past the end has
abbrev blank : Segment
blank = record { kind = 0; start = 0; end = 0; score = pos 0 }

pub returns-in-Some : goal.returns-in-Some
returns-in-Some c =
    let l = c.loop-number in
    sym (l.invariant ∙ fault_here c.args.records.now l.number l.before blank c.loop-number-test.true c.in-Some.reason (sym c.in-Some.ensures))

pub loop-number-preserved : goal.loop-number-preserved
loop-number-preserved c =
    let l = c.loop-number in
    l.invariant ∙ fault_later c.args.records.now l.number l.before blank c.loop-number-test.true (sym c.in_default.ensures)

pub returns : goal.returns
returns c =
    let l = c.loop-number in
    sym (l.invariant ∙ none_left c.args.records.now l.number l.before c.loop-number-test.false)
