-- `linked` is right because it stops at the first line that lacks what it needs. Those before `placed` have it.
use Rattle.std.proofs.Common.{◌≡◌, drop, Bool}
use Rattle.std.specs.Fn.{FnReturnsAt}
use Rattle.links.specs.Links.{linked}
use Rattle.links.proofs.linked.Given as goal

abbrev pub invariant-loop-placed : goal.invariant-loop-placed
invariant-loop-placed g l =
    (test : _ → Bool) → ((line : _) (passes : Bool) → FnReturnsAt g.F.Fn l.has line passes → passes ≡ test line) → linked test l.lines ≡ linked test (drop l.placed-index l.lines)
