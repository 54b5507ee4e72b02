-- `lines_in` is right because it takes each line once, in order. The invariant: those that were looked at are in.
use Rattle.std.proofs.Common.{◌≡◌, take}
use Rattle.links.specs.Links.{lines_in}
use Rattle.sheet.proofs.lines_in.Given as goal

abbrev pub invariant-loop-placed : goal.invariant-loop-placed
invariant-loop-placed g l = l.lines.items ≡ lines_in (take l.placed-index l.placed-items)
