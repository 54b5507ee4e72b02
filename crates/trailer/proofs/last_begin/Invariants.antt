-- `last_begin` is right because it goes back place by place up to the first at which a line begins. The line looked for begins at `start` or before.
use Rattle.std.proofs.Common.{◌≡◌}
use Rattle.trailer.specs.Trailer.{last_begin}
use Rattle.trailer.proofs.last_begin.Given as goal

abbrev pub invariant-loop-start : goal.invariant-loop-start
invariant-loop-start l = last_begin l.bytes l.place ≡ last_begin l.bytes l.start
