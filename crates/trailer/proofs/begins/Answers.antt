-- `begins` is right because its test is the one by which the definition goes.
use Rattle.std.proofs.Common.{sym, arith}
use Rattle.trailer.specs.Trailer.{begins}
use Rattle.trailer.proofs.Offsets.{begins_past}
use Rattle.trailer.proofs.begins.Goals as goal

pub returns-then-place-eq0 : goal.returns-then-place-eq0
unfolding begins
returns-then-place-eq0 c = rw c.if-place-eq0.true

pub returns-else-place-eq0 : goal.returns-else-place-eq0
returns-else-place-eq0 c = sym (begins_past c.args.bytes.now c.args.place (omega arith))
