use Rattle.std.proofs.Common.{rules}
use Rattle.trailer.specs.Trailer.{last_begin}
use Rattle.trailer.proofs.Offsets.{last_begin_is}
use Rattle.trailer.proofs.last_begin.Goals as goal

pub returns-then-begins-clause-begins : goal.returns-then-begins-clause-begins
returns-then-begins-clause-begins c = grind (rules, last_begin_is)

pub loop-start-preserved : goal.loop-start-preserved
loop-start-preserved c = grind (rules, last_begin_is)

pub returns-clause-begins : goal.returns-clause-begins
unfolding last_begin
returns-clause-begins c = grind rules
