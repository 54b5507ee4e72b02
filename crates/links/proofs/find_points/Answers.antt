-- `find_points` is right because its closure is the test of the definition.
use Rattle.std.proofs.Common.{rules}
use Rattle.links.specs.Links.{lines_in, has_points}
use Rattle.links.proofs.find_points.Goals as goal

pub returns : goal.returns
returns c = c.linked.ensures (λ r. has_points (lines_in c.args.points.now) r.function) (λ line passes r. search rules)
