-- `find_rules` is right because its closure is the test of the definition.
use Rattle.std.proofs.Common.{rules}
use Rattle.links.specs.Links.{lines_in, has_rule}
use Rattle.links.proofs.Sought.{some_line}
use Rattle.links.proofs.find_rules.Goals as goal

pub returns : goal.returns
unfolding has_rule
returns c = c.linked.ensures (λ q. has_rule (lines_in c.args.rules.now) q.source q.target) (λ line passes r. search (rules, some_line))
