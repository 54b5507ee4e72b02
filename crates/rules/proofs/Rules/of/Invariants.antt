-- The table is right because rules in strict order have each a pair of its own, so that none overwrites another. The rules that were looked at are named.
use Rattle.std.proofs.Common.{◌≡◌, length}
use Rattle.rules.specs.Table.{Named}
use Rattle.rules.proofs.Rules.of.Given as goal

abbrev pub invariant-loop-i : goal.invariant-loop-i
invariant-loop-i l = record { long : length l.table ≡ 1024; named : Named l.rules l.i l.table }
