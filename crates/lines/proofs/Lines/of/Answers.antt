-- The table of first rows is right because lines in order by source and target are in order by the number of their pair.
use Rattle.std.proofs.Common.{rules, of_calls}
use Rattle.std.proofs.lemmas.Fn.{always_returns_same}
use Rattle.lines.specs.Lines.{pair}
use Rattle.lines.proofs.Pairs.{pairs_rise}
use Rattle.lines.proofs.Lines.of.Goals as goal

pub invariant_of-result : goal.invariant_of-result
invariant_of-result c =
    record {
      qualifiers = c.requires;
      first = c.first_rows.ensures.found pair (always_returns_same _ _ _ (λ a r f k. search (rules, of_calls))) (pairs_rise c.args.qualifiers.now c.requires);
    }
