-- The table of first rows is right because points in order by function and distance are in order by function.
use Rattle.std.proofs.Common.{rules, of_calls}
use Rattle.std.proofs.lemmas.Fn.{always_returns_same}
use Rattle.penalty.proofs.Own.{points_rise}
use Rattle.penalty.proofs.Curves.of.Goals as goal

pub invariant_of-result : goal.invariant_of-result
invariant_of-result c =
    record {
      points = c.requires;
      first = c.first_rows.ensures.found (λ p. p.function) (always_returns_same _ _ _ (λ a r f k. search (rules, of_calls))) (points_rise c.args.points.now c.requires 0);
      intron = c.intron_table.ensures;
    }
