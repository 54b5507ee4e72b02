use Rattle.std.proofs.Common.{arith, length-set, refl}
use Rattle.std.proofs.lemmas.Option.{slice_get-get_or}
use Rattle.rules.proofs.Table.{named_none, named_more, pair_below}
use Rattle.rules.proofs.Rules.of.Goals as goal

pub loop-i-init : goal.loop-i-init
loop-i-init c = record { long = refl; named = named_none c.args.rules.now }

pub bounds-table-pair_of : goal.bounds-table-pair_of
bounds-table-pair_of c = rw c.pair_of.ensures (pair_below c.args.rules.now c.requires c.loop-i.i _ (slice_get-get_or c.args.rules.now c.loop-i.i _ (omega arith)))

pub loop-i-preserved : goal.loop-i-preserved
loop-i-preserved c =
    let l = c.loop-i in
    record {
      long = simp length-set l.invariant.long;
      named = rw c.pair_of.ensures (named_more c.args.rules.now c.requires l.i _ l.table (slice_get-get_or c.args.rules.now l.i _ (omega arith)) l.invariant.long l.invariant.named);
    }
