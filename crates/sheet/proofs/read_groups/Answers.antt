-- What `read_groups` makes is a sheet, since each group keeps to its ranges and its order.
use Rattle.std.proofs.Common.{rules, sym}
use Rattle.trailer.proofs.Offsets.{rising}
use Rattle.sheet.proofs.Ranged.{groups_in_range}
use Rattle.sheet.proofs.read_groups.Goals as goal

pub group_at-requires : goal.group_at-requires
group_at-requires c = let rises = rising c.args.bytes.now c.args.trailer c.requires.trailer in search rules

pub invariant_of-result : goal.invariant_of-result
invariant_of-result c =
    let rises = rising c.args.bytes.now c.args.trailer c.requires.trailer in
    let bases = c.bases_of-bases.ensures in
    let f = rw bases at c.in_ok-features.ensures in
    let s = rw bases at c.in_ok-segments.ensures in
    let g = groups_in_range rises (record {
      l = sym c.in_ok-lengths.ensures;
      p = sym c.in_ok-points.ensures;
      r = sym c.in_ok-rules.ensures;
      q = sym c.in_ok-qualifiers.ensures;
      f = sym f;
      s = sym s;
    }) in
    rw (bases, c.lines_in.ensures, c.lines_in-2.ensures, c.lines_in-3.ensures, c.lines_in-4.ensures, c.lines_in-5.ensures) g
