-- `region_score` is right because records with no fault meet what `segment::region_score` asks of the segments of a sheet.
use Rattle.std.proofs.Common.{◌≡◌, Some, arith, sym}
use Rattle.gaze.specs.Ranges.{SegmentRanges}
use Rattle.gaze.proofs.ListLaws.{each_map}
use Rattle.rows.specs.Rows.{Good}
use Rattle.rows.proofs.Ranges.{good_of}
use Rattle.records.specs.Answers.{asked_by}
use Rattle.records.proofs.Accepted.{checked_lines, asked_bounded}
use Rattle.records.proofs.region_score.Goals as goal

pub region_score-requires : goal.region_score-requires
region_score-requires c =
    let asked : asked_by c.args.region ≡ Some c.in_ok-q.q = grind arith in
    let b = asked_bounded c.args.region c.in_ok-q.q asked in
    let n = checked_lines 0 _ c.args.records.now (omega arith) (sym c.in_ok-checked.ensures) in
    record { each = each_map (SegmentRanges 4000000) Good c.args.records.now (λ g r. good_of r) n.each; few = omega (arith, n.few); ordered = b.ordered; bounded = b.bounded }
