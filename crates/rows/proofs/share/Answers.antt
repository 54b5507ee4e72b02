-- `share` is right because a segment that no edge cuts has its whole score for its share.
use Rattle.std.proofs.Common.{◌∙◌, sym, arith}
use Rattle.whole.proofs.Bits.{small_back}
use Rattle.rows.proofs.Shares.{share_whole, product_fits}
use Rattle.rows.proofs.share.Goals as goal

pub returns-then-segment-b : goal.returns-then-segment-b
returns-then-segment-b c =
    let a = c.args in
    small_back a.segment.now.score 10000000 c.requires.good.score (omega arith)
    ∙ sym (share_whole a.a a.b a.segment.now (omega arith) (omega arith) (omega arith))

pub times-requires : goal.times-requires
times-requires c =
    rw (small_back c.args.segment.now.score 10000000 c.requires.good.score (omega arith)) (grind (arith, product_fits))
