-- The row begins with no number read, and each turn of the loop reads one more.
use Rattle.std.proofs.Common.{rules, ap, ◌∙◌, w64, FitsSigned, arith}
use Rattle.std.proofs.Math.ListN.{length-replicate}
use Rattle.text.specs.Number.{number}
use Rattle.text.proofs.Fields.{lettered, none_read, one_read}
use Rattle.text.proofs.read_line.Goals as goal

pub loop-number-init : goal.loop-number-init
loop-number-init g c = none_read _ _ _ _ _ (length-replicate _ _) (lettered _ _ _ _ _ c.in_ok-rest.ensures)

pub loop-number-preserved : goal.loop-number-preserved
loop-number-preserved g c =
    let f : FitsSigned w64 c.in_ok-number.field-0 = search rules in
    let w = c.in_ok-number.ensures ∙ ap number c.cut.ensures.0 in
    let next = one_read c.loop-number.invariant (omega arith) c.in_ok-word.word.now c.in_ok-word.ensures c.in_ok-number.field-0 w in
    search rules
