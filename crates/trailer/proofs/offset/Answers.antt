-- A number that is no place is no offset; one that is a place is asked the three tests of the definition.
use Rattle.std.proofs.Common.{◌∙◌, rules}
use Rattle.trailer.proofs.Offsets.{number_is, none_is, offset_at}
use Rattle.trailer.proofs.offset.Goals as goal

pub returns-in_err-place : goal.returns-in_err-place
returns-in_err-place c = c.from_residual.ensures ∙ none_is _ c.args.number c.ranges.number c.try_from.ensures c.in_err-place.ensures.value c.args.bytes.now c.args.top c.args.low

pub returns-then-begins : goal.returns-then-begins
returns-then-begins c =
    let e = number_is _ c.args.number c.ranges.number c.try_from.ensures c.in_ok-place.place c.in_ok-place.ensures.value in
    rw e (grind (rules, offset_at))

pub returns : goal.returns
returns c =
    let e = number_is _ c.args.number c.ranges.number c.try_from.ensures c.in_ok-place.place c.in_ok-place.ensures.value in
    rw e (grind (rules, offset_at))
