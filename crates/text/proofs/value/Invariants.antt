-- `value` is right because each digit is put after those before it. The invariant: `number` and the digits still to come write what all digits write.
-- It never grows beyond that number, which nine digits keep below 10^9.
use mathlib.Core.Path.{◌≡◌}
use lib.ListN.{drop}
use Rattle.text.specs.Number.{value_from, value}
use Rattle.text.proofs.value.Given as goal

abbrev pub invariant-loop-digit : goal.invariant-loop-digit
invariant-loop-digit l = value l.digits ≡ value_from l.number (drop l.digit-index l.digits)
