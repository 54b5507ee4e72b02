-- `checked` is right because it goes on only past a record with no fault. The invariant: what is wrong with all of the records is what is wrong with those that are
-- left, after so many others.
use Rattle.std.proofs.Common.{◌≡◌, None, drop}
use Rattle.records.specs.Records.{checked}
use Rattle.records.proofs.checked.Given as goal

abbrev pub invariant-loop-number : goal.invariant-loop-number
invariant-loop-number l = checked 0 None l.records ≡ checked l.number l.before (drop l.number l.records)
