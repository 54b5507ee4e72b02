-- The records one by one: the first with a fault is refused, and else those that are left decide.
use mathlib.Core.Path.{◌≡◌, refl, ◌∙◌}
use mathlib.Core.List.{List}
use Prim.Native.Nat.{ℕ, ◌+◌, ◌<◌, ◌≤◌}
use lib.ListN.{length, get_or, drop, drop_of_length-le}
use Rattle.std.proofs.lemmas.List.{at_drop_more}
use Rattle.std.specs.Prelude.{Option, Some, None, Ok, Err}
use Rattle.gaze.specs.declared.Segment.{Segment}
use Rattle.refusal.specs.declared.Reason.{Reason}
use Rattle.records.specs.Records.{record_fault, unless, checked}

module _ (records : List Segment) (passed : ℕ) (before : Option Segment) where
  pub none_left : length records ≤ passed → checked passed before (drop passed records) ≡ Ok tt
  unfolding checked
  none_left h = rw (drop_of_length-le records h) refl

  module _ (past : Segment) (h : passed < length records) where
    one_left : checked passed before (drop passed records)
        ≡ unless (record_fault passed before (get_or records passed past)) (passed + 1) (checked (passed + 1) (Some (get_or records passed past)) (drop (passed + 1) records))
    unfolding checked
    one_left = at_drop_more (checked passed before) records passed past h

    pub fault_here : (reason : Reason) → record_fault passed before (get_or records passed past) ≡ Some reason
        → checked passed before (drop passed records) ≡ Err (record { reason = reason; place = passed + 1 })
    fault_here reason e = one_left ∙ rw e refl

    pub fault_later : record_fault passed before (get_or records passed past) ≡ None
        → checked passed before (drop passed records) ≡ checked (passed + 1) (Some (get_or records passed past)) (drop (passed + 1) records)
    fault_later e = one_left ∙ rw e refl
