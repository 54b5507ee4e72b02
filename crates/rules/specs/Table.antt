-- What is true of every value of the type `Rules`.
use Rattle.std.specs.Prelude.{◌≡◌, List, ℕ, ◌<◌, length, Option, Some, None, slice_index_or}
use Rattle.std.specs.List.{slice_get}
use Rattle.gaze.specs.declared.Rule.{Rule}
use Rattle.gaze.specs.Ranges.{Group, RuleRanges, rule_keys}
use Rattle.rules.specs.Rules.{pair}
use Rattle.rules.specs.declared.Rules.TheInside.{Inside}

-- The first `count` rules are named by the table: an entry names a rule of its pair, and each rule is named at its own.
pub record Named (rules : List Rule) (count : ℕ) (table : List (Option ℕ)) : Type 0 where
  pub entry : (j i : ℕ) → slice_index_or table j None ≡ Some i → (r : Rule) × (slice_get rules i ≡ Some r) × (pair r ≡ j)
  pub rule : (i : ℕ) (r : Rule) → i < count → slice_get rules i ≡ Some r → slice_index_or table (pair r) None ≡ Some i

pub record IsTabled (r : Inside) : Type 0 where
  pub rules : Group 256 RuleRanges rule_keys r.rules.now
  pub named : Named r.rules.now (length r.rules.now) r.table
