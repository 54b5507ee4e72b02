-- The order of a group's lines: how one stands to the next by their keys, and what is wrong where it does not stand before it.
use Rattle.std.specs.Prelude.{List, ℕ, Option, Some, None}
use Rattle.std.specs.Ordering.{nat_cmp}
use Rattle.std.specs.Cmp.Lexicographic.{slice_cmp}
use Rattle.std.specs.declared.cmp.Ordering.{Ordering}
use Rattle.std.specs.declared.cmp.Ordering.TheVariants.{Less, Equal, Greater}
use Rattle.refusal.specs.declared.Reason.{Reason}
use Rattle.refusal.specs.declared.Reason.TheVariants.{Disorder}

-- The first key at which two lines differ decides.
unfoldable pub order : List ℕ → List ℕ → Ordering
order keys next = slice_cmp nat_cmp keys next

-- A line not strictly after the one before it is refused.
abbrev pub disorder : Ordering → Option Reason
disorder Less = None
disorder Equal = Some Disorder
disorder Greater = Some Disorder
