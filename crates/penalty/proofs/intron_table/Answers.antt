-- `intron_table` is right because its 1,024 numbers pass one test that is computed: each is the penalty at its place.
use mathlib.Core.Path.{◌≡◌, refl}
use mathlib.Core.List.{List}
use native.Mathlib.Omega.{arith}
use lib.Dec.{T}
use lib.IntN.{ℤ}
use lib.ListN.{length}
use Rattle.gaze.specs.Penalty.{past, interpolated, intron_penalty}
use Rattle.penalty.specs.Intron.{IntronTable}
use Rattle.penalty.proofs.Expanded.{holds_from, expanded}
use Rattle.penalty.proofs.intron_table.Goals as goal

shipped : {table : List ℤ} → length table ≡ 1024 → T (holds_from intron_penalty 0 table) → IntronTable table
shipped {table} e t = record { at = λ d h. expanded intron_penalty table t d (omega arith) }

pub returns : goal.returns
unfolding past interpolated intron_penalty
returns c = shipped refl tt
