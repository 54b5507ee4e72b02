-- What the private functions ask of each other and give; no public clause speaks of it.
use Rattle.std.specs.Prelude.{cond, List, ℕ, ◌<◌, ◌^◌, ℤ, pos, nat_abs, ◌+ℤ◌, length, get_or, Option, Some, None}
use Rattle.std.specs.Int.Signed.{lt_z}
use Rattle.std.specs.Option.{is_some, unwrap_or}
use Rattle.gaze.specs.Chain.{Steps}
use Rattle.gaze.proofs.Picked.{Picked}
use Rattle.chains.specs.declared.Reached.{Reached}
use Rattle.chains.specs.Tables.{is_reached, total_of, source_of, table}

-- What a source offers fits 64 bits.
abbrev pub SumFits : Option ℤ → Option Reached → Type 0
SumFits (Some gain) (Some reached) = nat_abs (reached.total +ℤ gain) < 2 ^ 63
SumFits _ _ = Unit {0}

-- The choice after a look at one source.
abbrev pub better : Option Reached → Reached → Option Reached
better None offer = Some offer
better (Some best) offer = cond (lt_z offer.total best.total) (Some best) (Some offer)

abbrev pub considered : Option ℤ → Option Reached → ℕ → Option Reached → Option Reached
considered (Some gain) (Some reached) source choice = better choice (record { total = reached.total +ℤ gain; source = source })
considered _ _ source choice = choice

-- The steps of a row, to whatever target.
abbrev pub row_steps : List (Option ℤ) → Steps
row_steps steps =
    record { legal = λ s t. is_some (get_or steps s None); gain = λ s t. unwrap_or (get_or steps s None) (pos 0) }

-- The choice for the next target among the sources below i.
abbrev pub Chosen : List (Option ℤ) → List (Option Reached) → ℕ → Option Reached → Type 0
Chosen steps entries i choice =
    let t = table entries in
    Picked (row_steps steps) t.reach t.value (length entries) 0 i (is_reached choice) (total_of choice) (source_of choice)
