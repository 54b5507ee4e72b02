-- The table of the search, one entry more: the choice for the next target, as its entry, leaves the earlier entries as they were.
use Rattle.std.proofs.Common.{◌≡◌, ℕ, ◌*◌, ◌^◌, ◌≤◌, ◌<◌, List, [], ◌∷◌, ◌++◌, length, get_or, refl, sym, ap, add-one, arith, Option, Some, None}
use Rattle.std.specs.Prelude.{Bool, true, false, cond, T, ℤ, pos, nat_abs, IfSome}
use Rattle.std.specs.Option.{is_some, unwrap_or}
use lib.ListN.{length-append, get_or-append}
use lib.Seq.{get_or_at}
use Rattle.whole.proofs.Size.{abs_sum}
use Rattle.gaze.specs.Chain.{Steps}
use Rattle.gaze.proofs.Picked.{Picked, split_last, picked_same}
use Rattle.gaze.proofs.Table.{Agree, filled_more}
use Rattle.chains.specs.declared.Reached.{Reached}
use Rattle.chains.specs.Tables.{is_reached, total_of, source_of, table, Row, Searched}
use Rattle.chains.specs.Within.{row_steps, Chosen}

abbrev GainsSmall : List (Option ℤ) → ℕ → Type 0
GainsSmall steps n = (s : ℕ) → s < n → IfSome (get_or steps s None) (λ z. nat_abs z ≤ 2 ^ 50)

-- a step that a row holds is the model's
legal_is : (b : Bool) (gain : ℤ) → is_some (cond b (Some gain) None) ≡ b
legal_is true gain = refl
legal_is false gain = refl

gain_is : (b : Bool) (gain : ℤ) → T (is_some (cond b (Some gain) None)) → unwrap_or (cond b (Some gain) None) (pos 0) ≡ gain
gain_is true gain y = refl
gain_is false gain y = absurd y

gain_small : (step : Option ℤ) → IfSome step (λ z. nat_abs z ≤ 2 ^ 50) → nat_abs (unwrap_or step (pos 0)) ≤ 2 ^ 50
gain_small None h = omega arith
gain_small (Some gain) h = h

-- the choice has one step more than an earlier entry
pub choice_size : (m : Steps) (steps : List (Option ℤ)) (entries : List (Option Reached)) (choice : Option Reached) → Chosen steps entries (length entries) choice
    → Searched m entries → GainsSmall steps (length entries) → nat_abs (total_of choice) ≤ length entries * 2 ^ 50
choice_size m steps entries None p done small = omega arith
choice_size m steps entries (Some best) p done small =
    let value = total_of (get_or entries best.source None) in
    let gain = unwrap_or (get_or steps best.source None) (pos 0) in
    let below = p.below tt in
    rw (← p.worth tt)
    (omega (arith, abs_sum value gain, done.total_size best.source below, gain_small (get_or steps best.source None) (small best.source below)))

module _ (m : Steps) (steps : List (Option ℤ)) (entries : List (Option Reached)) (choice : Option Reached)
    (p : Chosen steps entries (length entries) choice) (row : Row m (length entries) steps) (done : Searched m entries) where
  more : List (Option Reached)
  more = entries ++ choice ∷ []

  same : (s : ℕ) → s < length entries → get_or entries s None ≡ get_or more s None
  unfolding more
  same s lt = sym (get_or-append entries (choice ∷ []) None s lt)

  here : get_or more (length entries) None ≡ choice
  unfolding more
  here = get_or_at entries choice [] None (length entries) refl

  agree : Agree (table entries) (table more) (length entries)
  agree =
      record {
        reach = λ s lt. ap is_reached (same s lt);
        value = λ s lt. ap total_of (same s lt);
        from = λ s lt. ap source_of (same s lt);
      }

  picked : Picked m (table entries).reach (table entries).value (length entries) 0 (length entries) (is_reached choice) (total_of choice) (source_of choice)
  picked =
      picked_same (row_steps steps) m (table entries).reach (table entries).value
      (λ s lt. rw (row.is s lt) (legal_is (m.legal s (length entries)) (m.gain s (length entries))))
      (λ s lt y. rw (row.is s lt) (gain_is (m.legal s (length entries)) (m.gain s (length entries)) (rw (row.is s lt) at y)))
      p

  pub searched_more : 0 < length entries → nat_abs (total_of choice) ≤ length entries * 2 ^ 50 → Searched m (entries ++ choice ∷ [])
  unfolding more
  searched_more some small =
      record {
        filled = rw (length-append entries (choice ∷ []), add-one) (filled_more m (table entries) (table more) (length entries) agree some done.filled (rw here picked));
        total_size = rw (length-append entries (choice ∷ []), add-one)
            (split_last {P = λ s. nat_abs (total_of (get_or more s None)) ≤ s * 2 ^ 50}
            (λ s lt. rw (← same s lt) (done.total_size s lt))
            (rw here small));
      }
