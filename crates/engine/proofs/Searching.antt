-- The search over the candidates of a sheet: which targets there are, what a turn asks, and that all entries are filled in at the end.
use mathlib.Core.Path.{◌≡◌, sym, subst}
use mathlib.Core.Bool.{Bool, true, false, not, cond}
use mathlib.Core.List.{List}
use Prim.Native.Nat.{ℕ, suc, ◌-◌, ◌^◌, ◌≤◌, ◌<◌}
use native.Mathlib.Omega.{arith}
use lib.Dec.{T}
use lib.IntN.{ℤ, nat_abs}
use lib.ListN.{length, take}
use lib.Seq.{length-take-le}
use Rattle.std.specs.Prelude.{Option, None, Some, IfSome}
use Rattle.gaze.specs.declared.Feature.{Feature}
use Rattle.gaze.specs.Chain.{Chain}
use Rattle.gaze.specs.Sheet.{Sheet, candidates, end_number}
use Rattle.gaze.specs.Step.{steps, legal, gain}
use Rattle.gaze.specs.Ranges.{InRange}
use Rattle.gaze.proofs.Bounds.{gain_size}
use Rattle.gaze.proofs.Candidates.{candidates_length}
use Rattle.chains.specs.declared.Reached.{Reached}
use Rattle.chains.specs.Answer.{Finished}
use Rattle.chains.specs.Tables.{Row, Searched, Going, step}

module _ {sheet : Sheet} (r : InRange sheet) {listed : List Feature} (held : listed ≡ candidates sheet) where
  pub all_listed : length listed ≡ suc (end_number sheet)
  all_listed = rw held (candidates_length sheet r)

  last_listed : length listed - 1 ≡ end_number sheet
  last_listed = let all = all_listed in omega arith

  pub chain_of_sheet : {b : Bool} {c : List ℕ} → (T b → Chain (length listed - 1) c) → b ≡ true → Chain (end_number sheet) c
  chain_of_sheet {b} {c} sound y = rw last_listed at (sound (subst T (sym y) tt))

  pub no_chain : {b : Bool} {c : List ℕ} → (T (not b) → Chain (length listed - 1) c → ⊥) → b ≡ false → Chain (end_number sheet) c → ⊥
  no_chain {b} {c} complete n p = complete (subst (λ (b : Bool). T (not b)) (sym n) tt) (rw last_listed p)

  -- the front of 1026 places that is lent for the row of a target
  pub row_long : (places row : List (Option ℤ)) {t : ℕ} → length places ≡ 1026 → t < length listed → length row ≡ length (take t places) → t ≤ length row
  row_long places row {t} all_places h same =
      let all = all_listed in
      let front : length (take t places) ≡ t = length-take-le t places (omega (arith, r.features.few)) in
      omega arith

  step_small : (s t : ℕ) → IfSome (step (steps sheet) s t) (λ z. nat_abs z ≤ 2 ^ 50)
  step_small s t = by_test (legal sheet s t)
    where
      by_test : (b : Bool) → IfSome (cond b (Some (gain sheet s t)) None) (λ z. nat_abs z ≤ 2 ^ 50)
      by_test true = gain_size sheet r s t
      by_test false = tt

  module _ {entries : List (Option Reached)} {t : ℕ} (filled : length entries ≡ t) (searched : Searched (steps sheet) entries) (from_one : 1 ≤ t) where
    pub going : {row : List (Option ℤ)} → t ≤ length row → Row (steps sheet) t row → t < length listed → Going row entries
    going {row} long steps_are h =
        let all = all_listed in
        record {
          long = omega arith;
          some = omega arith;
          few = omega (arith, r.features.few);
          gain_size = λ s lt. rw (steps_are.is s (omega arith)) (step_small s t);
          total_size = searched.total_size;
        }

-- all entries are filled in
pub finished : {sheet : Sheet} {entries : List (Option Reached)} → InRange sheet → length entries ≡ suc (end_number sheet)
    → Searched (steps sheet) entries → Finished entries
finished {sheet} {entries} r all searched =
    record { model = steps sheet; searched = searched; some = omega arith; few = omega (arith, r.features.few) }
