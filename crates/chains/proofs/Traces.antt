-- The walk back over the sources, from the last candidate of a chain to the first.
use Rattle.std.proofs.Common.{◌≡◌, ℕ, suc, ◌+◌, ◌≤◌, ◌<◌, List, ◌∷◌, ◌++◌, length, take, drop, set, get_or, refl, sym, ap, ◌∙◌, arith, append_assoc, Option, None}
use Rattle.std.proofs.lemmas.List.{take_more_set, drop-set-lt}
use Rattle.std.proofs.lemmas.Grind.{drop_more_same}
use lib.Seq.{length-take-le}
use Rattle.std.proofs.Math.ListN.{length-set}
use Rattle.gaze.proofs.Table.{Traced, at_begin, came, traced_is}
use Rattle.chains.specs.declared.Reached.{Reached}
use Rattle.chains.specs.Tables.{source_of, table, way_back}

-- no way back is longer than there are candidates up to its first
pub traced_length : {from : ℕ → ℕ} {e : ℕ} {way : List ℕ} → Traced from e way → length way ≤ suc e
traced_length at_begin = omega arith
traced_length (came lt t) = let h = traced_length t in omega arith

-- The candidates passed stand at the front of the buffer, the last one first, and the way goes on from here.
pub record Walking (entries : List (Option Reached)) (e : ℕ) (chain₀ chain : List ℕ) (count place : ℕ) : Type 0 where
  pub leads : Traced (table entries).from place (way_back entries place)
  pub passed : take count chain ++ way_back entries place ≡ way_back entries e
  pub behind : drop count chain ≡ drop count chain₀
  pub room : count + place ≤ e

-- from a candidate that is not BEGIN
record StepBack (entries : List (Option Reached)) (place : ℕ) (way : List ℕ) : Type 0 where
  less : source_of (get_or entries place None) < place
  leads : Traced (table entries).from (source_of (get_or entries place None)) (way_back entries (source_of (get_or entries place None)))
  is : way ≡ place ∷ way_back entries (source_of (get_or entries place None))

step_back : (entries : List (Option Reached)) {place : ℕ} {way : List ℕ} → (place ≡ 0 → ⊥) → Traced (table entries).from place way → StepBack entries place way
step_back entries n at_begin = absurd (n refl)
step_back entries n (came {e = place} {l = way} lt t) =
    let same : way_back entries (source_of (get_or entries place None)) ≡ way = traced_is (source_of (get_or entries place None)) (omega arith) t in
    record { less = lt; leads = rw same t; is = ap (λ (l : List ℕ). place ∷ l) (sym same) }

module _ {entries : List (Option Reached)} {e : ℕ} {chain₀ chain : List ℕ} {count place : ℕ} (w : Walking entries e chain₀ chain count place) (within : count < length chain) where
  pub stepped : (x : ℕ) → drop (count + 1) (set chain count x) ≡ drop (count + 1) chain₀
  stepped x = drop-set-lt (count + 1) chain count x (omega arith) ∙ drop_more_same chain chain₀ count w.behind

  pub walked : (place ≡ 0 → ⊥) → Walking entries e chain₀ (set chain count place) (count + 1) (source_of (get_or entries place None))
  walked n =
      let s = step_back entries n w.leads in
      let less = s.less in
      let room = w.room in
      record {
        leads = s.leads;
        passed = rw (take_more_set chain count place within, append_assoc) (rw s.is at w.passed);
        behind = stepped place;
        room = omega arith;
      }

  module _ (here : place ≡ 0) where
    pub whole : take (count + 1) (set chain count 0) ≡ way_back entries e
    whole = take_more_set chain count 0 within ∙ rw (here, traced_is 0 (omega arith) at_begin) at w.passed

    pub counted : count + 1 ≡ length (way_back entries e)
    counted = sym (length-take-le (count + 1) (set chain count 0) (rw length-set (omega arith))) ∙ ap length whole
