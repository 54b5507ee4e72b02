-- Lines in order by source and target are in order by the number of their pair, which is that of no other pair.
use Rattle.std.proofs.Common.{◌≡◌, ℕ, ◌+◌, ◌-◌, ◌<◌, ◌≤◌, List, [], ◌∷◌, take, drop, map, length, get_or, arith, inl, inr}
use Rattle.std.proofs.Math.Dec.{eqb}
use Rattle.gaze.specs.declared.Qualifier.{Qualifier}
use Rattle.gaze.specs.Lists.{keep}
use Rattle.gaze.specs.Ranges.{QualifierRanges, qualifier_keys, Before, Group}
use Rattle.gaze.proofs.ListLaws.{each_map}
use Rattle.gaze.proofs.Pairs.{by_pair}
use Rattle.sorted.specs.Sorted.{Rising, FirstRows}
use Rattle.sorted.proofs.Parts.{rows_rise, stand_together}
use Rattle.lines.specs.Lines.{of_types, pair_number, pair}

pub pairs_rise : (lines : List Qualifier) → Group 256 QualifierRanges qualifier_keys lines → Rising (map pair lines)
pairs_rise lines group =
    rows_rise qualifier_keys QualifierRanges pair (λ p q r s before. by_types r.target.1 s.target.1 before) lines group.each group.ordered
  where
    by_types : {a b c d e f : ℕ} → b ≤ 31 → d ≤ 31 → Before (a ∷ b ∷ e ∷ []) (c ∷ d ∷ f ∷ []) → pair_number a b ≤ pair_number c d
    by_types h k (inl lt) = omega arith
    by_types h k (inr (e, inl lt)) = omega arith
    by_types h k (inr (e, inr (f, rest))) = omega arith

pub pair_stands : (lines : List Qualifier) → Group 256 QualifierRanges qualifier_keys lines → {first : List ℕ} → FirstRows (map pair lines) first → (a b : ℕ) → b < 32 → pair_number a b + 1 < length first
    → keep (of_types a b) lines ≡ take (get_or first (pair_number a b + 1) 0 - get_or first (pair_number a b) 0) (drop (get_or first (pair_number a b) 0) lines)
pair_stands lines group firsts a b in_range inside =
    stand_together pair lines firsts (pair_number a b) inside (of_types a b)
    (each_map QualifierRanges (λ q. of_types a b q ≡ eqb (pair q) (pair_number a b)) lines (λ q r. by_pair a b q.source q.target (omega arith) r.target.1) group.each)
