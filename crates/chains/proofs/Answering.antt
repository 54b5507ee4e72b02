-- What a filled table answers for its last candidate: the trace gives the best chain, and where the candidate is not reached there is none.
use Rattle.std.proofs.Common.{◌≡◌, ℕ, ◌*◌, ◌^◌, ◌≤◌, ◌<◌, List, ◌++◌, length, reverse, drop, get_or, sym, ap, subst, ◌∙◌, arith, Option, Some, None}
use lib.ListN.{length-reverse}
use mir.Syntax.{w64}
use mir.Val.{to_z, of_z}
use Rattle.whole.proofs.Bits.{small_back}
use Rattle.gaze.specs.Chain.{Steps, Valid}
use Rattle.gaze.proofs.Table.{Traced, solved, traced_is, filled_none, filled_best, filled_total}
use Rattle.chains.specs.declared.Reached.{Reached}
use Rattle.chains.specs.Tables.{total_of, table, Searched, way_back}
use Rattle.chains.specs.Answer.{BestWritten}

module _ {m : Steps} {entries : List (Option Reached)} (s : Searched m entries) {e : ℕ} (within : e < length entries) where
  pub none_found : get_or entries e None ≡ None → (c : List ℕ) → Valid m e c → ⊥
  none_found h = filled_none m (table entries) (length entries) s.filled e within (rw h tt)

  module _ {reached : Reached} (h : get_or entries e None ≡ Some reached) where
    pub way_leads : Traced (table entries).from e (way_back entries e)
    way_leads =
        let g = (solved m (table entries) (length entries) s.filled e within).found (rw h tt) in
        subst (Traced (table entries).from e) (sym (traced_is e (omega arith) g.traced)) g.traced

    total_back : length entries ≤ 1026 → to_z w64 (of_z w64 reached.total) ≡ reached.total
    total_back few = small_back reached.total (e * 2 ^ 50) (rw h at (s.total_size e within)) (omega arith)

    pub best_written : {chain₀ chain : List ℕ} {count : ℕ} → length entries ≤ 1026 → count ≡ length (way_back entries e)
        → chain ≡ reverse (way_back entries e) ++ drop count chain₀ → BestWritten m e chain₀ (to_z w64 (of_z w64 reached.total)) count chain
    best_written few counted written =
        record {
          found = reverse (way_back entries e);
          best = filled_best m (table entries) (length entries) s.filled e within (rw h tt);
          worth = total_back few ∙ (sym (ap total_of h) ∙ sym (filled_total m (table entries) (length entries) s.filled e within (rw h tt)));
          counted = counted ∙ sym (length-reverse (way_back entries e));
          written = written;
        }
