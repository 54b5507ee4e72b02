use Rattle.std.proofs.Common.{◌≡◌, ℕ, true, false, get_or, replicate}
use Rattle.gaze.proofs.ListLaws.{repeated}
use Rattle.sums.proofs.RunningSums.none.Goals as goal

pub invariant_of-result : goal.invariant_of-result
invariant_of-result c =
    record {
      places = λ j l h. absurd (never j h);
      long = λ j l h. absurd (never j h);
      filled = record { rows = λ j l h. absurd (never j h) };
    }
  where
    never : (j : ℕ) → get_or (replicate 64 false) j false ≡ true → ⊥
    never j h = let e = repeated 64 false j in cc
