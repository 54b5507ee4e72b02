-- What a filled table answers, and what is left in the caller's buffer.
use Rattle.std.specs.Prelude.{◌≡◌, List, ◌++◌, ℕ, ◌≤◌, ◌<◌, ℤ, length, drop, Option, Some, None}
use Rattle.gaze.specs.Chain.{Steps, Valid, Best, total}
use Rattle.chains.specs.declared.Found.{Found}
use Rattle.chains.specs.declared.Reached.{Reached}
use Rattle.chains.specs.Tables.{Searched}

-- All entries are filled in, by the steps of some model.
pub record Finished (entries : List (Option Reached)) : Type 0 where
  pub model : Steps
  pub searched : Searched model entries
  pub some : 0 < length entries
  pub few : length entries ≤ 1026

-- The best chain stands at the front of the buffer, and the rest of it is as it was.
pub record BestWritten (m : Steps) (e : ℕ) (chain₀ : List ℕ) (score : ℤ) (count : ℕ) (chain : List ℕ) : Type 0 where
  pub found : List ℕ
  pub best : Best m e found
  pub worth : score ≡ total m found
  pub counted : count ≡ length found
  pub written : chain ≡ found ++ drop count chain₀

abbrev pub Answers : Steps → ℕ → List ℕ → Option Found → List ℕ → Type 0
Answers m e chain₀ (Some found) chain = BestWritten m e chain₀ found.score found.count chain
Answers m e chain₀ None chain = ((c : List ℕ) → Valid m e c → ⊥) × (chain ≡ chain₀)
