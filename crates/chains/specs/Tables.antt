-- What the table of the search holds: for each candidate, whether it is reached, by which source, and the best total.
use Rattle.std.specs.Prelude.{◌≡◌, Bool, true, false, cond, List, ℕ, ◌*◌, ◌^◌, ◌≤◌, ◌<◌, ℤ, pos, nat_abs, length, get_or, Option, Some, None, IfSome}
use Rattle.gaze.specs.Chain.{Steps}
use Rattle.gaze.proofs.Table.{Table, Filled, Traced, trace_back}
use Rattle.chains.specs.declared.Reached.{Reached}

-- A step as the rows hold it: what it gains, if it is legal.
abbrev pub step : Steps → ℕ → ℕ → Option ℤ
step m s t = cond (m.legal s t) (Some (m.gain s t)) None

abbrev pub is_reached : Option Reached → Bool
is_reached None = false
is_reached (Some r) = true

abbrev pub total_of : Option Reached → ℤ
total_of None = pos 0
total_of (Some r) = r.total

abbrev pub source_of : Option Reached → ℕ
source_of None = 0
source_of (Some r) = r.source

abbrev pub table : List (Option Reached) → Table
table entries =
    record {
      reach = λ s. is_reached (get_or entries s None);
      value = λ s. total_of (get_or entries s None);
      from = λ s. source_of (get_or entries s None);
    }

-- The row holds the steps of the model into e from the candidates before it.
pub record Row (m : Steps) (e : ℕ) (steps : List (Option ℤ)) : Type 0 where
  pub is : (s : ℕ) → s < e → get_or steps s None ≡ step m s e

-- The entries of the first candidates are filled in. Each gain is at most 2^50 in size, and so each total is at most as many times that as there are steps.
pub record Searched (m : Steps) (entries : List (Option Reached)) : Type 0 where
  pub filled : Filled m (table entries) (length entries)
  pub total_size : (s : ℕ) → s < length entries → nat_abs (total_of (get_or entries s None)) ≤ s * 2 ^ 50

-- There are some entries, and the row has a place for the step from each. Each gain is at most 2^50 in size, and each total at most as many times that as
-- there are steps.
pub record Going (steps : List (Option ℤ)) (entries : List (Option Reached)) : Type 0 where
  pub long : length entries ≤ length steps
  pub some : 0 < length entries
  pub few : length entries ≤ 1025
  pub gain_size : (s : ℕ) → s < length entries → IfSome (get_or steps s None) (λ z. nat_abs z ≤ 2 ^ 50)
  pub total_size : (s : ℕ) → s < length entries → nat_abs (total_of (get_or entries s None)) ≤ s * 2 ^ 50

-- The candidates from e back to 0, by their sources.
abbrev pub way_back : List (Option Reached) → ℕ → List ℕ
way_back entries e = trace_back (table entries).from e e

-- The sources lead from e back to 0, and the candidates on the way fit the buffer and its numbers.
pub record Leading (entries : List (Option Reached)) (e room : ℕ) : Type 0 where
  pub leads : Traced (table entries).from e (way_back entries e)
  pub within : e < length entries
  pub fits : e < room
  pub small : e < 2 ^ 32
