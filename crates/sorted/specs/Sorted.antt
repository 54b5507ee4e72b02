-- Rows whose keys never fall, and the first row from a key on.
use Rattle.std.specs.Prelude.{List, ℕ, ◌≤◌, ◌<◌, length, get_or}

abbrev pub Rising : List ℕ → Type 0
Rising keys = (i j : ℕ) → i ≤ j → j < length keys → get_or keys i 0 ≤ get_or keys j 0

-- Row r is the first whose key is x or more, or the end where there is none.
pub record First (keys : List ℕ) (x r : ℕ) : Type 0 where
  pub within : r ≤ length keys
  pub less : (i : ℕ) → i < r → get_or keys i 0 < x
  pub enough : (i : ℕ) → r ≤ i → i < length keys → x ≤ get_or keys i 0

-- Entry x is the first row from x on.
pub record FirstRows (keys first : List ℕ) : Type 0 where
  pub at : (x : ℕ) → x < length first → First keys x (get_or first x 0)
