-- What is true of every value of the type `Interrupters`.
use Rattle.std.specs.Prelude.{◌≡◌, Bool, ◌&&◌, List, [], ℕ, ◌<◌, ◌%◌, eqb, ltb, get_or}
use Rattle.gaze.specs.declared.Feature.{Feature}
use Rattle.gaze.specs.Lists.{some_of}
use Rattle.gaze.specs.Step.{stands_between}
use Rattle.rules.specs.declared.Interrupters.TheInside.{Inside}

-- A feature of a type, and of a class by its position modulo 3, that stands where an interrupter of s and t does.
abbrev pub stands : ℕ → ℕ → Feature → Feature → Feature → Bool
stands kind class s t f = eqb f.kind kind && (eqb (f.position % 3) class && stands_between s t f)

abbrev pub entry : List (List ℕ) → ℕ → ℕ → ℕ
entry last kind class = get_or (get_or last kind []) class 0

-- The entry of a type and a class is the last position before t at which such a feature stands, 0 where there is none: beyond s exactly where one interrupts.
pub record LastSeen (features : List Feature) (t : Feature) (last : List (List ℕ)) : Type 0 where
  pub is : (kind class : ℕ) (s : Feature) → kind < 32 → class < 3 → ltb s.position (entry last kind class) ≡ some_of (stands kind class s t) features

abbrev pub IsLastSeen : Inside → Type 0
IsLastSeen i = LastSeen i.features.now i.target i.last
