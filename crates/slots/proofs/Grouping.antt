-- Rows that are written slot by slot, for the grouping of a sheet's segments and for its narrowing to a target.
use mathlib.Core.Path.{◌≡◌, refl, sym, ap, ◌∙◌}
use mathlib.Core.Logic.{⊎_elim}
use mathlib.Core.Bool.{Bool, true, false, ◌&&◌}
use mathlib.Core.List.{List, [], ◌∷◌, ◌++◌, append-nil}
use Prim.Native.Nat.{ℕ, ◌+◌, ◌-◌, ◌≤◌, ◌<◌}
use native.Mathlib.Nat.{eq-or-lt_of_le}
use native.Mathlib.Omega.{arith}
use lib.ListN.{length, get_or, set, replicate, take, drop, length-append, length-set, length-drop}
use lib.Seq.{drop-nil, take-nil, get_or-set_same, get_or-set_other, drop-append_seam}
use Rattle.std.specs.List.{filter, slice_range}
use Rattle.std.proofs.lemmas.List.{length-take, take-append-le, take-map, drop-append-le, drop-map, take_all}
use Rattle.std.proofs.lemmas.List.Sums.{length-filter, count_by-le-length}
use Rattle.std.proofs.lemmas.List.Kept.{IsNonDecreasingBy-filter}
use Rattle.gaze.specs.declared.Segment.{Segment}
use Rattle.gaze.specs.Lists.{keep, listed}
use Rattle.gaze.proofs.Tests.{none_below}
use Rattle.gaze.proofs.ListLaws.{listed_at, listed_same}
use Rattle.slots.specs.Slots.{slot_in, ends_at, Rising}
use Rattle.slots.specs.Held.{part, rows_of, slots_in, starts_of, IsGrouped}
use Rattle.slots.specs.declared.Slots.TheInside.{Inside}

-- ---- one slot of those that are held
pub slot_listed : (f : ℕ → List Segment) (j : ℕ) → j < 64 → slot_in (listed f 0 64) j ≡ f j
slot_listed f j h = listed_at f 0 64 [] j h ∙ ap f (zero_left j)
  where
    zero_left : (j : ℕ) → 0 + j ≡ j
    zero_left j = omega arith

pub slot_is : (s : Inside) (slots : List (List Segment)) → slots_in s ≡ slots → (j : ℕ) → j < 64 → slot_in slots j ≡ rows_of s j
slot_is s slots e j h = rw (← e) (slot_listed (rows_of s) j h)

-- beside a slot's rows stand their starts
module _ (s : Inside) (held : IsGrouped s) (slots : List (List Segment)) (view : slots_in s ≡ slots) (j : ℕ) (low : j < 64) where
  pub starts_beside : part s.starts.items s.at j ≡ starts_of (slot_in slots j)
  starts_beside =
      let lo = get_or s.at j 0 in
      let hi = get_or s.at (j + 1) 0 in
      rw (held.listed, slot_is s slots view j low)
      (ap (take (hi - lo)) (drop-map (λ g. g.start) lo s.rows.items) ∙ take-map (λ g. g.start) (hi - lo) (drop lo s.rows.items))

  pub slot_rises : Rising (slot_in slots j)
  slot_rises = rw (slot_is s slots view j low) (held.rising j low)

range_length : (l : List Segment) (lo hi : ℕ) → hi ≤ length l → length (slice_range l lo hi) ≡ hi - lo
range_length l lo hi h = omega (arith, length-take (hi - lo) (drop lo l), length-drop lo l)

range_kept : (l m : List Segment) (lo hi : ℕ) → lo ≤ hi → hi ≤ length l → slice_range (l ++ m) lo hi ≡ slice_range l lo hi
range_kept l m lo hi h k =
    ap (take (hi - lo)) (drop-append-le lo l m (omega arith))
    ∙ take-append-le (hi - lo) (drop lo l) m (omega (arith, length-drop lo l))

-- ---- no rows
range_none : (lo hi : ℕ) → slice_range {X = Segment} [] lo hi ≡ []
range_none lo hi = ap (take (hi - lo)) (drop-nil lo) ∙ take-nil (hi - lo)

module _ (s : Inside) (no_rows : s.rows.items ≡ []) (no_starts : s.starts.items ≡ []) (at_0 : (j : ℕ) → j < 65 → get_or s.at j 0 ≡ 0) where
  none_in : (j : ℕ) → rows_of s j ≡ []
  none_in j = rw no_rows (range_none (get_or s.at j 0) (get_or s.at (j + 1) 0))

  pub none_view : slots_in s ≡ replicate 64 []
  unfolding listed
  none_view = listed_same (rows_of s) (λ j. []) 0 64 (λ j l u. none_in j) ∙ refl

  pub none_grouped : IsGrouped s
  none_grouped =
      record {
        listed = no_starts ∙ sym (ap starts_of no_rows);
        rises = λ j h. omega (arith, at_0 j (omega arith), at_0 (j + 1) (omega arith));
        within = λ j h. omega (arith, at_0 (j + 1) (omega arith));
        few = λ j h. rw (none_in j) (omega arith);
        rising = λ j h. rw (none_in j) (λ i k d m n. absurd (none_below n));
      }

-- ---- the rows after the slots below j
pub record Grouped (slot : ℕ → List Segment) (j : ℕ) (rows : List Segment) (at : List ℕ) : Type 0 where
  pub long : length at ≡ 65
  pub last : get_or at j 0 ≡ length rows
  pub rises : (i : ℕ) → i < j → get_or at i 0 ≤ get_or at (i + 1) 0
  pub within : (i : ℕ) → i < j → get_or at (i + 1) 0 ≤ length rows
  pub is : (i : ℕ) → i < j → part rows at i ≡ slot i

module _ (slot : ℕ → List Segment) where
  pub grouped_none : (rows : List Segment) (at : List ℕ) → rows ≡ [] → length at ≡ 65 → get_or at 0 0 ≡ 0 → Grouped slot 0 rows at
  grouped_none rows at e l z =
      record {
        long = l;
        last = z ∙ sym (ap length e);
        rises = λ i h. absurd (none_below h);
        within = λ i h. absurd (none_below h);
        is = λ i h. absurd (none_below h);
      }

  -- slot j is written behind the rows
  module _ {j : ℕ} {rows : List Segment} {at : List ℕ} (g : Grouped slot j rows at) (low : j < 64) {rows' : List Segment} (more : rows' ≡ rows ++ slot j)
      {n : ℕ} (count : n ≡ length rows') where
    at' : List ℕ
    at' = set at (j + 1) n

    longer : length rows' ≡ length rows + length (slot j)
    longer = ap length more ∙ length-append rows (slot j)

    old : (i : ℕ) → i < j + 1 → get_or at' i 0 ≡ get_or at i 0
    unfolding at'
    old i h = get_or-set_other at (j + 1) i n 0 (λ e. omega arith)

    new : get_or at' (j + 1) 0 ≡ length rows'
    unfolding at'
    new = get_or-set_same at (j + 1) n 0 (omega (arith, g.long)) ∙ count

    -- what holds of the slots before j and of j holds of all
    each_slot : (P : ℕ → ℕ → ℕ → Type 0) → ((i : ℕ) → i < j → P i (get_or at i 0) (get_or at (i + 1) 0)) → P j (length rows) (length rows')
        → (i : ℕ) → i < j + 1 → P i (get_or at' i 0) (get_or at' (i + 1) 0)
    each_slot P before now i h = ⊎_elim last_one earlier (eq-or-lt_of_le le_down)
      where
        le_down : i ≤ j
        le_down = omega arith

        here : get_or at' j 0 ≡ length rows
        here = old j (omega arith) ∙ g.last

        last_one : i ≡ j → P i (get_or at' i 0) (get_or at' (i + 1) 0)
        last_one e = rw (e, here, new) now

        earlier : i < j → P i (get_or at' i 0) (get_or at' (i + 1) 0)
        earlier l = rw (old i (omega arith), old (i + 1) (omega arith)) (before i l)

    kept : (i : ℕ) → i < j → slice_range rows' (get_or at i 0) (get_or at (i + 1) 0) ≡ slot i
    kept i l = rw more (range_kept rows (slot j) (get_or at i 0) (get_or at (i + 1) 0) (g.rises i l) (g.within i l) ∙ g.is i l)

    written : slice_range rows' (length rows) (length rows') ≡ slot j
    written =
        rw more
        (ap (take (length (rows ++ slot j) - length rows)) (drop-append_seam rows (slot j))
        ∙ take_all (length (rows ++ slot j) - length rows) (slot j) (omega (arith, length-append rows (slot j))))

    pub grouped_more : Grouped slot (j + 1) rows' (set at (j + 1) n)
    unfolding at'
    grouped_more =
        record {
          long = length-set at (j + 1) n ∙ g.long;
          last = new;
          rises = each_slot (λ i lo hi. lo ≤ hi) (λ i l. g.rises i l) (omega (arith, longer));
          within = each_slot (λ i lo hi. hi ≤ length rows') (λ i l. omega (arith, g.within i l, longer)) (omega arith);
          is = each_slot (λ i lo hi. slice_range rows' lo hi ≡ slot i) kept written;
        }

  -- all slots are written
  module _ {j : ℕ} (all : j ≡ 64) where
    pub grouped_view : {rows : List Segment} {at : List ℕ} → Grouped slot j rows at → listed (part rows at) 0 64 ≡ listed slot 0 64
    grouped_view {rows} {at} g = listed_same (part rows at) slot 0 64 (λ i l u. g.is i (omega (arith, all)))

    pub grouped_whole : (s : Inside) → Grouped slot j s.rows.items s.at → s.starts.items ≡ starts_of s.rows.items → ((i : ℕ) → i < 64 → length (slot i) ≤ 1024)
        → ((i : ℕ) → i < 64 → Rising (slot i)) → IsGrouped s
    grouped_whole s g starts few rising =
        record {
          listed = starts;
          rises = λ i h. g.rises i (omega (arith, all));
          within = λ i h. g.within i (omega (arith, all));
          few = λ i h. rw (g.is i (omega (arith, all))) (few i h);
          rising = λ i h. rw (g.is i (omega (arith, all))) (rising i h);
        }

-- ---- what is picked
pub filter_keeps : (test : Segment → Bool) (l : List Segment) → filter test l ≡ keep test l
unfolding keep
filter_keeps test [] = refl
filter_keeps test (g ∷ l) = rw (filter_keeps test l) refl

pub filter_length : (test : Segment → Bool) (l : List Segment) → length (filter test l) ≤ length l
filter_length test l = omega (arith, length-filter test l, count_by-le-length test l)

filter_none : (l : List Segment) → filter (λ g. false) l ≡ []
filter_none [] = refl
filter_none (g ∷ l) = filter_none l

-- ---- what is left of a slot for a target
module _ (used : List Bool) (t : ℕ) (slots : List (List Segment)) where
  abbrev pub left : ℕ → List Segment
  left j = filter (λ g. get_or used j false && ends_at t g) (slot_in slots j)

  pub left_unused : (rows : List Segment) (j : ℕ) → get_or used j false ≡ false → rows ≡ rows ++ left j
  left_unused rows j u = rw (u, filter_none (slot_in slots j)) (sym (append-nil rows))

  module _ (s : Inside) (view : slots_in s ≡ slots) (held : IsGrouped s) (j : ℕ) (low : j < 64) where
    pub left_used : (rows : List Segment) → get_or used j false ≡ true → rows ++ filter (ends_at t) (rows_of s j) ≡ rows ++ left j
    left_used rows u = rw (u, slot_is s slots view j low) refl

    shorter : length (left j) ≤ length (rows_of s j)
    shorter = omega (arith, filter_length (λ g. get_or used j false && ends_at t g) (slot_in slots j), ap length (slot_is s slots view j low))

    pub left_few : length (left j) ≤ 1024
    left_few = omega (arith, shorter, held.few j low)

    pub left_room : get_or s.at j 0 + length (left j) ≤ get_or s.at (j + 1) 0
    left_room =
        omega (arith, shorter, range_length s.rows.items (get_or s.at j 0) (get_or s.at (j + 1) 0) (held.within j low), held.rises j low)

    pub left_rising : Rising (left j)
    left_rising =
        IsNonDecreasingBy-filter (λ g. g.start) (λ g. get_or used j false && ends_at t g) (slot_in slots j)
        (rw (slot_is s slots view j low) (held.rising j low))
