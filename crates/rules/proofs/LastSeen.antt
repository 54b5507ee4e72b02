-- The last interrupter before a target decides for every source: one stands between exactly where the last one lies beyond the source.
use Rattle.std.proofs.Common.{◌≡◌, ℕ, ◌+◌, ◌-◌, ◌*◌, ◌%◌, ◌<◌, ◌≤◌, List, [], ◌∷◌, Bool, true, false, ◌&&◌, ◌||◌, length, get_or, set, take, drop, replicate, refl, sym, ap, ap₂, subst, ◌∙◌, arith, length-set, ⊎_elim}
use Rattle.std.proofs.Math.Dec.{eqb, ltb}
use borrow.Author.Tests.{lt-ltb, le-ltb, eqb-true, eqb-false, ltb-true, ltb-false}
use Rattle.std.proofs.lemmas.List.{get_or-set_same, get_or-set_other, get_or-replicate, get_or_past, take_more, take_all, take-append-drop}
use Rattle.std.proofs.lemmas.Bool.{cases_eq}
use Rattle.gaze.proofs.Tests.{both_true, same_test, at_or_below}
use Rattle.gaze.specs.declared.Interruption.TheVariants.{None, FromSource, FromTarget}
use Rattle.gaze.specs.declared.Feature.{Feature}
use Rattle.gaze.specs.Lists.{Each, some_of}
use Rattle.gaze.specs.Step.{stands_between, interrupts, interrupted}
use Rattle.gaze.specs.Ranges.{InterruptionRanges}
use Rattle.gaze.proofs.ListLaws.{repeated, some_append, some_same, some_none}
use Rattle.rules.specs.LastSeen.{stands, entry, LastSeen}

-- ---- what is looked up is what the definition asks
-- a test that matters only where another holds
under : (a b c : Bool) → (a ≡ true → b ≡ c) → (a && b) ≡ (c && a)
under true b c h = h refl ∙ sym (and_true c)
  where
    and_true : (c : Bool) → (c && true) ≡ c
    and_true true = refl
    and_true false = refl
under false b c h = sym (and_false c)
  where
    and_false : (c : Bool) → (c && false) ≡ false
    and_false true = refl
    and_false false = refl

module _ (s t : Feature) (kind remainder : ℕ) (small : remainder ≤ 2) where
  from_source : (f : Feature) → interrupts (FromSource kind remainder) s t f ≡ stands kind ((s.position + remainder) % 3) s t f
  from_source f =
      ap (λ (b : Bool). eqb f.kind kind && b)
      (under (stands_between s t f) (eqb ((f.position - s.position) % 3) remainder) (eqb (f.position % 3) ((s.position + remainder) % 3))
      (λ h. let k = ltb-true s.position f.position (both_true (ltb s.position f.position) (ltb f.position t.position) h).0 in
      same_test ((f.position - s.position) % 3) remainder (f.position % 3) ((s.position + remainder) % 3) (λ e. omega arith) (λ e. omega arith)))

  from_target : (f : Feature) → interrupts (FromTarget kind remainder) s t f ≡ stands kind ((t.position + 2 * remainder) % 3) s t f
  from_target f =
      ap (λ (b : Bool). eqb f.kind kind && b)
      (under (stands_between s t f) (eqb ((t.position - f.position) % 3) remainder) (eqb (f.position % 3) ((t.position + 2 * remainder) % 3))
      (λ h. let k = ltb-true f.position t.position (both_true (ltb s.position f.position) (ltb f.position t.position) h).1 in
      same_test ((t.position - f.position) % 3) remainder (f.position % 3) ((t.position + 2 * remainder) % 3) (λ e. omega arith) (λ e. omega arith)))

remainder_of : (n : ℕ) → n % 3 < 3
remainder_of n = omega arith

none_interrupts : (s t : Feature) (l : List Feature) → some_of (interrupts None s t) l ≡ false
unfolding some_of
none_interrupts s t [] = refl
none_interrupts s t (f ∷ l) = none_interrupts s t l

module _ (features : List Feature) (t s : Feature) (last : List (List ℕ)) (p : LastSeen features t last) where
  pub none_seen : false ≡ interrupted features None s t
  none_seen = sym (none_interrupts s t features)

  pub source_seen : (kind remainder : ℕ) → InterruptionRanges (FromSource kind remainder)
      → ltb s.position (entry last kind ((s.position + remainder) % 3)) ≡ interrupted features (FromSource kind remainder) s t
  source_seen kind remainder r =
      let k = r.0 in
      p.is kind ((s.position + remainder) % 3) s (omega arith) (remainder_of (s.position + remainder))
      ∙ sym (some_same (interrupts (FromSource kind remainder) s t) (stands kind ((s.position + remainder) % 3) s t) features (from_source s t kind remainder r.1))

  pub target_seen : (kind remainder : ℕ) → InterruptionRanges (FromTarget kind remainder)
      → ltb s.position (entry last kind ((t.position + 2 * remainder) % 3)) ≡ interrupted features (FromTarget kind remainder) s t
  target_seen kind remainder r =
      let k = r.0 in
      p.is kind ((t.position + 2 * remainder) % 3) s (omega arith) (remainder_of (t.position + 2 * remainder))
      ∙ sym (some_same (interrupts (FromTarget kind remainder) s t) (stands kind ((t.position + 2 * remainder) % 3) s t) features (from_target s t kind remainder r.1))

-- ---- how the last interrupters are found: the first i of the features are looked at, and no entry lies beyond a later one
pub record SeenTo (features : List Feature) (t : Feature) (i : ℕ) (last : List (List ℕ)) : Type 0 where
  pub types : length last ≡ 32
  pub classes : (kind : ℕ) → kind < 32 → length (get_or last kind []) ≡ 3
  pub is : (kind class : ℕ) (s : Feature) → kind < 32 → class < 3 → ltb s.position (entry last kind class) ≡ some_of (stands kind class s t) (take i features)
  pub low : (kind class k : ℕ) (d : Feature) → i ≤ k → k < length features → entry last kind class ≤ (get_or features k d).position

pub seen_none : (features : List Feature) (t : Feature) → SeenTo features t 0 (replicate 32 (replicate 3 0))
unfolding some_of
seen_none features t =
    record {
      types = refl;
      classes = λ kind h. ap length (get_or-replicate 32 kind (replicate 3 0) [] h);
      is = λ kind class s h l. ap (ltb s.position) (nothing kind class) ∙ le-ltb s.position 0 (omega arith);
      low = λ kind class k d h l. omega (arith, nothing kind class);
    }
  where
    nothing : (kind class : ℕ) → entry (replicate 32 (replicate 3 0)) kind class ≡ 0
    nothing kind class =
        ⊎_elim
        (λ past. ap (λ (row : List ℕ). get_or row class 0) (get_or_past (replicate 32 (replicate 3 0)) kind [] past))
        (λ h. ap (λ (row : List ℕ). get_or row class 0) (get_or-replicate 32 kind (replicate 3 0) [] h) ∙ repeated {A = ℕ} 3 0 class)
        (at_or_below 32 kind)

-- a later interrupter of the same place takes it over
or_later : (x y z : ℕ) → y ≤ z → ltb x z ≡ (ltb x y || ltb x z)
or_later x y z h = go (ltb x y) refl
  where
    go : (b : Bool) → ltb x y ≡ b → ltb x z ≡ (b || ltb x z)
    go true e = let k = ltb-true x y e in lt-ltb x z (omega arith)
    go false e = refl

only : (b : Bool) → b ≡ ((true && (true && (b && true))) || false)
only true = refl
only false = refl

never : (a b c : Bool) → (a && (b && (c && false))) ≡ false
never true true true = refl
never true true false = refl
never true false c = refl
never false b c = refl

or_false : (b : Bool) → b ≡ (b || false)
or_false true = refl
or_false false = refl

module _ (features : List Feature) (t : Feature) (i : ℕ) (last : List (List ℕ)) (p : SeenTo features t i last) (d : Feature) (lt : i < length features)
    (kind_in : (get_or features i d).kind < 32) (before : (get_or features i d).position < t.position)
    (rises : (k : ℕ) (e : Feature) → i ≤ k → k < length features → (get_or features i d).position ≤ (get_or features k e).position) where
  abbrev here : Feature
  here = get_or features i d

  abbrev here_class : ℕ
  here_class = here.position % 3

  abbrev row : List ℕ
  row = get_or last here.kind []

  abbrev written : List (List ℕ)
  written = set last here.kind (set row here_class here.position)

  row_written : get_or written here.kind [] ≡ set row here_class here.position
  row_written = get_or-set_same last here.kind (set row here_class here.position) [] (rw p.types kind_in)

  entry_written : entry written here.kind here_class ≡ here.position
  entry_written =
      ap (λ (r : List ℕ). get_or r here_class 0) row_written
      ∙ get_or-set_same row here_class here.position 0 (rw (p.classes here.kind kind_in) (remainder_of here.position))

  entry_other : (kind class : ℕ) → (kind ≡ here.kind → class ≡ here_class → ⊥) → entry written kind class ≡ entry last kind class
  entry_other kind class off =
      ⊎_elim
      (λ e. ap (λ (k : ℕ). entry written k class) e
      ∙ (ap (λ (r : List ℕ). get_or r class 0) row_written
      ∙ (get_or-set_other row here_class class here.position 0 (off e) ∙ ap (λ (k : ℕ). entry last k class) (sym e))))
      (λ ne. ap (λ (r : List ℕ). get_or r class 0) (get_or-set_other last here.kind kind (set row here_class here.position) [] ne))
      (cases_eq kind here.kind)

  pub seen_more : SeenTo features t (i + 1) written
  unfolding some_of
  seen_more =
      record {
        types = length-set last _ _ ∙ p.types;
        classes = λ kind h. classes_kept kind h;
        is = λ kind class s h l. by_place kind class s h l (eqb here.kind kind) refl (eqb here_class class) refl;
        low = λ kind class k e h l. low_kept kind class k e h l;
      }
    where
      classes_kept : (kind : ℕ) → kind < 32 → length (get_or written kind []) ≡ 3
      classes_kept kind h =
          ⊎_elim
          (λ e. ap (λ (k : ℕ). length (get_or written k [])) e ∙ (ap length row_written ∙ (length-set row here_class here.position ∙ p.classes here.kind kind_in)))
          (λ ne. ap length (get_or-set_other last here.kind kind (set row here_class here.position) [] ne) ∙ p.classes kind h)
          (cases_eq kind here.kind)

      added : (kind class : ℕ) (s : Feature)
          → some_of (stands kind class s t) (take (i + 1) features) ≡ (some_of (stands kind class s t) (take i features) || (stands kind class s t here || false))
      added kind class s = ap (some_of (stands kind class s t)) (take_more features i d lt) ∙ some_append (stands kind class s t) (take i features) (here ∷ [])

      other : (kind class : ℕ) (s : Feature) → kind < 32 → class < 3 → (kind ≡ here.kind → class ≡ here_class → ⊥)
          → ltb s.position (entry written kind class) ≡ (some_of (stands kind class s t) (take i features) || false)
      other kind class s h l off = ap (ltb s.position) (entry_other kind class off) ∙ (p.is kind class s h l ∙ or_false _)

      by_place : (kind class : ℕ) (s : Feature) → kind < 32 → class < 3 → (x : Bool) → eqb here.kind kind ≡ x → (y : Bool) → eqb here_class class ≡ y
          → ltb s.position (entry written kind class) ≡ some_of (stands kind class s t) (take (i + 1) features)
      by_place kind class s h l true e true f =
          rw (added kind class s)
          (ap (λ (k : ℕ). ltb s.position (entry written k class)) (sym (eqb-true here.kind kind e))
          ∙ (ap (λ (j : ℕ). ltb s.position (entry written here.kind j)) (sym (eqb-true here_class class f))
          ∙ (ap (ltb s.position) entry_written
          ∙ (or_later s.position (entry last kind class) here.position (p.low kind class i d (omega arith) lt)
          ∙ ap₂ ◌||◌ (p.is kind class s h l) (rw (e, f, lt-ltb here.position t.position before) (only (ltb s.position here.position)))))))
      by_place kind class s h l true e false f =
          rw (added kind class s, e, f) (other kind class s h l (λ _ same. eqb-false here_class class f (sym same)))
      by_place kind class s h l false e y f =
          rw (added kind class s, e) (other kind class s h l (λ same _. eqb-false here.kind kind e (sym same)))

      low_kept : (kind class k : ℕ) (e : Feature) → i + 1 ≤ k → k < length features → entry written kind class ≤ (get_or features k e).position
      low_kept kind class k e h l =
          ⊎_elim
          (λ same_kind. ⊎_elim
          (λ same_class. subst (λ (n : ℕ). n ≤ (get_or features k e).position)
          (sym (ap (λ (k : ℕ). entry written k class) same_kind ∙ (ap (λ (j : ℕ). entry written here.kind j) same_class ∙ entry_written)))
          (rises k e (omega arith) l))
          (λ ne. rw (entry_other kind class (λ _ same. ne same)) (p.low kind class k e (omega arith) l))
          (cases_eq class here_class))
          (λ ne. rw (entry_other kind class (λ same _. ne same)) (p.low kind class k e (omega arith) l))
          (cases_eq kind here.kind)

-- ---- no entry lies beyond the target, so none beyond END or beyond a feature that stands behind the target
-- nothing stands between a feature and itself
nowhere : (kind class : ℕ) (t f : Feature) → stands kind class t t f ≡ false
nowhere kind class t f =
    ⊎_elim
    (λ h. rw (le-ltb f.position t.position h) (never (eqb f.kind kind) (eqb (f.position % 3) class) (ltb t.position f.position)))
    (λ h. rw (le-ltb t.position f.position (omega arith)) (never (eqb f.kind kind) (eqb (f.position % 3) class) true))
    (at_or_below t.position f.position)

none_stands : (kind class : ℕ) (t : Feature) (l : List Feature) → some_of (stands kind class t t) l ≡ false
unfolding some_of
none_stands kind class t [] = refl
none_stands kind class t (f ∷ l) = rw (nowhere kind class t f) (none_stands kind class t l)

module _ (features : List Feature) (t : Feature) (i : ℕ) (last : List (List ℕ)) (p : SeenTo features t i last) where
  pub low_to_target : (kind class : ℕ) → entry last kind class ≤ t.position
  low_to_target kind class =
      ⊎_elim
      (λ past. nothing (ap (λ (row : List ℕ). get_or row class 0) (get_or_past last kind [] (rw p.types past)) ∙ get_or_past [] class 0 (omega arith)))
      (λ h. ⊎_elim
      (λ past. nothing (get_or_past (get_or last kind []) class 0 (rw (p.classes kind h) past)))
      (λ l. ltb-false t.position (entry last kind class) (p.is kind class t h l ∙ none_stands kind class t (take i features)))
      (at_or_below 3 class))
      (at_or_below 32 kind)
    where
      nothing : {n : ℕ} → n ≡ 0 → n ≤ t.position
      nothing e = omega arith

  pub low_to_end : (kind class : ℕ) (end : Feature) → t.position ≤ end.position → entry last kind class ≤ end.position
  low_to_end kind class end h = omega (arith, low_to_target kind class)

-- all before the target are looked at, and the others do not stand before it
pub seen_all : (features : List Feature) (t : Feature) (n i : ℕ) (last : List (List ℕ)) → length (take n features) ≤ i → SeenTo (take n features) t i last
    → Each (λ f. t.position ≤ f.position) (drop n features) → LastSeen features t last
seen_all features t n i last to p behind =
    record {
      is = λ kind class s h l.
          let test = stands kind class s t in
          p.is kind class s h l
          ∙ (ap (some_of test) (take_all i (take n features) to)
          ∙ (or_false (some_of test (take n features))
          ∙ (ap (λ (b : Bool). some_of test (take n features) || b) (sym (none_left kind class s))
          ∙ (sym (some_append test (take n features) (drop n features)) ∙ ap (some_of test) (take-append-drop n features)))));
    }
  where
    none_left : (kind class : ℕ) (s : Feature) → some_of (stands kind class s t) (drop n features) ≡ false
    none_left kind class s =
        some_none (λ f. t.position ≤ f.position) (stands kind class s t) (drop n features)
        (λ f h. rw (le-ltb f.position t.position h) (never (eqb f.kind kind) (eqb (f.position % 3) class) (ltb s.position f.position)))
        behind
