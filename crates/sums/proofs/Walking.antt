-- The walk as it goes on: the segments that are open before the first base, and a plateau of those that are open, which is one of all.
use Rattle.std.proofs.Common.{◌≡◌, refl, sym, ap, ◌∙◌, arith, append-nil}
use Rattle.std.specs.Prelude.{List, [], ℕ, ◌≤◌, ◌<◌, ℤ, take}
use Rattle.gaze.specs.declared.Segment.{Segment}
use Rattle.gaze.specs.SegmentScore.{largest_rate}
use Rattle.rows.specs.Peaks.{Flat}
use Rattle.sums.specs.declared.window.Window.{Window}
use Rattle.sums.specs.Window.{Opened}

pub opened_none : (segments : List Segment) (from : ℕ) (window : Window) → window.rows.items ≡ [] → window.next ≡ 0 → window.ahead ≡ 0 → Opened segments from window
opened_none segments from window rows next ahead =
    record {
      within = omega arith;
      bounded = omega arith;
      few = rw rows (omega arith);
      alike = λ x u more. rw (rows, next) refl;
      enough = λ x u. absurd (omega arith);
    }

-- the largest rate on a plateau of those that are open
pub flat_all : (segments open_ones : List Segment) {window : Window} {at to : ℕ} {z : ℤ} → Opened segments at window → open_ones ≡ window.rows.items → Flat open_ones at window.ahead z to
    → (x : ℕ) → at ≤ x → x < to → largest_rate segments x ≡ z
flat_all segments open_ones {window} q is f x l u =
    let same : largest_rate window.rows.items x ≡ largest_rate (take window.next segments) x =
    rw (append-nil window.rows.items, append-nil (take window.next segments)) at (q.alike x l []) in
    sym (q.enough x (omega (arith, f.within))) ∙ (sym same ∙ (ap (λ (l : List Segment). largest_rate l x) (sym is) ∙ (f.same x l u ∙ sym f.is)))
