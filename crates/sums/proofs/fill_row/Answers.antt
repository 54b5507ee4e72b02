use Rattle.std.proofs.Common.{◌≡◌, ◌∙◌, ap, ◌<◌, arith, length, get_or, length-set, get_or-set_other}
use Rattle.std.proofs.lemmas.List.{get_or_default}
use Rattle.std.specs.Prelude.{pos}
use Rattle.whole.proofs.Bits.{back}
use Rattle.gaze.specs.declared.Feature.{Feature}
use Rattle.gaze.specs.Sheet.{begin}
use Rattle.sums.specs.Sums.{position}
use Rattle.sums.specs.Table.{nothing}
use Rattle.sums.proofs.Filling.{Summed, set_more}
use Rattle.sums.proofs.fill_row.Goals as goal

pub loop-i-preserved : goal.loop-i-preserved
loop-i-preserved c =
    let a = c.args in
    let l = c.loop-i in
    let cs = a.candidates.now in
    let i : l.i < length cs = c.loop-i-test.true in
    let w = c.walk_to.ensures in
    let b = c.reached in
    let e = c.reached-in-loop-i in
    let s : c.walk_to.new.self.segments ≡ a.rows.now = w.segments ∙ l.invariant.segments in
    let p : (get_or cs l.i (record { kind = 0; position = 0; score = pos 0 })).position ≡ position cs l.i =
    ap (λ (f : Feature). f.position) (get_or_default cs l.i (record { kind = 0; position = 0; score = pos 0 }) begin i) in
    let high = c.requires.places.high l.i i in
    record {
      long = length-set l.row l.i _ ∙ l.invariant.long;
      segments = s;
      behind = λ j m n. let r = c.requires.places.rises l.i j (omega arith) n in omega (arith, w.begun, p, r);
      filled = set_more (λ j z. Summed a.rows.now (position cs j) z) nothing l.row l.i _ (omega (arith, l.invariant.long, c.requires.places.few))
          (rw (back b.result b.type_inv, back e.result e.type_inv)
          (record {
            before = rw (s, p) at b.ensures.value;
            along = rw (s, p) at e.ensures.value;
            before_small = omega (arith, b.ensures.small, p, high);
            along_small = omega (arith, e.ensures.small, p, high);
          }))
          l.invariant.filled;
      kept = λ j h. get_or-set_other l.row l.i j _ nothing (λ e. omega arith) ∙ l.invariant.kept j h;
    }
