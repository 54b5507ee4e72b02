-- `close_rows` is right because from `from` on a row that ends before it gives 0, as the first such row does, which is kept.
use Rattle.std.proofs.Common.{◌≡◌, refl, rules}
use Rattle.sums.proofs.Nearness.{near_retained}
use Rattle.sums.proofs.window.close_rows.Goals as goal

pub returns : goal.returns
returns c =
    let a = c.args in
    near_retained _ (λ f far. (f.0.now ≡ a.from) × (f.1.now ≡ far)) a.from (λ f far g stays f' g' is k. search rules) _ a.rows.now.items _ (refl, refl)
    c.retain.ensures.filtered c.retain.ensures.bound
