-- `cut` is right because the first separator that `position` finds, or else the end, is where what stands before it ends.
use Rattle.std.proofs.Common.{rules, tests, ◌≡◌, ◌∙◌, ap, sym, length, take, drop}
use Rattle.std.proofs.lemmas.Iterator.{YieldsList-from_slice, IsFirst-from_position}
use Rattle.text.specs.Words.{before}
use Rattle.text.proofs.Words.{first_separator, before_is, onwards_is}
use Rattle.text.proofs.cut.Goals as goal

pub returns : goal.returns
returns c =
    let s = c.args.separator in
    let t = c.args.text.now in
    let e : length (before s t) ≡ c.unwrap_or.result =
    first_separator s t _ (IsFirst-from_position _ _ _ (λ b. b ≡ s) (λ b. b ≡ s → ⊥) c.position.ensures.ran (YieldsList-from_slice t cc) (λ x q k. search (rules, tests)) (λ x q k. search (rules, tests)))
    ∙ sym c.unwrap_or.ensures in
    (c.split_at.ensures.front ∙ ap (λ n. take n t) (sym e) ∙ sym (before_is s t), c.split_at.ensures.back ∙ ap (λ n. drop n t) (sym e) ∙ sym (onwards_is s t))
