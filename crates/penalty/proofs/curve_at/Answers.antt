-- `curve_at` is right because the last point before the distance and the first one at it or beyond tell which part of the definition holds.
use Rattle.std.proofs.Common.{rules, of_calls, ap, sym, ◌∙◌, ◌≡◌, ◌<◌, ◌≤◌, Option, Bor}
use Rattle.std.specs.Option.{option_copied}
use Rattle.std.proofs.Math.Dec.{ltb}
use Rattle.std.proofs.lemmas.List.Sorted.{IsPartitionPoint-from_clause}
use Rattle.gaze.specs.declared.Point.{Point}
use Rattle.gaze.specs.Penalty.{interpolated}
use Rattle.gaze.specs.Ranges.{PointRanges}
use Rattle.sorted.proofs.Search.{parted}
use Rattle.penalty.proofs.Lines.{by_ends}
use Rattle.penalty.proofs.Halves.{Halves, halves, each_half, each_got, halves_value}
use Rattle.penalty.proofs.curve_at.Goals as goal
use Rattle.penalty.proofs.curve_at.Goals.{After-split_at, After-first}

in_halves : (c : After-split_at) → Halves c.args.points.now c.split_at.result.0.now c.split_at.result.1.now c.args.d
in_halves c =
    let a = c.args in
    let point = c.partition_point in
    rw (c.split_at.ensures.front, c.split_at.ensures.back)
    (halves a.points.now a.d point.result point.ensures.bound
    (IsPartitionPoint-from_clause (λ p. ltb p.distance a.d) a.points.now point.result point.ensures.partitioned (parted (λ p. p.distance) a.points.now a.d c.requires.rising)
    (λ _ _ _ call. search (rules, of_calls))))

by_halves : (c : After-first) {last first : Option (Bor Point)} → c.last.result ≡ last → c.first.result ≡ first
    → by_ends (option_copied last) (option_copied first) c.args.d ≡ interpolated c.args.points.now c.args.d
by_halves c l f =
    halves_value (in_halves (goal.at.After-first c).After-split_at) (sym c.last.ensures.value ∙ ap option_copied l) (sym c.first.ensures.value ∙ ap option_copied f)

pub on_line-requires : goal.on_line-requires
on_line-requires c =
    let h = in_halves (goal.at.on_line-requires c).After-split_at in
    let before = c.split_at.result.0.now in
    let after = c.split_at.result.1.now in
    let last = sym c.last.ensures.value ∙ ap option_copied c.in-Some-Some.is-0 in
    let first = sym c.first.ensures.value ∙ ap option_copied c.in-Some-Some.is-1 in
    let ranged = each_half PointRanges before after (rw h.whole c.requires.ranged) in
    record {
      from = each_got (λ p. p.distance < c.args.d) before _ _ last h.passed;
      to = each_got (λ p. c.args.d ≤ p.distance) after _ _ first h.ahead;
      ranged = (each_got PointRanges before _ _ last ranged.0, each_got PointRanges after _ _ first ranged.1);
    }

pub returns-in-Some-Some : goal.returns-in-Some-Some
returns-in-Some-Some c =
    search rules ∙ (c.on_line.ensures ∙ by_halves (goal.at.returns-in-Some-Some c).After-first c.in-Some-Some.is-0 c.in-Some-Some.is-1)

pub returns-in-Some-None : goal.returns-in-Some-None
returns-in-Some-None c = search rules ∙ by_halves (goal.at.returns-in-Some-None c).After-first c.in-Some-None.is-0 c.in-Some-None.is-1

pub returns-in-None-Some : goal.returns-in-None-Some
returns-in-None-Some c = search rules ∙ by_halves (goal.at.returns-in-None-Some c).After-first c.in-None-Some.is-0 c.in-None-Some.is-1

pub returns-in-None-None : goal.returns-in-None-None
returns-in-None-None c = by_halves (goal.at.returns-in-None-None c).After-first c.in-None-None.is-0 c.in-None-None.is-1
