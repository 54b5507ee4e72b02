-- `intron_at` is right because the table holds the penalties up to 1,023, and from there on they are the last one's.
use Rattle.std.proofs.Common.{◌≡◌, ap, ◌∙◌, ℕ, arith, rules, min}
use Rattle.gaze.specs.Penalty.{interpolated, intron_points, intron_penalty}
use Rattle.penalty.proofs.intron_at.Goals as goal

up_to_the_last : (i d : ℕ) → i ≡ min d 1023 → intron_penalty i ≡ intron_penalty d
unfolding intron_penalty
up_to_the_last i d e = let same : min i 1023 ≡ min d 1023 = omega arith in ap (interpolated intron_points) same

pub returns : goal.returns
returns c = search rules ∙ (c.requires.at c.min.result (omega arith) ∙ up_to_the_last c.min.result c.args.d c.min.ensures)
