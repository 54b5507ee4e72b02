-- `score_chain` is right because it makes the checks in the order of the table of replies, and each outcome is that of the first row that applies.
use Rattle.std.specs.Prelude.{refl}
use Rattle.std.proofs.Common.{◌∙◌, sym, rules, to_z-of_z, w64}
use Rattle.std.proofs.lemmas.Result.{err_from_is_err_and}
use Rattle.liivokarp.specs.Replies.{its_sheet_refused}
use Rattle.liivokarp.proofs.Answering.{scores, faults}
use Rattle.liivokarp.proofs.score_chain.Goals as goal

pub returns-in_err-sheet : goal.returns-in_err-sheet
returns-in_err-sheet c =
    let p = err_from_is_err_and c.from_residual.result c.from_residual.ensures.1 in
    rw (p.1, p.2) (its_sheet_refused _ (sym c.read.ensures ∙ c.in_err-sheet.was) refl)

pub returns-in-Ok : goal.returns-in-Ok
returns-in-Ok c =
    rw (to_z-of_z {w = w64} {z = c.in-Ok.score} (search rules)) (scores (sym c.read.ensures ∙ c.in_ok-sheet.was) c.in-Ok.score (c.in-Ok.ensures))

pub returns-in-Err : goal.returns-in-Err
returns-in-Err c = rw c.refusal_of.ensures (faults (sym c.read.ensures ∙ c.in_ok-sheet.was) c.in-Err.fault c.in-Err.ensures)
