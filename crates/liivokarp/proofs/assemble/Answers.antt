-- `assemble` is right because it makes the checks in the order of the table of replies, and each outcome is that of the first row that applies.
use Rattle.std.specs.Prelude.{refl}
use Rattle.std.proofs.Common.{◌∙◌, ap, sym, length, arith}
use Rattle.std.proofs.lemmas.Result.{err_from_is_err_and}
use Rattle.liivokarp.specs.Replies.{sheet_refused, no_room}
use Rattle.liivokarp.proofs.Answering.{assembles}
use Rattle.liivokarp.proofs.assemble.Goals as goal

pub returns-in_err-sheet : goal.returns-in_err-sheet
returns-in_err-sheet c =
    let p = err_from_is_err_and c.from_residual.result c.from_residual.ensures.1 in
    rw (p.1, p.2) (sheet_refused _ (sym c.read.ensures ∙ c.in_err-sheet.was) refl refl)

pub returns-then-chain-len : goal.returns-then-chain-len
returns-then-chain-len c =
    no_room c.in_ok-sheet.sheet (sym c.read.ensures ∙ c.in_ok-sheet.was)
    (grind (arith, c.if-chain-len.true, c.len.ensures.value, ap (λ s. length s.features) c.sheet.view_is)) refl refl

pub returns : goal.returns
returns c =
    rw c.ok_or.ensures.value
    (assembles (sym c.read.ensures ∙ c.in_ok-sheet.was) c.best_chain.result
    (grind (arith, c.if-chain-len.false, c.len.ensures.value, ap (λ s. length s.features) c.sheet.view_is)) c.best_chain.ensures)
