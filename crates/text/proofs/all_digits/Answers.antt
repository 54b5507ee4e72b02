-- `all_digits` is right because it asks of each byte what the definition does.
use Rattle.std.proofs.Common.{◌∙◌, rules, tests}
use Rattle.std.proofs.lemmas.Iterator.{YieldsList-from_slice}
use Rattle.std.proofs.lemmas.Iterator.Search.{all_from_yields_List}
use Rattle.text.specs.Number.{is_digit}
use Rattle.text.proofs.Digits.{each_digit}
use Rattle.text.proofs.all_digits.Goals as goal

pub returns : goal.returns
returns c =
    all_from_yields_List is_digit _ _ _ c.all.ensures.ran (YieldsList-from_slice c.args.word.now cc) (λ x b q k. search (rules, tests))
    ∙ each_digit _
