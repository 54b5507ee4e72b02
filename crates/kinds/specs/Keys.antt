-- The keys of the L group, which has one line: none.
use Rattle.std.specs.Prelude.{List, [], ℕ}
use Rattle.kinds.specs.declared.Length.{Length}

abbrev pub length_keys : Length → List ℕ
length_keys l = []
