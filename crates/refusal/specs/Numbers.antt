-- The number of each reason in the table of replies.
use Rattle.std.specs.Prelude.{ℕ}
use Rattle.refusal.specs.declared.Reason.{Reason}
use Rattle.refusal.specs.declared.Reason.TheVariants.{Size, Trailer, Malformed, Range, Disorder, Link, Crowded, NoRoom, NoStructure, NoChain, BadStep}

abbrev pub number_of : Reason → ℕ
number_of Size = 1
number_of Trailer = 2
number_of Malformed = 3
number_of Range = 4
number_of Disorder = 5
number_of Link = 6
number_of Crowded = 7
number_of NoRoom = 8
number_of NoStructure = 9
number_of NoChain = 10
number_of BadStep = 11
