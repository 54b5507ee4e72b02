-- `read_line` is right because it reads field after field and stops at the first fault. The invariant: the numbers read so far stand in the row,
-- and those of the rest of the line are still to come.
use Rattle.text.specs.Fields.{line}
use Rattle.text.proofs.Fields.{Reading}
use Rattle.text.proofs.read_line.Given as goal

abbrev pub invariant-loop-number : goal.invariant-loop-number
invariant-loop-number g l = Reading l.separator g.row.N (line l.letter l.separator g.row.N l.bytes) l.number-items l.number-index l.rest
