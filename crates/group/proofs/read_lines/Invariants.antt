-- `read_lines` is right because it reads line after line and stops at the first that is refused. The lines up to `place` are read, and are in the group.
use Rattle.std.proofs.Common.{◌≡◌, ◌+◌, ◌-◌, [], length, drop}
use Rattle.text.specs.Lines.{lines}
use Rattle.group.specs.Group.{read, lines_before}
use Rattle.group.proofs.read_lines.Given as goal

abbrev pub invariant-loop-place : goal.invariant-loop-place
invariant-loop-place g l =
    record {
      outcome :
          read g.L.Line.letter g.L.Line.of g.L.Line.keys l.bases l.offset [] (lines l.bytes)
          ≡ read g.L.Line.letter g.L.Line.of g.L.Line.keys l.bases (l.offset + l.place) l.group.items (lines (drop l.place l.bytes));
      before :
          lines_before g.L.Line.letter g.L.Line.of g.L.Line.keys l.bases l.offset [] (lines l.bytes)
          ≡ lines_before g.L.Line.letter g.L.Line.of g.L.Line.keys l.bases (l.offset + l.place) l.group.items (lines (drop l.place l.bytes));
    }

abbrev pub decreases-loop-place : goal.decreases-loop-place
decreases-loop-place g l = length l.bytes - l.place
