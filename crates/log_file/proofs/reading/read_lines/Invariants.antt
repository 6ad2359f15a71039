use Rattle.std.proofs.Common.{◌≡◌, vec_items}
use Rattle.log_file.specs.Lines.{Sound}
use Rattle.log_file.proofs.reading.read_lines.Given as goal

abbrev pub invariant-loop-index : goal.invariant-loop-index
invariant-loop-index l =
    (l.reading.at ≡ l.initial.reading.at)
    × Sound l.initial.reading.at l.reading.kind (vec_items l.reading.lines)
