use Rattle.std.proofs.Common.{◌≡◌, take}
use Rattle.des.specs.Bits.{permuted}
use Rattle.des.proofs.Permutations.{rows}
use Rattle.des.proofs.bits.permute.Given as goal

abbrev pub invariant-loop-row : goal.invariant-loop-row
invariant-loop-row g l = l.y ≡ permuted l.width (rows (take l.row-index l.table)) l.x
