use Rattle.std.proofs.Common.{◌≡◌, ◌+◌, ◌*◌, ◌^◌, take}
use Rattle.des.specs.Bits.{permuted}
use Rattle.des.proofs.bits.append.Given as goal

abbrev pub invariant-loop-t : goal.invariant-loop-t
invariant-loop-t l = l.z ≡ l.y * 2 ^ l.t-index + permuted l.width (take l.t-index l.row) l.x
