use Rattle.std.proofs.Common.{◌≡◌, ◌++◌, take, drop}
use Rattle.cipher.specs.Bytes.{xors}
use Rattle.cipher.proofs.bytes.xor_into.Given as goal

abbrev pub invariant-loop-i : goal.invariant-loop-i
invariant-loop-i l = take l.i l.bytes ++ xors (drop l.i l.bytes) (drop l.i l.mask) ≡ xors l.initial.bytes l.mask
