use Rattle.std.proofs.Common.{arith}
use Rattle.std.proofs.ByRecursion.{All-from_get_or}
use Rattle.cipher.specs.Bytes.{Byte}
use Rattle.cipher.proofs.bytes.all_bytes.Goals as goal

pub returns : goal.returns
returns c = All-from_get_or Byte c.args.bytes.now 0 (λ i h. omega (arith, c.type_inv.bytes i))
