use Rattle.std.proofs.Common.{ℕ, ◌/◌, ◌^◌, ap}
use lib.Bits.{and_mask}
use Rattle.des.specs.Cipher.{halves}
use Rattle.des.specs.declared.feistel.Halves.{Halves}
use Rattle.des.proofs.feistel.Halves.of.Goals as goal

both : ℕ → ℕ → Halves
both l r = record { left = l; right = r }

pub returns : goal.returns
unfolding halves both
returns c = ap (both (c.args.block / 2 ^ 32)) (and_mask c.args.block 32)
