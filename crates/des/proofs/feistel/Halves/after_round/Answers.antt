use Rattle.std.proofs.Common.{ℕ, ap}
use lib.Bits.{bit_xor}
use Rattle.des.specs.Cipher.{round}
use Rattle.des.specs.declared.feistel.Halves.{Halves}
use Rattle.des.proofs.feistel.Halves.after_round.Goals as goal

both : ℕ → ℕ → Halves
both l r = record { left = l; right = r }

pub returns : goal.returns
unfolding round both
returns c = ap (λ y. both c.args.self.right (bit_xor c.args.self.left y)) c.cipher_function.ensures
