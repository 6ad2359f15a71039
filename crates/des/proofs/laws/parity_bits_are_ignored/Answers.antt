use Rattle.des.proofs.Parity.{parity_ignored}
use Rattle.des.proofs.laws.parity_bits_are_ignored.Goals as goal

pub returns : goal.returns
returns c = parity_ignored
