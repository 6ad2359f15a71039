use Rattle.des.proofs.Parity.{parity_ignored}
use Rattle.profile.specs.Keys.{des_key}
use Rattle.profile.specs.WordKeys.{des_key_block}
use Rattle.profile.proofs.theorem.des_reads_56_bits.Goals as goal

pub returns : goal.returns
returns c = λ w v same. parity_ignored (des_key w) (des_key v) (des_key_block w) (des_key_block v) same
