use Rattle.aes.proofs.KeyWords.{inverts}
use Rattle.aes.proofs.laws.inverse_cipher_inverts.Goals as goal

pub returns : goal.returns
returns c = inverts
