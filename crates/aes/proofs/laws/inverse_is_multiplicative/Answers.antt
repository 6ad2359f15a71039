use Rattle.aes.proofs.ByteLaws.{multiplicative_inverse}
use Rattle.aes.proofs.laws.inverse_is_multiplicative.Goals as goal

pub returns : goal.returns
returns c = multiplicative_inverse
