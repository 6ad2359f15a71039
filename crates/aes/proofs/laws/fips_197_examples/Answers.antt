use Rattle.aes.proofs.Vectors.{worked_examples}
use Rattle.aes.proofs.laws.fips_197_examples.Goals as goal

pub returns : goal.returns
returns c = worked_examples
