use Rattle.aes.proofs.ByteLaws.{boxes_invert}
use Rattle.aes.proofs.laws.boxes_invert.Goals as goal

pub returns : goal.returns
returns c = boxes_invert
