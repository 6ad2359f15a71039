use Rattle.des.proofs.Shifts.{rotated}
use Rattle.des.proofs.schedule.rotate.Goals as goal

pub returns : goal.returns
returns c = rotated c.args.by c.args.half c.requires.1 c.requires.0
