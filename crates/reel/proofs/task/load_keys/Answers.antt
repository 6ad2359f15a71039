use Rattle.std.proofs.Common.{ap}
use Rattle.engine.specs.Model.{is_open}
use Rattle.reel.proofs.task.load_keys.Goals as goal

pub returns : goal.returns
returns g c = c.in_ok-join_all.ensures.stays 0 (c.in_ok-load_and_pick.ensures.stays 0 (ap is_open (c.in_ok-open.ensures.does.1.slots 0)))
