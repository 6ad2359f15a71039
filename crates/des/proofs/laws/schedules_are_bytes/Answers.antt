use Rattle.des.proofs.Keys.{key_schedule_bytes}
use Rattle.des.proofs.laws.schedules_are_bytes.Goals as goal

pub returns : goal.returns
returns c = key_schedule_bytes
