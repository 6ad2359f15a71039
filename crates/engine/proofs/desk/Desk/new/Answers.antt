use Rattle.std.proofs.Common.{map, refl, ap}
use Rattle.shelf.proofs.Tables.{at_replicate}
use Rattle.engine.specs.declared.desk.Slot.{Slot}
use Rattle.engine.specs.declared.desk.Slot.TheVariants.{Shut}
use Rattle.engine.proofs.desk.Desk.new.Goals as goal

pub returns-clause-slots : goal.returns-clause-slots
returns-clause-slots g c = λ k. at_replicate (λ (s : Slot). s) 32 k Shut Shut refl

pub returns-clause-components : goal.returns-clause-components
returns-clause-components g c = ap (map (λ c. (c.pid, c.service.number))) c.new.ensures.rows
