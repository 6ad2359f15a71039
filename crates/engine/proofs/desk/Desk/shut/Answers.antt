use Rattle.std.proofs.Common.{ap, ◌∙◌}
use Rattle.component.specs.Table.{components_of}
use Rattle.engine.proofs.Pairs.{without_service_lem}
use Rattle.engine.proofs.desk.Desk.shut.Goals as goal

pub returns-clause-components : goal.returns-clause-components
returns-clause-components g c =
    without_service_lem c.args.self.now.components _ c.args.service.number (ap components_of c.set_slot.ensures.components ∙ c.remove_service.ensures.rows)
