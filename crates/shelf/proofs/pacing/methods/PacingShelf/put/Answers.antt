use Rattle.std.proofs.Common.{arith}
use Rattle.std.proofs.lemmas.Grind.{common_steps}
use Rattle.shelf.specs.Shelves.{pace_at}
use Rattle.shelf.specs.declared.faults.ShelfFault.{ShelfFault}
use Rattle.shelf.proofs.Onward.{paced_put}
use Rattle.shelf.proofs.pacing.methods.PacingShelf.put.Goals as goal

pub returns-clause-paces : goal.returns-clause-paces
returns-clause-paces g c = grind (arith, common_steps)

pub returns-clause-later : goal.returns-clause-later
returns-clause-later g c =
    paced_put ShelfFault c.args.service.number c.args.moment.seconds (pace_at c.args.self.now) _ _ _ (returns-clause-paces g c) c.in_ok-put.ensures.later
