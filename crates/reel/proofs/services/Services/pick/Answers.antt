use Rattle.reel.proofs.Closing.{picked_closable}
use Rattle.reel.proofs.services.Services.pick.Goals as goal

pub invariant_of-self : goal.invariant_of-self
invariant_of-self g c = record { held = picked_closable _ _ _ _ _ _ c.pick.ensures.does c.args.self.now.held }
