use Rattle.std.proofs.Common.{ap}
use Rattle.engine.specs.Model.{is_open}
use Rattle.reel.proofs.Closing.{closable_still, popped_closable}
use Rattle.reel.proofs.services.Services.finish.Goals as goal

pub close-requires : goal.close-requires
close-requires g c = (popped_closable _ _ _ _ _ c.in-Some.ensures.items c.loop-grant.invariant).0

pub loop-grant-preserved : goal.loop-grant-preserved
loop-grant-preserved g c =
    closable_still _ _ _ _ _ c.close.ensures.tag (λ k. ap is_open (c.close.ensures.slots k))
    (popped_closable _ _ _ _ _ c.in-Some.ensures.items c.loop-grant.invariant).1
