use Rattle.std.proofs.Common.{arith}
use Rattle.reel.proofs.Closing.{pushed_closable}
use Rattle.reel.proofs.services.Services.open.Goals as goal

pub keep-requires : goal.keep-requires
keep-requires g c = omega (arith, c.in_ok-reserve.ensures.ok)

pub returns-clause-does : goal.returns-clause-does
returns-clause-does g c = (_, c.in_ok-grant.ensures.does)

pub invariant_of-self-2 : goal.invariant_of-self-2
invariant_of-self-2 g c =
    record { held = pushed_closable _ _ _ _ _ _ c.in_ok-grant.ensures.does (rw c.in_ok-reserve.ensures.items at c.keep.ensures) c.args.self.now.held }
