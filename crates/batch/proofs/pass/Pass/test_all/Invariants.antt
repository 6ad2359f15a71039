use Rattle.std.proofs.Common.{◌≡◌, drop}
use Rattle.batch.specs.Batches.{objection_at}
use Rattle.batch.specs.Packets.{first_fault}
use Rattle.batch.specs.Plan.{keys_of, plan_of}
use Rattle.batch.proofs.pass.Pass.test_all.Given as goal

abbrev pub invariant-loop-i : goal.invariant-loop-i
invariant-loop-i g l =
    let plan = plan_of l.self.direction (keys_of g.K.Keyring l.self.keys.now) in
    first_fault plan objection_at l.i (drop l.i l.packets) ≡ first_fault plan objection_at 0 l.packets
