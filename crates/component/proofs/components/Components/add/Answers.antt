use Rattle.std.proofs.Common.{arith}
use Rattle.component.specs.Table.{components_of, joined, count}
use Rattle.component.proofs.Lookups.{apart_more, joined_more}
use Rattle.component.proofs.Tables.{admitted}
use Rattle.component.proofs.components.Components.add.Goals as goal

pub invariant_of-self : goal.invariant_of-self
unfolding components_of joined count
invariant_of-self c =
    let free = admitted c.args.self.now c.args.pid c.in_ok-admits.ensures in
    record { few = omega (arith, free.1, c.push.ensures.len); apart = rw c.push.ensures.items (apart_more c.args.self.now.rows.items _ c.args.self.now.apart free.0) }

pub returns-clause-joined : goal.returns-clause-joined
unfolding components_of joined
returns-clause-joined c =
    let free = admitted c.args.self.now c.args.pid c.in_ok-admits.ensures in
    λ k. rw c.push.ensures.items (joined_more k c.args.self.now.rows.items _ free.0)
