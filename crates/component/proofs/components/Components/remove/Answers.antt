use Rattle.std.proofs.Common.{not, eqb, rules, arith}
use Rattle.std.proofs.lemmas.Grind.{common_steps}
use Rattle.arrayvec.proofs.ArrayVecLemmas.{filter-from_retain}
use Rattle.component.specs.Table.{components_of, joined, count}
use Rattle.component.proofs.Lookups.{apart_kept, joined_without_pid, length_without_pid}
use Rattle.component.proofs.components.Components.remove.Goals as goal

pub invariant_of-self : goal.invariant_of-self
invariant_of-self c = record { few = omega (arith, c.retain.ensures.bound, c.args.self.now.few); apart = apart_kept _ _ _ (filter-from_retain _ (λ x. not (eqb x.pid c.args.pid)) _ (λ x b f' y called. search rules) _ _ c.retain.ensures.filtered) c.args.self.now.apart }

pub returns-clause-rows : goal.returns-clause-rows
unfolding components_of joined count
returns-clause-rows c = filter-from_retain _ _ _ (λ x b f' y called. search rules) _ _ c.retain.ensures.filtered

pub returns-clause-joined : goal.returns-clause-joined
unfolding components_of joined count
returns-clause-joined c = λ k. rw (returns-clause-rows c) (joined_without_pid c.args.pid k c.args.self.now.rows.items c.args.self.now.apart)

pub returns-clause-count : goal.returns-clause-count
unfolding components_of joined count
returns-clause-count c =
    let rows = returns-clause-rows c in
    let fewer = length_without_pid c.args.pid c.args.self.now.rows.items c.args.self.now.apart in
    grind (arith, common_steps)
