use Rattle.std.proofs.Common.{not, eqb, rules, arith, ap, length}
use Rattle.arrayvec.proofs.ArrayVecLemmas.{filter-from_retain}
use Rattle.component.specs.Table.{components_of, joined, count}
use Rattle.component.proofs.Lookups.{apart_kept, joined_without_service}
use Rattle.component.proofs.components.Components.remove_service.Goals as goal

pub invariant_of-self : goal.invariant_of-self
invariant_of-self c = record { few = omega (arith, c.retain.ensures.bound, c.args.self.now.few); apart = apart_kept _ _ _ (filter-from_retain _ (λ x. not (eqb x.service.number c.args.service.number)) _ (λ x b f' y called. search rules) _ _ c.retain.ensures.filtered) c.args.self.now.apart }

pub returns-clause-rows : goal.returns-clause-rows
unfolding components_of joined count
returns-clause-rows c = filter-from_retain _ _ _ (λ x b f' y called. search rules) _ _ c.retain.ensures.filtered

pub returns-clause-joined : goal.returns-clause-joined
unfolding components_of joined count
returns-clause-joined c = λ k. rw (returns-clause-rows c) (joined_without_service c.args.service.number k c.args.self.now.rows.items c.args.self.now.apart)

pub returns-clause-count : goal.returns-clause-count
unfolding components_of joined count
returns-clause-count c = ap length (returns-clause-rows c)
