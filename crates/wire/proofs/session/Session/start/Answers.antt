use Rattle.std.proofs.Common.{[], sym, refl, ap, ◌∙◌}
use Rattle.engine.specs.Model.{Model, is_open}
use Rattle.shelf.specs.Examined.{examined}
use Rattle.wire.specs.Areas.{key_area}
use Rattle.wire.specs.Programs.{view_of, paced_after}
use Rattle.wire.proofs.States.{both, named}
use Rattle.wire.proofs.Opening.{fresh, fresh_after, made_of, accepted, begun, granted, begun_run}
use Rattle.wire.proofs.session.Session.start.Goals as goal

pub unwrap-grant-requires : goal.unwrap-grant-requires
unwrap-grant-requires c =
    let shelf = fresh c.new-2.result c.new.result c.new-2.ensures.below c.new.ensures c.new-2.ensures.paces in
    let made = made_of c.cissa_profile.result.cipher c.cissa_profile.result.tail c.cissa_profile.result.iv c.new-2.result c.cissa_profile.ensures shelf in
    let b = begun _ _ _ _ made c.make-engine.ensures.makes c.open.ensures.does in
    rw b.answer

pub invariant_of-result : goal.invariant_of-result
unfolding key_area
invariant_of-result c =
    let shelf = fresh c.new-2.result c.new.result c.new-2.ensures.below c.new.ensures c.new-2.ensures.paces in
    let made = made_of c.cissa_profile.result.cipher c.cissa_profile.result.tail c.cissa_profile.result.iv c.new-2.result c.cissa_profile.ensures shelf in
    let b = begun _ _ _ _ made c.make-engine.ensures.makes c.open.ensures.does in
    let grant = granted c.unwrap-grant.result (sym c.unwrap-grant.ensures ∙ b.answer) in
    record {
      tagged = grant.0 ∙ sym (ap (λ (m : Model). m.tag) b.state);
      service = grant.1;
      opened = ap (λ (m : Model). is_open (m.slots 0)) b.state;
      clean = refl;
    }

pub returns : goal.returns
returns c =
    let shelf = fresh c.new-2.result c.new.result c.new-2.ensures.below c.new.ensures c.new-2.ensures.paces in
    let made = made_of c.cissa_profile.result.cipher c.cissa_profile.result.tail c.cissa_profile.result.iv c.new-2.result c.cissa_profile.ensures shelf in
    let b = begun _ _ _ _ made c.make-engine.ensures.makes c.open.ensures.does in
    record {
      state = both _ _ _ _ b.state (named (paced_after c.open.new.self.desk.shelf) (paced_after c.new-2.result) (c.open.ensures.later ∙ c.make-engine.ensures.later) ∙ fresh_after c.new-2.result c.new-2.ensures.paces);
      runs = begun_run view_of _ c.open.new.self c.open.result made b.answer (c.open.ensures.runs _ [] (c.make-engine.ensures.runs (ap examined shelf ∙ accepted)));
    }
