use Rattle.std.proofs.Common.{ℕ, sym, ap, ◌∙◌}
use Rattle.engine.specs.Calls.{Answer}
use Rattle.engine.specs.Model.{is_open}
use Rattle.engine.specs.declared.desk.Slot.{Slot}
use Rattle.wire.specs.Programs.{view_of, paced_after}
use Rattle.engine.specs.Runs.{joins}
use Rattle.wire.specs.States.{after_join}
use Rattle.wire.proofs.Answered.{answered}
use Rattle.wire.proofs.States.{both, joined, named}
use Rattle.wire.proofs.session.Session.join.Goals as goal

pub invariant_of-self-clause-tagged : goal.invariant_of-self-clause-tagged
invariant_of-self-clause-tagged c = c.args.self.now.tagged ∙ sym c.join.ensures.does.tag

pub invariant_of-self-clause-opened : goal.invariant_of-self-clause-opened
invariant_of-self-clause-opened c = ap (λ (slots : ℕ → Slot). is_open (slots 0)) c.join.ensures.does.slots ∙ c.args.self.now.opened

pub returns : goal.returns
returns c =
    let does = c.join.ensures.does in
    record {
      answer = does.answer;
      does = (
        both _ _ _ _ (joined _ _ _ _ does ∙ ap (after_join (view_of c.args.self.now.engine) c.args.pid) does.answer) (named (paced_after c.join.new.self.desk.shelf) (paced_after c.args.self.now.engine.desk.shelf) c.join.ensures.later),
        λ given calls run. answered view_of given calls _ (λ (r : Answer). joins 0 c.args.pid r) _ _ does.answer (c.join.ensures.runs given calls run),
      );
    }
