use Rattle.std.proofs.Common.{ℕ, sym, refl, ap, ◌∙◌}
use Rattle.engine.specs.Calls.{Answer}
use Rattle.engine.specs.Model.{is_open}
use Rattle.engine.specs.declared.desk.Slot.{Slot}
use Rattle.wire.specs.Programs.{view_of, state_of}
use Rattle.engine.specs.Runs.{loads}
use Rattle.wire.specs.States.{after_load}
use Rattle.wire.proofs.Answered.{answered}
use Rattle.wire.proofs.States.{loaded}
use Rattle.wire.proofs.session.Session.load.Goals as goal

pub invariant_of-self-clause-tagged : goal.invariant_of-self-clause-tagged
invariant_of-self-clause-tagged c = c.args.self.now.tagged ∙ sym c.load.ensures.does.tag

pub invariant_of-self-clause-opened : goal.invariant_of-self-clause-opened
invariant_of-self-clause-opened c = ap (λ (slots : ℕ → Slot). is_open (slots 0)) c.load.ensures.does.slots ∙ c.args.self.now.opened

pub returns : goal.returns
returns c =
    let does = c.load.ensures.does in
    record {
      answer = does.answer;
      does = (
        loaded (state_of c.args.self.now.engine) (state_of c.load.new.self) _ _ _ _ (λ k. refl) does c.load.ensures.later ∙ ap (after_load (state_of c.args.self.now.engine) c.args.parity c.args.entry.now c.args.moment) does.answer,
        λ given calls run. answered view_of given calls _ (λ (r : Answer). loads 0 c.args.parity c.args.entry.now c.args.moment r) _ _ does.answer (c.load.ensures.runs given calls run),
      );
    }
