use Rattle.std.proofs.Common.{ap, ◌∙◌}
use Rattle.engine.specs.Calls.{Answer}
use Rattle.wire.specs.Programs.{view_of, paced_after}
use Rattle.engine.specs.Runs.{picks}
use Rattle.wire.specs.States.{after_pick}
use Rattle.wire.proofs.Answered.{answered}
use Rattle.wire.proofs.States.{both, named, picked}
use Rattle.wire.proofs.session.Session.pick.Goals as goal

pub returns : goal.returns
returns c =
    let does = c.pick.ensures.does in
    record {
      answer = does.answer;
      does = (
        both _ _ _ _ (picked _ _ _ _ does ∙ ap (after_pick (view_of c.args.self.now.engine) c.args.parity) does.answer) (named (paced_after c.pick.new.self.desk.shelf) (paced_after c.args.self.now.engine.desk.shelf) c.pick.ensures.later),
        λ given calls run. answered view_of given calls _ (λ (r : Answer). picks 0 c.args.parity r) _ _ does.answer (c.pick.ensures.runs given calls run),
      );
    }
