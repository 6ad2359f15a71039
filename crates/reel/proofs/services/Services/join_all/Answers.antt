use Rattle.std.proofs.Common.{ℕ, ap, ◌∙◌}
use Rattle.engine.specs.Model.{is_open}
use Rattle.engine.specs.declared.desk.Slot.{Slot}
use Rattle.reel.proofs.services.Services.join_all.Goals as goal

pub returns-in_err-join : goal.returns-in_err-join
returns-in_err-join g c =
    let does = c.join.ensures.does in
    record {
      tag = does.tag ∙ c.loop-pid.invariant.0;
      stays = λ k h. ap (λ (slots : ℕ → Slot). is_open (slots k)) does.slots ∙ c.loop-pid.invariant.1 k h;
    }

pub loop-pid-preserved : goal.loop-pid-preserved
loop-pid-preserved g c =
    let does = c.join.ensures.does in
    (does.tag ∙ c.loop-pid.invariant.0, λ k h. ap (λ (slots : ℕ → Slot). is_open (slots k)) does.slots ∙ c.loop-pid.invariant.1 k h)
