use Rattle.std.proofs.Common.{ℕ, ap, ◌∙◌}
use Rattle.engine.specs.Model.{is_open}
use Rattle.engine.specs.declared.desk.Slot.{Slot}
use Rattle.reel.proofs.Opened.{open_after_pick}
use Rattle.reel.proofs.services.Services.load_and_pick.Goals as goal

pub returns : goal.returns
returns g c =
    let loaded = c.load.ensures.does in
    let picked = c.pick.ensures.does in
    record {
      tag = picked.tag ∙ loaded.tag;
      stays = λ k h. open_after_pick _ _ _ _ (picked.slots k) (ap (λ (slots : ℕ → Slot). is_open (slots k)) loaded.slots ∙ h);
    }

pub returns-in_err-load-clause-stays : goal.returns-in_err-load-clause-stays
returns-in_err-load-clause-stays g c = λ k h. ap (λ (slots : ℕ → Slot). is_open (slots k)) c.load.ensures.does.slots ∙ h
