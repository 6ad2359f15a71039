-- A service that is open stays open over a pick, whatever the pick answers.
use Rattle.std.proofs.Common.{◌≡◌, Bool, true, cond, Option, refl, ap, ◌∙◌}
use Rattle.std.proofs.lemmas.Bool.{cond_both}
use Rattle.engine.specs.Model.{is_open}
use Rattle.engine.specs.declared.desk.Slot.{Slot}
use Rattle.engine.specs.declared.desk.Slot.TheVariants.{Live}
use Rattle.word.specs.declared.parity.Parity.{Parity}

pub open_after_pick : (b : Bool) (q : Option Parity) (before after : Slot) → after ≡ cond b (Live q) before → is_open before ≡ true → is_open after ≡ true
open_after_pick b q before after e h = ap is_open e ∙ cond_both b (Live q) before (λ s. is_open s ≡ true) (λ _. refl) (λ _. h)
