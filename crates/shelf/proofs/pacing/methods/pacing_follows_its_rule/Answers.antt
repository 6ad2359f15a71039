use Rattle.std.proofs.Common.{refl}
use Rattle.shelf.proofs.Rule.{pacing_rule}
use Rattle.shelf.proofs.pacing.methods.pacing_follows_its_rule.Goals as goal

pub returns : goal.returns
returns c = record { rule = pacing_rule; examples = (refl, refl) }
