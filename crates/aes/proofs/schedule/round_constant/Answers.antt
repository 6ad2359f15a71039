use Rattle.std.proofs.Common.{ℕ, ◌-◌, List, [], ◌∷◌, ap, arith}
use Rattle.aes.specs.Field.{xtimes}
use Rattle.aes.specs.KeyExpansion.{x_power, rcon}
use Rattle.aes.proofs.Tables.{tabled}
use Rattle.aes.proofs.schedule.round_constant.Goals as goal

pub returns : goal.returns
unfolding xtimes x_power rcon
returns c = ap {B = List ℕ} (λ x. x ∷ 0 ∷ 0 ∷ 0 ∷ []) (tabled x_power 10 (c.args.j - 1) (omega arith))
