use Rattle.std.proofs.Common.{◌≡◌, ◌-◌, ◌*◌, ◌++◌, drop}
use Rattle.aes.specs.KeyExpansion.{expanded}
use Rattle.aes.proofs.schedule.key_expansion.Given as goal

-- the words before word i are written
abbrev pub invariant-loop-i : goal.invariant-loop-i
invariant-loop-i l = l.schedule ≡ expanded l.key (l.i - 4) ++ drop (4 * l.i) l.initial.schedule
