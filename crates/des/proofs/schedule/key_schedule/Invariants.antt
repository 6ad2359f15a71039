use Rattle.std.proofs.Common.{◌≡◌, ◌*◌, ◌++◌, drop}
use Rattle.des.specs.Schedule.{C, D}
use Rattle.des.proofs.Keys.{round_keys}
use Rattle.des.proofs.schedule.key_schedule.Given as goal

abbrev pub invariant-loop-n : goal.invariant-loop-n
invariant-loop-n l =
    (l.c ≡ C l.key l.n) × (l.d ≡ D l.key l.n) × (l.schedule ≡ round_keys l.key l.n ++ drop (8 * l.n) l.initial.schedule)
