use Rattle.std.proofs.Common.{◌≡◌, ℕ, true}
use Rattle.engine.specs.Model.{is_open, slots_of}
use Rattle.reel.proofs.services.Services.join_all.Given as goal

abbrev pub invariant-loop-pid : goal.invariant-loop-pid
invariant-loop-pid g l =
    (l.self.engine.tag ≡ l.initial.self.engine.tag)
    × ((k : ℕ) → is_open (slots_of l.initial.self.engine.desk k) ≡ true → is_open (slots_of l.self.engine.desk k) ≡ true)
