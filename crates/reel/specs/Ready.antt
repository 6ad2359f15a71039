-- What is open once the words of a task are loaded.
use Rattle.std.specs.Prelude.{ℕ, Bool, true}
use Rattle.engine.specs.Model.{is_open}
use Rattle.engine.specs.declared.desk.Slot.{Slot}
use Rattle.reel.specs.declared.command.KeySource.{KeySource}
use Rattle.reel.specs.declared.command.KeySource.TheVariants.{Given, Logged}
use Rattle.reel.specs.declared.logged.KeyRing.{KeyRing}

-- the word of the command line is that of service 0; a log says itself which services it opens
abbrev pub ready : KeySource KeyRing → (ℕ → Slot) → Bool
ready (Given keys) slots = is_open (slots 0)
ready (Logged ring) slots = true
