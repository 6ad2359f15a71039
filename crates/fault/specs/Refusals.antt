-- A refusal that has no places.
use Rattle.std.specs.Prelude.{ℕ}
use Rattle.fault.specs.declared.Layer.{Layer}
use Rattle.fault.specs.declared.Refusal.{Refusal}

abbrev pub without_places : ℕ → Layer → Refusal
without_places number layer = record { number = number; layer = layer; first = 0; second = 0 }
