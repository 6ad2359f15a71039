-- The numbers, layers and places of the refusals of a batch.
use Rattle.std.specs.Prelude.{ℕ}
use Rattle.fault.specs.declared.Layer.TheVariants as layer
use Rattle.fault.specs.declared.Refusal.{Refusal}
use Rattle.packet.specs.Faults.{packet_refusal}
use Rattle.batch.specs.declared.faults.BatchFault.{BatchFault}
use Rattle.batch.specs.declared.faults.BatchFault.TheVariants.{KeyArea, BatchLength, Packet, NoWord}

-- a refusal of the engine's own layer
abbrev pub engine_refusal : ℕ → ℕ → ℕ → Refusal
engine_refusal number first second = record { number = number; layer = layer.Engine; first = first; second = second }

abbrev pub batch_refusal : BatchFault → Refusal
batch_refusal (KeyArea n) = engine_refusal 12 0 0
batch_refusal (BatchLength n) = engine_refusal 13 0 0
batch_refusal (Packet f) = packet_refusal f
batch_refusal (NoWord packet) = engine_refusal 11 packet 3
