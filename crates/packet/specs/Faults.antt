-- The numbers and places of packet faults.
use Rattle.std.specs.Prelude.{ℕ}
use Rattle.fault.specs.declared.Layer.TheVariants as layer
use Rattle.fault.specs.declared.Refusal.{Refusal}
use Rattle.packet.specs.declared.faults.HeaderFault.{HeaderFault}
use Rattle.packet.specs.declared.faults.HeaderFault.TheVariants.{Sync, AdaptationControl, AdaptationLength, Scrambled, ReservedControl}
use Rattle.packet.specs.declared.faults.PacketFault.{PacketFault}

abbrev pub header_number : HeaderFault → ℕ
header_number Sync = 14
header_number AdaptationControl = 15
header_number (AdaptationLength n) = 15
header_number Scrambled = 16
header_number ReservedControl = 17

-- the byte at fault
abbrev pub header_byte : HeaderFault → ℕ
header_byte Sync = 0
header_byte AdaptationControl = 3
header_byte (AdaptationLength n) = 4
header_byte Scrambled = 3
header_byte ReservedControl = 3

abbrev pub packet_refusal : PacketFault → Refusal
packet_refusal f = record { number = header_number f.cause; layer = layer.Packet; first = f.packet; second = header_byte f.cause }
