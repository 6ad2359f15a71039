-- The header of a transport packet (ISO/IEC 13818-1). A packet is a list of 188 bytes.
use Rattle.std.specs.Prelude.{ℕ, ◌+◌, ◌*◌, ◌/◌, ◌%◌, cond, List, Some, None, Ok, Err, Option, Result, ◌==◌, nat_le, nat_lt, slice_index, slice_set}
use Rattle.packet.specs.declared.faults.HeaderFault.{HeaderFault}
use Rattle.packet.specs.declared.faults.HeaderFault.TheVariants as fault
use Rattle.packet.specs.declared.header.AdaptationControl.{AdaptationControl}
use Rattle.packet.specs.declared.header.AdaptationControl.TheVariants as adaptation
use Rattle.packet.specs.declared.header.Header.{Header}
use Rattle.packet.specs.declared.header.ScramblingControl.{ScramblingControl}
use Rattle.packet.specs.declared.header.ScramblingControl.TheVariants as control

-- the control bits: 00 clear, 01 reserved, 10 the even word, 11 the odd word
abbrev pub control_of : ℕ → ScramblingControl
control_of bits = cond (bits == 0) control.Clear (cond (bits == 1) control.Reserved (cond (bits == 2) control.Even control.Odd))

abbrev pub control_bits : ScramblingControl → ℕ
control_bits control.Clear = 0
control_bits control.Reserved = 1
control_bits control.Even = 2
control_bits control.Odd = 3

-- the adaptation control: 00 not allowed, 01 payload, 10 adaptation field, 11 adaptation field and payload
abbrev pub adaptation_of : ℕ → AdaptationControl
adaptation_of bits =
    cond (bits == 0) adaptation.Reserved
    (cond (bits == 1) adaptation.PayloadOnly (cond (bits == 2) adaptation.AdaptationOnly adaptation.AdaptationAndPayload))

-- the low five bits of byte 1, then byte 2
abbrev pub pid_of : List ℕ → ℕ
pid_of p = slice_index p 1 % 32 * 256 + slice_index p 2

-- the fields of a packet's first five bytes
abbrev pub header_of : List ℕ → Header
header_of p = record {
  sync = slice_index p 0;
  error = nat_le 128 (slice_index p 1);
  pid = pid_of p;
  control = control_of (slice_index p 3 / 64);
  adaptation = adaptation_of (slice_index p 3 / 16 % 4);
  length = slice_index p 4;
}

-- where the payload starts, by the adaptation control and the adaptation field's length
abbrev pub start_of : AdaptationControl → ℕ → Result (Option ℕ) HeaderFault
start_of adaptation.Reserved n = Err fault.AdaptationControl
start_of adaptation.PayloadOnly n = Ok (Some 4)
start_of adaptation.AdaptationOnly n = cond (n == 183) (Ok None) (Err (fault.AdaptationLength n))
start_of adaptation.AdaptationAndPayload n = cond (nat_lt 182 n) (Err (fault.AdaptationLength n)) (Ok (Some (5 + n)))

abbrev pub payload_start : Header → Result (Option ℕ) HeaderFault
payload_start h = start_of h.adaptation h.length

-- the packet with other control bits
abbrev pub with_control : ScramblingControl → List ℕ → List ℕ
with_control c p = slice_set p 3 (control_bits c * 64 + slice_index p 3 % 64)
