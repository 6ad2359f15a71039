-- What a batch becomes, and what a batch call answers.
use Rattle.std.specs.Prelude.{◌≡◌, ℕ, ◌%◌, Bool, cond, ◌&&◌, List, ◌++◌, length, take, drop, replicate, is_ok, Ok, Err, Result, ◌==◌, nat_le}
use Rattle.cipher.specs.Bytes.{Bytes}
use Rattle.cipher.specs.Profiles.{Meaning}
use Rattle.cipher.specs.Turns.{turned}
use Rattle.packet.specs.Header.{with_control}
use Rattle.packet.specs.declared.header.ScramblingControl.{ScramblingControl}
use Rattle.packet.specs.declared.header.ScramblingControl.TheVariants as control
use Rattle.word.specs.declared.parity.Parity.{Parity}
use Rattle.word.specs.declared.parity.Parity.TheVariants as parity
use Rattle.word.specs.declared.word.Word.{Word}
use Rattle.batch.specs.Packets.{packets, first_fault, all_followed, changed_count, passed_count}
use Rattle.batch.specs.Plan.{Keys, plan_of}
use Rattle.batch.specs.declared.faults.BatchFault.{BatchFault}
use Rattle.batch.specs.declared.faults.BatchFault.TheVariants.{KeyArea, BatchLength, Packet, NoWord}
use Rattle.batch.specs.declared.plan.Change.{Change}
use Rattle.cipher.specs.declared.direction.Direction.{Direction}
use Rattle.cipher.specs.declared.direction.Direction.TheVariants.{Scramble, Descramble}
use Rattle.batch.specs.declared.plan.Objection.{Objection}
use Rattle.batch.specs.declared.plan.Objection.TheVariants as objection

-- the control bits of a packet after it was changed: its parity's, or 00
abbrev pub control_after : Direction → Parity → ScramblingControl
control_after Scramble parity.Even = control.Even
control_after Scramble parity.Odd = control.Odd
control_after Descramble q = control.Clear

-- a payload after it was changed
abbrev pub payload_after : Direction → Meaning → Word → List ℕ → List ℕ
payload_after = turned

-- a packet changed: the control bits, the payload, and all other bytes as they were
abbrev pub changed : Direction → Meaning → Change → List ℕ → List ℕ
changed d m c p = take c.start (with_control (control_after d c.parity) p) ++ payload_after d m c.word (drop c.start p)

-- a batch after an accepted call
abbrev pub batch_after : Direction → Meaning → Keys → List ℕ → List ℕ
batch_after d m keys batch = all_followed (plan_of d keys) (changed d m) batch

-- an objection to the packet at place i
abbrev pub objection_at : ℕ → Objection → BatchFault
objection_at i (objection.BadHeader f) = Packet (record { packet = i; cause = f })
objection_at i objection.NoWord = NoWord i

-- whole packets, and at most 64 of them
abbrev pub fits : ℕ → Bool
fits n = n % 188 == 0 && nat_le n 12032

-- the counts, if no packet is refused
abbrev pub counted : Result (Unit {0}) BatchFault → ℕ × ℕ → Result (ℕ × ℕ) BatchFault
counted (Ok x) n = Ok n
counted (Err f) n = Err f

-- the answer to a batch with a key area of that length: the area, the batch, then the first faulty packet decide
abbrev pub batch_answer : Direction → Meaning → Keys → ℕ → List ℕ → Result (ℕ × ℕ) BatchFault
batch_answer d m keys area batch =
    cond (area == m.schedule_length)
    (cond (fits (length batch))
    (counted (first_fault (plan_of d keys) objection_at 0 (packets batch)) (changed_count (plan_of d keys) (packets batch), passed_count (plan_of d keys) (packets batch)))
    (Err (BatchLength (length batch))))
    (Err (KeyArea area))

-- a call with a key area and a batch: its answer, and what it leaves in both
pub record Batched (d : Direction) (m : Meaning) (keys : Keys) (area batch : List ℕ) (r : Result (ℕ × ℕ) BatchFault) (area' batch' : List ℕ) : Type 0 where
  pub answer : r ≡ batch_answer d m keys (length area) batch
  -- a refusal leaves every packet; else each is changed or passed as planned
  pub after : batch' ≡ cond (is_ok r) (batch_after d m keys batch) batch
  -- an area of the schedule's length ends zero, and any other stays
  pub wiped : area' ≡ cond (length area == m.schedule_length) (replicate (length area) 0) area
  -- a slice of bytes holds bytes
  pub bytes : Bytes batch
