-- What the parts of the element make of bytes under a word.
use Rattle.std.specs.Prelude.{ℕ, cond, ◌&&◌, List, length, is_ok, Ok, Err, Result, ◌==◌}
use Rattle.batch.specs.Batches.{batch_answer, batch_after}
use Rattle.batch.specs.Plan.{Keys}
use Rattle.batch.specs.declared.faults.BatchFault.{BatchFault}
use Rattle.cipher.specs.declared.direction.Direction.{Direction}
use Rattle.cipher.specs.declared.direction.Direction.TheVariants.{Scramble, Descramble}
use Rattle.cipher.specs.Profiles.{Meaning}
use Rattle.vectors.specs.declared.mismatch.Mismatch.{Mismatch}
use Rattle.vectors.specs.declared.mismatch.Mismatch.TheVariants.{Counts, Refused}

-- E or D of a block; bytes of another length stay
abbrev pub block_turned : ℕ → (List ℕ → List ℕ) → (List ℕ → List ℕ) → Direction → List ℕ → List ℕ
block_turned width E D Scramble b = cond (length b == width) (E b) b
block_turned width E D Descramble b = cond (length b == width) (D b) b

-- one packet is to be changed, and none passed
abbrev pub one_changed : Result (ℕ × ℕ) BatchFault → Result (Unit {0}) Mismatch
one_changed (Ok (changed, passed)) = cond (changed == 1 && passed == 0) (Ok tt) (Err (Counts changed passed))
one_changed (Err f) = Err (Refused f)

abbrev pub packet_answer : Direction → Meaning → Keys → List ℕ → Result (Unit {0}) Mismatch
packet_answer d m keys p = one_changed (batch_answer d m keys m.schedule_length p)

-- a refused batch stays
abbrev pub packet_turned : Direction → Meaning → Keys → List ℕ → List ℕ
packet_turned d m keys p = cond (is_ok (batch_answer d m keys m.schedule_length p)) (batch_after d m keys p) p
