-- What is answered to a field, at the state of the program's engine.
use Rattle.std.specs.Prelude.{ℕ, ◌+◌, ◌/◌, ◌%◌, false, cond, List, [], ◌∷◌, length, is_ok, Ok, Err, Result}
use Rattle.batch.specs.Batches.{batch_answer, batch_after}
use Rattle.batch.specs.declared.faults.BatchFault.{BatchFault}
use Rattle.cipher.specs.declared.direction.Direction.{Direction}
use Rattle.engine.specs.Calls.{join_answer, load_answer, pick_answer, from_batch}
use Rattle.engine.specs.Model.{Model, keys_of}
use Rattle.engine.specs.declared.faults.EngineFault.{EngineFault}
use Rattle.wire.specs.Faults.{refusal_of}
use Rattle.wire.specs.Requests.{Asked, answer_tag, carries_batch}
use Rattle.wire.specs.declared.faults.ProgramFault.{ProgramFault}
use Rattle.wire.specs.declared.faults.ProgramFault.TheVariants.{Engine}
use Rattle.wire.specs.declared.reply.Reply.{Reply}
use Rattle.wire.specs.declared.request.Request.{Request}
use Rattle.wire.specs.declared.request.Request.TheVariants as request

-- accepted, or the fault
abbrev pub Outcome : Type 0
Outcome = Result (Unit {0}) ProgramFault

-- the refusal's number, or 0
abbrev pub number_of : Outcome → ℕ
number_of (Ok x) = 0
number_of (Err f) = (refusal_of f).number

-- the engine's fault travels whole
abbrev pub from_engine : {X : Type 0} → Result X EngineFault → Outcome
from_engine (Ok x) = Ok tt
from_engine (Err f) = Err (Engine f)

-- what a batch is answered, with a key area of the schedule's length
abbrev pub counts : Direction → Model → List ℕ → Result (ℕ × ℕ) BatchFault
counts d m batch = batch_answer d m.profile (keys_of m) m.profile.schedule_length batch

-- a batch as the call leaves it: a refused one as it came
abbrev pub batch_left : Direction → Model → List ℕ → List ℕ
batch_left d m batch = cond (is_ok (counts d m batch)) (batch_after d m.profile (keys_of m) batch) batch

-- what becomes of a request for service 0
abbrev pub outcome_at : Model → Request → List ℕ → Outcome
outcome_at m (request.Join pid) value = from_engine (join_answer m 0 pid)
outcome_at m (request.Load p entry moment) value = from_engine (load_answer m 0 moment)
outcome_at m (request.Pick p) value = from_engine (pick_answer m 0 p)
outcome_at m (request.Batch d) value = from_engine (from_batch (counts d m value))

-- a request is answered under its tag plus 128, and what is no request under tag 255
abbrev pub reply_to : Model → Asked → List ℕ → Reply
reply_to m (Ok r) value = record { tag = answer_tag r; outcome = outcome_at m r value; with_value = carries_batch r }
reply_to m (Err f) value = record { tag = 255; outcome = Err f; with_value = false }

-- a field's value as it is left
abbrev pub value_left : Model → Asked → List ℕ → List ℕ
value_left m (Ok (request.Join pid)) value = value
value_left m (Ok (request.Load p entry moment)) value = value
value_left m (Ok (request.Pick p)) value = value
value_left m (Ok (request.Batch d)) value = batch_left d m value
value_left m (Err f) value = value

-- an answer: its tag, two bytes of length, the refusal's number or 0, and the value if it follows
abbrev pub answer_bytes : ℕ → ℕ → List ℕ → List ℕ
answer_bytes tag number body = tag ∷ ((length body + 1) / 256 % 256) ∷ ((length body + 1) % 256) ∷ number ∷ body

abbrev pub written : Reply → List ℕ → List ℕ
written r value = answer_bytes r.tag (number_of r.outcome) (cond r.with_value value [])
