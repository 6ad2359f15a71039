-- The fields of an input, and the answers to a list of fields.
use Rattle.std.specs.Prelude.{ℕ, zero, suc, ◌+◌, ◌-◌, Bool, cond, ◌&&◌, List, [], ◌∷◌, ◌++◌, length, take, drop, ◌==◌, nat_le, slice_index}
use Rattle.engine.specs.Runs.{Call}
use Rattle.wire.specs.Calls.{calls_for}
use Rattle.wire.specs.Faults.{refusal_of}
use Rattle.wire.specs.Replies.{reply_to, value_left, written, answer_bytes}
use Rattle.wire.specs.Requests.{Asked, two_bytes, request_of}
use Rattle.wire.specs.States.{State, state_after}
use Rattle.wire.specs.declared.faults.ProgramFault.TheVariants.{CutShort}

pub record Field : Type 0 where
  pub tag : ℕ
  pub value : List ℕ

-- what a field asks for
abbrev pub asked : Field → Asked
asked f = request_of f.tag f.value

-- the answer to a field
abbrev pub answer : State → Field → List ℕ
answer s f = written (reply_to s.model (asked f) f.value) (value_left s.model (asked f) f.value)

-- the answers to a list of fields, one after the other
abbrev pub answers : State → List Field → List ℕ
answers s [] = []
answers s (f ∷ fs) = answer s f ++ answers (state_after s (asked f)) fs

-- the state after them
abbrev pub state_through : State → List Field → State
state_through s [] = s
state_through s (f ∷ fs) = state_through (state_after s (asked f)) fs

-- the engine's calls that they make, the last one first, before those of `calls`
abbrev pub calls_through : State → List Field → List Call → List Call
calls_through s [] calls = calls
calls_through s (f ∷ fs) calls = calls_through (state_after s (asked f)) fs (calls_for s.model (asked f) f.value ++ calls)

-- the length that the field at the start of an input states
abbrev pub stated : List ℕ → ℕ
stated input = two_bytes input 1

-- all of that field is there: a tag, two bytes of length, a value
abbrev pub holds_field : List ℕ → Bool
holds_field input = nat_le 3 (length input) && nat_le (3 + stated input) (length input)

-- how many bytes the field at the start of an input lacks: of its three first ones, or of its value
abbrev pub lacking : List ℕ → ℕ
lacking input = cond (nat_le 3 (length input)) (3 + stated input - length input) (3 - length input)

-- that field
abbrev pub first_field : List ℕ → Field
first_field input = record { tag = slice_index input 0; value = take (stated input) (drop 3 input) }

-- the whole fields of an input, at most so many
abbrev pub fields_within : ℕ → List ℕ → List Field
fields_within zero input = []
fields_within (suc most) input = cond (holds_field input) (first_field input ∷ fields_within most (drop (3 + stated input) input)) []

-- the bytes behind them
abbrev pub rest_within : ℕ → List ℕ → List ℕ
rest_within zero input = input
rest_within (suc most) input = cond (holds_field input) (rest_within most (drop (3 + stated input) input)) input

-- the whole fields of an input: it has no more of them than bytes
abbrev pub fields_in : List ℕ → List Field
fields_in input = fields_within (length input) input

-- the bytes of the field inside which the input ends; none if it ends between two
abbrev pub rest_in : List ℕ → List ℕ
rest_in input = rest_within (length input) input

-- what is answered where the input ends inside a field
abbrev pub cut_answer : List ℕ → List ℕ
cut_answer rest = cond (length rest == 0) [] (answer_bytes 255 (refusal_of CutShort).number [])

-- all that is answered to an input
abbrev pub output_to : State → List ℕ → List ℕ
output_to s input = answers s (fields_in input) ++ cut_answer (rest_in input)
