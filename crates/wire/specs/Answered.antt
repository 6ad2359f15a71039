-- What the program's engine becomes by a field, and by the fields of an input.
use Rattle.std.specs.Prelude.{◌≡◌, ℕ, List, ◌++◌}
use Rattle.cipher.specs.declared.tail.ClearTail.{ClearTail}
use Rattle.engine.specs.Model.{Given}
use Rattle.engine.specs.Runs.{Call, Run}
use Rattle.engine.specs.declared.engine.Engine.{Engine}
use Rattle.profile.specs.declared.ciphers.Aes128.{Aes128}
use Rattle.shelf.specs.declared.pacing.Pacing.{Pacing}
use Rattle.shelf.specs.declared.plain.PlainShelf.{PlainShelf}
use Rattle.wire.specs.Calls.{calls_for}
use Rattle.wire.specs.Fields.{Field, answers, state_through, calls_through}
use Rattle.wire.specs.Programs.{view_of, state_of}
use Rattle.wire.specs.Requests.{Asked}
use Rattle.wire.specs.States.{state_after}

-- the engine of the program: CISSA over a pacing plain shelf
abbrev pub ProgramEngine : Type 0
ProgramEngine = Engine Aes128 ClearTail (Pacing PlainShelf)

-- the state that a field's request leads to, by the calls that it makes
abbrev pub Does : ProgramEngine → Asked → List ℕ → ProgramEngine → Type 0
Does before asked value after =
    (state_of after ≡ state_after (state_of before) asked)
    × ((given : Given) (calls : List Call) → Run view_of given calls before → Run view_of given (calls_for (view_of before) asked value ++ calls) after)

-- a field of that tag and value
abbrev pub field_of : ℕ → List ℕ → Field
field_of tag value = record { tag = tag; value = value }

-- the answers to fields, behind what was written, and the state that they lead to, by the calls that they make
pub record Answered (before : ProgramEngine) (written : List ℕ) (fields : List Field) (after : ProgramEngine) (written' : List ℕ) : Type 0 where
  pub out : written' ≡ written ++ answers (state_of before) fields
  pub state : state_of after ≡ state_through (state_of before) fields
  pub runs : (given : Given) (calls : List Call) → Run view_of given calls before → Run view_of given (calls_through (state_of before) fields calls) after
