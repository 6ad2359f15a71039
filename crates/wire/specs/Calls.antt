-- The engine's calls that fields make.
use Rattle.std.specs.Prelude.{ℕ, List, [], ◌∷◌, Ok, Err}
use Rattle.cipher.specs.declared.direction.Direction.{Direction}
use Rattle.cipher.specs.declared.direction.Direction.TheVariants.{Scramble, Descramble}
use Rattle.engine.specs.Calls.{Counts, join_answer, load_answer, pick_answer, from_batch}
use Rattle.engine.specs.Model.{Model}
use Rattle.engine.specs.Runs.{Call, joins, loads, picks, scrambles, descrambles}
use Rattle.wire.specs.Areas.{key_area}
use Rattle.wire.specs.Replies.{counts, batch_left}
use Rattle.wire.specs.Requests.{Asked}
use Rattle.wire.specs.declared.request.Request.TheVariants.{Join, Load, Pick, Batch}

-- the call of a direction
abbrev pub turns : Direction → List ℕ → List ℕ → Counts → List ℕ → List ℕ → Call
turns Scramble = scrambles
turns Descramble = descrambles

-- a request makes one call for service 0, and a field that asks for nothing makes none
abbrev pub calls_for : Model → Asked → List ℕ → List Call
calls_for m (Ok (Join pid)) value = joins 0 pid (join_answer m 0 pid) ∷ []
calls_for m (Ok (Load p entry moment)) value = loads 0 p entry moment (load_answer m 0 moment) ∷ []
calls_for m (Ok (Pick p)) value = picks 0 p (pick_answer m 0 p) ∷ []
calls_for m (Ok (Batch d)) value = turns d key_area value (from_batch (counts d m value)) key_area (batch_left d m value) ∷ []
calls_for m (Err f) value = []
