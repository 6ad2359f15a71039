-- Lists of calls with their answers, and the engines that they lead to.
use Rattle.std.specs.Prelude.{◌≡◌, ℕ, List, [], ◌∷◌, Ok, Result}
use Rattle.cipher.specs.declared.direction.Direction.TheVariants.{Scramble, Descramble}
use Rattle.shelf.specs.Examined.{examined}
use Rattle.word.specs.declared.parity.Parity.{Parity}
use Rattle.engine.specs.Calls.{Answer, Counts, Makes, Opens, Closes, Joins, Leaves, Loads, Picks, Batches}
use Rattle.engine.specs.Model.{Model, Given}
use Rattle.engine.specs.declared.faults.EngineFault.{EngineFault}
use Rattle.engine.specs.declared.grant.Grant.{Grant}
use Rattle.engine.specs.declared.grant.Unclosed.{Unclosed}

-- a call with its arguments and its answer; a batch call has its key area and batch before it, and both after it
pub data Call : Type 0 where
  opens : ℕ → Result Grant EngineFault → Call
  closes : Grant → Result (Unit {0}) Unclosed → Call
  joins : ℕ → ℕ → Answer → Call
  leaves : ℕ → Answer → Call
  loads : ℕ → Parity → List ℕ → ℕ → Answer → Call
  picks : ℕ → Parity → Answer → Call
  scrambles : List ℕ → List ℕ → Counts → List ℕ → List ℕ → Call
  descrambles : List ℕ → List ℕ → Counts → List ℕ → List ℕ → Call

-- what a call does: the relation that its contract cites
abbrev pub Step : Model → Call → Model → Type 0
Step before (opens n r) after = Opens before n r after
Step before (closes g r) after = Closes before g r after
Step before (joins n pid r) after = Joins before n pid r after
Step before (leaves pid r) after = Leaves before pid r after
Step before (loads n p entry moment r) after = Loads before n p entry moment r after
Step before (picks n p r) after = Picks before n p r after
Step before (scrambles area batch r area' batch') after = Batches Scramble before area batch r area' batch' after
Step before (descrambles area batch r area' batch') after = Batches Descramble before area batch r area' batch' after

-- the engine was made so, over a shelf that examine accepts, and these calls led to it, the last one first
pub data Run {E : Type 0} (view : E → Model) (given : Given) : List Call → E → Type 0 where
  made : {e : E} → Makes given (view e) → examined given.shelf ≡ Ok tt → Run view given [] e
  more : {calls : List Call} {before after : E} {call : Call} → Run view given calls before → Step (view before) call (view after) → Run view given (call ∷ calls) after

-- a call that led from one engine to another leads on every run of the first
abbrev pub Extends : {E : Type 0} → (E → Model) → Call → E → E → Type 0
Extends view call before after = (given : Given) (calls : List Call) → Run view given calls before → Run view given (call ∷ calls) after
