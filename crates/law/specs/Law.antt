-- The law of every run: what the accepted calls of a list say of the engine that they lead to.
use Rattle.std.specs.Prelude.{◌≡◌, ℕ, ◌+◌, ◌/◌, ◌<◌, ◌≤◌, Bool, true, false, cond, ◌&&◌, List, [], ◌∷◌, length, is_ok, Some, None, Ok, Option, ◌==◌, ◌≢◌}
use Rattle.std.specs.Option.{option_map}
use Rattle.batch.specs.Packets.{packet_at}
use Rattle.batch.specs.Plan.{Keys}
use Rattle.component.specs.Table.{without_service}
use Rattle.engine.specs.Calls.{Answer, Counts}
use Rattle.engine.specs.Model.{Model, Given, is_open, parity_in}
use Rattle.engine.specs.Runs.{Call, opens, closes, joins, leaves, loads, picks, scrambles, descrambles, Step, Run}
use Rattle.packet.specs.Header.{pid_of}
use Rattle.restoring.specs.Restoring.{Alike, Scrambled}
use Rattle.shelf.specs.Meaning.{here}
use Rattle.word.specs.declared.parity.Parity.{Parity}
use Rattle.word.specs.declared.word.Word.{Word}

-- an open opens its service, and a close shuts it
abbrev pub opened : Call → ℕ → Bool → Bool
opened (opens n r) k was = cond (is_ok r && k == n) true was
opened (closes g r) k was = cond (is_ok r && k == g.service) false was
opened (joins n pid r) k was = was
opened (leaves pid r) k was = was
opened (loads n p entry moment r) k was = was
opened (picks n p r) k was = was
opened (scrambles area batch r area' batch') k was = was
opened (descrambles area batch r area' batch') k was = was

-- service k was opened, and not closed since
abbrev pub open_by : List Call → ℕ → Bool
open_by [] k = false
open_by (call ∷ calls) k = opened call k (open_by calls k)

-- a join joins its PID to its service; a leave ends that, and a close ends it for the PIDs of its service
abbrev pub rejoined : Call → ℕ → Option ℕ → Option ℕ
rejoined (opens n r) k was = was
rejoined (closes g r) k was = cond (is_ok r) (without_service g.service was) was
rejoined (joins n pid r) k was = cond (is_ok r && k == pid) (Some n) was
rejoined (leaves pid r) k was = cond (is_ok r && k == pid) None was
rejoined (loads n p entry moment r) k was = was
rejoined (picks n p r) k was = was
rejoined (scrambles area batch r area' batch') k was = was
rejoined (descrambles area batch r area' batch') k was = was

-- the service that a PID was joined to, if neither it left nor that service was closed since
abbrev pub joined_by : List Call → ℕ → Option ℕ
joined_by [] pid = None
joined_by (call ∷ calls) pid = rejoined call pid (joined_by calls pid)

-- a pick picks its parity; an open and a close leave none
abbrev pub repicked : Call → ℕ → Option Parity → Option Parity
repicked (opens n r) k was = cond (is_ok r && k == n) None was
repicked (closes g r) k was = cond (is_ok r && k == g.service) None was
repicked (joins n pid r) k was = was
repicked (leaves pid r) k was = was
repicked (loads n p entry moment r) k was = was
repicked (picks n p r) k was = cond (is_ok r && k == n) (Some p) was
repicked (scrambles area batch r area' batch') k was = was
repicked (descrambles area batch r area' batch') k was = was

-- the parity last picked for service k since it was opened
abbrev pub picked_by : List Call → ℕ → Option Parity
picked_by [] k = None
picked_by (call ∷ calls) k = repicked call k (picked_by calls k)

-- a load brings its entry; an open and a close leave none
abbrev pub reloaded : Call → ℕ → Parity → Option (List ℕ) → Option (List ℕ)
reloaded (opens n r) k q was = cond (is_ok r && k == n) None was
reloaded (closes g r) k q was = cond (is_ok r && k == g.service) None was
reloaded (joins n pid r) k q was = was
reloaded (leaves pid r) k q was = was
reloaded (loads n p entry moment r) k q was = cond (is_ok r && here n p k q) (Some entry) was
reloaded (picks n p r) k q was = was
reloaded (scrambles area batch r area' batch') k q was = was
reloaded (descrambles area batch r area' batch') k q was = was

-- the last entry accepted for service k under parity q since the service was last opened; none after close
abbrev pub last_entry : List Call → ℕ → Parity → Option (List ℕ)
last_entry [] k q = None
last_entry (call ∷ calls) k q = reloaded call k q (last_entry calls k q)

-- a load has its moment, and no other call forgets it
abbrev pub retimed : Call → ℕ → Option ℕ → Option ℕ
retimed (opens n r) k was = was
retimed (closes g r) k was = was
retimed (joins n pid r) k was = was
retimed (leaves pid r) k was = was
retimed (loads n p entry moment r) k was = cond (is_ok r && k == n) (Some moment) was
retimed (picks n p r) k was = was
retimed (scrambles area batch r area' batch') k was = was
retimed (descrambles area batch r area' batch') k was = was

-- the moment of the last load accepted for service k since the engine was made
abbrev pub last_load : List Call → ℕ → Option ℕ
last_load [] k = None
last_load (call ∷ calls) k = retimed call k (last_load calls k)

-- the word that a service holds by the accepted calls: what the shelf reads of the last entry
abbrev pub word_by : Given → List Call → ℕ → Parity → Option Word
word_by given calls k q = option_map given.shelf.reads (last_entry calls k q)

-- what a batch finds at an engine by the accepted calls
abbrev pub keys_by : Given → List Call → Keys
keys_by given calls = record { joined = joined_by calls; picked = picked_by calls; held = word_by given calls }

-- 300 seconds after the last load, and any moment before the first
abbrev pub Due : Option ℕ → ℕ → Type 0
Due None moment = Unit {0}
Due (Some last) moment = last + 300 ≤ moment

-- what a list of calls leads to
pub record After (given : Given) (calls : List Call) (engine : Model) : Type 0 where
  pub open_services : (k : ℕ) → is_open (engine.slots k) ≡ open_by calls k
  pub joined : (pid : ℕ) → engine.joined pid ≡ joined_by calls pid
  pub picked : (k : ℕ) → parity_in (engine.slots k) ≡ picked_by calls k
  -- each of the 32 services holds, under each parity, what the shelf reads of the last entry, and nothing without one
  pub words : (k : ℕ) (q : Parity) → k ≤ 31 → engine.shelf.held k q ≡ word_by given calls k q
  -- a load of an open service at an allowed moment is accepted from 300 seconds after that service's last one
  pub loads_accepted :
      (n : ℕ) (p : Parity) (entry : List ℕ) (moment : ℕ) (r : Answer) (after : Model) → Step engine (loads n p entry moment r) after →
      open_by calls n ≡ true → moment ≤ 4000000000 → Due (last_load calls n) moment → r ≡ Ok tt

-- A packet that a scramble at one engine changed is scrambled as its accepted calls say: its PID was joined to a service, of
-- which a parity was picked, and it has the bytes that this service's word gives under the parity that it now shows. It comes
-- out of every accepted descramble at the other as it was, wherever it comes in and whatever comes in with it, if by the
-- accepted calls there its PID is joined to a service with the same word under that parity.
abbrev pub Restored : {E F : Type 0} → (E → Model) → (F → Model) → Type 0
Restored {E} {F} one two =
    (given : Given) (calls : List Call) (e : E) → Run one given calls e →
    (area batch area' batch' : List ℕ) (r : Counts) (after : Model) → Step (one e) (scrambles area batch r area' batch') after →
    (i : ℕ) → i < length batch / 188 → (packet_at batch' i ≢ packet_at batch i) →
    (s : Scrambled given.profile (keys_by given calls) (packet_at batch i) (packet_at batch' i))
    × ((given₂ : Given) (calls₂ : List Call) (f : F) → Run two given₂ calls₂ f → Alike given.profile given₂.profile →
    (area₂ batch₂ area₂' batch₂' : List ℕ) (counts : ℕ × ℕ) (after₂ : Model) → Step (two f) (descrambles area₂ batch₂ (Ok counts) area₂' batch₂') after₂ →
    (j : ℕ) → j < length batch₂ / 188 → packet_at batch₂ j ≡ packet_at batch' i →
    (service₂ : ℕ) → joined_by calls₂ (pid_of (packet_at batch₂ j)) ≡ Some service₂ → word_by given₂ calls₂ service₂ s.parity ≡ Some s.word →
    packet_at batch₂' j ≡ packet_at batch i)

-- The law of every engine that was made over a shelf that examine accepts, after every list of the eight calls, refused
-- ones too, and of every two such engines, each after its own list.
pub record Law {E F : Type 0} (one : E → Model) (two : F → Model) : Type 0 where
  pub runs : (given : Given) (calls : List Call) (e : E) → Run one given calls e → After given calls (one e)
  pub restoring : Restored one two
