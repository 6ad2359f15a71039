-- What is to become of a packet, in the order of the tests.
use Rattle.std.specs.Prelude.{ℕ, cond, List, Some, None, Ok, Err, Option, Result, ◌==◌}
use Rattle.packet.specs.Header.{header_of, payload_start}
use Rattle.packet.specs.declared.faults.HeaderFault.{HeaderFault}
use Rattle.packet.specs.declared.faults.HeaderFault.TheVariants.{Sync, Scrambled, ReservedControl}
use Rattle.packet.specs.declared.header.Header.{Header}
use Rattle.packet.specs.declared.header.ScramblingControl.{ScramblingControl}
use Rattle.packet.specs.declared.header.ScramblingControl.TheVariants as control
use Rattle.word.specs.declared.parity.Parity.{Parity}
use Rattle.word.specs.declared.parity.Parity.TheVariants as parity
use Rattle.word.specs.declared.word.Word.{Word}
use Rattle.batch.specs.declared.keyring.Keyring.{Ghosts as KeyringGhosts}
use Rattle.batch.specs.declared.plan.Change.{Change}
use Rattle.cipher.specs.declared.direction.Direction.{Direction}
use Rattle.cipher.specs.declared.direction.Direction.TheVariants.{Scramble, Descramble}
use Rattle.batch.specs.declared.plan.Objection.{Objection}
use Rattle.batch.specs.declared.plan.Objection.TheVariants.{BadHeader, NoWord}

-- what a keyring means: the service of a PID, the picked parity of a service, and the word held under a parity
pub record Keys : Type 0 where
  pub joined : ℕ → Option ℕ
  pub picked : ℕ → Option Parity
  pub held : ℕ → Parity → Option Word

abbrev pub keys_of : {K : Type 0} → KeyringGhosts K → K → Keys
keys_of g k = record { joined = g.joined k; picked = g.picked k; held = g.held k }

-- refused, passed, or changed
abbrev pub Plan : Type 0
Plan = Result (Option Change) Objection

abbrev pub with_word : Parity → ℕ → Option Word → Plan
with_word q start (Some w) = Ok (Some (record { word = w; parity = q; start = start }))
with_word q start None = Err NoWord

-- under the word held for the picked parity, if one is picked
abbrev pub with_picked : Keys → ℕ → ℕ → Option Parity → Plan
with_picked keys service start (Some q) = with_word q start (keys.held service q)
with_picked keys service start None = Err NoWord

-- only a clear packet is scrambled
abbrev pub scramble_plan : Keys → ℕ → ScramblingControl → ℕ → Plan
scramble_plan keys service control.Clear start = with_picked keys service start (keys.picked service)
scramble_plan keys service control.Reserved start = Err (BadHeader Scrambled)
scramble_plan keys service control.Even start = Err (BadHeader Scrambled)
scramble_plan keys service control.Odd start = Err (BadHeader Scrambled)

-- a clear packet passes, and one with an even or odd word is descrambled
abbrev pub descramble_plan : Keys → ℕ → ScramblingControl → ℕ → Plan
descramble_plan keys service control.Clear start = Ok None
descramble_plan keys service control.Reserved start = Err (BadHeader ReservedControl)
descramble_plan keys service control.Even start = with_word parity.Even start (keys.held service parity.Even)
descramble_plan keys service control.Odd start = with_word parity.Odd start (keys.held service parity.Odd)

abbrev pub directed : Direction → Keys → ℕ → ScramblingControl → ℕ → Plan
directed Scramble = scramble_plan
directed Descramble = descramble_plan

-- a packet with no payload passes
abbrev pub with_payload : (ℕ → Plan) → Result (Option ℕ) HeaderFault → Plan
with_payload plan (Ok (Some start)) = plan start
with_payload plan (Ok None) = Ok None
with_payload plan (Err f) = Err (BadHeader f)

-- a packet that is joined to no service passes
abbrev pub with_service : Direction → Keys → Header → Option ℕ → Plan
with_service d keys h (Some service) = with_payload (directed d keys service h.control) (payload_start h)
with_service d keys h None = Ok None

-- byte 0 is tested first; then a packet with the error bit passes
abbrev pub plan_for : Direction → Keys → Header → Plan
plan_for d keys h =
    cond (h.sync == 0x47) (cond h.error (Ok None) (with_service d keys h (keys.joined h.pid))) (Err (BadHeader Sync))

abbrev pub plan_of : Direction → Keys → List ℕ → Plan
plan_of d keys p = plan_for d keys (header_of p)
