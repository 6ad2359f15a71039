-- Where the payload of a packet that is to be changed starts.
use Rattle.std.proofs.Common.{◌≡◌, ℕ, ◌+◌, ◌≤◌, cond, eqb, ltb, Some, None, Ok, Err, Option, Result, sym, subst, arith}
use Rattle.std.proofs.lemmas.Bool.{cond_both, ltb-false}
use Rattle.packet.specs.Header.{start_of}
use Rattle.packet.specs.declared.faults.HeaderFault.{HeaderFault}
use Rattle.packet.specs.declared.faults.HeaderFault.TheVariants.{Sync, AdaptationLength}
use Rattle.packet.specs.declared.header.AdaptationControl.{AdaptationControl}
use Rattle.packet.specs.declared.header.AdaptationControl.TheVariants as adaptation
use Rattle.packet.specs.declared.header.Header.{Header}
use Rattle.packet.specs.declared.header.ScramblingControl.{ScramblingControl}
use Rattle.packet.specs.declared.header.ScramblingControl.TheVariants as control
use Rattle.word.specs.declared.parity.Parity.{Parity}
use Rattle.word.specs.declared.parity.Parity.TheVariants as parity
use Rattle.word.specs.declared.word.Word.{Word}
use Rattle.batch.specs.Plan.{Keys, Plan, with_word, with_picked, directed, with_payload, with_service, plan_for}
use Rattle.batch.specs.declared.plan.Change.{Change}
use Rattle.cipher.specs.declared.direction.Direction.{Direction}
use Rattle.cipher.specs.declared.direction.Direction.TheVariants.{Scramble, Descramble}
use Rattle.batch.specs.declared.plan.Objection.TheVariants.{BadHeader}

-- within a packet, after its header
abbrev pub Inside : ℕ → Type 0
Inside start = (4 ≤ start) × (start ≤ 187)

-- a plan that changes a packet, if it does, changes it from inside it
abbrev pub InsidePlan : Plan → Type 0
InsidePlan (Ok (Some c)) = Inside c.start
InsidePlan (Ok None) = Unit {0}
InsidePlan (Err f) = Unit {0}

abbrev InsideStart : Result (Option ℕ) HeaderFault → Type 0
InsideStart (Ok (Some start)) = Inside start
InsideStart (Ok None) = Unit {0}
InsideStart (Err f) = Unit {0}

start_inside : (a : AdaptationControl) (n : ℕ) → InsideStart (start_of a n)
start_inside adaptation.Reserved n = tt
start_inside adaptation.PayloadOnly n = (omega arith, omega arith)
start_inside adaptation.AdaptationOnly n = cond_both (eqb n 183) (Ok None) (Err (AdaptationLength n)) InsideStart (λ _. tt) (λ _. tt)
start_inside adaptation.AdaptationAndPayload n =
    cond_both (ltb 182 n) (Err (AdaptationLength n)) (Ok (Some (5 + n))) InsideStart (λ _. tt) (λ e. (omega arith, omega (arith, ltb-false 182 n e)))

word_inside : (q : Parity) (start : ℕ) (o : Option Word) → Inside start → InsidePlan (with_word q start o)
word_inside q start (Some w) h = h
word_inside q start None h = tt

picked_inside : (keys : Keys) (service start : ℕ) (o : Option Parity) → Inside start → InsidePlan (with_picked keys service start o)
picked_inside keys service start (Some q) h = word_inside q start (keys.held service q) h
picked_inside keys service start None h = tt

directed_inside : (d : Direction) (keys : Keys) (service : ℕ) (c : ScramblingControl) (start : ℕ) → Inside start → InsidePlan (directed d keys service c start)
directed_inside Scramble keys service control.Clear start h = picked_inside keys service start (keys.picked service) h
directed_inside Scramble keys service control.Reserved start h = tt
directed_inside Scramble keys service control.Even start h = tt
directed_inside Scramble keys service control.Odd start h = tt
directed_inside Descramble keys service control.Clear start h = tt
directed_inside Descramble keys service control.Reserved start h = tt
directed_inside Descramble keys service control.Even start h = word_inside parity.Even start (keys.held service parity.Even) h
directed_inside Descramble keys service control.Odd start h = word_inside parity.Odd start (keys.held service parity.Odd) h

payload_inside : (plan : ℕ → Plan) → ((start : ℕ) → Inside start → InsidePlan (plan start)) → (r : Result (Option ℕ) HeaderFault) → InsideStart r → InsidePlan (with_payload plan r)
payload_inside plan h (Ok (Some start)) i = h start i
payload_inside plan h (Ok None) i = tt
payload_inside plan h (Err f) i = tt

service_inside : (d : Direction) (keys : Keys) (h : Header) (o : Option ℕ) → InsidePlan (with_service d keys h o)
service_inside d keys h (Some service) =
    payload_inside (directed d keys service h.control) (directed_inside d keys service h.control) (start_of h.adaptation h.length) (start_inside h.adaptation h.length)
service_inside d keys h None = tt

pub plan_inside : (d : Direction) (keys : Keys) (h : Header) → InsidePlan (plan_for d keys h)
plan_inside d keys h =
    let rest : Plan = with_service d keys h (keys.joined h.pid) in
    cond_both (eqb h.sync 0x47) (cond h.error (Ok None) rest) (Err (BadHeader Sync)) InsidePlan
    (λ _. cond_both h.error (Ok None) rest InsidePlan (λ _. tt) (λ _. service_inside d keys h (keys.joined h.pid)))
    (λ _. tt)

pub change_inside : (d : Direction) (keys : Keys) (h : Header) (c : Change) → Ok (Some c) ≡ plan_for d keys h → Inside c.start
change_inside d keys h c e = subst InsidePlan (sym e) (plan_inside d keys h)
