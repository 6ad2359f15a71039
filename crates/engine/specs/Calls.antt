-- What each call answers, in the order of its tests, and what it does to the engine: one equation for both outcomes.
use Rattle.std.specs.Prelude.{◌≡◌, ℕ, ◌+◌, ◌≤◌, true, false, cond, not, ◌&&◌, ◌||◌, List, [], ◌∷◌, ◌++◌, length, is_some, is_ok, Some, None, Ok, Err, filter, Option, Result, ◌==◌, nat_lt}
use Rattle.batch.specs.Batches.{batch_answer, Batched}
use Rattle.batch.specs.declared.faults.BatchFault.{BatchFault}
use Rattle.cipher.specs.declared.direction.Direction.{Direction}
use Rattle.cipher.specs.Bytes.{Bytes}
use Rattle.component.specs.Table.{without_service}
use Rattle.shelf.specs.Meaning.{here}
use Rattle.shelf.specs.declared.faults.ShelfFault.TheVariants.{TooSoon}
use Rattle.word.specs.declared.parity.Parity.{Parity}
use Rattle.engine.specs.Model.{Model, Given, is_open, keys_of}
use Rattle.engine.specs.declared.desk.Slot.{Slot}
use Rattle.engine.specs.declared.desk.Slot.TheVariants.{Shut, Live}
use Rattle.engine.specs.declared.faults.EngineFault.{EngineFault}
use Rattle.engine.specs.declared.faults.EngineFault.TheVariants.{Shelf, Batch, NoService, AlreadyOpen, BadGrant, NotOpen, PidRange, AlreadyJoined, TableFull, NotJoined, BadMoment, NoWord}
use Rattle.engine.specs.declared.grant.Grant.{Grant}
use Rattle.engine.specs.declared.grant.Unclosed.{Unclosed}

-- accepted, or the fault
abbrev pub Answer : Type 0
Answer = Result (Unit {0}) EngineFault

-- packets changed and packets passed, or the fault
abbrev pub Counts : Type 0
Counts = Result (ℕ × ℕ) EngineFault

-- an engine as it is made: its 32 services hold nothing and are shut, and nothing is joined
pub record Makes (given : Given) (after : Model) : Type 0 where
  pub profile : after.profile ≡ given.profile
  -- the initial vector is sixteen bytes
  pub long : length given.profile.iv ≡ 16
  pub bytes : Bytes given.profile.iv
  pub held : (k : ℕ) (q : Parity) → after.shelf.held k q ≡ cond (nat_lt k 32) None (given.shelf.held k q)
  pub next : after.shelf.next ≡ given.shelf.next
  pub reads : after.shelf.reads ≡ given.shelf.reads
  pub slots : (k : ℕ) → after.slots k ≡ Shut
  pub components : after.components ≡ []
  pub joined : (k : ℕ) → after.joined k ≡ None
  pub tag : after.tag ≡ given.tag

-- the service is above 31, or not open
abbrev pub closed : (ℕ → Slot) → ℕ → Option EngineFault
closed slots n = cond (nat_lt 31 n) (Some NoService) (cond (is_open (slots n)) None (Some NotOpen))

-- refused if there is a fault, else as answered
abbrev pub unless : Option EngineFault → Answer → Answer
unless (Some f) r = Err f
unless None r = r

abbrev pub open_answer : Model → ℕ → Result Grant EngineFault
open_answer m n =
    cond (nat_lt 31 n) (Err NoService)
    (cond (is_open (m.slots n)) (Err AlreadyOpen) (Ok (record { tag = m.tag; service = n })))

-- the grant's service opens, and nothing else changes
pub record Opens (before : Model) (n : ℕ) (r : Result Grant EngineFault) (after : Model) : Type 0 where
  pub answer : r ≡ open_answer before n
  pub slots : (k : ℕ) → after.slots k ≡ cond (is_ok r && k == n) (Live None) (before.slots k)
  pub shelf : after.shelf ≡ before.shelf
  pub components : after.components ≡ before.components
  pub joined : after.joined ≡ before.joined
  pub profile : after.profile ≡ before.profile
  pub tag : after.tag ≡ before.tag

-- a refusal hands the grant back
abbrev pub close_answer : Model → Grant → Result (Unit {0}) Unclosed
close_answer m g =
    cond (g.tag == m.tag && is_open (m.slots g.service)) (Ok tt)
    (Err (record { grant = g; fault = BadGrant }))

-- the service shuts, and its components, its parity and its words go; its next stays
pub record Closes (before : Model) (g : Grant) (r : Result (Unit {0}) Unclosed) (after : Model) : Type 0 where
  pub answer : r ≡ close_answer before g
  pub slots : (k : ℕ) → after.slots k ≡ cond (is_ok r && k == g.service) Shut (before.slots k)
  pub held : (k : ℕ) (q : Parity) → after.shelf.held k q ≡ cond (is_ok r && k == g.service) None (before.shelf.held k q)
  pub next : after.shelf.next ≡ before.shelf.next
  pub reads : after.shelf.reads ≡ before.shelf.reads
  pub components : after.components ≡ cond (is_ok r) (filter (λ c. not (c.1 == g.service)) before.components) before.components
  pub joined : (k : ℕ) → after.joined k ≡ cond (is_ok r) (without_service g.service (before.joined k)) (before.joined k)
  pub profile : after.profile ≡ before.profile
  pub tag : after.tag ≡ before.tag

abbrev pub join_answer : Model → ℕ → ℕ → Answer
join_answer m n pid =
    unless (closed m.slots n)
    (cond (nat_lt pid 32 || nat_lt 8190 pid) (Err PidRange)
    (cond (is_some (m.joined pid)) (Err AlreadyJoined)
    (cond (nat_lt (length m.components) 64) (Ok tt) (Err TableFull))))

-- the PID is joined to the service
pub record Joins (before : Model) (n pid : ℕ) (r : Answer) (after : Model) : Type 0 where
  pub answer : r ≡ join_answer before n pid
  pub components : after.components ≡ before.components ++ cond (is_ok r) ((pid, n) ∷ []) []
  pub joined : (k : ℕ) → after.joined k ≡ cond (is_ok r && k == pid) (Some n) (before.joined k)
  pub slots : after.slots ≡ before.slots
  pub shelf : after.shelf ≡ before.shelf
  pub profile : after.profile ≡ before.profile
  pub tag : after.tag ≡ before.tag

abbrev pub leave_answer : Model → ℕ → Answer
leave_answer m pid = cond (is_some (m.joined pid)) (Ok tt) (Err NotJoined)

-- the PID is joined to no service
pub record Leaves (before : Model) (pid : ℕ) (r : Answer) (after : Model) : Type 0 where
  pub answer : r ≡ leave_answer before pid
  pub components : after.components ≡ cond (is_ok r) (filter (λ c. not (c.0 == pid)) before.components) before.components
  pub joined : (k : ℕ) → after.joined k ≡ cond (is_ok r && k == pid) None (before.joined k)
  pub slots : after.slots ≡ before.slots
  pub shelf : after.shelf ≡ before.shelf
  pub profile : after.profile ≡ before.profile
  pub tag : after.tag ≡ before.tag

-- the shelf's fault travels whole
abbrev pub load_answer : Model → ℕ → ℕ → Answer
load_answer m n moment =
    unless (closed m.slots n)
    (cond (nat_lt 4000000000 moment) (Err BadMoment)
    (cond (nat_lt moment (m.shelf.next n)) (Err (Shelf (TooSoon n (m.shelf.next n)))) (Ok tt)))

-- the service holds, under that parity, what the shelf reads of the entry
pub record Loads (before : Model) (n : ℕ) (p : Parity) (entry : List ℕ) (moment : ℕ) (r : Answer) (after : Model) : Type 0 where
  pub answer : r ≡ load_answer before n moment
  pub held : (k : ℕ) (q : Parity) → after.shelf.held k q ≡ cond (is_ok r && here n p k q) (Some (before.shelf.reads entry)) (before.shelf.held k q)
  -- only the next of that service moves, and not far
  pub bound : is_ok r ≡ true → after.shelf.next n ≤ moment + 300
  pub stays : (k : ℕ) → (is_ok r && k == n) ≡ false → after.shelf.next k ≡ before.shelf.next k
  pub reads : after.shelf.reads ≡ before.shelf.reads
  pub slots : after.slots ≡ before.slots
  pub components : after.components ≡ before.components
  pub joined : after.joined ≡ before.joined
  pub profile : after.profile ≡ before.profile
  pub tag : after.tag ≡ before.tag

abbrev pub pick_answer : Model → ℕ → Parity → Answer
pick_answer m n p = unless (closed m.slots n) (cond (is_some (m.shelf.held n p)) (Ok tt) (Err NoWord))

-- the service scrambles under that parity
pub record Picks (before : Model) (n : ℕ) (p : Parity) (r : Answer) (after : Model) : Type 0 where
  pub answer : r ≡ pick_answer before n p
  pub slots : (k : ℕ) → after.slots k ≡ cond (is_ok r && k == n) (Live (Some p)) (before.slots k)
  pub shelf : after.shelf ≡ before.shelf
  pub components : after.components ≡ before.components
  pub joined : after.joined ≡ before.joined
  pub profile : after.profile ≡ before.profile
  pub tag : after.tag ≡ before.tag

-- the batch's fault travels whole
abbrev pub from_batch : Result (ℕ × ℕ) BatchFault → Counts
from_batch (Ok n) = Ok n
from_batch (Err f) = Err (Batch f)

-- what the batch itself answers at an engine
abbrev pub counts_of : Direction → Model → List ℕ → List ℕ → Result (ℕ × ℕ) BatchFault
counts_of d m area batch = batch_answer d m.profile (keys_of m) (length area) batch

-- a batch: the engine stays as it is
pub record Batches (d : Direction) (before : Model) (area batch : List ℕ) (r : Counts) (area' batch' : List ℕ) (after : Model) : Type 0 where
  pub answer : r ≡ from_batch (counts_of d before area batch)
  pub batched : Batched d before.profile (keys_of before) area batch (counts_of d before area batch) area' batch'
  pub stays : after ≡ before
