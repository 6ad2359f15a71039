-- An engine as its callers see it.
use Rattle.std.specs.Prelude.{ℕ, Bool, true, false, List, map, None, Option, slice_index_or}
use Rattle.batch.specs.Plan.{Keys}
use Rattle.cipher.specs.Profiles.{Meaning, meaning}
use Rattle.cipher.specs.declared.cipher.Cipher.{Ghosts as CipherGhosts}
use Rattle.cipher.specs.declared.tail.TailRule.{Ghosts as TailGhosts}
use Rattle.component.specs.Table.{components_of, joined}
use Rattle.component.specs.declared.components.Components.{Components}
use Rattle.shelf.specs.Meaning.{ShelfMeaning}
use Rattle.shelf.specs.Shelves.{meaning_of}
use Rattle.shelf.specs.declared.shelf.Shelf.{Ghosts as ShelfGhosts}
use Rattle.word.specs.declared.parity.Parity.{Parity}
use Rattle.engine.specs.declared.desk.Desk.{Desk}
use Rattle.engine.specs.declared.desk.Slot.{Slot}
use Rattle.engine.specs.declared.desk.Slot.TheVariants.{Shut, Live}
use Rattle.engine.specs.declared.engine.Engine.{Engine}

pub record Model : Type 0 where
  -- cipher, tail rule and initial vector
  pub profile : Meaning
  pub shelf : ShelfMeaning
  -- whether each service is open, and its picked parity
  pub slots : ℕ → Slot
  -- each component's PID and service, in the order in which they were joined
  pub components : List (ℕ × ℕ)
  -- the service that a PID is joined to
  pub joined : ℕ → Option ℕ
  pub tag : ℕ

abbrev pub is_open : Slot → Bool
is_open Shut = false
is_open (Live q) = true

-- the parity that is picked, if any
abbrev pub parity_in : Slot → Option Parity
parity_in Shut = None
parity_in (Live q) = q

-- the slot of each service; a service above 31 is shut
abbrev pub slots_of : {S : Type 0} → Desk S → ℕ → Slot
slots_of d k = slice_index_or d.slots k Shut

-- the PID and the service of each component
abbrev pub pairs_of : Components → List (ℕ × ℕ)
pairs_of t = map (λ c. (c.pid, c.service.number)) (components_of t)

abbrev pub model_of : {C T S : Type 0} → CipherGhosts C → TailGhosts T → ShelfGhosts S → Engine C T S → Model
model_of c t s e = record {
  profile = meaning c t e.profile;
  shelf = meaning_of s e.desk.shelf;
  slots = slots_of e.desk;
  components = pairs_of e.desk.components;
  joined = joined e.desk.components;
  tag = e.tag;
}

-- what a batch asks of an engine
abbrev pub keys_of : Model → Keys
keys_of m = record { joined = m.joined; picked = λ k. parity_in (m.slots k); held = m.shelf.held }

-- what an engine is made of
pub record Given : Type 0 where
  pub profile : Meaning
  pub shelf : ShelfMeaning
  pub tag : ℕ

abbrev pub given_of : {C T S : Type 0} → CipherGhosts C → TailGhosts T → ShelfGhosts S → C → T → List ℕ → S → ℕ → Given
given_of c t s cipher tail iv shelf tag = record {
  profile = record {
    width = c.WIDTH;
    schedule_length = c.SCHEDULE;
    schedule = c.schedule cipher;
    E = c.E cipher;
    D = c.D cipher;
    on = t.on tail;
    off = t.off tail;
    iv = iv;
  };
  shelf = meaning_of s shelf;
  tag = tag;
}
