-- The engine of the program: CISSA over a pacing plain shelf, tag 1.
use Rattle.std.specs.Prelude.{ℕ, max, cond, List, [], Some, None, Ok, ◌==◌}
use Rattle.aes.specs.Inverse.{inv_cipher}
use Rattle.aes.specs.KeyExpansion.{key_expansion}
use Rattle.aes.specs.Rounds.{cipher}
use Rattle.cipher.specs.Profiles.{Meaning}
use Rattle.cipher.specs.contracts.tail.ClearTailTailRule.TheImpl.{ghosts as clear_tail}
use Rattle.cipher.specs.declared.tail.ClearTail.{ClearTail}
use Rattle.engine.specs.Model.{Model, Given, model_of}
use Rattle.engine.specs.Runs.{Call, opens}
use Rattle.engine.specs.declared.desk.Slot.TheVariants.{Shut, Live}
use Rattle.engine.specs.declared.engine.Engine.{Engine}
use Rattle.profile.specs.Vectors.{cissa_vector}
use Rattle.profile.specs.contracts.ciphers.Aes128Cipher.TheImpl.{ghosts as aes128}
use Rattle.profile.specs.declared.ciphers.Aes128.{Aes128}
use Rattle.shelf.specs.Meaning.{ShelfMeaning}
use Rattle.shelf.specs.Onward.{paced_through}
use Rattle.shelf.specs.Paces.{rested}
use Rattle.shelf.specs.Shelves.{pace_at, pacing_meaning}
use Rattle.shelf.specs.contracts.plain.PlainShelfShelf.TheImpl.{ghosts as plain}
use Rattle.shelf.specs.declared.pacing.Pacing.{Pacing}
use Rattle.shelf.specs.declared.plain.PlainShelf.{PlainShelf}
use Rattle.shelf.specs.declared.shelf.Shelf.{Ghosts as ShelfGhosts}
use Rattle.word.specs.Words.{word_of, word_bytes}
use Rattle.wire.specs.States.{State}

-- the next of a service of a pacing plain shelf once it took words at further moments, the first one first: a plain shelf's is 0
abbrev pub paced_after : Pacing PlainShelf → ℕ → List ℕ → ℕ
paced_after s k moments = max (paced_through (pace_at s k) moments).next 0

-- a pacing shelf above a plain one
abbrev pub pacing_plain : ShelfGhosts (Pacing PlainShelf)
pacing_plain = record {
  reads = λ s. (pacing_meaning plain s).reads;
  held = λ s. (pacing_meaning plain s).held;
  next = λ s. (pacing_meaning plain s).next;
  next_after = λ s. Some (paced_after s);
}

-- the program's engine as its callers see it
abbrev pub view_of : Engine Aes128 ClearTail (Pacing PlainShelf) → Model
view_of = model_of aes128 clear_tail pacing_plain

-- the state of the program's engine
abbrev pub state_of : Engine Aes128 ClearTail (Pacing PlainShelf) → State
state_of e = record { model = view_of e; next_after = paced_after e.desk.shelf }

-- CISSA: AES-128, the clear rule and a vector of its own
abbrev pub cissa : Meaning
cissa = record {
  width = 16;
  schedule_length = 176;
  schedule = λ w. key_expansion (word_bytes w);
  E = λ w b. cipher (key_expansion (word_bytes w)) b;
  D = λ w b. inv_cipher (key_expansion (word_bytes w)) b;
  on = λ mask tail. tail;
  off = λ mask tail. tail;
  iv = cissa_vector;
}

-- a pacing plain shelf that has taken no word yet
abbrev pub fresh_shelf : ShelfMeaning
fresh_shelf = record {
  reads = word_of;
  held = λ k q. None;
  next = λ k. 0;
}

-- what the engine is made of
abbrev pub program_given : Given
program_given = record { profile = cissa; shelf = fresh_shelf; tag = 1 }

-- the state in which fields are first read: service 0 is open
abbrev pub opening : State
opening = record {
  model = record {
    profile = cissa;
    shelf = fresh_shelf;
    slots = λ k. cond (k == 0) (Live None) Shut;
    components = [];
    joined = λ k. None;
    tag = 1;
  };
  next_after = λ k moments. (paced_through rested moments).next;
}

-- the call that opened it
abbrev pub opening_call : Call
opening_call = opens 0 (Ok (record { tag = 1; service = 0 }))
