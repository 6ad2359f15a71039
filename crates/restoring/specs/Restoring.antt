-- What one scramble call changed, a descramble call under the same word restores.
use Rattle.std.specs.Prelude.{◌≡◌, ℕ, ◌+◌, ◌/◌, ◌<◌, true, false, List, length, Some, Ok}
use Rattle.batch.specs.Batches.{Batched, changed, control_after}
use Rattle.batch.specs.Packets.{packet_at, changes}
use Rattle.batch.specs.Plan.{Keys, plan_of}
use Rattle.cipher.specs.declared.direction.Direction.{Direction}
use Rattle.cipher.specs.declared.direction.Direction.TheVariants.{Scramble, Descramble}
use Rattle.cipher.specs.Bytes.{Bytes}
use Rattle.cipher.specs.Profiles.{Meaning, meaning}
use Rattle.cipher.specs.declared.cipher.Cipher.{Ghosts as CipherGhosts}
use Rattle.cipher.specs.declared.profile.Profile.{Profile}
use Rattle.cipher.specs.declared.tail.TailRule.{Ghosts as TailGhosts}
use Rattle.packet.specs.Header.{header_of, payload_start, pid_of}
use Rattle.packet.specs.declared.header.ScramblingControl.TheVariants.{Clear}
use Rattle.word.specs.declared.parity.Parity.{Parity}
use Rattle.word.specs.declared.word.Word.{Word}

-- the second descrambles as the first: the same block length, E, D, tail rule and initial vector
pub record Alike (m m₂ : Meaning) : Type 0 where
  pub width : m.width ≡ m₂.width
  pub E : (w : Word) (block : List ℕ) → m.E w block ≡ m₂.E w block
  pub D : (w : Word) (block : List ℕ) → m.D w block ≡ m₂.D w block
  pub off : (mask tail : List ℕ) → m.off mask tail ≡ m₂.off mask tail
  pub iv : m.iv ≡ m₂.iv

-- the packet after is the clear packet before, scrambled under the word that the keys hold for its service and picked parity
pub record Scrambled (m : Meaning) (keys : Keys) (before after : List ℕ) : Type 0 where
  pub service : ℕ
  pub parity : Parity
  pub word : Word
  pub start : ℕ
  pub clear : (header_of before).control ≡ Clear
  pub joined : keys.joined (pid_of before) ≡ Some service
  pub picked : keys.picked service ≡ Some parity
  pub held : keys.held service parity ≡ Some word
  pub starts : payload_start (header_of before) ≡ Ok (Some start)
  -- it now shows its parity, and its PID is as it was
  pub shows : (header_of after).control ≡ control_after Scramble parity
  pub named : pid_of after ≡ pid_of before
  pub bytes : after ≡ changed Scramble m (record { word = word; parity = parity; start = start }) before

-- Every packet that an accepted scramble call changed is scrambled, and comes out of an accepted descramble call as it was
-- wherever it comes in, whatever comes in with it, if the keys there join its PID to a service that holds the word under the parity.
abbrev pub Restores : Meaning → Meaning → Type 0
Restores m m₂ =
    (keys : Keys) (area batch area' batch' : List ℕ) (counts : ℕ × ℕ) → Batched Scramble m keys area batch (Ok counts) area' batch' →
    (i : ℕ) → i < length batch / 188 → changes (plan_of Scramble keys (packet_at batch i)) ≡ true →
    (s : Scrambled m keys (packet_at batch i) (packet_at batch' i))
    × ((keys₂ : Keys) (area₂ batch₂ area₂' batch₂' : List ℕ) (counts₂ : ℕ × ℕ) → Batched Descramble m₂ keys₂ area₂ batch₂ (Ok counts₂) area₂' batch₂' →
    (j : ℕ) → j < length batch₂ / 188 → packet_at batch₂ j ≡ packet_at batch' i →
    (service₂ : ℕ) → keys₂.joined (pid_of (packet_at batch₂ j)) ≡ Some service₂ → keys₂.held service₂ s.parity ≡ Some s.word →
    packet_at batch₂' j ≡ packet_at batch i)

-- of a profile and any that descrambles as it
abbrev pub ProfilesRestore : {C T R U : Type 0} → CipherGhosts C → TailGhosts T → CipherGhosts R → TailGhosts U → Type 0
ProfilesRestore {C} {T} {R} {U} c t r u =
    (p : Profile C T) (p₂ : Profile R U) → Bytes p.iv → Alike (meaning c t p) (meaning r u p₂) → Restores (meaning c t p) (meaning r u p₂)

-- a packet that an accepted call did not change is as it was
abbrev pub Leaves : Direction → Meaning → Type 0
Leaves d m =
    (keys : Keys) (area batch area' batch' : List ℕ) (counts : ℕ × ℕ) → Batched d m keys area batch (Ok counts) area' batch' →
    (i : ℕ) → i < length batch / 188 → changes (plan_of d keys (packet_at batch i)) ≡ false →
    packet_at batch' i ≡ packet_at batch i

-- each packet of an accepted batch is counted once
abbrev pub CountsAll : Direction → Meaning → Type 0
CountsAll d m =
    (keys : Keys) (area batch area' batch' : List ℕ) (counts : ℕ × ℕ) → Batched d m keys area batch (Ok counts) area' batch' →
    counts.0 + counts.1 ≡ length batch / 188

-- of every profile, in both directions
abbrev pub ProfilesLeave : {C T : Type 0} → CipherGhosts C → TailGhosts T → Type 0
ProfilesLeave {C} {T} c t = (d : Direction) (p : Profile C T) → Bytes p.iv → Leaves d (meaning c t p) × CountsAll d (meaning c t p)
