-- A batch that is scrambled at one engine and descrambled at another.
use Rattle.std.specs.Prelude.{◌≡◌, ℕ, ◌/◌, ◌<◌, true, List, length, is_ok, Some, Ok, Err, Result, ◌≢◌}
use Rattle.batch.specs.Packets.{packet_at}
use Rattle.engine.specs.Calls.{Counts}
use Rattle.engine.specs.Model.{Model, Given}
use Rattle.engine.specs.Runs.{Call, scrambles, descrambles, Step, Run}
use Rattle.engine.specs.declared.faults.EngineFault.{EngineFault}
use Rattle.packet.specs.Header.{pid_of}
use Rattle.restoring.specs.Restoring.{Alike, Scrambled}
use Rattle.law.specs.Law.{joined_by, keys_by, word_by}
use Rattle.law.specs.declared.rehearsal.Rehearsal.{Rehearsal}

abbrev pub Answer : Type 0
Answer = Result Rehearsal EngineFault

-- the counts of both calls, or the second's fault
abbrev pub both_counts : ℕ × ℕ → Counts → Answer
both_counts n (Ok n₂) = Ok (record { scrambled = n; descrambled = n₂ })
both_counts n (Err f) = Err f

-- the second call, which is made only if the first is accepted
abbrev pub Follows : Model → Counts → List ℕ → List ℕ → Answer → List ℕ → List ℕ → Type 0
Follows two (Ok n) area batch r area' batch' = (r₂ : Counts) × Step two (descrambles area batch r₂ area' batch') two × (r ≡ both_counts n r₂)
Follows two (Err f) area batch r area' batch' = (r ≡ Err f) × (area' ≡ area) × (batch' ≡ batch)

-- what the law says of a batch that was scrambled and descrambled: each packet that was changed is back, if its word is there
abbrev pub Returns : {E F : Type 0} → (E → Model) → (F → Model) → E → F → List ℕ → List ℕ → List ℕ → Type 0
Returns one two e f batch scrambled batch' =
    (given : Given) (calls : List Call) → Run one given calls e →
    (i : ℕ) → i < length batch / 188 → (packet_at scrambled i ≢ packet_at batch i) →
    (s : Scrambled given.profile (keys_by given calls) (packet_at batch i) (packet_at scrambled i))
    × ((given₂ : Given) (calls₂ : List Call) → Run two given₂ calls₂ f → Alike given.profile given₂.profile →
    (service₂ : ℕ) → joined_by calls₂ (pid_of (packet_at batch i)) ≡ Some service₂ → word_by given₂ calls₂ service₂ s.parity ≡ Some s.word →
    packet_at batch' i ≡ packet_at batch i)

pub record Rehearses {E F : Type 0} (one : E → Model) (two : F → Model) (e : E) (f : F) (area area₂ batch : List ℕ) (r : Answer) (area' area₂' batch' : List ℕ) : Type 0 where
  -- the first call's answer, and the batch as it leaves it
  pub answer : Counts
  pub scrambled : List ℕ
  pub first : Step (one e) (scrambles area batch answer area' scrambled) (one e)
  pub second : Follows (two f) answer area₂ scrambled r area₂' batch'
  pub returns : is_ok r ≡ true → Returns one two e f batch scrambled batch'
