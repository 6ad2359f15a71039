-- What one engine scrambles, an engine that is alike restores.
use Rattle.std.proofs.Common.{◌≡◌, ℕ, ◌/◌, ◌<◌, true, List, length, Some, Ok, Err, Option, Result, sym, refl, ap, ◌∙◌, subst, ⊎_elim}
use Rattle.std.proofs.lemmas.Bool.{cases_Bool}
use Rattle.batch.specs.Batches.{Batched}
use Rattle.batch.specs.Packets.{packet_at, changes}
use Rattle.batch.specs.Plan.{Keys, plan_of}
use Rattle.batch.specs.declared.faults.BatchFault.{BatchFault}
use Rattle.cipher.specs.declared.direction.Direction.TheVariants.{Scramble, Descramble}
use Rattle.cipher.proofs.RoundTrip.{Lawful}
use Rattle.cipher.specs.Bytes.{Block}
use Rattle.cipher.specs.Profiles.{Meaning}
use Rattle.engine.specs.Calls.{counts_of, from_batch}
use Rattle.engine.specs.Model.{Model, Given, keys_of}
use Rattle.engine.specs.Runs.{Call}
use Rattle.packet.specs.Header.{pid_of}
use Rattle.restoring.proofs.Calls.{restores, leaves}
use Rattle.restoring.specs.Restoring.{Alike, Scrambled}
use Rattle.word.specs.declared.word.Word.{Word}
use Rattle.law.specs.Law.{joined_by, keys_by, Restored, Law}
use Rattle.law.proofs.Keeps.{Holds, holds, after_run}

-- a call that changed a packet was accepted, and its plan was to change that packet
changed_by : (m : Meaning) (keys : Keys) (area batch : List ℕ) (c : Result (ℕ × ℕ) BatchFault) (area' batch' : List ℕ) → Lawful m → Block 16 m.iv
    → Batched Scramble m keys area batch c area' batch' → (i : ℕ) → i < length batch / 188 → (packet_at batch' i ≡ packet_at batch i → ⊥)
    → (counts : ℕ × ℕ) × Batched Scramble m keys area batch (Ok counts) area' batch' × (changes (plan_of Scramble keys (packet_at batch i)) ≡ true)
changed_by m keys area batch (Ok n) area' batch' laws iv b i inside differs =
    (n, b, ⊎_elim (λ t. t) (λ f. absurd (differs (leaves Scramble m laws iv keys area batch area' batch' n b i inside f))) (cases_Bool (changes (plan_of Scramble keys (packet_at batch i)))))
changed_by m keys area batch (Err f) area' batch' laws iv b i inside differs = absurd (differs (ap (λ (xs : List ℕ). packet_at xs i) b.after))

-- the engine accepts what the batch does
from_batch_lem : (counts : ℕ × ℕ) (c : Result (ℕ × ℕ) BatchFault) → Ok counts ≡ from_batch c → c ≡ Ok counts
from_batch_lem counts (Ok n) e = cc
from_batch_lem counts (Err f) e = cc

-- a packet is scrambled in one way only
same_word : (m : Meaning) (keys : Keys) (p p' : List ℕ) (s t : Scrambled m keys p p') → (s.parity ≡ t.parity) × (s.word ≡ t.word)
same_word m keys p p' s t =
    let service : s.service ≡ t.service = some_in (sym s.joined ∙ t.joined) in
    let parity : s.parity ≡ t.parity = some_in (sym s.picked ∙ ap keys.picked service ∙ t.picked) in
    let word : s.word ≡ t.word = some_in (sym s.held ∙ ap (λ (k : ℕ). keys.held k s.parity) service ∙ ap (keys.held t.service) parity ∙ t.held) in
    (parity, word)
  where
    some_in : {A : Type 0} {x y : A} → ◌≡◌ {A = Option A} (Some x) (Some y) → x ≡ y
    some_in e = cc

like_itself : (m : Meaning) → Alike m m
like_itself m = record { width = refl; E = λ w b. refl; D = λ w b. refl; off = λ x y. refl; iv = refl }

-- scrambled by what the engine has, and so by what its calls say
abbrev by_calls : (given : Given) (calls : List Call) (m : Model) (p p' : List ℕ) → Holds given calls m
    → Scrambled given.profile (keys_of m) p p' → Scrambled given.profile (keys_by given calls) p p'
by_calls given calls m p p' h s =
    let joined : joined_by calls (pid_of p) ≡ Some s.service = sym (h.joined (pid_of p)) ∙ s.joined in
    record {
      service = s.service;
      parity = s.parity;
      word = s.word;
      start = s.start;
      clear = s.clear;
      joined = joined;
      picked = sym (h.slots.picked s.service) ∙ s.picked;
      held = sym (h.shelf.words s.service s.parity (h.joined_known (pid_of p) s.service joined)) ∙ s.held;
      starts = s.starts;
      shows = s.shows;
      named = s.named;
      bytes = s.bytes;
    }

module _ {E F : Type 0} (one : E → Model) (two : F → Model) (lawful : (e : E) → Lawful (one e).profile) (lawful₂ : (f : F) → Lawful (two f).profile) where
  restored : Restored one two
  restored given calls e run area batch area' batch' r after s i inside differs =
      let h = holds one given calls e run in
      let m : Meaning = given.profile in
      let keys : Keys = keys_of (one e) in
      let laws : Lawful m = subst (λ (x : Meaning). Lawful x) h.profile (lawful e) in
      let c : Result (ℕ × ℕ) BatchFault = counts_of Scramble (one e) area batch in
      let b = changed_by m keys area batch c area' batch' laws h.iv (subst (λ (x : Meaning). Batched Scramble x keys area batch c area' batch') h.profile s.batched) i inside differs in
      let own = (restores m m laws laws h.iv (like_itself m) keys area batch area' batch' b.0 b.1 i inside b.2).0 in (
        by_calls given calls (one e) (packet_at batch i) (packet_at batch' i) h own,
        λ given₂ calls₂ f run₂ alike area₂ batch₂ area₂' batch₂' counts after₂ s₂ j inside₂ same service₂ joined held.
            let h₂ = holds two given₂ calls₂ f run₂ in
            let m₂ : Meaning = given₂.profile in
            let keys₂ : Keys = keys_of (two f) in
            let laws₂ : Lawful m₂ = subst (λ (x : Meaning). Lawful x) h₂.profile (lawful₂ f) in
            let c₂ : Result (ℕ × ℕ) BatchFault = counts_of Descramble (two f) area₂ batch₂ in
            let b₂ : Batched Descramble m₂ keys₂ area₂ batch₂ (Ok counts) area₂' batch₂' =
            subst (λ (x : Result (ℕ × ℕ) BatchFault). Batched Descramble m₂ keys₂ area₂ batch₂ x area₂' batch₂') (from_batch_lem counts c₂ s₂.answer)
            (subst (λ (x : Meaning). Batched Descramble x keys₂ area₂ batch₂ c₂ area₂' batch₂') h₂.profile s₂.batched) in
            let both = restores m m₂ laws laws₂ h.iv alike keys area batch area' batch' b.0 b.1 i inside b.2 in
            let way = same_word m keys (packet_at batch i) (packet_at batch' i) own both.0 in
            let word : keys₂.held service₂ both.0.parity ≡ Some both.0.word =
            ap (keys₂.held service₂) (sym way.0)
            ∙ h₂.shelf.words service₂ own.parity (h₂.joined_known (pid_of (packet_at batch₂ j)) service₂ joined)
            ∙ held
            ∙ ap (λ (w : Word). Some w) way.1 in
            both.1 keys₂ area₂ batch₂ area₂' batch₂' counts b₂ j inside₂ same service₂ (h₂.joined (pid_of (packet_at batch₂ j)) ∙ joined) word,
      )

  pub law : Law one two
  law = record { runs = after_run one; restoring = restored }
