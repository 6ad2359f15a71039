-- The packets of a batch after an accepted call, and the two theorems.
use Rattle.std.proofs.Common.{◌≡◌, ℕ, ◌+◌, ◌*◌, ◌/◌, ◌<◌, Bool, true, false, cond, eqb, List, [], ◌∷◌, length, drop, Some, None, Ok, Err, Result, sym, refl, ap, ◌∙◌, subst, arith}
use Rattle.std.proofs.ByRecursion.{All-take, All-drop}
use Rattle.std.proofs.lemmas.List.Sums.{sum_by-cons}
use Rattle.batch.proofs.Passes.{packet_length, packet_of_turned, packets_length}
use Rattle.batch.proofs.Plans.{change_inside}
use Rattle.batch.specs.Batches.{batch_after, batch_answer, changed, counted, fits, objection_at}
use Rattle.batch.specs.Packets.{packet_at, packets, first_fault, follow, followed, changes, changed_count, passed_count}
use Rattle.batch.specs.Plan.{Keys, Plan, plan_of}
use Rattle.batch.specs.declared.faults.BatchFault.{BatchFault}
use Rattle.batch.specs.declared.faults.BatchFault.TheVariants.{KeyArea, BatchLength}
use Rattle.batch.specs.declared.plan.Change.{Change}
use Rattle.cipher.specs.declared.direction.Direction.{Direction}
use Rattle.cipher.specs.declared.direction.Direction.TheVariants.{Scramble, Descramble}
use Rattle.cipher.proofs.RoundTrip.{Lawful}
use Rattle.cipher.specs.Bytes.{Byte, Bytes, Block}
use Rattle.cipher.specs.Profiles.{Meaning}
use Rattle.packet.specs.Header.{header_of, pid_of}
use Rattle.restoring.specs.Restoring.{Alike, Restores, Leaves, CountsAll}
use Rattle.restoring.proofs.Packets.{changed_long, packet_restored, packet_scrambled}

-- a packet of a batch of bytes
pub packet_block : (batch : List ℕ) (i : ℕ) → Bytes batch → i < length batch / 188 → Block 188 (packet_at batch i)
packet_block batch i hb h = (packet_length batch i h, All-take Byte 188 (drop (188 * i) batch) (All-drop Byte (188 * i) batch hb))

-- a packet under its plan is as long as a packet
followed_long : (d : Direction) (m : Meaning) (keys : Keys) (p : List ℕ) → Lawful m → Block 16 m.iv → Block 188 p → length (followed (plan_of d keys) (changed d m) p) ≡ 188
followed_long d m keys p laws iv hp = go (plan_of d keys p) refl
  where
    go : (r : Plan) → plan_of d keys p ≡ r → length (follow (changed d m) r p) ≡ 188
    go (Ok (Some c)) e =
        let inside = change_inside d keys (header_of p) c (sym e) in
        changed_long d m c p laws iv hp (omega (arith, inside.1))
    go (Ok None) e = hp.0
    go (Err f) e = hp.0

-- the packet at each place after an accepted call
pub packet_after : (d : Direction) (m : Meaning) (keys : Keys) (batch : List ℕ) (i : ℕ) → Lawful m → Block 16 m.iv → Bytes batch → i < length batch / 188
    → packet_at (batch_after d m keys batch) i ≡ followed (plan_of d keys) (changed d m) (packet_at batch i)
packet_after d m keys batch i laws iv hb h =
    packet_of_turned (followed (plan_of d keys) (changed d m)) batch i (λ k lk. followed_long d m keys (packet_at batch k) laws iv (packet_block batch k hb lk)) h

-- a plan that changes a packet
planned_change : (r : Plan) → changes r ≡ true → (c : Change) × (r ≡ Ok (Some c))
planned_change (Ok (Some c)) e = (c, refl)
planned_change (Ok None) e = absurd (cc)
planned_change (Err f) e = absurd (cc)

-- one that does not
unchanged : (f : Change → List ℕ → List ℕ) (r : Plan) (p : List ℕ) → changes r ≡ false → follow f r p ≡ p
unchanged f (Ok (Some c)) p e = absurd (cc)
unchanged f (Ok None) p e = refl
unchanged f (Err x) p e = refl

pub restores : (m m₂ : Meaning) → Lawful m → Lawful m₂ → Block 16 m.iv → Alike m m₂ → Restores m m₂
restores m m₂ laws laws₂ iv alike keys area batch area' batch' counts b i inside changes =
    let p : List ℕ = packet_at batch i in
    let hp = packet_block batch i b.bytes inside in
    let pc = planned_change (plan_of Scramble keys p) changes in
    let c : Change = pc.0 in
    let is : packet_at batch' i ≡ changed Scramble m c p =
    ap (λ (xs : List ℕ). packet_at xs i) b.after
    ∙ packet_after Scramble m keys batch i laws iv b.bytes inside
    ∙ ap (λ (r : Plan). follow (changed Scramble m) r p) pc.1 in (
      packet_scrambled m keys p (packet_at batch' i) c laws iv hp pc.1 is,
      λ keys₂ area₂ batch₂ area₂' batch₂' counts₂ b₂ j inside₂ same service₂ joined held.
          let at : packet_at batch₂ j ≡ changed Scramble m c p = same ∙ is in
          ap (λ (xs : List ℕ). packet_at xs j) b₂.after
          ∙ packet_after Descramble m₂ keys₂ batch₂ j laws₂ (subst (Block 16) alike.iv iv) b₂.bytes inside₂
          ∙ ap (followed (plan_of Descramble keys₂) (changed Descramble m₂)) at
          ∙ packet_restored m m₂ keys keys₂ p c service₂ laws iv alike hp pc.1 (ap (λ (x : List ℕ). keys₂.joined (pid_of x)) (sym at) ∙ joined) held,
    )

pub leaves : (d : Direction) (m : Meaning) → Lawful m → Block 16 m.iv → Leaves d m
leaves d m laws iv keys area batch area' batch' counts b i inside same =
    ap (λ (xs : List ℕ). packet_at xs i) b.after
    ∙ packet_after d m keys batch i laws iv b.bytes inside
    ∙ unchanged (changed d m) (plan_of d keys (packet_at batch i)) (packet_at batch i) same

-- what an accepted answer says: the area and the batch have their lengths, no packet is refused, and each is counted
pub record Accepted (d : Direction) (m : Meaning) (keys : Keys) (area : ℕ) (batch : List ℕ) (counts : ℕ × ℕ) : Type 0 where
  pub area_fits : eqb area m.schedule_length ≡ true
  pub batch_fits : fits (length batch) ≡ true
  pub none_refused : first_fault (plan_of d keys) objection_at 0 (packets batch) ≡ Ok tt
  pub counts_are : counts ≡ (changed_count (plan_of d keys) (packets batch), passed_count (plan_of d keys) (packets batch))

pub accepted : (d : Direction) (m : Meaning) (keys : Keys) (area : ℕ) (batch : List ℕ) (counts : ℕ × ℕ) → Ok counts ≡ batch_answer d m keys area batch → Accepted d m keys area batch counts
accepted d m keys area batch counts e =
    go (eqb area m.schedule_length) (fits (length batch)) (first_fault (plan_of d keys) objection_at 0 (packets batch)) refl refl refl e
  where
    go : (x y : Bool) (r : Result (Unit {0}) BatchFault) → eqb area m.schedule_length ≡ x → fits (length batch) ≡ y → first_fault (plan_of d keys) objection_at 0 (packets batch) ≡ r
        → Ok counts ≡ cond x (cond y (counted r (changed_count (plan_of d keys) (packets batch), passed_count (plan_of d keys) (packets batch))) (Err (BatchLength (length batch)))) (Err (KeyArea area)) → Accepted d m keys area batch counts
    go true true (Ok u) a f r e = record { area_fits = a; batch_fits = f; none_refused = r; counts_are = cc }
    go true true (Err x) a f r e = absurd (cc)
    go true false r a f q e = absurd (cc)
    go false y r a f q e = absurd (cc)

-- each packet is counted once
count_all : (plan : List ℕ → Plan) (ps : List (List ℕ)) → changed_count plan ps + passed_count plan ps ≡ length ps
count_all plan [] = refl
count_all plan (p ∷ ps) =
    let x = sum_by-cons (λ q. cond (changes (plan q)) 1 0) p ps in
    let y = sum_by-cons (λ q. cond (changes (plan q)) 0 1) p ps in
    let one : cond (changes (plan p)) 1 0 + cond (changes (plan p)) 0 1 ≡ 1 =
    elim (changes (plan p)) as (λ v. cond v 1 0 + cond v 0 1 ≡ 1) [ true ↦ refl | false ↦ refl ] in
    let all = count_all plan ps in
    omega arith

pub counts_all : (d : Direction) (m : Meaning) → CountsAll d m
counts_all d m keys area batch area' batch' counts b =
    let a = accepted d m keys (length area) batch counts b.answer in
    ap (λ (n : ℕ × ℕ). n.0 + n.1) a.counts_are ∙ count_all (plan_of d keys) (packets batch) ∙ packets_length batch
