-- A batch that was scrambled and is descrambled with the same keys.
use Rattle.std.proofs.Common.{◌≡◌, ℕ, zero, suc, ◌+◌, ◌*◌, ◌/◌, ◌%◌, ◌<◌, Bool, true, cond, eqb, leb, List, [], ◌∷◌, ◌++◌, map, length, get_or, take, replicate, is_ok, Some, None, Ok, Err, Option, Result, sym, refl, ap, ◌∙◌, subst, add-one, arith, take-add}
use Rattle.std.proofs.lemmas.List.{take_all}
use Rattle.std.proofs.lemmas.Bool.{and_parts, eqb-true}
use Rattle.std.specs.List.{range_with_len, flat_map as joined}
use Rattle.batch.proofs.Passes.{joined_step, packets_length, packets_get_or}
use Rattle.batch.specs.Batches.{Batched, batch_after, batch_answer, changed, counted, fits, objection_at}
use Rattle.batch.specs.Packets.{packet_at, packets, or_else, first_fault, follow, followed, changed_count, passed_count}
use Rattle.batch.specs.Plan.{Keys, Plan, plan_of}
use Rattle.batch.specs.declared.faults.BatchFault.{BatchFault}
use Rattle.batch.specs.declared.faults.BatchFault.TheVariants.{KeyArea, BatchLength}
use Rattle.batch.specs.declared.plan.Change.{Change}
use Rattle.cipher.specs.declared.direction.Direction.TheVariants.{Scramble, Descramble}
use Rattle.batch.specs.declared.plan.Objection.{Objection}
use Rattle.cipher.proofs.RoundTrip.{Lawful}
use Rattle.cipher.specs.Bytes.{Block}
use Rattle.cipher.specs.Profiles.{Meaning}
use Rattle.packet.specs.Header.{header_of}
use Rattle.restoring.specs.Restoring.{Alike}
use Rattle.restoring.proofs.Calls.{packet_block, packet_after, accepted}
use Rattle.restoring.proofs.Packets.{packet_shows, packet_planned, packet_restored}
use Rattle.restoring.proofs.Plans.{planned, passed_back}

-- a packet that is not refused
abbrev Answered : Plan → Type 0
Answered r = (o : Option Change) × (r ≡ Ok o)

ok_first : (r : Plan) (up : Objection → BatchFault) (rest : Result (Unit {0}) BatchFault) → or_else r up rest ≡ Ok tt → Answered r × (rest ≡ Ok tt)
ok_first (Ok o) up rest e = ((o, refl), e)
ok_first (Err f) up rest e = absurd (cc)

-- none is refused where none is faulty
answered_in : (plan : List ℕ → Plan) (ps : List (List ℕ)) (k i : ℕ) → first_fault plan objection_at k ps ≡ Ok tt → i < length ps → Answered (plan (get_or ps i []))
answered_in plan [] k i e h = absurd (omega arith)
answered_in plan (p ∷ ps) k zero e h = (ok_first (plan p) (objection_at k) (first_fault plan objection_at (k + 1) ps) e).0
answered_in plan (p ∷ ps) k (suc i) e h = answered_in plan ps (k + 1) i (ok_first (plan p) (objection_at k) (first_fault plan objection_at (k + 1) ps) e).1 (omega arith)

pub answered_at : (plan : List ℕ → Plan) (batch : List ℕ) (i : ℕ) → first_fault plan objection_at 0 (packets batch) ≡ Ok tt → i < length batch / 188 → Answered (plan (packet_at batch i))
answered_at plan batch i e h =
    subst (λ (p : List ℕ). Answered (plan p)) (packets_get_or batch i h) (answered_in plan (packets batch) 0 i e (omega (arith, packets_length batch)))

-- and the other way round
none_faulty_in : (plan : List ℕ → Plan) (ps : List (List ℕ)) (k : ℕ) → ((i : ℕ) → i < length ps → Answered (plan (get_or ps i []))) → first_fault plan objection_at k ps ≡ Ok tt
none_faulty_in plan [] k all = refl
none_faulty_in plan (p ∷ ps) k all =
    ap (λ (r : Plan). or_else r (objection_at k) (first_fault plan objection_at (k + 1) ps)) (all 0 (omega arith)).1
    ∙ none_faulty_in plan ps (k + 1) (λ i h. all (suc i) (omega arith))

pub none_faulty : (plan : List ℕ → Plan) (batch : List ℕ) → ((i : ℕ) → i < length batch / 188 → Answered (plan (packet_at batch i))) → first_fault plan objection_at 0 (packets batch) ≡ Ok tt
none_faulty plan batch all =
    none_faulty_in plan (packets batch) 0
    (λ i h. let lt : i < length batch / 188 = omega (arith, packets_length batch) in subst (λ (p : List ℕ). Answered (plan p)) (sym (packets_get_or batch i lt)) (all i lt))

-- packets that are those of a batch, put together
put_together : (f : List ℕ → List ℕ) (xs ys : List ℕ) (i : ℕ) → ((k : ℕ) → k < i → f (packet_at xs k) ≡ packet_at ys k) → joined f (map (packet_at xs) (range_with_len 0 i)) ≡ take (188 * i) ys
put_together f xs ys zero same = refl
put_together f xs ys (suc i) same =
    let n : 188 * suc i ≡ 188 * i + 188 = omega arith in
    ap (λ (k : ℕ). joined f (map (packet_at xs) (range_with_len 0 k))) (sym (add-one i))
    ∙ joined_step f (packet_at xs) i
    ∙ ap (λ (z : List ℕ). z ++ f (packet_at xs i)) (put_together f xs ys i (λ k h. same k (omega arith)))
    ∙ ap (λ (z : List ℕ). take (188 * i) ys ++ z) (same i (omega arith))
    ∙ sym (ap (λ (k : ℕ). take k ys) n ∙ take-add (188 * i) 188 ys)

pub whole : (f : List ℕ → List ℕ) (xs ys : List ℕ) → length xs ≡ length ys → length ys % 188 ≡ 0 → ((i : ℕ) → i < length ys / 188 → f (packet_at xs i) ≡ packet_at ys i) → joined f (packets xs) ≡ ys
whole f xs ys long even same =
    ap (λ (k : ℕ). joined f (map (packet_at xs) (range_with_len 0 (k / 188)))) long
    ∙ put_together f xs ys (length ys / 188) same
    ∙ take_all (188 * (length ys / 188)) ys (omega arith)

itself : (m : Meaning) → Alike m m
itself m = record { width = refl; E = λ w b. refl; D = λ w b. refl; off = λ x y. refl; iv = refl }

-- a packet that was not refused, and what is to become of it again
packet_again : (m : Meaning) (keys : Keys) (p : List ℕ) (r : Plan) → Lawful m → Block 16 m.iv → Block 188 p → plan_of Scramble keys p ≡ r → Answered r
    → Answered (plan_of Descramble keys (follow (changed Scramble m) r p)) × (followed (plan_of Descramble keys) (changed Descramble m) (follow (changed Scramble m) r p) ≡ p)
packet_again m keys p (Ok (Some c)) laws iv hp e a =
    let pl = planned keys (header_of p) c e in
    let joined = ap keys.joined (packet_shows m keys p c laws iv hp e).pid ∙ pl.joined in (
      (Some c, packet_planned m keys keys p c pl.service laws iv hp e joined pl.held),
      packet_restored m m keys keys p c pl.service laws iv (itself m) hp e joined pl.held,
    )
packet_again m keys p (Ok None) laws iv hp e a =
    let back = passed_back keys (header_of p) e in ((None, back), ap (λ (r : Plan). follow (changed Descramble m) r p) back)
packet_again m keys p (Err f) laws iv hp e a = let n = a.1 in absurd (cc)

accepts : (m : Meaning) (keys : Keys) (area : ℕ) (batch : List ℕ) → eqb area m.schedule_length ≡ true → fits (length batch) ≡ true
    → first_fault (plan_of Descramble keys) objection_at 0 (packets batch) ≡ Ok tt → is_ok (batch_answer Descramble m keys area batch) ≡ true
accepts m keys area batch a f none =
    let n : ℕ × ℕ = (changed_count (plan_of Descramble keys) (packets batch), passed_count (plan_of Descramble keys) (packets batch)) in
    ap (λ (x : Bool). is_ok (cond x (cond (fits (length batch)) (counted (first_fault (plan_of Descramble keys) objection_at 0 (packets batch)) n) (Err (BatchLength (length batch)))) (Err (KeyArea area)))) a
    ∙ ap (λ (x : Bool). is_ok (cond x (counted (first_fault (plan_of Descramble keys) objection_at 0 (packets batch)) n) (Err (BatchLength (length batch))))) f
    ∙ ap (λ (x : Result (Unit {0}) BatchFault). is_ok (counted x n)) none

-- a batch that was scrambled is accepted again, and is as it was; the area ends as after one call
pub rehearsed : (m : Meaning) (keys : Keys) (area batch area' batch' area'' batch'' : List ℕ) (counts : ℕ × ℕ) (r : Result (ℕ × ℕ) BatchFault) → Lawful m → Block 16 m.iv
    → length area' ≡ length area → length batch' ≡ length batch → Batched Scramble m keys area batch (Ok counts) area' batch' → Batched Descramble m keys area' batch' r area'' batch''
    → (is_ok r ≡ true) × (batch'' ≡ batch) × (area'' ≡ cond (eqb (length area) m.schedule_length) (replicate (length area) 0) area)
rehearsed m keys area batch area' batch' area'' batch'' counts r laws iv la lb b b₂ =
    let a = accepted Scramble m keys (length area) batch counts b.answer in
    let after : (i : ℕ) → i < length batch / 188 → packet_at batch' i ≡ followed (plan_of Scramble keys) (changed Scramble m) (packet_at batch i) =
    λ i h. ap (λ (xs : List ℕ). packet_at xs i) b.after ∙ packet_after Scramble m keys batch i laws iv b.bytes h in
    let again = λ (i : ℕ) (h : i < length batch / 188).
    packet_again m keys (packet_at batch i) (plan_of Scramble keys (packet_at batch i)) laws iv (packet_block batch i b.bytes h) refl
    (answered_at (plan_of Scramble keys) batch i a.none_refused h) in
    let none : first_fault (plan_of Descramble keys) objection_at 0 (packets batch') ≡ Ok tt =
    none_faulty (plan_of Descramble keys) batch'
    (λ i h.
    let lt : i < length batch / 188 = subst (λ (n : ℕ). i < n / 188) lb h in
    subst (λ (p : List ℕ). Answered (plan_of Descramble keys p)) (sym (after i lt)) (again i lt).0) in
    let ok : is_ok r ≡ true =
    ap is_ok b₂.answer
    ∙ accepts m keys (length area') batch' (ap (λ (n : ℕ). eqb n m.schedule_length) la ∙ a.area_fits) (ap fits lb ∙ a.batch_fits) none in (
      ok,
      b₂.after
          ∙ ap (λ (x : Bool). cond x (batch_after Descramble m keys batch') batch') ok
          ∙ whole (followed (plan_of Descramble keys) (changed Descramble m)) batch' batch lb
          (eqb-true (length batch % 188) 0 (and_parts (eqb (length batch % 188) 0) (leb (length batch) 12032) a.batch_fits).0)
          (λ i h. ap (followed (plan_of Descramble keys) (changed Descramble m)) (after i h) ∙ (again i h).1),
      b₂.wiped
          ∙ ap (λ (n : ℕ). cond (eqb n m.schedule_length) (replicate n 0) area') la
          ∙ ap (λ (x : Bool). cond x (replicate (length area) 0) area') a.area_fits
          ∙ sym (ap (λ (x : Bool). cond x (replicate (length area) 0) area) a.area_fits),
    )
