-- What a plan to scramble says of a packet's header, and a plan to descramble from that.
use Rattle.std.proofs.Common.{◌≡◌, ℕ, ◌+◌, ◌≤◌, Bool, true, false, cond, eqb, ltb, Some, None, Ok, Err, Option, Result, sym, refl, ap, ◌∙◌, arith}
use Rattle.std.proofs.lemmas.Bool.{eqb-true}
use Rattle.batch.specs.Batches.{control_after}
use Rattle.batch.specs.Plan.{Keys, Plan, with_word, with_picked, scramble_plan, descramble_plan, with_payload, with_service, plan_for}
use Rattle.batch.specs.declared.plan.Change.{Change}
use Rattle.cipher.specs.declared.direction.Direction.TheVariants.{Scramble, Descramble}
use Rattle.batch.specs.declared.plan.Objection.TheVariants.{BadHeader}
use Rattle.packet.specs.Header.{control_of, payload_start, start_of}
use Rattle.packet.specs.declared.faults.HeaderFault.{HeaderFault}
use Rattle.packet.specs.declared.faults.HeaderFault.TheVariants.{Sync, AdaptationLength}
use Rattle.packet.specs.declared.header.AdaptationControl.{AdaptationControl}
use Rattle.packet.specs.declared.header.AdaptationControl.TheVariants as adaptation
use Rattle.packet.specs.declared.header.Header.{Header}
use Rattle.packet.specs.declared.header.ScramblingControl.{ScramblingControl}
use Rattle.packet.specs.declared.header.ScramblingControl.TheVariants as control
use Rattle.word.specs.declared.parity.Parity.{Parity}
use Rattle.word.specs.declared.parity.Parity.TheVariants as parity
use Rattle.word.specs.declared.word.Word.{Word}

-- the control bits that read as clear
pub clear_bits : (bits : ℕ) → control_of bits ≡ control.Clear → bits ≡ 0
clear_bits bits e = eqb-true bits 0 (go (eqb bits 0) (eqb bits 1) (eqb bits 2) e)
  where
    go : (x y z : Bool) → cond x control.Clear (cond y control.Reserved (cond z control.Even control.Odd)) ≡ control.Clear → x ≡ true
    go true y z e = refl
    go false true z e = cc
    go false false true e = cc
    go false false false e = cc

-- the same start where the byte after the header, if it is no payload, is the same
pub same_start : (a : AdaptationControl) (n k start : ℕ) → start_of a n ≡ Ok (Some start) → (5 ≤ start → k ≡ n) → start_of a k ≡ Ok (Some start)
same_start adaptation.Reserved n k start e h = e
same_start adaptation.PayloadOnly n k start e h = e
same_start adaptation.AdaptationOnly n k start e h = absurd (go (eqb n 183) e)
  where
    go : (v : Bool) → cond v (Ok None) (Err (AdaptationLength n)) ≡ Ok (Some start) → ⊥
    go true e = cc
    go false e = cc
same_start adaptation.AdaptationAndPayload n k start e h = ap (start_of adaptation.AdaptationAndPayload) (h (go (ltb 182 n) e)) ∙ e
  where
    go : (v : Bool) → cond v (Err (AdaptationLength n)) (Ok (Some (5 + n))) ≡ Ok (Some start) → 5 ≤ start
    go true e = absurd (cc)
    go false e = let is : 5 + n ≡ start = cc in omega arith

-- what a plan to scramble says
pub record Planned (keys : Keys) (h : Header) (c : Change) : Type 0 where
  pub service : ℕ
  pub sync : eqb h.sync 0x47 ≡ true
  pub sound : h.error ≡ false
  pub joined : keys.joined h.pid ≡ Some service
  pub starts : payload_start h ≡ Ok (Some c.start)
  pub clear : h.control ≡ control.Clear
  pub picked : keys.picked service ≡ Some c.parity
  pub held : keys.held service c.parity ≡ Some c.word

sync_ok : (v : Bool) (x : Plan) (c : Change) → cond v x (Err (BadHeader Sync)) ≡ Ok (Some c) → (v ≡ true) × (x ≡ Ok (Some c))
sync_ok true x c e = (refl, e)
sync_ok false x c e = absurd (cc)

sound_ok : (v : Bool) (x : Plan) (c : Change) → cond v (Ok None) x ≡ Ok (Some c) → (v ≡ false) × (x ≡ Ok (Some c))
sound_ok true x c e = absurd (cc)
sound_ok false x c e = (refl, e)

service_ok : (keys : Keys) (h : Header) (o : Option ℕ) (c : Change) → with_service Scramble keys h o ≡ Ok (Some c)
    → (s : ℕ) × (o ≡ Some s) × (with_payload (scramble_plan keys s h.control) (payload_start h) ≡ Ok (Some c))
service_ok keys h (Some s) c e = (s, refl, e)
service_ok keys h None c e = absurd (cc)

payload_ok : (plan : ℕ → Plan) (r : Result (Option ℕ) HeaderFault) (c : Change) → with_payload plan r ≡ Ok (Some c)
    → (start : ℕ) × (r ≡ Ok (Some start)) × (plan start ≡ Ok (Some c))
payload_ok plan (Ok (Some start)) c e = (start, refl, e)
payload_ok plan (Ok None) c e = absurd (cc)
payload_ok plan (Err f) c e = absurd (cc)

word_ok : (q : Parity) (start : ℕ) (o : Option Word) (c : Change) → with_word q start o ≡ Ok (Some c) → (o ≡ Some c.word) × (q ≡ c.parity) × (start ≡ c.start)
word_ok q start (Some w) c e =
    let is : record { word = w; parity = q; start = start } ≡ c = cc in
    (ap (λ (x : Change). Some x.word) is, ap (λ (x : Change). x.parity) is, ap (λ (x : Change). x.start) is)
word_ok q start None c e = absurd (cc)

picked_ok : (keys : Keys) (s start : ℕ) (o : Option Parity) (c : Change) → with_picked keys s start o ≡ Ok (Some c)
    → (o ≡ Some c.parity) × (keys.held s c.parity ≡ Some c.word) × (start ≡ c.start)
picked_ok keys s start (Some q) c e =
    let w = word_ok q start (keys.held s q) c e in
    (ap (λ (x : Parity). Some x) w.1, ap (keys.held s) (sym w.1) ∙ w.0, w.2)
picked_ok keys s start None c e = absurd (cc)

clear_ok : (keys : Keys) (s start : ℕ) (k : ScramblingControl) (c : Change) → scramble_plan keys s k start ≡ Ok (Some c)
    → (k ≡ control.Clear) × (with_picked keys s start (keys.picked s) ≡ Ok (Some c))
clear_ok keys s start control.Clear c e = (refl, e)
clear_ok keys s start control.Reserved c e = absurd (cc)
clear_ok keys s start control.Even c e = absurd (cc)
clear_ok keys s start control.Odd c e = absurd (cc)

pub planned : (keys : Keys) (h : Header) (c : Change) → plan_for Scramble keys h ≡ Ok (Some c) → Planned keys h c
planned keys h c e =
    let rest : Plan = with_service Scramble keys h (keys.joined h.pid) in
    let sy = sync_ok (eqb h.sync 0x47) (cond h.error (Ok None) rest) c e in
    let so = sound_ok h.error rest c sy.1 in
    let se = service_ok keys h (keys.joined h.pid) c so.1 in
    let pa = payload_ok (scramble_plan keys se.0 h.control) (payload_start h) c se.2 in
    let cl = clear_ok keys se.0 pa.0 h.control c pa.2 in
    let pi = picked_ok keys se.0 pa.0 (keys.picked se.0) c cl.1 in
    record {
      service = se.0;
      sync = sy.0;
      sound = so.0;
      joined = se.1;
      starts = pa.1 ∙ ap (λ (x : ℕ). Ok (Some x)) pi.2;
      clear = cl.0;
      picked = pi.0;
      held = pi.1;
    }

-- a plan to descramble, under the parity that the packet shows
shown_word : (keys : Keys) (s : ℕ) (k : ScramblingControl) (w : Word) (q : Parity) (start : ℕ) → k ≡ control_after Scramble q → keys.held s q ≡ Some w
    → descramble_plan keys s k start ≡ Ok (Some (record { word = w; parity = q; start = start }))
shown_word keys s k w parity.Even start e h = ap (λ (x : ScramblingControl). descramble_plan keys s x start) e ∙ ap (with_word parity.Even start) h
shown_word keys s k w parity.Odd start e h = ap (λ (x : ScramblingControl). descramble_plan keys s x start) e ∙ ap (with_word parity.Odd start) h

pub plan_back : (keys : Keys) (h : Header) (s : ℕ) (c : Change) → eqb h.sync 0x47 ≡ true → h.error ≡ false → keys.joined h.pid ≡ Some s
    → payload_start h ≡ Ok (Some c.start) → h.control ≡ control_after Scramble c.parity → keys.held s c.parity ≡ Some c.word
    → plan_for Descramble keys h ≡ Ok (Some c)
plan_back keys h s c sync sound joined starts shows held =
    let rest : Plan = with_service Descramble keys h (keys.joined h.pid) in
    ap (λ (v : Bool). cond v (cond h.error (Ok None) rest) (Err (BadHeader Sync))) sync
    ∙ ap (λ (v : Bool). cond v (Ok None) rest) sound
    ∙ ap (with_service Descramble keys h) joined
    ∙ ap (with_payload (descramble_plan keys s h.control)) starts
    ∙ shown_word keys s h.control c.word c.parity c.start shows held

-- a payload that is to be scrambled never passes
never_passed : (keys : Keys) (s start : ℕ) (k : ScramblingControl) → scramble_plan keys s k start ≡ Ok None → ⊥
never_passed keys s start control.Clear e = picked (keys.picked s) e
  where
    word : (q : Parity) (o : Option Word) → with_word q start o ≡ Ok None → ⊥
    word q (Some w) e = cc
    word q None e = cc

    picked : (o : Option Parity) → with_picked keys s start o ≡ Ok None → ⊥
    picked (Some q) e = word q (keys.held s q) e
    picked None e = cc
never_passed keys s start control.Reserved e = cc
never_passed keys s start control.Even e = cc
never_passed keys s start control.Odd e = cc

-- what passes when it is to be scrambled passes when it is to be descrambled
pub passed_back : (keys : Keys) (h : Header) → plan_for Scramble keys h ≡ Ok None → plan_for Descramble keys h ≡ Ok None
passed_back keys h e = tests (eqb h.sync 0x47) h.error e
  where
    payload : (s : ℕ) (r : Result (Option ℕ) HeaderFault) → with_payload (scramble_plan keys s h.control) r ≡ Ok None → with_payload (descramble_plan keys s h.control) r ≡ Ok None
    payload s (Ok (Some start)) e = absurd (never_passed keys s start h.control e)
    payload s (Ok None) e = e
    payload s (Err f) e = e

    service : (o : Option ℕ) → with_service Scramble keys h o ≡ Ok None → with_service Descramble keys h o ≡ Ok None
    service (Some s) e = payload s (payload_start h) e
    service None e = e

    tests : (x y : Bool) → cond x (cond y (Ok None) (with_service Scramble keys h (keys.joined h.pid))) (Err (BadHeader Sync)) ≡ Ok None
        → cond x (cond y (Ok None) (with_service Descramble keys h (keys.joined h.pid))) (Err (BadHeader Sync)) ≡ Ok None
    tests true true e = e
    tests true false e = service (keys.joined h.pid) e
    tests false y e = e
