-- One packet, scrambled and descrambled.
use Rattle.std.proofs.Common.{◌≡◌, ℕ, zero, suc, ◌+◌, ◌*◌, ◌/◌, ◌%◌, ◌≤◌, eqb, List, [], ◌∷◌, ◌++◌, length, get_or, take, drop, Some, Ok, sym, refl, ap, ◌∙◌, arith}
use mathlib.Core.Path.{fun_ext}
use Rattle.std.proofs.ByRecursion.{All-drop}
use Rattle.std.proofs.lemmas.List.{take_at, drop_at, length-take-le, length-drop, length-append, length-set, take-append-drop}
use Rattle.batch.proofs.Plans.{change_inside}
use Rattle.batch.specs.Batches.{changed, control_after, payload_after}
use Rattle.batch.specs.Packets.{follow, followed}
use Rattle.batch.specs.Plan.{Keys, Plan, plan_of}
use Rattle.batch.specs.declared.plan.Change.{Change}
use Rattle.cipher.specs.declared.direction.Direction.{Direction}
use Rattle.cipher.specs.declared.direction.Direction.TheVariants.{Scramble, Descramble}
use Rattle.cipher.proofs.RoundTrip.{Lawful, restored}
use Rattle.cipher.specs.Bytes.{Byte, Bytes, Block}
use Rattle.cipher.specs.Profiles.{Meaning, scrambled, descrambled}
use Rattle.packet.specs.Header.{adaptation_of, control_bits, control_of, header_of, pid_of, start_of, with_control}
use Rattle.packet.specs.declared.header.ScramblingControl.TheVariants as control
use Rattle.word.specs.declared.parity.Parity.{Parity}
use Rattle.word.specs.declared.parity.Parity.TheVariants as parity
use Rattle.word.specs.declared.word.Word.{Word}
use Rattle.restoring.specs.Restoring.{Alike, Scrambled}
use Rattle.restoring.proofs.Plans.{planned, plan_back, clear_bits, same_start}

payload_long : (d : Direction) (m : Meaning) → Lawful m → Block 16 m.iv → (w : Word) (p : List ℕ) → Bytes p → length (payload_after d m w p) ≡ length p
payload_long Scramble m laws iv w p hp = (restored m laws w p iv hp).scrambled_long
payload_long Descramble m laws iv w p hp = (restored m laws w p iv hp).descrambled_long

-- a changed packet is as long as a packet
pub changed_long : (d : Direction) (m : Meaning) (c : Change) (p : List ℕ) → Lawful m → Block 16 m.iv → Block 188 p → c.start ≤ 188 → length (changed d m c p) ≡ 188
changed_long d m c p laws iv hp h =
    let st = c.start in
    let q : List ℕ = with_control (control_after d c.parity) p in
    let lq : length q ≡ 188 = length-set p 3 _ ∙ hp.0 in
    let front = length-take-le st q (omega arith) in
    let rest = payload_long d m laws iv c.word (drop st p) (All-drop Byte st p hp.1) in
    let ld = length-drop st p in
    length-append (take st q) (payload_after d m c.word (drop st p)) ∙ omega (arith, hp.0)

-- the byte after the header, where it is no payload
fifth : (t : ℕ) (r x : List ℕ) → 1 ≤ t → t ≤ length r → get_or (take t r ++ x) 0 0 ≡ get_or r 0 0
fifth zero r x h l = absurd (omega arith)
fifth (suc t) [] x h l = absurd (omega arith)
fifth (suc t) (y ∷ r) x h l = refl

-- what a scrambled packet shows, and that descrambling it under the same word gives the packet before
pub record Shows (m : Meaning) (c : Change) (before after : List ℕ) : Type 0 where
  pub sync : (header_of after).sync ≡ (header_of before).sync
  pub error : (header_of after).error ≡ (header_of before).error
  pub pid : pid_of after ≡ pid_of before
  pub control : (header_of after).control ≡ control_after Scramble c.parity
  pub adaptation : (header_of after).adaptation ≡ (header_of before).adaptation
  -- byte 4 may be payload, and then is scrambled
  pub length : 5 ≤ c.start → (header_of after).length ≡ (header_of before).length
  pub back : changed Descramble m c after ≡ before

parity_shown : (q : Parity) (d : ℕ) → control_of ((control_bits (control_after Scramble q) * 64 + d % 64) / 64) ≡ control_after Scramble q
parity_shown parity.Even d = let e : (2 * 64 + d % 64) / 64 ≡ 2 = omega arith in ap control_of e
parity_shown parity.Odd d = let e : (3 * 64 + d % 64) / 64 ≡ 3 = omega arith in ap control_of e

-- a packet with its first four bytes named, of which the fourth begins with 00, and t bytes before its payload
shows_at : (m : Meaning) (w : Word) (q : Parity) (t a b c d : ℕ) (r : List ℕ) → Lawful m → Block 16 m.iv → Bytes r → t ≤ length r → d / 64 ≡ 0
    → Shows m (record { word = w; parity = q; start = suc (suc (suc (suc t))) }) (a ∷ b ∷ c ∷ d ∷ r) (changed Scramble m (record { word = w; parity = q; start = suc (suc (suc (suc t))) }) (a ∷ b ∷ c ∷ d ∷ r))
shows_at m w q t a b c d r laws iv hr ht clear =
    let x : List ℕ = scrambled m w (drop t r) in
    let v : ℕ = control_bits (control_after Scramble q) * 64 + d % 64 in
    let lt : length (take t r) ≡ t = length-take-le t r ht in
    let ta : take t (take t r ++ x) ≡ take t r = take_at (take t r) x t lt in
    let da : drop t (take t r ++ x) ≡ x = drop_at (take t r) x t lt in
    let back = (restored m laws w (drop t r) iv (All-drop Byte t r hr)).back in
    let whole = take-append-drop t r in
    let d0 : 0 * 64 + v % 64 ≡ d = omega arith in
    let ad : v / 16 % 4 ≡ d / 16 % 4 = omega arith in
    record {
      sync = refl;
      error = refl;
      pid = refl;
      control = parity_shown q d;
      adaptation = ap adaptation_of ad;
      length = λ h. fifth t r x (omega arith) ht;
      back =
          ap (λ (y : ℕ). a ∷ b ∷ c ∷ y ∷ (take t (take t r ++ x) ++ descrambled m w (drop t (take t r ++ x)))) d0
          ∙ ap (λ (z : List ℕ). a ∷ b ∷ c ∷ d ∷ z)
          (ap (λ (z : List ℕ). z ++ descrambled m w (drop t (take t r ++ x))) ta ∙ ap (λ (z : List ℕ). take t r ++ descrambled m w z) da ∙ ap (λ (z : List ℕ). take t r ++ z) back ∙ whole);
    }

pub shows : (m : Meaning) (w : Word) (q : Parity) (start : ℕ) (p : List ℕ) → Lawful m → Block 16 m.iv → Block 188 p → 4 ≤ start → start ≤ 188 → (header_of p).control ≡ control.Clear
    → Shows m (record { word = w; parity = q; start = start }) p (changed Scramble m (record { word = w; parity = q; start = start }) p)
shows m w q (suc (suc (suc (suc t)))) (a ∷ b ∷ c ∷ d ∷ r) laws iv hp low high clear =
    let lp = hp.0 in
    shows_at m w q t a b c d r laws iv hp.1.1.1.1.1 (omega arith) (clear_bits (d / 64) clear)
shows m w q zero p laws iv hp low high clear = absurd (omega arith)
shows m w q (suc zero) p laws iv hp low high clear = absurd (omega arith)
shows m w q (suc (suc zero)) p laws iv hp low high clear = absurd (omega arith)
shows m w q (suc (suc (suc zero))) p laws iv hp low high clear = absurd (omega arith)
shows m w q (suc (suc (suc (suc t)))) [] laws iv hp low high clear = let lp = hp.0 in absurd (omega arith)
shows m w q (suc (suc (suc (suc t)))) (a ∷ []) laws iv hp low high clear = let lp = hp.0 in absurd (omega arith)
shows m w q (suc (suc (suc (suc t)))) (a ∷ b ∷ []) laws iv hp low high clear = let lp = hp.0 in absurd (omega arith)
shows m w q (suc (suc (suc (suc t)))) (a ∷ b ∷ c ∷ []) laws iv hp low high clear = let lp = hp.0 in absurd (omega arith)

-- the packet that a plan to scramble changed
pub packet_shows : (m : Meaning) (keys : Keys) (p : List ℕ) (c : Change) → Lawful m → Block 16 m.iv → Block 188 p → plan_of Scramble keys p ≡ Ok (Some c) → Shows m c p (changed Scramble m c p)
packet_shows m keys p c laws iv hp e =
    let inside = change_inside Scramble keys (header_of p) c (sym e) in
    shows m c.word c.parity c.start p laws iv hp inside.0 (omega (arith, inside.1)) (planned keys (header_of p) c e).clear

-- its plan to descramble, at keys that join its PID to a service that holds the word under the parity
pub packet_planned : (m : Meaning) (keys keys₂ : Keys) (p : List ℕ) (c : Change) (service₂ : ℕ) → Lawful m → Block 16 m.iv → Block 188 p → plan_of Scramble keys p ≡ Ok (Some c)
    → keys₂.joined (pid_of (changed Scramble m c p)) ≡ Some service₂ → keys₂.held service₂ c.parity ≡ Some c.word
    → plan_of Descramble keys₂ (changed Scramble m c p) ≡ Ok (Some c)
packet_planned m keys keys₂ p c service₂ laws iv hp e joined held =
    let s = packet_shows m keys p c laws iv hp e in
    let pl = planned keys (header_of p) c e in
    let p' : List ℕ = changed Scramble m c p in
    plan_back keys₂ (header_of p') service₂ c
    (ap (λ (x : ℕ). eqb x 0x47) s.sync ∙ pl.sync)
    (s.error ∙ pl.sound)
    joined
    (ap (λ x. start_of x (get_or p' 4 0)) s.adaptation ∙ same_start (header_of p).adaptation (header_of p).length (header_of p').length c.start pl.starts s.length)
    s.control
    held

-- descrambling by what means the same
same_changed : (m m₂ : Meaning) (c : Change) (p : List ℕ) → Alike m m₂ → changed Descramble m₂ c p ≡ changed Descramble m c p
same_changed m m₂ c p alike =
    let w = c.word in
    let e : m₂.E w ≡ m.E w = fun_ext (λ x. sym (alike.E w x)) in
    let d : m₂.D w ≡ m.D w = fun_ext (λ x. sym (alike.D w x)) in
    let o : m₂.off ≡ m.off = fun_ext (λ x. fun_ext (λ y. sym (alike.off x y))) in
    let n = alike.width in
    let i = alike.iv in
    cc

-- a packet there and back
pub packet_restored : (m m₂ : Meaning) (keys keys₂ : Keys) (p : List ℕ) (c : Change) (service₂ : ℕ) → Lawful m → Block 16 m.iv → Alike m m₂ → Block 188 p
    → plan_of Scramble keys p ≡ Ok (Some c) → keys₂.joined (pid_of (changed Scramble m c p)) ≡ Some service₂ → keys₂.held service₂ c.parity ≡ Some c.word
    → followed (plan_of Descramble keys₂) (changed Descramble m₂) (changed Scramble m c p) ≡ p
packet_restored m m₂ keys keys₂ p c service₂ laws iv alike hp e joined held =
    let p' : List ℕ = changed Scramble m c p in
    ap (λ (r : Plan). follow (changed Descramble m₂) r p') (packet_planned m keys keys₂ p c service₂ laws iv hp e joined held)
    ∙ same_changed m m₂ c p' alike
    ∙ (packet_shows m keys p c laws iv hp e).back

-- what the plan to scramble says of the packet
abbrev pub packet_scrambled : (m : Meaning) (keys : Keys) (p p' : List ℕ) (c : Change) → Lawful m → Block 16 m.iv → Block 188 p
    → plan_of Scramble keys p ≡ Ok (Some c) → p' ≡ changed Scramble m c p → Scrambled m keys p p'
packet_scrambled m keys p p' c laws iv hp e is =
    let s = packet_shows m keys p c laws iv hp e in
    let pl = planned keys (header_of p) c e in
    record {
      service = pl.service;
      parity = c.parity;
      word = c.word;
      start = c.start;
      clear = pl.clear;
      joined = pl.joined;
      picked = pl.picked;
      held = pl.held;
      starts = pl.starts;
      shows = ap (λ (x : List ℕ). (header_of x).control) is ∙ s.control;
      named = ap pid_of is ∙ s.pid;
      bytes = is;
    }
