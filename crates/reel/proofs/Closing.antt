-- Grants stay closable while the same services are open, and a service that opens adds its grant.
use Rattle.std.proofs.Common.{◌≡◌, ℕ, Bool, true, false, cond, ◌&&◌, eqb, ltb, List, [], ◌∷◌, ◌++◌, reverse, is_ok, Some, None, Ok, Err, Option, Result, sym, refl, ap, ◌∙◌}
use mathlib.Core.List.{reverse-append}
use Rattle.std.proofs.lemmas.Bool.{true≢false, false≢true, eq-eqb, eqb-true, and_from, and_parts}
use Rattle.engine.specs.Calls.{Answer, Opens, Picks, unless}
use Rattle.engine.specs.Model.{Model, is_open}
use Rattle.engine.specs.declared.desk.Slot.{Slot}
use Rattle.engine.specs.declared.desk.Slot.TheVariants.{Shut, Live}
use Rattle.engine.specs.declared.faults.EngineFault.{EngineFault}
use Rattle.engine.specs.declared.faults.EngineFault.TheVariants.{NoService, NotOpen}
use Rattle.engine.specs.declared.grant.Grant.{Grant}
use Rattle.word.specs.declared.parity.Parity.{Parity}
use Rattle.reel.specs.Held.{accepted, without, closable}

-- the same services are open
abbrev pub Alike : (ℕ → Slot) → (ℕ → Slot) → Type 0
Alike a b = (k : ℕ) → is_open (a k) ≡ is_open (b k)

shut_both : (t : Bool) (x y : Slot) → is_open x ≡ is_open y → is_open (cond t Shut x) ≡ is_open (cond t Shut y)
shut_both true x y e = refl
shut_both false x y e = e

closable_alike : (tag : ℕ) (gs : List Grant) (a b : ℕ → Slot) → Alike a b → closable tag a gs ≡ closable tag b gs
closable_alike tag [] a b h = refl
closable_alike tag (g ∷ gs) a b h =
    ap (λ (t : Bool). (eqb g.tag tag && t) && closable tag (without g.service a) gs) (h g.service)
    ∙ ap (λ (t : Bool). accepted tag b g && t)
    (closable_alike tag gs (without g.service a) (without g.service b) (λ k. shut_both (eqb k g.service) (a k) (b k) (h k)))

-- the grants of a tag and slots, and of others that are alike
pub closable_still : (tag tag' : ℕ) (gs : List Grant) (a b : ℕ → Slot) → tag' ≡ tag → Alike b a → closable tag a gs ≡ true → closable tag' b gs ≡ true
closable_still tag tag' gs a b e h c = ap (λ (t : ℕ). closable t b gs) e ∙ closable_alike tag gs b a h ∙ c

-- an open answers a grant only for a service that was shut, with the engine's tag
record Granted (before : Model) (n : ℕ) (g : Grant) : Type 0 where
  pub shut : is_open (before.slots n) ≡ false
  pub tag : g.tag ≡ before.tag
  pub service : g.service ≡ n

abbrev given : Grant → Result Grant EngineFault → Grant
given d (Ok g) = g
given d (Err e) = d

granted_at : (high live : Bool) (f f' : EngineFault) (g made : Grant) → Ok g ≡ cond high (Err f) (cond live (Err f') (Ok made)) → (live ≡ false) × (g ≡ made)
granted_at true live f f' g made e = absurd (true≢false (ap is_ok e))
granted_at false true f f' g made e = absurd (true≢false (ap is_ok e))
granted_at false false f f' g made e = (refl, ap (given g) e)

granted : (before after : Model) (n : ℕ) (g : Grant) → Opens before n (Ok g) after → Granted before n g
granted before after n g o =
    let facts = granted_at (ltb 31 n) (is_open (before.slots n)) _ _ g _ o.answer in
    record { shut = facts.0; tag = ap (λ (x : Grant). x.tag) facts.1; service = ap (λ (x : Grant). x.service) facts.1 }

-- shutting the service that was opened leaves the slots as they were
back_at : (t : Bool) (x y z : Slot) → x ≡ cond t y z → (t ≡ true → is_open z ≡ false) → is_open (cond t Shut x) ≡ is_open z
back_at true x y z e h = sym (h refl)
back_at false x y z e h = ap is_open e

open_at : (t : Bool) (q : Option Parity) (x z : Slot) → t ≡ true → x ≡ cond t (Live q) z → is_open x ≡ true
open_at t q x z h e = ap is_open (e ∙ ap (λ (b : Bool). cond b (Live q) z) h)

-- the grant of an open comes before those that were held
opened_closable : (before after : Model) (n : ℕ) (g : Grant) (gs : List Grant) → Opens before n (Ok g) after
    → closable before.tag before.slots gs ≡ true → closable after.tag after.slots (g ∷ gs) ≡ true
opened_closable before after n g gs o c =
    let facts = granted before after n g o in
    let same : (k : ℕ) → eqb k g.service ≡ true → is_open (before.slots k) ≡ false
    = λ k e. ap (λ (j : ℕ). is_open (before.slots j)) (eqb-true k g.service e ∙ facts.service) ∙ facts.shut in
    let slots : (k : ℕ) → after.slots k ≡ cond (eqb k g.service) (Live None) (before.slots k)
    = λ k. o.slots k ∙ ap (λ (j : ℕ). cond (eqb k j) (Live None) (before.slots k)) (sym facts.service) in
    and_from (accepted after.tag after.slots g) (closable after.tag (without g.service after.slots) gs)
    (and_from (eqb g.tag after.tag) (is_open (after.slots g.service))
    (eq-eqb g.tag after.tag (facts.tag ∙ sym o.tag))
    (open_at (eqb g.service g.service) None (after.slots g.service) (before.slots g.service) (eq-eqb g.service g.service refl) (slots g.service)))
    (closable_still before.tag after.tag gs before.slots (without g.service after.slots) o.tag
    (λ k. back_at (eqb k g.service) (after.slots k) (Live None) (before.slots k) (slots k) (same k)) c)

-- a pick leaves what is open: it marks a service only if that is open
pick_at : (ok t : Bool) (q : Option Parity) (x z : Slot) → x ≡ cond (ok && t) (Live q) z → (ok ≡ true → t ≡ true → is_open z ≡ true) → is_open x ≡ is_open z
pick_at true true q x z e h = ap is_open e ∙ sym (h refl refl)
pick_at true false q x z e h = ap is_open e
pick_at false t q x z e h = ap is_open e

-- what needs an open service is accepted only where the service is open
open_if_ok : (high live : Bool) (f f' : EngineFault) (r : Answer) → is_ok (unless (cond high (Some f) (cond live None (Some f'))) r) ≡ true → live ≡ true
open_if_ok true live f f' r e = absurd (false≢true e)
open_if_ok false true f f' r e = refl
open_if_ok false false f f' r e = e

pub picked_closable : (before after : Model) (n : ℕ) (p : Parity) (r : Answer) (gs : List Grant) → Picks before n p r after
    → closable before.tag before.slots gs ≡ true → closable after.tag after.slots gs ≡ true
picked_closable before after n p r gs does c =
    let live : is_ok r ≡ true → is_open (before.slots n) ≡ true
    = λ e. open_if_ok (ltb 31 n) (is_open (before.slots n)) NoService NotOpen _ (sym (ap is_ok does.answer) ∙ e) in
    closable_still before.tag after.tag gs before.slots after.slots does.tag
    (λ k. pick_at (is_ok r) (eqb k n) (Some p) (after.slots k) (before.slots k) (does.slots k)
    (λ ok here. ap (λ (j : ℕ). is_open (before.slots j)) (eqb-true k n here) ∙ live ok)) c

-- the last grant of a list is the first of its reverse
last_first : (gs : List Grant) (g : Grant) → reverse (gs ++ (g ∷ [])) ≡ g ∷ reverse gs
last_first gs g = reverse-append gs (g ∷ [])

-- the grant that is popped is the next one to close
pub popped_closable : (tag : ℕ) (slots : ℕ → Slot) (all rest : List Grant) (g : Grant) → all ≡ rest ++ (g ∷ [])
    → closable tag slots (reverse all) ≡ true → (accepted tag slots g ≡ true) × (closable tag (without g.service slots) (reverse rest) ≡ true)
popped_closable tag slots all rest g e c =
    and_parts (accepted tag slots g) (closable tag (without g.service slots) (reverse rest))
    (sym (ap (λ (gs : List Grant). closable tag slots (reverse gs)) e ∙ ap (λ (gs : List Grant). closable tag slots gs) (last_first rest g)) ∙ c)

-- a service that opens, and its grant pushed behind those that were held
pub pushed_closable : (before after : Model) (n : ℕ) (g : Grant) (held all : List Grant) → Opens before n (Ok g) after → all ≡ held ++ (g ∷ [])
    → closable before.tag before.slots (reverse held) ≡ true → closable after.tag after.slots (reverse all) ≡ true
pushed_closable before after n g held all o e c =
    ap (λ (gs : List Grant). closable after.tag after.slots (reverse gs)) e
    ∙ ap (λ (gs : List Grant). closable after.tag after.slots gs) (last_first held g)
    ∙ opened_closable before after n g (reverse held) o c
