-- What every run keeps.
use Rattle.std.proofs.Common.{◌≡◌, ℕ, ◌+◌, ◌≤◌, Bool, true, false, cond, ◌&&◌, eqb, ltb, List, ◌∷◌, is_ok, Some, None, Option, sym, refl, ap, ◌∙◌, subst, arith}
use Rattle.std.proofs.lemmas.Bool.{both_ways}
use Rattle.std.proofs.lemmas.Bool.Decides.{nat_tests}
use Rattle.std.specs.Option.{option_map}
use Rattle.cipher.specs.Bytes.{Block}
use Rattle.component.specs.Table.{without_service}
use Rattle.engine.specs.Calls.{Answer, Loads}
use Rattle.engine.specs.Model.{Model, Given, is_open, parity_in}
use Rattle.engine.specs.Runs.{Call, opens, closes, joins, leaves, loads, picks, scrambles, descrambles, Step, Run, made, more}
use Rattle.engine.specs.declared.desk.Slot.{Slot}
use Rattle.engine.specs.declared.desk.Slot.TheVariants.{Shut, Live}
use Rattle.shelf.specs.Meaning.{ShelfMeaning, here, same_parity}
use Rattle.word.specs.declared.parity.Parity.{Parity}
use Rattle.word.specs.declared.word.Word.{Word}
use Rattle.law.specs.Law.{open_by, joined_by, picked_by, last_entry, last_load, word_by, Due, After}
use Rattle.law.proofs.Answered.{accepted_shelf, accepted_open, accepted_at, load_accepted}

-- the next of a service by its last load
abbrev Paced : Option ℕ → ℕ → Type 0
Paced None next = next ≡ 0
Paced (Some last) next = next ≤ last + 300

-- the slots of an engine, by the services that are open and the parities that are picked
pub record Slotted (opens_at : ℕ → Bool) (picks_at : ℕ → Option Parity) (slots : ℕ → Slot) : Type 0 where
  pub opened : (k : ℕ) → is_open (slots k) ≡ opens_at k
  pub picked : (k : ℕ) → parity_in (slots k) ≡ picks_at k

-- its shelf, by the words of the 32 services and their last loads
pub record Shelved (reading : List ℕ → Word) (word_at : ℕ → Parity → Option Word) (load_at : ℕ → Option ℕ) (shelf : ShelfMeaning) : Type 0 where
  pub words : (k : ℕ) (q : Parity) → k ≤ 31 → shelf.held k q ≡ word_at k q
  pub nexts : (k : ℕ) → k ≤ 31 → Paced (load_at k) (shelf.next k)
  pub reads : shelf.reads ≡ reading

abbrev pub SlotsBy : List Call → (ℕ → Slot) → Type 0
SlotsBy calls slots = Slotted (λ k. open_by calls k) (λ k. picked_by calls k) slots

abbrev pub ShelfBy : Given → List Call → ShelfMeaning → Type 0
ShelfBy given calls shelf = Shelved given.shelf.reads (λ k q. word_by given calls k q) (λ k. last_load calls k) shelf

-- an engine, by what a list of calls says
pub record Kept (given : Given) (opens_at : ℕ → Bool) (joins_at : ℕ → Option ℕ) (picks_at : ℕ → Option Parity) (entry_at : ℕ → Parity → Option (List ℕ)) (load_at : ℕ → Option ℕ) (m : Model) : Type 0 where
  pub slots : Slotted opens_at picks_at m.slots
  pub shelf : Shelved given.shelf.reads (λ k q. option_map given.shelf.reads (entry_at k q)) load_at m.shelf
  pub joined : (pid : ℕ) → m.joined pid ≡ joins_at pid
  -- an open service and a service with a component is one of the 32
  pub open_known : (k : ℕ) → opens_at k ≡ true → k ≤ 31
  pub joined_known : (pid n : ℕ) → joins_at pid ≡ Some n → n ≤ 31
  -- no entry is left of a service that is not open, so that an open need not wipe
  pub shut_empty : (k : ℕ) (q : Parity) → opens_at k ≡ false → entry_at k q ≡ None
  pub profile : m.profile ≡ given.profile
  pub iv : Block 16 given.profile.iv

abbrev pub Holds : Given → List Call → Model → Type 0
Holds given calls m = Kept given (λ k. open_by calls k) (λ k. joined_by calls k) (λ k. picked_by calls k) (λ k q. last_entry calls k q) (λ k. last_load calls k) m

at_all : {A : Type 0} {f g : ℕ → A} → f ≡ g → (k : ℕ) → f k ≡ g k
at_all e k = ap (λ h. h k) e

-- a function of either
of_either : {A B : Type 0} (f : A → B) (b : Bool) (x y : A) → f (cond b x y) ≡ cond b (f x) (f y)
of_either f b x y = grind arith

-- what is there already
there : {A : Type 0} (b : Bool) (x y : A) → (b ≡ true → y ≡ x) → cond b x y ≡ y
there b x y h = grind arith

without_some : (n s : ℕ) (o : Option ℕ) → without_service n o ≡ Some s → o ≡ Some s
without_some n s None e = cc
without_some n s (Some m) e = grind arith

-- which of the 32, by a case
open_known : (n k : ℕ) (ok o : Bool) → (ok ≡ true → n ≤ 31) → (o ≡ true → k ≤ 31) → cond (ok && eqb k n) true o ≡ true → k ≤ 31
open_known n k ok o known was e = grind (arith, nat_tests)

shut_known : (b o : Bool) (k : ℕ) → (o ≡ true → k ≤ 31) → cond b false o ≡ true → k ≤ 31
shut_known b o k was e = grind arith

join_known : (n s : ℕ) (ok same : Bool) (o : Option ℕ) → (ok ≡ true → n ≤ 31) → (o ≡ Some s → s ≤ 31) → cond (ok && same) (Some n) o ≡ Some s → s ≤ 31
join_known n s ok same o known was e = grind arith

leave_known : (b : Bool) (s : ℕ) (o : Option ℕ) → (o ≡ Some s → s ≤ 31) → cond b None o ≡ Some s → s ≤ 31
leave_known b s o was e = grind arith

close_known : (b : Bool) (n s : ℕ) (o : Option ℕ) → (o ≡ Some s → s ≤ 31) → cond b (without_service n o) o ≡ Some s → s ≤ 31
close_known b n s o was e = grind (arith, without_some)

-- no entry of a service that is not open
none_opened : {A : Type 0} (b v o : Bool) (l : Option A) → (o ≡ false → l ≡ None) → cond b v o ≡ false → cond b None l ≡ None
none_opened b v o l was e = grind arith

-- the call's service is the one asked for
at_service : (before : Model) (n k : ℕ) (ok v : Bool) → (ok ≡ true → is_open (before.slots n) ≡ v) → (ok && eqb k n) ≡ true → is_open (before.slots k) ≡ v
at_service before n k ok v is e = grind (arith, nat_tests)

of_pair : (ok x y : Bool) → (ok && (x && y)) ≡ true → (ok && x) ≡ true
of_pair ok x y e = grind arith

-- the next after a load
paced : (before : Model) (n : ℕ) (p : Parity) (entry : List ℕ) (moment : ℕ) (r : Answer) (after : Model) → Loads before n p entry moment r after
    → (k : ℕ) (o : Option ℕ) → Paced o (before.shelf.next k) → Paced (cond (is_ok r && eqb k n) (Some moment) o) (after.shelf.next k)
paced before n p entry moment r after s k o i = go (is_ok r && eqb k n) refl
  where
    go : (b : Bool) → (is_ok r && eqb k n) ≡ b → Paced (cond b (Some moment) o) (after.shelf.next k)
    go true e = grind (arith, nat_tests, s.bound)
    go false e = subst (Paced o) (sym (s.stays k e)) i

-- a call that changes one slot
slotted : (calls : List Call) (before after : ℕ → Slot) (at : ℕ → Bool) (slot : Slot) → SlotsBy calls before → ((k : ℕ) → after k ≡ cond (at k) slot (before k))
    → Slotted (λ k. cond (at k) (is_open slot) (open_by calls k)) (λ k. cond (at k) (parity_in slot) (picked_by calls k)) after
slotted calls before after at slot i s = record {
  opened = λ k. ap is_open (s k) ∙ of_either is_open (at k) slot (before k) ∙ ap (cond (at k) (is_open slot)) (i.opened k);
  picked = λ k. ap parity_in (s k) ∙ of_either parity_in (at k) slot (before k) ∙ ap (cond (at k) (parity_in slot)) (i.picked k);
}

same_slots : (calls : List Call) (before after : ℕ → Slot) → after ≡ before → SlotsBy calls before → SlotsBy calls after
same_slots calls before after e i = subst (λ (x : ℕ → Slot). SlotsBy calls x) (sym e) i

same_shelf : (given : Given) (calls : List Call) (before after : ShelfMeaning) → after ≡ before → ShelfBy given calls before → ShelfBy given calls after
same_shelf given calls before after e i = subst (λ (x : ShelfMeaning). ShelfBy given calls x) (sym e) i

step : (given : Given) (calls : List Call) (call : Call) (before after : Model) → Holds given calls before → Step before call after → Holds given (call ∷ calls) after
step given calls (opens n r) before after i s =
    let ok = accepted_open before n r s.answer in
    let at : ℕ → Bool = λ k. is_ok r && eqb k n in
    record {
      slots = slotted calls before.slots after.slots at (Live None) i.slots s.slots;
      shelf = same_shelf given (opens n r ∷ calls) before.shelf after.shelf s.shelf (record {
        words = λ k q h.
            i.shelf.words k q h
            ∙ ap (option_map given.shelf.reads)
            (sym (there (at k) None (last_entry calls k q) (λ e. i.shut_empty k q (sym (i.slots.opened k) ∙ at_service before n k (is_ok r) false (λ o. (ok o).1) e))));
        nexts = i.shelf.nexts;
        reads = i.shelf.reads;
      });
      joined = λ pid. at_all s.joined pid ∙ i.joined pid;
      open_known = λ k e. open_known n k (is_ok r) (open_by calls k) (λ o. (ok o).0) (i.open_known k) e;
      joined_known = i.joined_known;
      shut_empty = λ k q e. none_opened (at k) true (open_by calls k) (last_entry calls k q) (i.shut_empty k q) e;
      profile = s.profile ∙ i.profile;
      iv = i.iv;
    }
step given calls (closes g r) before after i s =
    let at : ℕ → Bool = λ k. is_ok r && eqb k g.service in
    record {
      slots = slotted calls before.slots after.slots at Shut i.slots s.slots;
      shelf = record {
        words = λ k q h. s.held k q ∙ ap (cond (at k) None) (i.shelf.words k q h) ∙ sym (of_either (option_map given.shelf.reads) (at k) None (last_entry calls k q));
        nexts = λ k h. subst (λ (x : ℕ → ℕ). Paced (last_load calls k) (x k)) (sym s.next) (i.shelf.nexts k h);
        reads = s.reads ∙ i.shelf.reads;
      };
      joined = λ pid. s.joined pid ∙ ap (λ (x : Option ℕ). cond (is_ok r) (without_service g.service x) x) (i.joined pid);
      open_known = λ k e. shut_known (at k) (open_by calls k) k (i.open_known k) e;
      joined_known = λ pid n e. close_known (is_ok r) g.service n (joined_by calls pid) (i.joined_known pid n) e;
      shut_empty = λ k q e. none_opened (at k) false (open_by calls k) (last_entry calls k q) (i.shut_empty k q) e;
      profile = s.profile ∙ i.profile;
      iv = i.iv;
    }
step given calls (joins n pid r) before after i s = record {
  slots = same_slots calls before.slots after.slots s.slots i.slots;
  shelf = same_shelf given calls before.shelf after.shelf s.shelf i.shelf;
  joined = λ k. s.joined k ∙ ap (cond (is_ok r && eqb k pid) (Some n)) (i.joined k);
  open_known = i.open_known;
  joined_known = λ k x e. join_known n x (is_ok r) (eqb k pid) (joined_by calls k) (λ o. (accepted_at before.slots n _ r s.answer o).0) (i.joined_known k x) e;
  shut_empty = i.shut_empty;
  profile = s.profile ∙ i.profile;
  iv = i.iv;
}
step given calls (leaves pid r) before after i s = record {
  slots = same_slots calls before.slots after.slots s.slots i.slots;
  shelf = same_shelf given calls before.shelf after.shelf s.shelf i.shelf;
  joined = λ k. s.joined k ∙ ap (cond (is_ok r && eqb k pid) None) (i.joined k);
  open_known = i.open_known;
  joined_known = λ k x e. leave_known (is_ok r && eqb k pid) x (joined_by calls k) (i.joined_known k x) e;
  shut_empty = i.shut_empty;
  profile = s.profile ∙ i.profile;
  iv = i.iv;
}
step given calls (loads n p entry moment r) before after i s =
    let ok = accepted_at before.slots n _ r s.answer in
    let at : ℕ → Parity → Bool = λ k q. is_ok r && here n p k q in
    record {
      slots = same_slots calls before.slots after.slots s.slots i.slots;
      shelf = record {
        words = λ k q h.
            s.held k q
            ∙ ap (λ (f : List ℕ → Word). cond (at k q) (Some (f entry)) (before.shelf.held k q)) i.shelf.reads
            ∙ ap (cond (at k q) (Some (given.shelf.reads entry))) (i.shelf.words k q h)
            ∙ sym (of_either (option_map given.shelf.reads) (at k q) (Some entry) (last_entry calls k q));
        nexts = λ k h. paced before n p entry moment r after s k (last_load calls k) (i.shelf.nexts k h);
        reads = s.reads ∙ i.shelf.reads;
      };
      joined = λ k. at_all s.joined k ∙ i.joined k;
      open_known = i.open_known;
      joined_known = i.joined_known;
      shut_empty = λ k q e.
          there (at k q) (Some entry) (last_entry calls k q)
          (λ b. absurd (both_ways (open_by calls k) e (sym (i.slots.opened k) ∙ at_service before n k (is_ok r) true (λ o. (ok o).1) (of_pair (is_ok r) (eqb k n) (same_parity q p) b))))
          ∙ i.shut_empty k q e;
      profile = s.profile ∙ i.profile;
      iv = i.iv;
    }
step given calls (picks n p r) before after i s =
    let ok = accepted_at before.slots n _ r s.answer in
    let at : ℕ → Bool = λ k. is_ok r && eqb k n in
    let slots = slotted calls before.slots after.slots at (Live (Some p)) i.slots s.slots in
    record {
      slots = record {
        opened = λ k. slots.opened k ∙ there (at k) true (open_by calls k) (λ b. sym (i.slots.opened k) ∙ at_service before n k (is_ok r) true (λ o. (ok o).1) b);
        picked = slots.picked;
      };
      shelf = same_shelf given calls before.shelf after.shelf s.shelf i.shelf;
      joined = λ k. at_all s.joined k ∙ i.joined k;
      open_known = i.open_known;
      joined_known = i.joined_known;
      shut_empty = i.shut_empty;
      profile = s.profile ∙ i.profile;
      iv = i.iv;
    }
step given calls (scrambles area batch r area' batch') before after i s = subst (λ (m : Model). Holds given calls m) (sym s.stays) i
step given calls (descrambles area batch r area' batch') before after i s = subst (λ (m : Model). Holds given calls m) (sym s.stays) i

module _ {E : Type 0} (view : E → Model) (given : Given) where
  pub holds : (calls : List Call) (e : E) → Run view given calls e → Holds given calls (view e)
  holds calls e (made h x) =
      let f = accepted_shelf given.shelf x in
      record {
        slots = record { opened = λ k. ap is_open (h.slots k); picked = λ k. ap parity_in (h.slots k) };
        shelf = record {
          words = λ k q l. h.held k q ∙ there (ltb k 32) None (given.shelf.held k q) (λ _. f.held k q l) ∙ f.held k q l;
          nexts = λ k l. at_all h.next k ∙ f.next k l;
          reads = h.reads;
        };
        joined = h.joined;
        open_known = λ k e. cc;
        joined_known = λ pid n e. cc;
        shut_empty = λ k q e. refl;
        profile = h.profile;
        iv = (h.long, h.bytes);
      }
  holds calls e (more {calls = earlier} {before = b} {call = call} r s) = step given earlier call (view b) (view e) (holds earlier b r) s

-- no sooner than the next
due : (o : Option ℕ) (next moment : ℕ) → Paced o next → Due o moment → next ≤ moment
due None next moment p d = omega arith
due (Some last) next moment p d = omega arith

pub after_run : {E : Type 0} (view : E → Model) (given : Given) (calls : List Call) (e : E) → Run view given calls e → After given calls (view e)
after_run view given calls e run =
    let h = holds view given calls e run in
    record {
      open_services = h.slots.opened;
      joined = h.joined;
      picked = h.slots.picked;
      words = h.shelf.words;
      loads_accepted = λ n p entry moment r after s live allowed soon.
          let known = h.open_known n live in
          s.answer ∙ load_accepted (view e) n moment known (h.slots.opened n ∙ live) allowed (due (last_load calls n) ((view e).shelf.next n) moment (h.shelf.nexts n known) soon);
    }
