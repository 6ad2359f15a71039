-- An engine made of what the program gives it, and then opened for service 0, is in the state in which fields are first read.
use Rattle.std.proofs.Common.{◌≡◌, ℕ, max, Bool, true, false, cond, ◌&&◌, eqb, ltb, List, [], ◌∷◌, is_ok, None, Ok, Option, Result, refl, ap, ◌∙◌, subst, arith}
use Rattle.cipher.specs.contracts.tail.ClearTailTailRule.TheImpl.{ghosts as clear_tail}
use Rattle.cipher.specs.declared.tail.ClearTail.{ClearTail}
use Rattle.engine.specs.Calls.{Makes, Opens}
use Rattle.engine.specs.Model.{Model, Given, given_of}
use Rattle.engine.specs.Runs.{opens, Run}
use Rattle.engine.specs.declared.desk.Slot.TheVariants.{Shut, Live}
use Rattle.engine.specs.declared.faults.EngineFault.{EngineFault}
use Rattle.engine.specs.declared.grant.Grant.{Grant}
use Rattle.profile.specs.Vectors.{cissa_vector}
use Rattle.profile.specs.contracts.ciphers.Aes128Cipher.TheImpl.{ghosts as aes128}
use Rattle.profile.specs.declared.ciphers.Aes128.{Aes128}
use Rattle.shelf.specs.Examined.{any_below, examined}
use Rattle.shelf.specs.Onward.{paced_through}
use Rattle.shelf.specs.Paces.{PaceRow, rested}
use Rattle.shelf.specs.Rows.{plain_meaning}
use Rattle.shelf.specs.Shelves.{pace_at, meaning_of}
use Rattle.shelf.specs.declared.pacing.Pacing.{Pacing}
use Rattle.shelf.specs.declared.plain.PlainShelf.{PlainShelf}
use Rattle.word.specs.declared.parity.Parity.{Parity}
use Rattle.word.specs.declared.word.Word.{Word}
use Rattle.wire.specs.Programs.{paced_after, pacing_plain, fresh_shelf, cissa, program_given, opening, opening_call}

-- a pacing shelf above an empty plain one that has paced no word
pub fresh : (s : Pacing PlainShelf) (below : PlainShelf) → s.below ≡ below → ((k : ℕ) (q : Parity) → (plain_meaning below).held k q ≡ None) → ((k : ℕ) → pace_at s k ≡ rested)
    → meaning_of pacing_plain s ≡ fresh_shelf
fresh s below is empty idle = λ i. record {
  reads = pacing_plain.reads s;
  held = λ k q. (ap (λ (b : PlainShelf). (plain_meaning b).held k q) is ∙ empty k q) i;
  next = λ k. (ap (λ (r : PaceRow). max r.next 0) (idle k)) i;
}

-- its nexts to come
pub fresh_after : (s : Pacing PlainShelf) → ((k : ℕ) → pace_at s k ≡ rested) → paced_after s ≡ opening.next_after
fresh_after s idle = λ i k moments. (ap (λ (r : PaceRow). max (paced_through r moments).next 0) (idle k) ∙ larger (paced_through rested moments).next) i
  where
    larger : (n : ℕ) → max n 0 ≡ n
    larger n = omega arith

-- what the engine is made of
pub made_of : (cipher : Aes128) (tail : ClearTail) (iv : List ℕ) (s : Pacing PlainShelf) → iv ≡ cissa_vector → meaning_of pacing_plain s ≡ fresh_shelf
    → given_of aes128 clear_tail pacing_plain cipher tail iv s 1 ≡ program_given
made_of cipher tail iv s vector shelf = λ i. record {
  profile = record {
    width = cissa.width;
    schedule_length = cissa.schedule_length;
    schedule = cissa.schedule;
    E = cissa.E;
    D = cissa.D;
    on = cissa.on;
    off = cissa.off;
    iv = vector i;
  };
  shelf = shelf i;
  tag = 1;
}

pub accepted : examined fresh_shelf ≡ Ok tt
unfolding any_below
accepted = refl

-- as it is made
abbrev closed : Model
closed = record { profile = cissa; shelf = fresh_shelf; slots = λ k. Shut; components = []; joined = λ k. None; tag = 1 }

nothing : (b : Bool) → cond {A = Option Word} b None None ≡ None
nothing true = refl
nothing false = refl

made_so : (g : Given) (m : Model) → g ≡ program_given → Makes g m → m ≡ closed
made_so g m e makes =
    let k : Makes program_given m = subst (λ (x : Given). Makes x m) e makes in
    λ i. record {
      profile = k.profile i;
      shelf = record {
        reads = k.reads i;
        held = λ n q. (k.held n q ∙ nothing (ltb n 32)) i;
        next = k.next i;
      };
      slots = λ n. k.slots n i;
      components = k.components i;
      joined = λ n. k.joined n i;
      tag = k.tag i;
    }

pub record Begun (r : Result Grant EngineFault) (after : Model) : Type 0 where
  pub answer : r ≡ Ok (record { tag = 1; service = 0 })
  pub state : after ≡ opening.model

pub begun : (g : Given) (made after : Model) (r : Result Grant EngineFault) → g ≡ program_given → Makes g made → Opens made 0 r after → Begun r after
begun g made after r e makes opened =
    let o : Opens closed 0 r after = subst (λ (x : Model). Opens x 0 r after) (made_so g made e makes) opened in
    record {
      answer = o.answer;
      state = λ i. record {
        profile = o.profile i;
        shelf = o.shelf i;
        slots = λ k. (o.slots k ∙ ap (λ (x : Result Grant EngineFault). cond (is_ok x && eqb k 0) (Live None) Shut) o.answer) i;
        components = o.components i;
        joined = o.joined i;
        tag = o.tag i;
      };
    }

-- the grant that it answers
pub granted : (g : Grant) → ◌≡◌ {A = Result Grant EngineFault} (Ok g) (Ok (record { tag = 1; service = 0 })) → (g.tag ≡ 1) × (g.service ≡ 0)
granted g e = let same : g ≡ record { tag = 1; service = 0 } = cc in (ap (λ (x : Grant). x.tag) same, ap (λ (x : Grant). x.service) same)

pub begun_run : {E : Type 0} (view : E → Model) (g : Given) (e : E) (r : Result Grant EngineFault) → g ≡ program_given → r ≡ Ok (record { tag = 1; service = 0 })
    → Run view g (opens 0 r ∷ []) e → Run view program_given (opening_call ∷ []) e
begun_run view g e r p q run =
    subst (λ (x : Given). Run view x (opening_call ∷ []) e) p (subst (λ (x : Result Grant EngineFault). Run view g (opens 0 x ∷ []) e) q run)
