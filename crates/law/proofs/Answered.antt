-- What the answers of calls say of the engine and of a shelf.
use Rattle.std.proofs.Common.{◌≡◌, ℕ, ◌≤◌, Bool, true, false, cond, is_ok, Ok, Err, Result, ap, arith}
use Rattle.std.proofs.lemmas.Bool.Decides.{nat_tests}
use Rattle.engine.specs.Calls.{Answer, closed, unless, open_answer, load_answer}
use Rattle.engine.specs.Model.{Model, is_open}
use Rattle.engine.specs.declared.desk.Slot.{Slot}
use Rattle.engine.specs.declared.faults.EngineFault.{EngineFault}
use Rattle.engine.specs.declared.grant.Grant.{Grant}
use Rattle.shelf.proofs.Fresh.{fresh}
use Rattle.shelf.specs.Examined.{any_below, holds_at, loaded_at, examined, Fresh}
use Rattle.shelf.specs.Meaning.{ShelfMeaning}
use Rattle.shelf.specs.declared.faults.ShelfFault.TheVariants.{HoldsWord, Loaded}

-- a shelf that examine accepts
pub accepted_shelf : (m : ShelfMeaning) → examined m ≡ Ok tt → Fresh m
accepted_shelf m e =
    let parts = go (any_below 32 (holds_at m)) (any_below 32 (loaded_at m)) (ap is_ok e) in
    fresh m parts.0 parts.1
  where
    go : (x y : Bool) → is_ok {T = Unit {0}} (cond x (Err HoldsWord) (cond y (Err Loaded) (Ok tt))) ≡ true → (x ≡ false) × (y ≡ false)
    go x y e = (grind arith, grind arith)

-- an accepted open has one of the 32 services, and it was not open
pub accepted_open : (m : Model) (n : ℕ) (r : Result Grant EngineFault) → r ≡ open_answer m n → is_ok r ≡ true → (n ≤ 31) × (is_open (m.slots n) ≡ false)
accepted_open m n r e ok = (grind (arith, nat_tests), grind (arith, nat_tests))

-- another accepted call has one of the 32 services, and it is open
pub accepted_at : (slots : ℕ → Slot) (n : ℕ) (x r : Answer) → r ≡ unless (closed slots n) x → is_ok r ≡ true → (n ≤ 31) × (is_open (slots n) ≡ true)
accepted_at slots n x r e ok = (grind (arith, nat_tests), grind (arith, nat_tests))

-- a load that is not refused by any of its tests
pub load_accepted : (m : Model) (n moment : ℕ) → n ≤ 31 → is_open (m.slots n) ≡ true → moment ≤ 4000000000 → m.shelf.next n ≤ moment → load_answer m n moment ≡ Ok tt
load_accepted m n moment known live allowed due = grind (arith, nat_tests)
