-- A shelf as its callers see it, and what each call does to that.
use Rattle.std.specs.Prelude.{◌≡◌, ℕ, ◌+◌, ◌≤◌, Bool, true, false, cond, ◌&&◌, List, is_ok, Some, None, Ok, Err, Option, Result, ◌==◌, nat_lt}
use Rattle.word.specs.declared.parity.Parity.{Parity}
use Rattle.word.specs.declared.parity.Parity.TheVariants.{Even, Odd}
use Rattle.word.specs.declared.word.Word.{Word}
use Rattle.shelf.specs.declared.faults.ShelfFault.{ShelfFault}
use Rattle.shelf.specs.declared.faults.ShelfFault.TheVariants.{TooSoon}

pub record ShelfMeaning : Type 0 where
  -- the word that an entry of sixteen bytes reads as
  pub reads : List ℕ → Word
  -- the word that a service holds under a parity
  pub held : ℕ → Parity → Option Word
  -- the first moment at which a service takes a word
  pub next : ℕ → ℕ

-- the meaning of a shelf, from the three members that its type gives
abbrev pub meaning : {S : Type 0} → (S → List ℕ → Word) → (S → ℕ → Parity → Option Word) → (S → ℕ → ℕ) → S → ShelfMeaning
meaning reads held next s = record { reads = reads s; held = held s; next = next s }

abbrev pub same_parity : Parity → Parity → Bool
same_parity Even Even = true
same_parity Even Odd = false
same_parity Odd Even = false
same_parity Odd Odd = true

-- service k under parity q is service n under parity p
abbrev pub here : ℕ → Parity → ℕ → Parity → Bool
here n p k q = k == n && same_parity q p

-- what a put for service n answers: refused before the service's next, with that next
abbrev pub put_answer : ShelfMeaning → ℕ → ℕ → Result (Unit {0}) ShelfFault
put_answer before n moment = cond (nat_lt moment (before.next n)) (Err (TooSoon n (before.next n))) (Ok tt)

-- a put of an entry for service n under parity p that answered r
pub record Puts (before : ShelfMeaning) (n : ℕ) (p : Parity) (entry : List ℕ) (moment : ℕ) (r : Result (Unit {0}) ShelfFault) (after : ShelfMeaning) : Type 0 where
  pub answer : r ≡ put_answer before n moment
  -- if taken, that pair holds what the entry reads as; every other pair, and each if refused, what it held
  pub held : (k : ℕ) (q : Parity) → after.held k q ≡ cond (is_ok r && here n p k q) (Some (before.reads entry)) (before.held k q)
  -- if taken, the next of that service moves, and not far; every other, and each if refused, stays
  pub bound : is_ok r ≡ true → after.next n ≤ moment + 300
  pub stays : (k : ℕ) → (is_ok r && k == n) ≡ false → after.next k ≡ before.next k
  pub reads : after.reads ≡ before.reads

-- a wipe of service n: it holds nothing under either parity, and all else stays
pub record Wipes (before : ShelfMeaning) (n : ℕ) (after : ShelfMeaning) : Type 0 where
  pub held : (k : ℕ) (q : Parity) → after.held k q ≡ cond (k == n) None (before.held k q)
  pub next : after.next ≡ before.next
  pub reads : after.reads ≡ before.reads
