-- A shelf whose first services are wiped.
use Rattle.std.specs.Prelude.{◌≡◌, ℕ, cond, None, nat_lt}
use Rattle.shelf.specs.Meaning.{ShelfMeaning}
use Rattle.word.specs.declared.parity.Parity.{Parity}

-- a wipe of the services below n: they hold nothing under either parity, and all else stays
pub record WipesBelow (before : ShelfMeaning) (n : ℕ) (after : ShelfMeaning) : Type 0 where
  pub held : (k : ℕ) (q : Parity) → after.held k q ≡ cond (nat_lt k n) None (before.held k q)
  pub next : after.next ≡ before.next
  pub reads : after.reads ≡ before.reads
