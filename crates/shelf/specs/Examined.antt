-- Whether a shelf is one to start with: it holds no word, and takes a word of each service at any moment.
use Rattle.std.specs.Prelude.{◌≡◌, ℕ, zero, suc, ◌≤◌, Bool, false, cond, not, ◌||◌, is_some, None, Ok, Err, Result, ◌==◌}
use Rattle.word.specs.declared.parity.Parity.{Parity}
use Rattle.word.specs.declared.parity.Parity.TheVariants.{Even, Odd}
use Rattle.shelf.specs.declared.faults.ShelfFault.{ShelfFault}
use Rattle.shelf.specs.declared.faults.ShelfFault.TheVariants.{HoldsWord, Loaded}
use Rattle.shelf.specs.Meaning.{ShelfMeaning}

-- some number below n passes a test
unfoldable pub any_below : ℕ → (ℕ → Bool) → Bool
any_below zero test = false
any_below (suc n) test = test n || any_below n test

-- service k holds a word under either parity
abbrev pub holds_at : ShelfMeaning → ℕ → Bool
holds_at m k = is_some (m.held k Even) || is_some (m.held k Odd)

-- service k has a next other than 0
abbrev pub loaded_at : ShelfMeaning → ℕ → Bool
loaded_at m k = not (m.next k == 0)

-- first all 32 services are asked for a word, and only then for a next other than 0
abbrev pub examined : ShelfMeaning → Result (Unit {0}) ShelfFault
examined m = cond (any_below 32 (holds_at m)) (Err HoldsWord) (cond (any_below 32 (loaded_at m)) (Err Loaded) (Ok tt))

-- a shelf to start with
pub record Fresh (m : ShelfMeaning) : Type 0 where
  pub held : (k : ℕ) (q : Parity) → k ≤ 31 → m.held k q ≡ None
  pub next : (k : ℕ) → k ≤ 31 → m.next k ≡ 0
