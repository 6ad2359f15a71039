-- A key area that holds the schedule of a word, where it is known to hold one.
use Rattle.std.specs.Prelude.{◌≡◌, ℕ, List, Some, None, Option}
use Rattle.word.specs.declared.word.Word.{Word}

abbrev pub Prepared : (Word → List ℕ) → Option Word → List ℕ → Type 0
Prepared schedule None area = Unit {0}
Prepared schedule (Some w) area = area ≡ schedule w
