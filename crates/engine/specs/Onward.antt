-- What an engine's shelf says of the nexts to come.
use Rattle.std.specs.Prelude.{ℕ, List, Option}
use Rattle.shelf.specs.declared.shelf.Shelf.{Ghosts as ShelfGhosts}
use Rattle.engine.specs.declared.engine.Engine.{Engine}

-- the next of a service of an engine once it loaded words at further moments, the first one first, if its shelf names that
abbrev pub onward_of : {C T S : Type 0} → ShelfGhosts S → Engine C T S → Option (ℕ → List ℕ → ℕ)
onward_of s e = s.next_after e.desk.shelf
