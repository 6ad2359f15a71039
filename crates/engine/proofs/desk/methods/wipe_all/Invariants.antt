use Rattle.std.proofs.Common.{◌≡◌}
use Rattle.shelf.specs.Shelves.{meaning_of}
use Rattle.engine.specs.Wiped.{WipesBelow}
use Rattle.engine.proofs.desk.methods.wipe_all.Given as goal

abbrev pub invariant-loop-service : goal.invariant-loop-service
invariant-loop-service g l = record {
  wiped : WipesBelow (meaning_of g.S.Shelf l.initial.shelf) l.service-index (meaning_of g.S.Shelf l.shelf);
  later : g.S.Shelf.next_after l.shelf ≡ g.S.Shelf.next_after l.initial.shelf;
}
