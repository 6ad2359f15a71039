use Rattle.std.proofs.Common.{sym}
use Rattle.shelf.specs.Shelves.{meaning_of}
use Rattle.shelf.proofs.Fresh.{fresh}
use Rattle.shelf.proofs.examination.examine.Goals as goal

pub returns-clause-fresh : goal.returns-clause-fresh
returns-clause-fresh g c = λ _. fresh (meaning_of g.S.Shelf c.args.shelf.now) (sym c.if-holds_word.ensures) (sym c.if-loaded.ensures)
