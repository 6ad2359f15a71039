use Rattle.std.proofs.Common.{max, refl, ap, ◌∙◌, arith}
use Rattle.shelf.specs.Paces.{PaceRow}
use Rattle.shelf.specs.Shelves.{unpaced, row_of}
use Rattle.shelf.proofs.Tables.{at_replicate}
use Rattle.shelf.proofs.pacing.Pacing.new.Goals as goal

pub returns-clause-paces : goal.returns-clause-paces
returns-clause-paces g c = λ k. at_replicate row_of 32 k _ unpaced refl

pub returns-clause-next : goal.returns-clause-next
returns-clause-next g c = λ k. ap (λ (r : PaceRow). max r.next (g.S.Shelf.next c.args.below k)) (returns-clause-paces g c k) ∙ omega arith
