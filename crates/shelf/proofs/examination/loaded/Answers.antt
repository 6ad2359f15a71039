use Rattle.std.proofs.Common.{rules, ◌∙◌}
use borrow.Author.Tests.{tests}
use Rattle.std.proofs.lemmas.Iterator.{YieldsList-from_slice}
use Rattle.std.proofs.lemmas.Iterator.Search.{any_from_yields_List}
use Rattle.shelf.specs.Examined.{loaded_at}
use Rattle.shelf.specs.Shelves.{meaning_of}
use Rattle.shelf.proofs.Services.{any_service}
use Rattle.shelf.proofs.examination.loaded.Goals as goal

pub returns : goal.returns
returns g c =
    let test = loaded_at (meaning_of g.S.Shelf c.args.shelf.now) in
    any_from_yields_List (λ s. test s.number) _ _ _ c.any.ensures.ran (YieldsList-from_slice c.all-services.result cc) (λ x b q k. search (rules, tests))
    ∙ any_service test c.all-services.result c.all-services.ensures.count c.all-services.ensures.order
