use Rattle.std.proofs.Common.{◌≡◌, None, refl, sym, ◌∙◌, arith}
use Rattle.std.proofs.lemmas.Grind.{common_steps}
use Rattle.word.specs.declared.parity.Parity.{Parity}
use Rattle.word.specs.declared.parity.Parity.TheVariants.{Even, Odd}
use Rattle.shelf.specs.declared.plain.Row.{Row}
use Rattle.shelf.specs.Rows.{empty, side}
use Rattle.shelf.proofs.Tables.{at_replicate}
use Rattle.shelf.proofs.plain.PlainShelf.new.Goals as goal

nothing : (r : Row) (q : Parity) → (r.even ≡ None) × (r.odd ≡ None) → side r q ≡ None
nothing r Even h = h.0
nothing r Odd h = h.1

pub returns : goal.returns
returns c = λ k q.
    let none = nothing empty q (refl, refl) in
    at_replicate (λ (r : Row). side r q) 32 k _ empty (nothing _ q (grind (arith, common_steps, c.default.ensures)) ∙ sym none) ∙ none
