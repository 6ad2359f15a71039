-- How a parity is spelled.
use Rattle.std.specs.Prelude.{◌≡◌, ℕ, List, Result, Ok, IfOk, codes}
use Rattle.word.specs.declared.parity.Parity.{Parity}
use Rattle.word.specs.declared.parity.Parity.TheVariants.{Even, Odd}
use Rattle.word.specs.declared.parity.ParseParityError.{ParseParityError}

abbrev pub parity_name : Parity → List ℕ
parity_name Even = codes "even"
parity_name Odd = codes "odd"

-- a name is read as its parity, and nothing else is
abbrev pub ParsesParity : List ℕ → Result Parity ParseParityError → Type 0
ParsesParity text r = ((p : Parity) → text ≡ parity_name p → r ≡ Ok p) × IfOk r (λ p. text ≡ parity_name p)
