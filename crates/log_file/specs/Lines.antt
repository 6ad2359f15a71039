-- What the lines of a log keep among them.
use Rattle.std.specs.Prelude.{◌≡◌, ℕ, Bool, true, false, ◌&&◌, List, [], ◌∷◌, Some, None, Option, ◌==◌, nat_le}
use Rattle.std.specs.List.{AllByRecursion}
use Rattle.word.specs.declared.moment.Moment.{Moment}
use Rattle.word.specs.declared.parity.Parity.{Parity}
use Rattle.word.specs.declared.parity.Parity.TheVariants.{Even, Odd}
use Rattle.log_file.specs.declared.faults.Cause.{Cause}
use Rattle.log_file.specs.declared.faults.Cause.TheVariants.{NoIdentifier, IdleIdentifier}
use Rattle.log_file.specs.declared.line.Kind.{Kind}
use Rattle.log_file.specs.declared.line.Kind.TheVariants.{Word, Encrypted}
use Rattle.log_file.specs.declared.line.LogLine.{LogLine}

-- whether a line of a moment counts: all do, or those up to a last moment
abbrev pub counted : Option Moment → Moment → Bool
counted None m = true
counted (Some last) m = nat_le m.seconds last.seconds

abbrev pub same_parity : Parity → Parity → Bool
same_parity Even Even = true
same_parity Even Odd = false
same_parity Odd Even = false
same_parity Odd Odd = true

-- the line loads a word of that service and parity
abbrev pub is_for : ℕ → Parity → LogLine → Bool
is_for n p line = line.service.number == n && same_parity line.parity p

-- a kind goes with that of the lines before, if there are any
abbrev pub goes_with : Option Kind → Kind → Bool
goes_with None k = true
goes_with (Some Word) Word = true
goes_with (Some Word) Encrypted = false
goes_with (Some Encrypted) Word = false
goes_with (Some Encrypted) Encrypted = true

-- no two lines load a word of the same service and parity
abbrev pub Apart : List LogLine → Type 0
Apart [] = Unit {0}
Apart (l ∷ ls) = AllByRecursion (λ m. is_for m.service.number m.parity l ≡ false) ls × Apart ls

-- the lines of a log that is read up to a last moment, or whole
pub record Sound (last : Option Moment) (kind : Option Kind) (lines : List LogLine) : Type 0 where
  pub counting : AllByRecursion (λ l. counted last l.moment ≡ true) lines
  pub kinds : AllByRecursion (λ l. Some l.kind ≡ kind) lines
  -- only a last moment says which of two words counts
  pub apart : last ≡ None → Apart lines

-- why words of that kind do not go with an identifier, or with none
abbrev pub misfit_cause : Kind → Bool → Option Cause
misfit_cause Word true = Some IdleIdentifier
misfit_cause Word false = None
misfit_cause Encrypted true = None
misfit_cause Encrypted false = Some NoIdentifier
