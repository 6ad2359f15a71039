-- How the columns of a line are spelled.
use Rattle.std.specs.Prelude.{◌≡◌, ℕ, List, Ok, IfOk, Result, codes}
use Rattle.std.specs.Str.Parse.{digits_value, without_leading_plus}
use Rattle.entry.specs.Entered.{entered_word}
use Rattle.word.specs.Parities.{parity_name}
use Rattle.word.specs.Words.{word_bytes}
use Rattle.word.specs.declared.word.Word.{Word as TheWord}
use Rattle.log_file.specs.declared.faults.Cause.{Cause}
use Rattle.log_file.specs.declared.line.Kind.{Kind}
use Rattle.log_file.specs.declared.line.Kind.TheVariants.{Word, Encrypted}
use Rattle.log_file.specs.declared.line.LogLine.{LogLine}

abbrev pub kind_name : Kind → List ℕ
kind_name Word = codes "word"
kind_name Encrypted = codes "encrypted"

-- a text reads as the kind that it names, and as no other
pub record NamesKind (text : List ℕ) (r : Result Kind Cause) : Type 0 where
  pub named : (k : Kind) → text ≡ kind_name k → r ≡ Ok k
  pub name : IfOk r (λ k. text ≡ kind_name k)

-- a line says what its columns spell: service, parity, kind, the four groups, moment
pub record Spelled (service parity kind first second third fourth moment : List ℕ) (line : LogLine) : Type 0 where
  pub service_is : line.service.number ≡ digits_value 10 (without_leading_plus service)
  pub parity_is : parity ≡ parity_name line.parity
  pub kind_is : kind ≡ kind_name line.kind
  pub entry_is : (w : TheWord) → entered_word first second third fourth ≡ Ok w → line.entry ≡ word_bytes w
  pub moment_is : line.moment.seconds ≡ digits_value 10 (without_leading_plus moment)
