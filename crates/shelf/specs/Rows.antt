-- A table of rows as a shelf.
use Rattle.std.specs.Prelude.{None, Option, slice_index_or}
use Rattle.word.specs.declared.parity.Parity.{Parity}
use Rattle.word.specs.declared.parity.Parity.TheVariants.{Even, Odd}
use Rattle.word.specs.declared.word.Word.{Word}
use Rattle.word.specs.Words.{word_of}
use Rattle.shelf.specs.declared.plain.PlainShelf.{PlainShelf}
use Rattle.shelf.specs.declared.plain.Row.{Row}
use Rattle.shelf.specs.Meaning.{ShelfMeaning}

-- a row that holds nothing; so does each row past the table's end
abbrev pub empty : Row
empty = record { even = None; odd = None }

-- the word of a row under a parity
abbrev pub side : Row → Parity → Option Word
side r Even = r.even
side r Odd = r.odd

-- a plain shelf reads an entry as itself, and takes a word at any moment
abbrev pub plain_meaning : PlainShelf → ShelfMeaning
plain_meaning s = record { reads = word_of; held = λ k q. side (slice_index_or s.rows k empty) q; next = λ k. 0 }
