-- Words and identifiers as sixteen bytes, the most significant first.
use Rattle.std.specs.Prelude.{ℕ, List, ◌++◌}
use Rattle.word.specs.Bytes.{bytes_of, number_at}
use Rattle.word.specs.declared.identifier.Identifier.{Identifier}
use Rattle.word.specs.declared.word.Word.{Word}

-- the word of sixteen bytes
abbrev pub word_of : List ℕ → Word
word_of bytes = record { high = number_at bytes 0; low = number_at bytes 8 }

-- the sixteen bytes of a word
abbrev pub word_bytes : Word → List ℕ
word_bytes w = bytes_of w.high ++ bytes_of w.low

-- the identifier of sixteen bytes
abbrev pub identifier_of : List ℕ → Identifier
identifier_of bytes = record { high = number_at bytes 0; low = number_at bytes 8 }
