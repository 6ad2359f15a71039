-- What an identifier does to an entry.
use Rattle.std.specs.Prelude.{ℕ, List, ◌++◌}
use Rattle.aes.specs.Inverse.{inv_cipher}
use Rattle.aes.specs.KeyExpansion.{key_expansion}
use Rattle.word.specs.Bytes.{bytes_of}
use Rattle.word.specs.declared.identifier.Identifier.{Identifier}

-- the sixteen bytes of an identifier
abbrev pub identifier_bytes : Identifier → List ℕ
identifier_bytes i = bytes_of i.high ++ bytes_of i.low

-- the session word that an encrypted session word stands for: decrypted by AES-128, with the identifier as the key
abbrev pub unwrapped : Identifier → List ℕ → List ℕ
unwrapped i entry = inv_cipher (key_expansion (identifier_bytes i)) entry
