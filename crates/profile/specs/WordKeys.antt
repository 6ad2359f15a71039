-- The bytes of a word are bytes, and so is the key that DES reads of it.
use Rattle.std.specs.Prelude.{ℕ, ◌%◌, ◌<◌, refl}
use Rattle.std.proofs.Common.{arith}
use Rattle.std.proofs.ByRecursion.{All-append}
use Rattle.cipher.specs.Bytes.{Byte, Bytes, Block}
use Rattle.word.specs.Bytes.{bytes_of}
use Rattle.word.specs.Words.{word_bytes}
use Rattle.word.specs.declared.word.Word.{Word}
use Rattle.profile.specs.Keys.{des_key}

low : (n : ℕ) → n % 256 < 256
low n = omega arith

number_bytes : (n : ℕ) → Bytes (bytes_of n)
number_bytes n = (low _, (low _, (low _, (low _, (low _, (low _, (low _, (low _, tt))))))))

pub word_block : (w : Word) → Block 16 (word_bytes w)
word_block w = (refl, All-append Byte (bytes_of w.high) (bytes_of w.low) (number_bytes w.high) (number_bytes w.low))

pub des_key_block : (w : Word) → Block 8 (des_key w)
des_key_block w = (refl, number_bytes w.high)
