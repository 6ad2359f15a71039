-- Bytes that a text spells, two digits for each.
use Rattle.std.specs.Prelude.{◌≡◌, ℕ, ◌+◌, ◌-◌, ◌*◌, ◌<◌, cond, ◌&&◌, List, length, Some, None, Option, nat_le, slice_index}
use Rattle.word.specs.Words.{word_of}
use Rattle.word.specs.declared.word.Word.{Word}

-- the value of a digit: 0 to 9 are the bytes 48 to 57, a to f are 97 to 102
abbrev pub digit_of : ℕ → Option ℕ
digit_of b = cond (nat_le 48 b && nat_le b 57) (Some (b - 48)) (cond (nat_le 97 b && nat_le b 102) (Some (b - 97 + 10)) None)

-- two digits as a byte
abbrev pub byte_of : Option ℕ → Option ℕ → Option ℕ
byte_of (Some high) (Some low) = Some (high * 16 + low)
byte_of (Some high) None = None
byte_of None low = None

-- the byte that the digits at the places 2 k and 2 k + 1 spell
abbrev pub spelled_at : List ℕ → ℕ → Option ℕ
spelled_at text k = byte_of (digit_of (slice_index text (2 * k))) (digit_of (slice_index text (2 * k + 1)))

-- the whole text spells the bytes
pub record Spells (text bytes : List ℕ) : Type 0 where
  pub long : length text ≡ 2 * length bytes
  pub each : (k : ℕ) → k < length bytes → spelled_at text k ≡ Some (slice_index bytes k)

-- three texts spell the word and the two sides of a vector
pub record SpelledVector (word_text clear_text scrambled_text : List ℕ) (w : Word) (left right : List ℕ) : Type 0 where
  pub word : (bytes : List ℕ) × Spells word_text bytes × (w ≡ word_of bytes)
  pub clear : Spells clear_text left
  pub scrambled : Spells scrambled_text right
