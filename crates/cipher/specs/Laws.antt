-- What a block cipher and a tail rule owe.
use Rattle.std.specs.Prelude.{◌≡◌, ℕ, ◌≤◌, ◌⊎◌, List, length}
use Rattle.cipher.specs.Bytes.{Bytes, Block}
use Rattle.word.specs.declared.word.Word.{Word}

-- a block has 8 or 16 bytes, a schedule 1 to 4,096
pub record Sizes (width schedule_length : ℕ) : Type 0 where
  pub width_is : (width ≡ 8) ⊎ (width ≡ 16)
  pub schedule_low : 1 ≤ schedule_length
  pub schedule_high : schedule_length ≤ 4096

-- under every word, E and D turn a block into a block, and each undoes the other
pub record CipherLaws (width schedule_length : ℕ) (schedule : Word → List ℕ) (E D : Word → List ℕ → List ℕ) : Type 0 where
  pub schedule_long : (w : Word) → length (schedule w) ≡ schedule_length
  pub E_block : (w : Word) (b : List ℕ) → Block width b → Block width (E w b)
  pub D_block : (w : Word) (b : List ℕ) → Block width b → Block width (D w b)
  pub D_E : (w : Word) (b : List ℕ) → Block width b → D w (E w b) ≡ b
  pub E_D : (w : Word) (b : List ℕ) → Block width b → E w (D w b) ≡ b

-- under every mask, on and off keep the length of a tail, and each undoes the other
pub record TailLaws (on off : List ℕ → List ℕ → List ℕ) : Type 0 where
  pub on_long : (mask tail : List ℕ) → length (on mask tail) ≡ length tail
  pub off_long : (mask tail : List ℕ) → length (off mask tail) ≡ length tail
  pub off_on : (mask tail : List ℕ) → length tail ≤ length mask → Bytes tail → off mask (on mask tail) ≡ tail
  pub on_off : (mask tail : List ℕ) → length tail ≤ length mask → Bytes tail → on mask (off mask tail) ≡ tail
