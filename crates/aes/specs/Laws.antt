-- What is proved of the definitions as such.
use Rattle.std.specs.Prelude.{◌≡◌, ℕ, ◌<◌, List}
use Rattle.aes.specs.Field.{times, inverse}
use Rattle.aes.specs.SBox.{s_box, inv_s_box}
use Rattle.aes.specs.State.{Bytes}
use Rattle.aes.specs.Rounds.{cipher}
use Rattle.aes.specs.Inverse.{inv_cipher}
use Rattle.aes.specs.KeyExpansion.{key_expansion}

-- `inverse` is the multiplicative inverse: a byte but {00} times its inverse is {01}
abbrev pub MultiplicativeInverse : Type 0
MultiplicativeInverse = (b : ℕ) → 0 < b → b < 256 → times b (inverse b) ≡ 1

-- the two S-boxes undo each other
abbrev pub BoxesInvert : Type 0
BoxesInvert = (b : ℕ) → b < 256 → (inv_s_box (s_box b) ≡ b) × (s_box (inv_s_box b) ≡ b)

-- the two directions, of a block of 16 bytes under a key of 16 bytes
pub record InversePair (key block : List ℕ) : Type 0 where
  -- each undoes the other
  pub inv_cipher_of_cipher : inv_cipher (key_expansion key) (cipher (key_expansion key) block) ≡ block
  pub cipher_of_inv_cipher : cipher (key_expansion key) (inv_cipher (key_expansion key) block) ≡ block
  -- the key schedule is 176 bytes, and both directions give 16 bytes
  pub schedule_bytes : Bytes 176 (key_expansion key)
  pub cipher_bytes : Bytes 16 (cipher (key_expansion key) block)
  pub inv_cipher_bytes : Bytes 16 (inv_cipher (key_expansion key) block)

-- InvCipher and Cipher undo each other under every key
abbrev pub Inverts : Type 0
Inverts = (key block : List ℕ) → Bytes 16 key → Bytes 16 block → InversePair key block
