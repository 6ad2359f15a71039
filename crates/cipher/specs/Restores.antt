-- Scrambling and descrambling undo each other.
use Rattle.std.specs.Prelude.{◌≡◌, ℕ, List, length}
use Rattle.cipher.specs.Bytes.{Bytes}
use Rattle.cipher.specs.Profiles.{Meaning, meaning, scrambled, descrambled}
use Rattle.cipher.specs.declared.cipher.Cipher.{Ghosts as CipherGhosts}
use Rattle.cipher.specs.declared.profile.Profile.{Profile}
use Rattle.cipher.specs.declared.tail.TailRule.{Ghosts as TailGhosts}
use Rattle.word.specs.declared.word.Word.{Word}

-- of one payload under one word: each way gives back what the other changed, and keeps the length
pub record Restored (m : Meaning) (w : Word) (payload : List ℕ) : Type 0 where
  pub back : descrambled m w (scrambled m w payload) ≡ payload
  pub forth : scrambled m w (descrambled m w payload) ≡ payload
  pub scrambled_long : length (scrambled m w payload) ≡ length payload
  pub descrambled_long : length (descrambled m w payload) ≡ length payload

-- of every payload, under every word and initial vector
abbrev pub Restores : {C T : Type 0} → CipherGhosts C → TailGhosts T → Type 0
Restores {C} {T} c t = (p : Profile C T) (w : Word) (payload : List ℕ) → Bytes p.iv → Bytes payload → Restored (meaning c t p) w payload
