-- What DES reads of a word.
use Rattle.std.specs.Prelude.{◌≡◌, ℕ, ◌/◌, List, map, take}
use Rattle.des.specs.Schedule.{key_schedule}
use Rattle.word.specs.Words.{word_bytes}
use Rattle.word.specs.declared.word.Word.{Word}

-- the first eight bytes of a word
abbrev pub des_key : Word → List ℕ
des_key w = take 8 (word_bytes w)

-- words alike but for the lowest bit of each of these bytes, and for the last eight bytes, have the same schedule
abbrev pub IgnoresTheRest : Type 0
IgnoresTheRest = (w v : Word) → map (λ b. b / 2) (des_key w) ≡ map (λ b. b / 2) (des_key v) → key_schedule (des_key w) ≡ key_schedule (des_key v)
