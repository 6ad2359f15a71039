-- KeyExpansion of FIPS 197, section 5.2, for a key of four words. A word is a list of four bytes.
use Rattle.std.specs.Prelude.{ℕ, zero, suc, ◌+◌, ◌-◌, ◌*◌, ◌/◌, ◌%◌, cond, List, [], ◌∷◌, ◌++◌, map, take, drop, ◌==◌}
use Rattle.aes.specs.Field.{xtimes}
use Rattle.aes.specs.SBox.{s_box}
use Rattle.aes.specs.State.{xor_bytes}

-- RotWord: the first byte goes to the end
unfoldable pub rot_word : List ℕ → List ℕ
rot_word a = drop 1 a ++ take 1 a

-- SubWord: the S-box at each byte
unfoldable pub sub_word : List ℕ → List ℕ
sub_word a = map s_box a

-- x to the power n, in the field
unfoldable pub x_power : ℕ → ℕ
x_power zero = 1
x_power (suc n) = xtimes (x_power n)

-- Rcon[j]: x to the power j - 1, then three zeros
unfoldable pub rcon : ℕ → List ℕ
rcon j = x_power (j - 1) ∷ 0 ∷ 0 ∷ 0 ∷ []

-- w[i]: word i of a list of words
unfoldable pub word_at : List ℕ → ℕ → List ℕ
word_at w i = take 4 (drop (4 * i) w)

-- what is added to w[i - 4] for w[i]: w[i - 1], and at each fourth word its SubWord of RotWord plus Rcon[i / 4]
unfoldable pub addend : ℕ → List ℕ → List ℕ
addend i before = cond (i % 4 == 0) (xor_bytes (sub_word (rot_word before)) (rcon (i / 4))) before

-- w[i], from the words before it
unfoldable pub next_word : List ℕ → ℕ → List ℕ
next_word w i = xor_bytes (word_at w (i - 4)) (addend i (word_at w (i - 1)))

-- the words before w[i], and w[i]
unfoldable pub with_next : List ℕ → ℕ → List ℕ
with_next w i = w ++ next_word w i

-- the four words of the key, and the n words after them
unfoldable pub expanded : List ℕ → ℕ → List ℕ
expanded k zero = k
expanded k (suc n) = with_next (expanded k n) (4 + n)

-- KeyExpansion: from the key, of 16 bytes, to the key schedule of 44 words, eleven round keys
unfoldable pub key_expansion : List ℕ → List ℕ
key_expansion k = expanded k 40
