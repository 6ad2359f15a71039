-- Cipher of FIPS 197, section 5.1, with a key of 128 bits: ten rounds.
use Rattle.std.specs.Prelude.{ℕ, zero, suc, ◌+◌, ◌*◌, ◌%◌, List, map, take, drop, bit_xor}
use Rattle.aes.specs.Field.{times}
use Rattle.aes.specs.SBox.{s_box}
use Rattle.aes.specs.State.{byte_at, state_of, columns, xor_bytes}

-- SubBytes: the S-box at each byte
unfoldable pub sub_bytes : List ℕ → List ℕ
sub_bytes s = map s_box s

-- ShiftRows: row r goes r places to the left, and round
unfoldable pub shift_rows : List ℕ → List ℕ
shift_rows s = state_of (λ r c. byte_at s r ((c + r) % 4))

-- a byte of a column after MixColumns, from the bytes in its row and in the rows below it, and round
unfoldable pub mix_byte : ℕ → ℕ → ℕ → ℕ → ℕ
mix_byte a b c d = bit_xor (bit_xor (times 0x02 a) (times 0x03 b)) (bit_xor c d)

-- MixColumns: each column times {02} {03} {01} {01}
unfoldable pub mix_columns : List ℕ → List ℕ
mix_columns s = columns mix_byte s

-- AddRoundKey: the sum of the state and the round key
unfoldable pub add_round_key : List ℕ → List ℕ → List ℕ
add_round_key s k = xor_bytes s k

-- the round key of round r: the words 4 * r to 4 * r + 3 of the key schedule
unfoldable pub round_key : List ℕ → ℕ → List ℕ
round_key w r = take 16 (drop (16 * r) w)

-- a round but the last, with its round key
unfoldable pub cipher_round : List ℕ → List ℕ → List ℕ
cipher_round k s = add_round_key (mix_columns (shift_rows (sub_bytes s))) k

-- the rounds 1 to n
unfoldable pub cipher_rounds : List ℕ → ℕ → List ℕ → List ℕ
cipher_rounds w zero s = s
cipher_rounds w (suc n) s = cipher_round (round_key w (suc n)) (cipher_rounds w n s)

-- Cipher: under the key schedule w, of the block s
unfoldable pub cipher : List ℕ → List ℕ → List ℕ
cipher w s = add_round_key (shift_rows (sub_bytes (cipher_rounds w 9 (add_round_key s (round_key w 0))))) (round_key w 10)
