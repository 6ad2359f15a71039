-- InvCipher of FIPS 197, section 5.3, with a key of 128 bits.
use Rattle.std.specs.Prelude.{ℕ, zero, suc, ◌+◌, ◌-◌, ◌%◌, List, map, bit_xor}
use Rattle.aes.specs.Field.{times}
use Rattle.aes.specs.SBox.{inv_s_box}
use Rattle.aes.specs.State.{byte_at, state_of, columns}
use Rattle.aes.specs.Rounds.{add_round_key, round_key}

-- InvSubBytes: the inverse S-box at each byte
unfoldable pub inv_sub_bytes : List ℕ → List ℕ
inv_sub_bytes s = map inv_s_box s

-- InvShiftRows: row r goes r places to the right, and round
unfoldable pub inv_shift_rows : List ℕ → List ℕ
inv_shift_rows s = state_of (λ r c. byte_at s r ((c + 4 - r) % 4))

-- a byte of a column after InvMixColumns, from the bytes in its row and in the rows below it, and round
unfoldable pub inv_mix_byte : ℕ → ℕ → ℕ → ℕ → ℕ
inv_mix_byte a b c d = bit_xor (bit_xor (times 0x0e a) (times 0x0b b)) (bit_xor (times 0x0d c) (times 0x09 d))

-- InvMixColumns: each column times {0e} {0b} {0d} {09}
unfoldable pub inv_mix_columns : List ℕ → List ℕ
inv_mix_columns s = columns inv_mix_byte s

-- a round but the last, with its round key
unfoldable pub inv_cipher_round : List ℕ → List ℕ → List ℕ
inv_cipher_round k s = inv_mix_columns (add_round_key (inv_sub_bytes (inv_shift_rows s)) k)

-- the rounds n down to 1
unfoldable pub inv_cipher_rounds : List ℕ → ℕ → List ℕ → List ℕ
inv_cipher_rounds w zero s = s
inv_cipher_rounds w (suc n) s = inv_cipher_rounds w n (inv_cipher_round (round_key w (suc n)) s)

-- InvCipher: under the key schedule w, of the block s
unfoldable pub inv_cipher : List ℕ → List ℕ → List ℕ
inv_cipher w s = add_round_key (inv_sub_bytes (inv_shift_rows (inv_cipher_rounds w 9 (add_round_key s (round_key w 10))))) (round_key w 0)
