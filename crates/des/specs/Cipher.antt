-- Enciphering and deciphering by FIPS 46-3. A block is the list of its eight bytes, the leftmost first;
-- a round key is the list of its eight groups of six bits, and a schedule has the sixteen round keys one after the other.
use Rattle.std.specs.Prelude.{ℕ, zero, suc, ◌+◌, ◌*◌, ◌/◌, ◌%◌, ◌^◌, List, [], ◌∷◌, map, take, drop, bit_xor, slice_index, slice_index_or}
use Rattle.std.specs.List.{range_with_len}
use Rattle.des.specs.Bits.{number, groups, permuted}
use Rattle.des.specs.Tables.{IP_table, IP⁻¹_table, E_table, P_table, S_tables}
use Rattle.des.specs.declared.feistel.Halves.{Halves}

-- the initial permutation of a block
unfoldable pub IP : ℕ → ℕ
IP x = permuted 64 IP_table x

-- the inverse of the initial permutation
unfoldable pub IP⁻¹ : ℕ → ℕ
IP⁻¹ x = permuted 64 IP⁻¹_table x

-- 48 bits from the 32 bits of a half
unfoldable pub E : ℕ → ℕ
E r = permuted 32 E_table r

-- the permutation of 32 bits
unfoldable pub P : ℕ → ℕ
P x = permuted 32 P_table x

-- the selection functions, S1 at i = 0: the outer two of six bits choose a row of the table, the inner four a column
unfoldable pub S : ℕ → ℕ → ℕ
S i b = slice_index (slice_index_or (slice_index_or S_tables i []) (permuted 6 (1 ∷ 6 ∷ []) b) []) (permuted 6 (2 ∷ 3 ∷ 4 ∷ 5 ∷ []) b)

-- the cipher function f(R, K)
unfoldable pub f : ℕ → List ℕ → ℕ
f r k = P (number 4 (map (λ i. S i (bit_xor (slice_index (groups 6 8 (E r)) i) (slice_index k i))) (range_with_len 0 8)))

-- the halves L and R of a block of 64 bits
unfoldable pub halves : ℕ → Halves
halves x = record { left = x / 2 ^ 32; right = x % 2 ^ 32 }

-- the block R L, its halves exchanged
unfoldable pub preoutput : Halves → ℕ
preoutput h = h.right * 2 ^ 32 + h.left

-- a round: L' = R and R' = L ⊕ f(R, K)
unfoldable pub round : List ℕ → Halves → Halves
round k h = record { left = h.right; right = bit_xor h.left (f h.right k) }

-- a round key of a schedule, K1 at n = 0
unfoldable pub round_key : List ℕ → ℕ → List ℕ
round_key schedule n = take 8 (drop (8 * n) schedule)

-- rounds under K1, K2, .. Kn
unfoldable pub forwards : List ℕ → ℕ → Halves → Halves
forwards schedule zero h = h
forwards schedule (suc n) h = round (round_key schedule n) (forwards schedule n h)

-- rounds under Kn, .. K2, K1
unfoldable pub backwards : List ℕ → ℕ → Halves → Halves
backwards schedule zero h = h
backwards schedule (suc n) h = backwards schedule n (round (round_key schedule n) h)

-- a block through some rounds between the initial permutation and its inverse
unfoldable pub crypted : (Halves → Halves) → List ℕ → List ℕ
crypted rounds block = groups 8 8 (IP⁻¹ (preoutput (rounds (halves (IP (number 8 block))))))

-- the block enciphered under a schedule
unfoldable pub enciphered : List ℕ → List ℕ → List ℕ
enciphered schedule block = crypted (forwards schedule 16) block

-- the block deciphered under a schedule: the same, with the round keys in reverse order
unfoldable pub deciphered : List ℕ → List ℕ → List ℕ
deciphered schedule block = crypted (backwards schedule 16) block
