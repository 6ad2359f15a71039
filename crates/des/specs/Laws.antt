-- What is proved of the definitions.
use Rattle.std.specs.Prelude.{◌≡◌, ℕ, ◌+◌, ◌*◌, ◌%◌, ◌^◌, ◌<◌, ◌≤◌, cond, List, [], length, sum, count_by, ◌==◌, nat_eq, slice_index, slice_index_or}
use Rattle.std.specs.List.{AllByRecursion}
use Rattle.des.specs.Cipher.{IP, IP⁻¹, enciphered, deciphered}
use Rattle.des.specs.Tables.{IP_table, IP⁻¹_table, E_table, P_table, PC_1_table, PC_2_table, left_shifts, S_tables}

-- n bytes
abbrev pub Bytes : ℕ → List ℕ → Type 0
Bytes n s = (length s ≡ n) × AllByRecursion (λ x. x < 256) s

-- under the schedule, enciphering and deciphering the block undo each other, and each gives eight bytes
pub record Inverse (schedule block : List ℕ) : Type 0 where
  pub deciphers : deciphered schedule (enciphered schedule block) ≡ block
  pub enciphers : enciphered schedule (deciphered schedule block) ≡ block
  pub enciphered_bytes : Bytes 8 (enciphered schedule block)
  pub deciphered_bytes : Bytes 8 (deciphered schedule block)

-- how often a number stands in a table
abbrev pub times : ℕ → List ℕ → ℕ
times x table = count_by (nat_eq x) table

-- n entries, among which each of the bits 1 to n stands once
abbrev pub Permutes : ℕ → List ℕ → Type 0
Permutes n table = (length table ≡ n) × ((t : ℕ) → t < n → times (t + 1) table ≡ 1)

-- the bit that E puts at place j of row i: bits 4i to 4i + 5 of the half, bit 0 being bit 32, and bit 33 bit 1
abbrev pub expanded : ℕ → ℕ → ℕ
expanded i j = (4 * i + j + 31) % 32 + 1

-- what the tables keep to
pub record Lawful : Type 0 where
  -- IP and its inverse undo each other
  pub inverses : (x : ℕ) → x < 2 ^ 64 → (IP⁻¹ (IP x) ≡ x) × (IP (IP⁻¹ x) ≡ x)
  -- IP, its inverse and P are permutations
  pub initial : Permutes 64 IP_table
  pub inverse : Permutes 64 IP⁻¹_table
  pub permutation : Permutes 32 P_table
  pub expansion : (length E_table ≡ 48) × ((i j : ℕ) → i < 8 → j < 6 → slice_index E_table (6 * i + j) ≡ expanded i j)
  -- each row of each selection function is a permutation of the numbers 0 to 15
  pub selection : (i row : ℕ) → i < 8 → row < 4 → (length (slice_index_or (slice_index_or S_tables i []) row []) ≡ 16) × ((x : ℕ) → x < 16 → times x (slice_index_or (slice_index_or S_tables i []) row []) ≡ 1)
  -- permuted choice 1 reads each bit of the key once, but for bits 8, 16, .. 64, which it does not read
  pub choice1 : (length PC_1_table ≡ 56) × ((t : ℕ) → t < 64 → times (t + 1) PC_1_table ≡ cond ((t + 1) % 8 == 0) 0 1)
  -- permuted choice 2 reads 48 of its 56 bits
  pub choice2 : (length PC_2_table ≡ 48) × AllByRecursion (λ t. (0 < t) × (t ≤ 56) × (times t PC_2_table ≡ 1)) PC_2_table
  -- after sixteen rounds the halves of the key are back in place
  pub shifts : (length left_shifts ≡ 16) × (sum left_shifts ≡ 28)
