-- The key schedule of FIPS 46-3. A key is the list of its eight bytes.
use Rattle.std.specs.Prelude.{ℕ, zero, suc, ◌+◌, ◌-◌, ◌*◌, ◌/◌, ◌%◌, ◌^◌, List, slice_index}
use Rattle.std.specs.List.{range_with_len, flat_map}
use Rattle.des.specs.Bits.{number, groups, permuted}
use Rattle.des.specs.Tables.{PC_1_table, PC_2_table, left_shifts}

-- 56 of the 64 bits of a key
unfoldable pub PC_1 : ℕ → ℕ
PC_1 key = permuted 64 PC_1_table key

-- 48 of the 56 bits of C and D
unfoldable pub PC_2 : ℕ → ℕ
PC_2 x = permuted 56 PC_2_table x

-- 28 bits shifted k places to the left, with those that leave at the left coming in at the right
unfoldable pub left_shift : ℕ → ℕ → ℕ
left_shift k x = x * 2 ^ k % 2 ^ 28 + x / 2 ^ (28 - k)

-- 28 bits after the left shifts of the first n rounds
unfoldable pub shifted : ℕ → ℕ → ℕ
shifted zero x = x
shifted (suc n) x = left_shift (slice_index left_shifts n) (shifted n x)

-- the blocks C and D of round n
unfoldable pub C : List ℕ → ℕ → ℕ
C key n = shifted n (PC_1 (number 8 key) / 2 ^ 28)

unfoldable pub D : List ℕ → ℕ → ℕ
D key n = shifted n (PC_1 (number 8 key) % 2 ^ 28)

-- the round key Kn, for n from 1 to 16
unfoldable pub KS : List ℕ → ℕ → ℕ
KS key n = PC_2 (C key n * 2 ^ 28 + D key n)

-- K1 to K16, each as its eight groups of six bits, one to a byte
unfoldable pub key_schedule : List ℕ → List ℕ
key_schedule key = flat_map (λ n. groups 6 8 (KS key n)) (range_with_len 1 16)
