-- Numbers as rows of bits. The leftmost bit is the most significant, and bits are numbered from 1 there.
use Rattle.std.specs.Prelude.{ℕ, ◌+◌, ◌-◌, ◌*◌, ◌/◌, ◌%◌, ◌^◌, List, map, fold}
use Rattle.std.specs.List.{range_with_len}

-- bit t of a number of `width` bits
unfoldable pub bit : ℕ → ℕ → ℕ → ℕ
bit width x t = x / 2 ^ (width - t) % 2

-- the number that digits of `width` bits make, the first leftmost
unfoldable pub number : ℕ → List ℕ → ℕ
number width digits = fold (λ n d. n * 2 ^ width + d) 0 digits

-- a number of `count` times `width` bits as groups of `width` bits, the leftmost first
unfoldable pub groups : ℕ → ℕ → ℕ → List ℕ
groups width count x = map (λ i. x / 2 ^ (width * (count - 1 - i)) % 2 ^ width) (range_with_len 0 count)

-- the bits of a number of `width` bits that a table names, in the table's order
unfoldable pub permuted : ℕ → List ℕ → ℕ → ℕ
permuted width table x = number 1 (map (bit width x) table)
