-- The S-box of FIPS 197, section 5.1.1, and its inverse.
use Rattle.std.specs.Prelude.{ℕ, ◌+◌, ◌*◌, ◌/◌, ◌%◌, ◌^◌, bit_xor}
use Rattle.aes.specs.Field.{inverse}

-- the bits of a byte, each n places up, and from the top round to the bottom
unfoldable pub rotated : ℕ → ℕ → ℕ
rotated n b = b * 2 ^ n % 256 + b * 2 ^ n / 256

-- the affine map: bit i is the sum of the bits i, i + 4, i + 5, i + 6 and i + 7 (modulo 8) of b and bit i of {63}
unfoldable pub affine : ℕ → ℕ
affine b = bit_xor b (bit_xor (rotated 1 b) (bit_xor (rotated 2 b) (bit_xor (rotated 3 b) (bit_xor (rotated 4 b) 0x63))))

-- the affine map that undoes it
unfoldable pub inv_affine : ℕ → ℕ
inv_affine b = bit_xor (rotated 1 b) (bit_xor (rotated 3 b) (bit_xor (rotated 6 b) 0x05))

-- the S-box: the multiplicative inverse, then the affine map
unfoldable pub s_box : ℕ → ℕ
s_box b = affine (inverse b)

-- the inverse S-box
unfoldable pub inv_s_box : ℕ → ℕ
inv_s_box b = inverse (inv_affine b)
