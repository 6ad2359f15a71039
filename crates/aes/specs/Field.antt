-- The field of FIPS 197, section 4: a byte is a polynomial over its bits, modulo x^8 + x^4 + x^3 + x + 1. The sum of two bytes is `bit_xor`.
use Rattle.std.specs.Prelude.{ℕ, zero, suc, ◌*◌, ◌/◌, ◌%◌, bit_xor}

-- xTimes: the product of b and {02}, the polynomial x
unfoldable pub xtimes : ℕ → ℕ
xtimes b = bit_xor (b * 2 % 256) (b / 128 % 2 * 0x1b)

-- the product of b and the k low bits of a, by repeated xTimes
unfoldable pub times_bits : ℕ → ℕ → ℕ → ℕ
times_bits zero a b = 0
times_bits (suc k) a b = bit_xor (a % 2 * b) (times_bits k (a / 2) (xtimes b))

-- the product of the bytes a and b
unfoldable pub times : ℕ → ℕ → ℕ
times a b = times_bits 8 a b

-- the product of k factors b^2, b^4, b^8 ..
unfoldable pub squares : ℕ → ℕ → ℕ
squares zero b = 1
squares (suc k) b = let q : ℕ = times b b in times q (squares k q)

-- the multiplicative inverse of b, and {00} of {00}: the power 254 of b
unfoldable pub inverse : ℕ → ℕ
inverse b = squares 7 b
