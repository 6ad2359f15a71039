-- Products in the field are sums of their parts, and bytes stay bytes.
use Rattle.std.proofs.Common.{◌≡◌, ℕ, zero, suc, ◌*◌, ◌/◌, ◌%◌, ◌<◌, ◌⊎◌, sym, refl, ap, ◌∙◌, ap₂, inl, inr, add-zero, one-mul, zero-mul, arith, lit<}
use lib.Bits.{bit_xor, xor_comm, xor_assoc, xor_lt, xor_shr, xor_mod, xor_block, xor_zero_l, xor_zero_r, xor_self}
use Rattle.aes.specs.Field.{xtimes, times_bits, times}

pub xor_left : (a b c : ℕ) → bit_xor a (bit_xor b c) ≡ bit_xor b (bit_xor a c)
xor_left a b c = sym (xor_assoc a b c) ∙ ap (λ x. bit_xor x c) (xor_comm a b) ∙ xor_assoc b a c

pub xor_swap : (a b c d : ℕ) → bit_xor (bit_xor a b) (bit_xor c d) ≡ bit_xor (bit_xor a c) (bit_xor b d)
xor_swap a b c d = xor_assoc a b (bit_xor c d) ∙ ap (λ x. bit_xor a x) (xor_left b c d) ∙ sym (xor_assoc a c (bit_xor b d))

bit_cases : (x : ℕ) → x < 2 → (x ≡ 0) ⊎ (x ≡ 1)
bit_cases zero h = inl refl
bit_cases (suc zero) h = inr refl
bit_cases (suc (suc n)) h = absurd (omega arith)

-- a bit times a number, with either factor a sum
bit_times : (n x y : ℕ) → x < 2 → y < 2 → bit_xor x y * n ≡ bit_xor (x * n) (y * n)
bit_times n x y h k = elim (bit_cases x h) [ inl p ↦ zero_left p | inr p ↦ elim (bit_cases y k) [ inl q ↦ zero_right q | inr q ↦ ones p q ] ]
  where
    zero_left : x ≡ 0 → bit_xor x y * n ≡ bit_xor (x * n) (y * n)
    zero_left p = simp (p, zero-mul, xor_zero_l)

    zero_right : y ≡ 0 → bit_xor x y * n ≡ bit_xor (x * n) (y * n)
    zero_right q = simp (q, zero-mul, xor_zero_r)

    ones : x ≡ 1 → y ≡ 1 → bit_xor x y * n ≡ bit_xor (x * n) (y * n)
    ones p q = simp (p, q, one-mul, xor_self, zero-mul)

times_bit : (n x y : ℕ) → n < 2 → n * bit_xor x y ≡ bit_xor (n * x) (n * y)
times_bit n x y h = elim (bit_cases n h) [ inl p ↦ simp (p, zero-mul, xor_self) | inr p ↦ simp (p, one-mul) ]

twice_xor : (a b : ℕ) → bit_xor a b * 2 ≡ bit_xor (a * 2) (b * 2)
twice_xor a b =
    sym (add-zero (bit_xor a b * 2)) ∙ sym (xor_block 1 a b 0 0 (lit< tt) (lit< tt))
    ∙ ap₂ bit_xor (add-zero (a * 2)) (add-zero (b * 2))

xtimes_xor : (a b : ℕ) → xtimes (bit_xor a b) ≡ bit_xor (xtimes a) (xtimes b)
unfolding xtimes
xtimes_xor a b =
    ap₂ bit_xor (ap (λ x. x % 256) (twice_xor a b) ∙ xor_mod (a * 2) (b * 2) 8)
    (ap (λ x. x % 2 * 0x1b) (xor_shr a b 7) ∙ ap (λ x. x * 0x1b) (xor_mod (a / 128) (b / 128) 1)
    ∙ bit_times 0x1b (a / 128 % 2) (b / 128 % 2) (omega arith) (omega arith))
    ∙ xor_swap (a * 2 % 256) (b * 2 % 256) (a / 128 % 2 * 0x1b) (b / 128 % 2 * 0x1b)

times_bits_xor : (k n a b : ℕ) → times_bits k n (bit_xor a b) ≡ bit_xor (times_bits k n a) (times_bits k n b)
unfolding times_bits
times_bits_xor zero n a b = refl
times_bits_xor (suc k) n a b =
    ap₂ bit_xor (times_bit (n % 2) a b (omega arith)) (ap (times_bits k (n / 2)) (xtimes_xor a b) ∙ times_bits_xor k (n / 2) (xtimes a) (xtimes b))
    ∙ xor_swap (n % 2 * a) (n % 2 * b) (times_bits k (n / 2) (xtimes a)) (times_bits k (n / 2) (xtimes b))

pub times_xor : (n a b : ℕ) → times n (bit_xor a b) ≡ bit_xor (times n a) (times n b)
unfolding times
times_xor n a b = times_bits_xor 8 n a b

-- bytes stay bytes
pub xor_byte : (a b : ℕ) → a < 256 → b < 256 → bit_xor a b < 256
xor_byte a b h k = xor_lt 8 a b h k

pub xtimes_byte : (a : ℕ) → xtimes a < 256
unfolding xtimes
xtimes_byte a = xor_lt 8 (a * 2 % 256) (a / 128 % 2 * 0x1b) (omega arith) (omega arith)

bit_small : (n a : ℕ) → n < 2 → a < 256 → n * a < 256
bit_small n a h k = elim (bit_cases n h) [ inl p ↦ simp (p, zero-mul) (lit< tt) | inr p ↦ simp (p, one-mul) k ]

times_bits_byte : (k n a : ℕ) → a < 256 → times_bits k n a < 256
unfolding times_bits
times_bits_byte zero n a h = lit< tt
times_bits_byte (suc k) n a h =
    xor_lt 8 (n % 2 * a) (times_bits k (n / 2) (xtimes a)) (bit_small (n % 2) a (omega arith) h)
    (times_bits_byte k (n / 2) (xtimes a) (xtimes_byte a))

pub times_byte : (n a : ℕ) → a < 256 → times n a < 256
unfolding times
times_byte n a h = times_bits_byte 8 n a h
