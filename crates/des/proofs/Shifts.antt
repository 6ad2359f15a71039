-- A shift of 28 bits round to the left, as the code makes it, and its bound.
use Rattle.std.proofs.Common.{◌≡◌, ℕ, zero, suc, ◌+◌, ◌-◌, ◌*◌, ◌/◌, ◌%◌, ◌^◌, ◌<◌, ◌≤◌, leb, get_or, sym, ap, ◌∙◌, mod-lt, mul_assoc, add-mul, arith, leb→le, pow_pos, pow-add, shr_lt}
use lib.Arith.{digits_lt}
use lib.Bits.{bit_and, bit_or, and_mask, or_shifted}
use lib.Pow.{split, low, mod-mod-pow}
use Rattle.std.proofs.lemmas.Nat.{shl_below}
use Rattle.des.specs.Schedule.{left_shift, shifted}
use Rattle.des.specs.Tables.{left_shifts}
use Rattle.des.proofs.Tested.{tested_below}

module _ (k x : ℕ) (h : k ≤ 28) where
  abbrev m : ℕ
  m = 28 - k

  whole : m + k ≡ 28
  whole = omega arith

  pow_whole : 2 ^ m * 2 ^ k ≡ 2 ^ 28
  pow_whole = sym (pow-add 2 m k) ∙ ap (λ n. 2 ^ n) whole

  -- the bits that stay
  stays : x * 2 ^ k % 2 ^ 28 ≡ x % 2 ^ m * 2 ^ k
  stays =
      let r : ℕ = x % 2 ^ m in
      let q : ℕ = x / 2 ^ m in
      let l : r * 2 ^ k < 2 ^ 28 = rw whole at (shl_below r m k (mod-lt x (pow_pos m))) in
      ap (λ n. n * 2 ^ k % 2 ^ 28) (sym (split x m))
      ∙ ap (λ n. n % 2 ^ 28) (add-mul (q * 2 ^ m) r (2 ^ k) ∙ ap (λ n. n + r * 2 ^ k) (mul_assoc q (2 ^ m) (2 ^ k) ∙ ap (λ n. q * n) pow_whole))
      ∙ low q 28 l

  enters : x < 2 ^ 28 → x / 2 ^ m < 2 ^ k
  enters b = shr_lt k m (let e : k + m ≡ 28 = omega arith in rw e b)

  pub rotated : x < 2 ^ 28 → bit_or (bit_and (x * 2 ^ k % 2 ^ 32) (2 ^ 28 - 1)) (x / 2 ^ m) ≡ left_shift k x
  unfolding left_shift
  rotated b =
      ap (λ n. bit_or n (x / 2 ^ m)) (and_mask (x * 2 ^ k % 2 ^ 32) 28 ∙ mod-mod-pow (x * 2 ^ k) 4 28 ∙ stays)
      ∙ or_shifted (x % 2 ^ m) k (x / 2 ^ m) (enters b)
      ∙ ap (λ n. n + x / 2 ^ m) (sym stays)

  pub left_shift_lt : x < 2 ^ 28 → left_shift k x < 2 ^ 28
  unfolding left_shift
  left_shift_lt b =
      let l : x % 2 ^ m * 2 ^ k + x / 2 ^ m < 2 ^ m * 2 ^ k = digits_lt (mod-lt x (pow_pos m)) (enters b) in
      let e = pow_whole in
      let s = stays in
      omega arith

pub shift_le : (n : ℕ) → n < 16 → get_or left_shifts n 0 ≤ 28
unfolding left_shifts
shift_le n h = leb→le (get_or left_shifts n 0) 28 (tested_below (λ n. leb (get_or left_shifts n 0) 28) 16 tt n h)

pub shifted_lt : (n x : ℕ) → n ≤ 16 → x < 2 ^ 28 → shifted n x < 2 ^ 28
unfolding shifted
shifted_lt zero x l h = h
shifted_lt (suc n) x l h = left_shift_lt (get_or left_shifts n 0) (shifted n x) (shift_le n l) (shifted_lt n x (omega arith) h)
