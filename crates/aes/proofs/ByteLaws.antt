-- What holds of each byte: its inverse, the S-boxes, and that InvMixColumns and MixColumns undo each other at a byte.
use Rattle.std.proofs.Common.{◌≡◌, ℕ, zero, suc, ◌/◌, ◌<◌, refl, ◌∙◌, ap₂, arith}
use lib.Bits.{bit_xor, xor_comm, xor_assoc, xor_zero_r}
use Rattle.aes.specs.Field.{xtimes, times_bits, times, squares, inverse}
use Rattle.aes.specs.SBox.{rotated, affine, inv_affine, s_box, inv_s_box}
use Rattle.aes.specs.Rounds.{mix_byte}
use Rattle.aes.specs.Inverse.{inv_mix_byte}
use Rattle.aes.specs.Laws.{MultiplicativeInverse, BoxesInvert}
use Rattle.aes.proofs.Tables.{below}
use Rattle.aes.proofs.FieldLaws.{xor_left, xor_byte, times_xor, times_byte}

inverse_right : (a : ℕ) → a < 255 → times (suc a) (inverse (suc a)) ≡ 1
unfolding xtimes times_bits times squares inverse
inverse_right a h = below (λ x. times (suc x) (inverse (suc x))) (λ x. 1) 255 tt a h

pub multiplicative_inverse : MultiplicativeInverse
multiplicative_inverse zero p h = absurd (omega arith)
multiplicative_inverse (suc a) p h = inverse_right a (omega arith)

pub inv_s_box_s_box : (a : ℕ) → a < 256 → inv_s_box (s_box a) ≡ a
unfolding xtimes times_bits times squares inverse rotated affine inv_affine s_box inv_s_box
inv_s_box_s_box a h = below (λ x. inv_s_box (s_box x)) (λ x. x) 256 tt a h

pub s_box_inv_s_box : (a : ℕ) → a < 256 → s_box (inv_s_box a) ≡ a
unfolding xtimes times_bits times squares inverse rotated affine inv_affine s_box inv_s_box
s_box_inv_s_box a h = below (λ x. s_box (inv_s_box x)) (λ x. x) 256 tt a h

pub boxes_invert : BoxesInvert
boxes_invert b h = (inv_s_box_s_box b h, s_box_inv_s_box b h)

s_box_high : (a : ℕ) → a < 256 → s_box a / 256 ≡ 0
unfolding xtimes times_bits times squares inverse rotated affine s_box
s_box_high a h = below (λ x. s_box x / 256) (λ x. 0) 256 tt a h

pub s_box_byte : (a : ℕ) → a < 256 → s_box a < 256
s_box_byte a h = omega (arith, s_box_high a h)

inv_s_box_high : (a : ℕ) → a < 256 → inv_s_box a / 256 ≡ 0
unfolding xtimes times_bits times squares inverse rotated inv_affine inv_s_box
inv_s_box_high a h = below (λ x. inv_s_box x / 256) (λ x. 0) 256 tt a h

pub inv_s_box_byte : (a : ℕ) → a < 256 → inv_s_box a < 256
inv_s_box_byte a h = omega (arith, inv_s_box_high a h)

pub mix_byte_byte : (a b c d : ℕ) → a < 256 → b < 256 → c < 256 → d < 256 → mix_byte a b c d < 256
unfolding mix_byte
mix_byte_byte a b c d ha hb hc hd =
    xor_byte (bit_xor (times 2 a) (times 3 b)) (bit_xor c d) (xor_byte (times 2 a) (times 3 b) (times_byte 2 a ha) (times_byte 3 b hb))
    (xor_byte c d hc hd)

pub inv_mix_byte_byte : (a b c d : ℕ) → a < 256 → b < 256 → c < 256 → d < 256 → inv_mix_byte a b c d < 256
unfolding inv_mix_byte
inv_mix_byte_byte a b c d ha hb hc hd =
    xor_byte (bit_xor (times 14 a) (times 11 b)) (bit_xor (times 13 c) (times 9 d))
    (xor_byte (times 14 a) (times 11 b) (times_byte 14 a ha) (times_byte 11 b hb))
    (xor_byte (times 13 c) (times 9 d) (times_byte 13 c hc) (times_byte 9 d hd))

-- a byte of a column by four factors, each linear
Linear : (ℕ → ℕ) → Type 0
Linear f = (a b : ℕ) → f (bit_xor a b) ≡ bit_xor (f a) (f b)

abbrev four : (ℕ → ℕ) → (ℕ → ℕ) → (ℕ → ℕ) → (ℕ → ℕ) → ℕ → ℕ → ℕ → ℕ → ℕ
four p q r s a b c d = bit_xor (bit_xor (p a) (q b)) (bit_xor (r c) (s d))

spread : (p : ℕ → ℕ) → Linear p → (a b c d : ℕ) → p (bit_xor (bit_xor a b) (bit_xor c d)) ≡ bit_xor (bit_xor (p a) (p b)) (bit_xor (p c) (p d))
unfolding Linear
spread p l a b c d = l (bit_xor a b) (bit_xor c d) ∙ ap₂ bit_xor (l a b) (l c d)

-- a square of sums, row by row, is the same by columns; the rows come turned, as those of the matrix do
across : (a b c d e f g h i j k l m n o p : ℕ) →
    bit_xor (bit_xor (bit_xor (bit_xor a b) (bit_xor c d)) (bit_xor (bit_xor e f) (bit_xor g h)))
    (bit_xor (bit_xor (bit_xor i j) (bit_xor k l)) (bit_xor (bit_xor m n) (bit_xor o p)))
    ≡ bit_xor (bit_xor (bit_xor (bit_xor a h) (bit_xor k n)) (bit_xor (bit_xor b e) (bit_xor l o)))
    (bit_xor (bit_xor (bit_xor c f) (bit_xor i p)) (bit_xor (bit_xor d g) (bit_xor j m)))
across a b c d e f g h i j k l m n o p = simp (xor_assoc, xor_comm, xor_left)

-- one rule after another, at a column and its turns, is a sum of a part for each byte
module _ (p q r s : ℕ → ℕ) (lp : Linear p) (lq : Linear q) (lr : Linear r) (ls : Linear s) (p' q' r' s' : ℕ → ℕ) where
  after : (a b c d : ℕ) →
      four p q r s (four p' q' r' s' a b c d) (four p' q' r' s' b c d a) (four p' q' r' s' c d a b) (four p' q' r' s' d a b c)
      ≡ bit_xor (bit_xor (four p q r s (p' a) (s' a) (r' a) (q' a)) (four p q r s (q' b) (p' b) (s' b) (r' b)))
      (bit_xor (four p q r s (r' c) (q' c) (p' c) (s' c)) (four p q r s (s' d) (r' d) (q' d) (p' d)))
  after a b c d =
      ap₂ bit_xor
      (ap₂ bit_xor (spread p lp (p' a) (q' b) (r' c) (s' d)) (spread q lq (p' b) (q' c) (r' d) (s' a)))
      (ap₂ bit_xor (spread r lr (p' c) (q' d) (r' a) (s' b)) (spread s ls (p' d) (q' a) (r' b) (s' c)))
      ∙ across (p (p' a)) (p (q' b)) (p (r' c)) (p (s' d)) (q (p' b)) (q (q' c)) (q (r' d)) (q (s' a))
      (r (p' c)) (r (q' d)) (r (r' a)) (r (s' b)) (s (p' d)) (s (q' a)) (s (r' b)) (s (s' c))

times_linear : (n : ℕ) → Linear (times n)
unfolding Linear
times_linear n a b = times_xor n a b

one_linear : Linear (λ x. x)
unfolding Linear
one_linear a b = refl

pub inv_mix_mix : (a b c d : ℕ) → a < 256 → b < 256 → c < 256 → d < 256 →
    inv_mix_byte (mix_byte a b c d) (mix_byte b c d a) (mix_byte c d a b) (mix_byte d a b c) ≡ a
unfolding xtimes times_bits times mix_byte inv_mix_byte
inv_mix_mix a b c d ha hb hc hd =
    after (times 14) (times 11) (times 13) (times 9) (times_linear 14) (times_linear 11) (times_linear 13) (times_linear 9) (times 2) (times 3) (λ x. x) (λ x. x) a b c d
    ∙ ap₂ bit_xor
    (ap₂ bit_xor
    (below (λ a. four (times 14) (times 11) (times 13) (times 9) (times 2 a) a a (times 3 a)) (λ a. a) 256 tt a ha)
    (below (λ b. four (times 14) (times 11) (times 13) (times 9) (times 3 b) (times 2 b) b b) (λ b. 0) 256 tt b hb))
    (ap₂ bit_xor
    (below (λ c. four (times 14) (times 11) (times 13) (times 9) c (times 3 c) (times 2 c) c) (λ c. 0) 256 tt c hc)
    (below (λ d. four (times 14) (times 11) (times 13) (times 9) d d (times 3 d) (times 2 d)) (λ d. 0) 256 tt d hd))
    ∙ xor_zero_r (bit_xor a 0) ∙ xor_zero_r a

pub mix_inv_mix : (a b c d : ℕ) → a < 256 → b < 256 → c < 256 → d < 256 →
    mix_byte (inv_mix_byte a b c d) (inv_mix_byte b c d a) (inv_mix_byte c d a b) (inv_mix_byte d a b c) ≡ a
unfolding xtimes times_bits times mix_byte inv_mix_byte
mix_inv_mix a b c d ha hb hc hd =
    after (times 2) (times 3) (λ x. x) (λ x. x) (times_linear 2) (times_linear 3) one_linear one_linear (times 14) (times 11) (times 13) (times 9) a b c d
    ∙ ap₂ bit_xor
    (ap₂ bit_xor
    (below (λ a. four (times 2) (times 3) (λ x. x) (λ x. x) (times 14 a) (times 9 a) (times 13 a) (times 11 a)) (λ a. a) 256 tt a ha)
    (below (λ b. four (times 2) (times 3) (λ x. x) (λ x. x) (times 11 b) (times 14 b) (times 9 b) (times 13 b)) (λ b. 0) 256 tt b hb))
    (ap₂ bit_xor
    (below (λ c. four (times 2) (times 3) (λ x. x) (λ x. x) (times 13 c) (times 11 c) (times 14 c) (times 9 c)) (λ c. 0) 256 tt c hc)
    (below (λ d. four (times 2) (times 3) (λ x. x) (λ x. x) (times 9 d) (times 13 d) (times 11 d) (times 14 d)) (λ d. 0) 256 tt d hd))
    ∙ xor_zero_r (bit_xor a 0) ∙ xor_zero_r a
