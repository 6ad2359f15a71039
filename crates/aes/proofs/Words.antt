-- Sums, rotations and parts of words, byte by byte.
use Rattle.std.proofs.Common.{◌≡◌, ℕ, ◌+◌, ◌*◌, ◌/◌, ◌%◌, ◌^◌, ◌<◌, List, [], ◌∷◌, ◌++◌, length, get_or, sym, refl, ap, ◌∙◌, ap₂, arith}
use lib.Bits.{bit_xor, bit_or, xor_comm, xor_assoc, xor_mod, xor_shr, xor_zero_l, xor_zero_r}
use Rattle.std.proofs.lemmas.Nat.{or_shifted, shr-shr, shr_split}
use Rattle.aes.specs.Rounds.{mix_byte}
use Rattle.aes.specs.Inverse.{inv_mix_byte}
use Rattle.aes.specs.State.{xor_bytes}
use Rattle.aes.specs.declared.state.State.{State}
use Rattle.aes.specs.Words.{word_bytes, state_bytes, column_of, diagonal, turned}
use Rattle.aes.proofs.Rows.{exactly}
use Rattle.aes.proofs.FieldLaws.{xor_left, times_xor}

-- four equal bytes
pub same_bytes : {a b c d a' b' c' d' : ℕ} → a ≡ a' → b ≡ b' → c ≡ c' → d ≡ d' → ◌≡◌ {A = List ℕ} (a ∷ b ∷ c ∷ d ∷ []) (a' ∷ b' ∷ c' ∷ d' ∷ [])
same_bytes p q r s = cc

-- the bytes of a word that is made of bytes
pub made_bytes : (a b c d : ℕ) → a < 256 → b < 256 → c < 256 → d < 256 →
    word_bytes (a + b * 256 + c * 65536 + d * 16777216) ≡ a ∷ b ∷ c ∷ d ∷ []
unfolding word_bytes
made_bytes a b c d ha hb hc hd = same_bytes (omega arith) (omega arith) (omega arith) (omega arith)

-- the bytes of a sum are the sums of the bytes
pub xor_bytes_lem : (x y : ℕ) → word_bytes (bit_xor x y) ≡ xor_bytes (word_bytes x) (word_bytes y)
unfolding word_bytes xor_bytes
xor_bytes_lem x y =
    same_bytes (xor_mod x y 8) (ap (λ n. n % 256) (xor_shr x y 8) ∙ xor_mod (x / 256) (y / 256) 8)
    (ap (λ n. n % 256) (xor_shr x y 16) ∙ xor_mod (x / 65536) (y / 65536) 8)
    (ap (λ n. n % 256) (xor_shr x y 24) ∙ xor_mod (x / 16777216) (y / 16777216) 8)

-- a word is made of its bytes
digits : (x y z u a b c d : ℕ) → y * 256 + a ≡ x → z * 256 + b ≡ y → u * 256 + c ≡ z → u ≡ d → x ≡ a + b * 256 + c * 65536 + d * 16777216
digits x y z u a b c d p q r s = omega arith

word_is : (x : ℕ) → x < 2 ^ 32 → x ≡ x % 256 + x / 256 % 256 * 256 + x / 65536 % 256 * 65536 + x / 16777216 % 256 * 16777216
word_is x h =
    let top : x / 16777216 ≡ x / 16777216 % 256 = omega arith in
    digits x (x / 256) (x / 65536) (x / 16777216) (x % 256) (x / 256 % 256) (x / 65536 % 256) (x / 16777216 % 256)
    (shr_split x 8) (ap (λ n. n * 256 + x / 256 % 256) (sym (shr-shr x 8 8)) ∙ shr_split (x / 256) 8)
    (ap (λ n. n * 256 + x / 65536 % 256) (sym (shr-shr x 16 8)) ∙ shr_split (x / 65536) 8) top

-- a rotation of a word by n bytes, and those of its bytes
module _ (a b c d : ℕ) (ha : a < 256) (hb : b < 256) (hc : c < 256) (hd : d < 256) where
  made : ℕ
  made = a + b * 256 + c * 65536 + d * 16777216

  made_1 : word_bytes (bit_or ((made * 2 ^ 8) % 2 ^ 32) (made / 2 ^ 24)) ≡ d ∷ a ∷ b ∷ c ∷ []
  unfolding made
  made_1 =
      let e : (made * 2 ^ 8) % 2 ^ 32 ≡ (a + b * 256 + c * 65536) * 2 ^ 8 = omega arith in
      let f : made / 2 ^ 24 ≡ d = omega arith in
      let g : (a + b * 256 + c * 65536) * 2 ^ 8 + d ≡ d + a * 256 + b * 65536 + c * 16777216 = omega arith in
      ap word_bytes (ap₂ bit_or e f ∙ or_shifted (a + b * 256 + c * 65536) 8 d hd ∙ g) ∙ made_bytes d a b c hd ha hb hc

  made_2 : word_bytes (bit_or ((made * 2 ^ 16) % 2 ^ 32) (made / 2 ^ 16)) ≡ c ∷ d ∷ a ∷ b ∷ []
  unfolding made
  made_2 =
      let e : (made * 2 ^ 16) % 2 ^ 32 ≡ (a + b * 256) * 2 ^ 16 = omega arith in
      let f : made / 2 ^ 16 ≡ c + d * 256 = omega arith in
      let g : (a + b * 256) * 2 ^ 16 + (c + d * 256) ≡ c + d * 256 + a * 65536 + b * 16777216 = omega arith in
      ap word_bytes (ap₂ bit_or e f ∙ or_shifted (a + b * 256) 16 (c + d * 256) (omega arith) ∙ g) ∙ made_bytes c d a b hc hd ha hb

  made_3 : word_bytes (bit_or ((made * 2 ^ 24) % 2 ^ 32) (made / 2 ^ 8)) ≡ b ∷ c ∷ d ∷ a ∷ []
  unfolding made
  made_3 =
      let e : (made * 2 ^ 24) % 2 ^ 32 ≡ a * 2 ^ 24 = omega arith in
      let f : made / 2 ^ 8 ≡ b + c * 256 + d * 65536 = omega arith in
      let g : a * 2 ^ 24 + (b + c * 256 + d * 65536) ≡ b + c * 256 + d * 65536 + a * 16777216 = omega arith in
      ap word_bytes (ap₂ bit_or e f ∙ or_shifted a 24 (b + c * 256 + d * 65536) (omega arith) ∙ g) ∙ made_bytes b c d a hb hc hd ha

-- a rotation by n bytes turns the column by n rows
module _ (x : ℕ) (h : x < 2 ^ 32) where
  pub rotate_1 : word_bytes (bit_or ((x * 2 ^ 8) % 2 ^ 32) (x / 2 ^ 24)) ≡ turned 1 (word_bytes x)
  unfolding word_bytes turned made
  rotate_1 =
      ap (λ n. word_bytes (bit_or ((n * 2 ^ 8) % 2 ^ 32) (n / 2 ^ 24))) (word_is x h)
      ∙ made_1 (x % 256) (x / 256 % 256) (x / 65536 % 256) (x / 16777216 % 256) (omega arith) (omega arith) (omega arith) (omega arith)

  pub rotate_2 : word_bytes (bit_or ((x * 2 ^ 16) % 2 ^ 32) (x / 2 ^ 16)) ≡ turned 2 (word_bytes x)
  unfolding word_bytes turned made
  rotate_2 =
      ap (λ n. word_bytes (bit_or ((n * 2 ^ 16) % 2 ^ 32) (n / 2 ^ 16))) (word_is x h)
      ∙ made_2 (x % 256) (x / 256 % 256) (x / 65536 % 256) (x / 16777216 % 256) (omega arith) (omega arith) (omega arith) (omega arith)

  pub rotate_3 : word_bytes (bit_or ((x * 2 ^ 24) % 2 ^ 32) (x / 2 ^ 8)) ≡ turned 3 (word_bytes x)
  unfolding word_bytes turned made
  rotate_3 =
      ap (λ n. word_bytes (bit_or ((n * 2 ^ 24) % 2 ^ 32) (n / 2 ^ 8))) (word_is x h)
      ∙ made_3 (x % 256) (x / 256 % 256) (x / 65536 % 256) (x / 16777216 % 256) (omega arith) (omega arith) (omega arith) (omega arith)

-- a byte's rule that takes sums to sums
pub Linear : (ℕ → ℕ → ℕ → ℕ → ℕ) → Type 0
Linear f = (a b c d e g h i : ℕ) → bit_xor (f a b c d) (f e g h i) ≡ f (bit_xor a e) (bit_xor b g) (bit_xor c h) (bit_xor d i)

pub mix_linear : Linear mix_byte
unfolding mix_byte Linear
mix_linear a b c d e g h i = simp (times_xor, xor_assoc, xor_comm, xor_left)

pub inv_mix_linear : Linear inv_mix_byte
unfolding inv_mix_byte Linear
inv_mix_linear a b c d e g h i = simp (times_xor, xor_assoc, xor_comm, xor_left)

-- a column is the sum of the columns of its bytes
column_sum : (f : ℕ → ℕ → ℕ → ℕ → ℕ) → Linear f → (a b c d : ℕ) →
    xor_bytes (xor_bytes (xor_bytes (column_of f (a ∷ 0 ∷ 0 ∷ 0 ∷ [])) (turned 1 (column_of f (b ∷ 0 ∷ 0 ∷ 0 ∷ [])))) (turned 2 (column_of f (c ∷ 0 ∷ 0 ∷ 0 ∷ []))))
    (turned 3 (column_of f (d ∷ 0 ∷ 0 ∷ 0 ∷ [])))
    ≡ column_of f (a ∷ b ∷ c ∷ d ∷ [])
unfolding xor_bytes column_of turned Linear
column_sum f linear a b c d = simp (linear, xor_zero_l, xor_zero_r)

pub summed : (f : ℕ → ℕ → ℕ → ℕ → ℕ) → Linear f → (a b c d p q r s : ℕ) {t : List ℕ} →
    word_bytes p ≡ column_of f (a ∷ 0 ∷ 0 ∷ 0 ∷ []) → word_bytes q ≡ column_of f (b ∷ 0 ∷ 0 ∷ 0 ∷ []) →
    word_bytes r ≡ column_of f (c ∷ 0 ∷ 0 ∷ 0 ∷ []) → word_bytes s ≡ column_of f (d ∷ 0 ∷ 0 ∷ 0 ∷ []) →
    t ≡ xor_bytes (xor_bytes (xor_bytes (word_bytes p) (turned 1 (word_bytes q))) (turned 2 (word_bytes r))) (turned 3 (word_bytes s)) →
    t ≡ column_of f (a ∷ b ∷ c ∷ d ∷ [])
summed f linear a b c d p q r s ep eq er es e =
    e ∙ ap₂ xor_bytes (ap₂ xor_bytes (ap₂ xor_bytes ep (ap (turned 1) eq)) (ap (turned 2) er)) (ap (turned 3) es) ∙ column_sum f linear a b c d

-- a column of f of a byte of each of four columns, and the key's word
pub keyed_diagonal_lem : (f : ℕ → ℕ) (x y z u p q r s t key : ℕ) → p < 256 → q < 256 → r < 256 → s < 256 →
    p ≡ f (get_or (word_bytes x) 0 0) → q ≡ f (get_or (word_bytes y) 1 0) → r ≡ f (get_or (word_bytes z) 2 0) → s ≡ f (get_or (word_bytes u) 3 0) →
    t ≡ p + q * 256 + r * 65536 + s * 16777216 → word_bytes (bit_xor t key) ≡ xor_bytes (diagonal f x y z u) (word_bytes key)
unfolding diagonal
keyed_diagonal_lem f x y z u p q r s t key hp hq hr hs ep eq er es e =
    xor_bytes_lem t key ∙ ap (λ a. xor_bytes a (word_bytes key)) (ap word_bytes e ∙ made_bytes p q r s hp hq hr hs ∙ same_bytes ep eq er es)

-- the bytes of four words
pub joined : (s : State) {a b c d : List ℕ} → word_bytes s.c0 ≡ a → word_bytes s.c1 ≡ b → word_bytes s.c2 ≡ c → word_bytes s.c3 ≡ d →
    state_bytes s ≡ a ++ (b ++ (c ++ d))
unfolding state_bytes
joined s p q r t = ap₂ ◌++◌ p (ap₂ ◌++◌ q (ap₂ ◌++◌ r t))

abbrev pub four_at : List ℕ → ℕ → List ℕ
four_at s j = get_or s j 0 ∷ get_or s (j + 1) 0 ∷ get_or s (j + 2) 0 ∷ get_or s (j + 3) 0 ∷ []

pub sixteen : (s : List ℕ) → length s ≡ 16 → four_at s 0 ++ (four_at s 4 ++ (four_at s 8 ++ four_at s 12)) ≡ s
sixteen = exactly 16 (λ s. four_at s 0 ++ (four_at s 4 ++ (four_at s 8 ++ four_at s 12)) ≡ s) (λ a b c d e f g h i j k l m n o p. refl)
