-- Each step of the cipher keeps bytes bytes, and its inverse undoes it; so InvCipher and Cipher undo each other.
use Rattle.std.proofs.Common.{◌≡◌, ℕ, zero, suc, pred, ◌+◌, ◌-◌, ◌*◌, ◌%◌, ◌<◌, List, [], ◌∷◌, map, length, drop, sym, refl, ap, ◌∙◌, ap₂, arith, lit<, length-drop, length-take}
use lib.Bits.{bit_xor, xor_assoc, xor_self, xor_zero_r}
use lib.ListN.{length-map}
use Rattle.std.proofs.ByRecursion.{All-take, All-drop}
use Rattle.aes.specs.SBox.{s_box, inv_s_box}
use Rattle.aes.specs.State.{Bytes, byte_at, state_of, xor_bytes}
use Rattle.aes.specs.Rounds.{sub_bytes, shift_rows, mix_byte, mix_columns, add_round_key, round_key, cipher_round, cipher_rounds, cipher}
use Rattle.aes.specs.Inverse.{inv_sub_bytes, inv_shift_rows, inv_mix_byte, inv_mix_columns, inv_cipher_round, inv_cipher_rounds, inv_cipher}
use Rattle.aes.proofs.Rows.{exactly}
use Rattle.aes.proofs.FieldLaws.{xor_byte}
use Rattle.aes.proofs.ByteLaws.{inv_s_box_s_box, s_box_inv_s_box, s_box_byte, inv_s_box_byte, mix_byte_byte, inv_mix_byte_byte, inv_mix_mix, mix_inv_mix}
use Rattle.aes.proofs.Columns.{Small, byte_at_byte, state_of_bytes, columns_bytes, columns_undone}

-- AddRoundKey
xor_twice : (s k : List ℕ) → length s ≡ length k → xor_bytes (xor_bytes s k) k ≡ s
unfolding xor_bytes
xor_twice [] k e = refl
xor_twice (x ∷ s) [] e = absurd (omega arith)
xor_twice (x ∷ s) (y ∷ k) e =
    ap₂ {C = List ℕ} ◌∷◌ (xor_assoc x y y ∙ ap (bit_xor x) (xor_self y) ∙ xor_zero_r x) (xor_twice s k (ap pred e))

pub xor_bytes_length : (s k : List ℕ) → length s ≡ length k → length (xor_bytes s k) ≡ length s
unfolding xor_bytes
xor_bytes_length [] k e = refl
xor_bytes_length (x ∷ s) [] e = absurd (omega arith)
xor_bytes_length (x ∷ s) (y ∷ k) e = ap suc (xor_bytes_length s k (ap pred e))

xor_bytes_small : (s k : List ℕ) → Small s → Small k → Small (xor_bytes s k)
unfolding xor_bytes
xor_bytes_small [] k h g = tt
xor_bytes_small (x ∷ s) [] h g = tt
xor_bytes_small (x ∷ s) (y ∷ k) h g = (xor_byte x y h.0 g.0, xor_bytes_small s k h.1 g.1)

pub xor_bytes_bytes : (n : ℕ) (s k : List ℕ) → Bytes n s → Bytes n k → Bytes n (xor_bytes s k)
xor_bytes_bytes n s k h g = (xor_bytes_length s k (h.0 ∙ sym g.0) ∙ h.0, xor_bytes_small s k h.1 g.1)

pub add_round_key_bytes : (s k : List ℕ) → Bytes 16 s → Bytes 16 k → Bytes 16 (add_round_key s k)
unfolding add_round_key
add_round_key_bytes s k h g = xor_bytes_bytes 16 s k h g

add_round_key_twice : (s k : List ℕ) → Bytes 16 s → Bytes 16 k → add_round_key (add_round_key s k) k ≡ s
unfolding add_round_key
add_round_key_twice s k h g = xor_twice s k (h.0 ∙ sym g.0)

pub round_key_bytes : (w : List ℕ) (r : ℕ) → Bytes 176 w → r < 11 → Bytes 16 (round_key w r)
unfolding round_key
round_key_bytes w r h l =
    let P : ℕ → Type 0 = λ x. x < 256 in
    (simp (length-take, length-drop) (omega (arith, h.0)), All-take P 16 (drop (16 * r) w) (All-drop P (16 * r) w h.1))

-- SubBytes
map_small : (f : ℕ → ℕ) → ((x : ℕ) → x < 256 → f x < 256) → (s : List ℕ) → Small s → Small (map f s)
map_small f b [] h = tt
map_small f b (x ∷ s) h = (b x h.0, map_small f b s h.1)

pub map_bytes : (n : ℕ) (f : ℕ → ℕ) → ((x : ℕ) → x < 256 → f x < 256) → (s : List ℕ) → Bytes n s → Bytes n (map f s)
map_bytes n f b s h = (length-map s f ∙ h.0, map_small f b s h.1)

map_undone : (f g : ℕ → ℕ) → ((x : ℕ) → x < 256 → g (f x) ≡ x) → (s : List ℕ) → Small s → map g (map f s) ≡ s
map_undone f g e [] h = refl
map_undone f g e (x ∷ s) h = ap₂ {C = List ℕ} ◌∷◌ (e x h.0) (map_undone f g e s h.1)

pub sub_bytes_bytes : (s : List ℕ) → Bytes 16 s → Bytes 16 (sub_bytes s)
unfolding sub_bytes
sub_bytes_bytes s h = map_bytes 16 s_box s_box_byte s h

pub inv_sub_bytes_bytes : (s : List ℕ) → Bytes 16 s → Bytes 16 (inv_sub_bytes s)
unfolding inv_sub_bytes
inv_sub_bytes_bytes s h = map_bytes 16 inv_s_box inv_s_box_byte s h

inv_sub_sub : (s : List ℕ) → Bytes 16 s → inv_sub_bytes (sub_bytes s) ≡ s
unfolding sub_bytes inv_sub_bytes
inv_sub_sub s h = map_undone s_box inv_s_box inv_s_box_s_box s h.1

sub_inv_sub : (s : List ℕ) → Bytes 16 s → sub_bytes (inv_sub_bytes s) ≡ s
unfolding sub_bytes inv_sub_bytes
sub_inv_sub s h = map_undone inv_s_box s_box s_box_inv_s_box s h.1

-- ShiftRows
pub shift_rows_bytes : (s : List ℕ) → Bytes 16 s → Bytes 16 (shift_rows s)
unfolding shift_rows
shift_rows_bytes s h = state_of_bytes (λ r c. byte_at s r ((c + r) % 4)) (λ r c. byte_at_byte s r ((c + r) % 4) h.1)

pub inv_shift_rows_bytes : (s : List ℕ) → Bytes 16 s → Bytes 16 (inv_shift_rows s)
unfolding inv_shift_rows
inv_shift_rows_bytes s h = state_of_bytes (λ r c. byte_at s r ((c + 4 - r) % 4)) (λ r c. byte_at_byte s r ((c + 4 - r) % 4) h.1)

inv_shift_shift : (s : List ℕ) → Bytes 16 s → inv_shift_rows (shift_rows s) ≡ s
unfolding byte_at state_of shift_rows inv_shift_rows
inv_shift_shift s h = exactly 16 (λ s. inv_shift_rows (shift_rows s) ≡ s) (λ a b c d e f g h i j k l m n o p. refl) s h.0

shift_inv_shift : (s : List ℕ) → Bytes 16 s → shift_rows (inv_shift_rows s) ≡ s
unfolding byte_at state_of shift_rows inv_shift_rows
shift_inv_shift s h = exactly 16 (λ s. shift_rows (inv_shift_rows s) ≡ s) (λ a b c d e f g h i j k l m n o p. refl) s h.0

-- MixColumns
pub mix_columns_bytes : (s : List ℕ) → Bytes 16 s → Bytes 16 (mix_columns s)
unfolding mix_columns
mix_columns_bytes s h = columns_bytes mix_byte mix_byte_byte s h

pub inv_mix_columns_bytes : (s : List ℕ) → Bytes 16 s → Bytes 16 (inv_mix_columns s)
unfolding inv_mix_columns
inv_mix_columns_bytes s h = columns_bytes inv_mix_byte inv_mix_byte_byte s h

inv_mix_columns_mix_columns : (s : List ℕ) → Bytes 16 s → inv_mix_columns (mix_columns s) ≡ s
unfolding mix_columns inv_mix_columns
inv_mix_columns_mix_columns s h = columns_undone mix_byte inv_mix_byte inv_mix_mix s h

mix_columns_inv_mix_columns : (s : List ℕ) → Bytes 16 s → mix_columns (inv_mix_columns s) ≡ s
unfolding mix_columns inv_mix_columns
mix_columns_inv_mix_columns s h = columns_undone inv_mix_byte mix_byte mix_inv_mix s h

-- ShiftRows after SubBytes, and its inverse
shifted : List ℕ → List ℕ
shifted s = shift_rows (sub_bytes s)

unshifted : List ℕ → List ℕ
unshifted s = inv_sub_bytes (inv_shift_rows s)

pub shifted_bytes : (s : List ℕ) → Bytes 16 s → Bytes 16 (shift_rows (sub_bytes s))
shifted_bytes s h = shift_rows_bytes (sub_bytes s) (sub_bytes_bytes s h)

pub unshifted_bytes : (s : List ℕ) → Bytes 16 s → Bytes 16 (inv_sub_bytes (inv_shift_rows s))
unshifted_bytes s h = inv_sub_bytes_bytes (inv_shift_rows s) (inv_shift_rows_bytes s h)

unshifted_shifted : (s : List ℕ) → Bytes 16 s → unshifted (shifted s) ≡ s
unfolding shifted unshifted
unshifted_shifted s h = ap inv_sub_bytes (inv_shift_shift (sub_bytes s) (sub_bytes_bytes s h)) ∙ inv_sub_sub s h

shifted_unshifted : (s : List ℕ) → Bytes 16 s → shifted (unshifted s) ≡ s
unfolding shifted unshifted
shifted_unshifted s h = ap shift_rows (sub_inv_sub (inv_shift_rows s) (inv_shift_rows_bytes s h)) ∙ shift_inv_shift s h

-- a round, and the inverse round
pub cipher_round_bytes : (k s : List ℕ) → Bytes 16 k → Bytes 16 s → Bytes 16 (cipher_round k s)
unfolding cipher_round
cipher_round_bytes k s g h = add_round_key_bytes (mix_columns (shift_rows (sub_bytes s))) k (mix_columns_bytes (shift_rows (sub_bytes s)) (shifted_bytes s h)) g

pub inv_cipher_round_bytes : (k s : List ℕ) → Bytes 16 k → Bytes 16 s → Bytes 16 (inv_cipher_round k s)
unfolding inv_cipher_round
inv_cipher_round_bytes k s g h =
    inv_mix_columns_bytes (add_round_key (inv_sub_bytes (inv_shift_rows s)) k) (add_round_key_bytes (inv_sub_bytes (inv_shift_rows s)) k (unshifted_bytes s h) g)

-- the inverse round takes what a round's state is before the next AddRoundKey to the same of the round before
round_undone : (k s : List ℕ) → Bytes 16 k → Bytes 16 s → inv_cipher_round k (shifted (cipher_round k s)) ≡ shifted s
unfolding shifted unshifted cipher_round inv_cipher_round
round_undone k s g h =
    let b : Bytes 16 (shifted s) = shifted_bytes s h in
    ap (λ t. inv_mix_columns (add_round_key t k)) (unshifted_shifted (cipher_round k s) (cipher_round_bytes k s g h))
    ∙ ap inv_mix_columns (add_round_key_twice (mix_columns (shifted s)) k (mix_columns_bytes (shifted s) b) g)
    ∙ inv_mix_columns_mix_columns (shifted s) b

inv_round_undone : (k s : List ℕ) → Bytes 16 k → Bytes 16 s → cipher_round k (unshifted (inv_cipher_round k s)) ≡ unshifted s
unfolding shifted unshifted cipher_round inv_cipher_round
inv_round_undone k s g h =
    let b : Bytes 16 (unshifted s) = unshifted_bytes s h in
    let c : Bytes 16 (add_round_key (unshifted s) k) = add_round_key_bytes (unshifted s) k b g in
    ap (λ t. add_round_key (mix_columns t) k) (shifted_unshifted (inv_cipher_round k s) (inv_cipher_round_bytes k s g h))
    ∙ ap (λ t. add_round_key t k) (mix_columns_inv_mix_columns (add_round_key (unshifted s) k) c)
    ∙ add_round_key_twice (unshifted s) k b g

pub cipher_rounds_bytes : (w : List ℕ) (n : ℕ) (s : List ℕ) → n < 11 → Bytes 176 w → Bytes 16 s → Bytes 16 (cipher_rounds w n s)
unfolding cipher_rounds
cipher_rounds_bytes w zero s l g h = h
cipher_rounds_bytes w (suc n) s l g h =
    cipher_round_bytes (round_key w (suc n)) (cipher_rounds w n s) (round_key_bytes w (suc n) g l) (cipher_rounds_bytes w n s (omega arith) g h)

pub inv_cipher_rounds_bytes : (w : List ℕ) (n : ℕ) (s : List ℕ) → n < 11 → Bytes 176 w → Bytes 16 s → Bytes 16 (inv_cipher_rounds w n s)
unfolding inv_cipher_rounds
inv_cipher_rounds_bytes w zero s l g h = h
inv_cipher_rounds_bytes w (suc n) s l g h =
    inv_cipher_rounds_bytes w n (inv_cipher_round (round_key w (suc n)) s) (omega arith) g
    (inv_cipher_round_bytes (round_key w (suc n)) s (round_key_bytes w (suc n) g l) h)

rounds_undone : (w : List ℕ) (n : ℕ) (s : List ℕ) → n < 11 → Bytes 176 w → Bytes 16 s → inv_cipher_rounds w n (shifted (cipher_rounds w n s)) ≡ shifted s
unfolding cipher_rounds inv_cipher_rounds
rounds_undone w zero s l g h = refl
rounds_undone w (suc n) s l g h =
    ap (inv_cipher_rounds w n)
    (round_undone (round_key w (suc n)) (cipher_rounds w n s) (round_key_bytes w (suc n) g l) (cipher_rounds_bytes w n s (omega arith) g h))
    ∙ rounds_undone w n s (omega arith) g h

inv_rounds_undone : (w : List ℕ) (n : ℕ) (s : List ℕ) → n < 11 → Bytes 176 w → Bytes 16 s → cipher_rounds w n (unshifted (inv_cipher_rounds w n s)) ≡ unshifted s
unfolding cipher_rounds inv_cipher_rounds
inv_rounds_undone w zero s l g h = refl
inv_rounds_undone w (suc n) s l g h =
    let k : Bytes 16 (round_key w (suc n)) = round_key_bytes w (suc n) g l in
    ap (cipher_round (round_key w (suc n)))
    (inv_rounds_undone w n (inv_cipher_round (round_key w (suc n)) s) (omega arith) g (inv_cipher_round_bytes (round_key w (suc n)) s k h))
    ∙ inv_round_undone (round_key w (suc n)) s k h

-- under any key schedule of 176 bytes
module _ (w s : List ℕ) (g : Bytes 176 w) (h : Bytes 16 s) where
  k0 : Bytes 16 (round_key w 0)
  k0 = round_key_bytes w 0 g (lit< tt)

  k10 : Bytes 16 (round_key w 10)
  k10 = round_key_bytes w 10 g (lit< tt)

  first_bytes : Bytes 16 (add_round_key s (round_key w 0))
  first_bytes = add_round_key_bytes s (round_key w 0) h k0

  last_bytes : Bytes 16 (add_round_key s (round_key w 10))
  last_bytes = add_round_key_bytes s (round_key w 10) h k10

  rounds_bytes : Bytes 16 (cipher_rounds w 9 (add_round_key s (round_key w 0)))
  rounds_bytes = cipher_rounds_bytes w 9 (add_round_key s (round_key w 0)) (lit< tt) g first_bytes

  inv_rounds_bytes : Bytes 16 (inv_cipher_rounds w 9 (add_round_key s (round_key w 10)))
  inv_rounds_bytes = inv_cipher_rounds_bytes w 9 (add_round_key s (round_key w 10)) (lit< tt) g last_bytes

  pub cipher_bytes_lem : Bytes 16 (cipher w s)
  unfolding cipher
  cipher_bytes_lem =
      let x : List ℕ = cipher_rounds w 9 (add_round_key s (round_key w 0)) in
      add_round_key_bytes (shift_rows (sub_bytes x)) (round_key w 10) (shifted_bytes x rounds_bytes) k10

  pub inv_cipher_bytes_lem : Bytes 16 (inv_cipher w s)
  unfolding inv_cipher
  inv_cipher_bytes_lem =
      let x : List ℕ = inv_cipher_rounds w 9 (add_round_key s (round_key w 10)) in
      add_round_key_bytes (inv_sub_bytes (inv_shift_rows x)) (round_key w 0) (unshifted_bytes x inv_rounds_bytes) k0

  pub inv_cipher_cipher : inv_cipher w (cipher w s) ≡ s
  unfolding shifted unshifted cipher inv_cipher
  inv_cipher_cipher =
      let x : List ℕ = cipher_rounds w 9 (add_round_key s (round_key w 0)) in
      ap (λ t. add_round_key (unshifted (inv_cipher_rounds w 9 t)) (round_key w 0)) (add_round_key_twice (shifted x) (round_key w 10) (shifted_bytes x rounds_bytes) k10)
      ∙ ap (λ t. add_round_key (unshifted t) (round_key w 0)) (rounds_undone w 9 (add_round_key s (round_key w 0)) (lit< tt) g first_bytes)
      ∙ ap (λ t. add_round_key t (round_key w 0)) (unshifted_shifted (add_round_key s (round_key w 0)) first_bytes)
      ∙ add_round_key_twice s (round_key w 0) h k0

  pub cipher_inv_cipher : cipher w (inv_cipher w s) ≡ s
  unfolding shifted unshifted cipher inv_cipher
  cipher_inv_cipher =
      let x : List ℕ = inv_cipher_rounds w 9 (add_round_key s (round_key w 10)) in
      ap (λ t. add_round_key (shifted (cipher_rounds w 9 t)) (round_key w 10)) (add_round_key_twice (unshifted x) (round_key w 0) (unshifted_bytes x inv_rounds_bytes) k0)
      ∙ ap (λ t. add_round_key (shifted t) (round_key w 10)) (inv_rounds_undone w 9 (add_round_key s (round_key w 10)) (lit< tt) g last_bytes)
      ∙ ap (λ t. add_round_key t (round_key w 10)) (shifted_unshifted (add_round_key s (round_key w 10)) last_bytes)
      ∙ add_round_key_twice s (round_key w 10) h k10
