-- The key schedule, word after word: its length, that it holds bytes, and the words that are read while it is written.
use Rattle.std.proofs.Common.{◌≡◌, ℕ, zero, suc, ◌+◌, ◌-◌, ◌*◌, ◌/◌, ◌%◌, ◌<◌, ◌≤◌, true, false, cond, eqb, List, ◌++◌, length, take, drop, sym, refl, ap, ◌∙◌, ap₂, append_assoc, arith, lit<, length-append, length-drop, length-take, drop-drop, take_at, drop_at}
use lib.Seq.{take-append-le, drop-append-le}
use borrow.Rule.Slice.PartMut.{put_mid}
use Rattle.std.proofs.ByRecursion.{All-append, All-take, All-drop}
use Rattle.aes.specs.SBox.{s_box}
use Rattle.aes.specs.State.{Bytes, xor_bytes}
use Rattle.aes.specs.Laws.{Inverts}
use Rattle.aes.specs.KeyExpansion.{rot_word, sub_word, x_power, rcon, word_at, addend, next_word, with_next, expanded, key_expansion}
use Rattle.aes.proofs.FieldLaws.{xtimes_byte}
use Rattle.aes.proofs.ByteLaws.{s_box_byte}
use Rattle.aes.proofs.Rows.{exactly}
use Rattle.aes.proofs.Undone.{xor_bytes_bytes, map_bytes, cipher_bytes_lem, inv_cipher_bytes_lem, inv_cipher_cipher, cipher_inv_cipher}

word_at_bytes : (w : List ℕ) (n i : ℕ) → Bytes n w → 4 * i + 4 ≤ n → Bytes 4 (word_at w i)
unfolding word_at
word_at_bytes w n i h l =
    let P : ℕ → Type 0 = λ x. x < 256 in
    (simp (length-take, length-drop) (omega (arith, h.0)), All-take P 4 (drop (4 * i) w) (All-drop P (4 * i) w h.1))

rot_word_bytes : (a : List ℕ) → Bytes 4 a → Bytes 4 (rot_word a)
unfolding rot_word
rot_word_bytes a h =
    let P : ℕ → Type 0 = λ x. x < 256 in
    (exactly 4 (λ a. length (drop 1 a ++ take 1 a) ≡ 4) (λ a b c d. refl) a h.0, All-append P (drop 1 a) (take 1 a) (All-drop P 1 a h.1) (All-take P 1 a h.1))

x_power_byte : (n : ℕ) → x_power n < 256
unfolding x_power
x_power_byte zero = lit< tt
x_power_byte (suc n) = xtimes_byte (x_power n)

rcon_bytes : (j : ℕ) → Bytes 4 (rcon j)
unfolding rcon
rcon_bytes j = (refl, (x_power_byte (j - 1), (lit< tt, (lit< tt, (lit< tt, tt)))))

addend_bytes : (i : ℕ) (a : List ℕ) → Bytes 4 a → Bytes 4 (addend i a)
unfolding sub_word addend
addend_bytes i a h =
    elim (eqb (i % 4) 0) as (λ v. Bytes 4 (cond v (xor_bytes (sub_word (rot_word a)) (rcon (i / 4))) a)) [
      | true ↦ xor_bytes_bytes 4 (sub_word (rot_word a)) (rcon (i / 4)) (map_bytes 4 s_box s_box_byte (rot_word a) (rot_word_bytes a h)) (rcon_bytes (i / 4))
      | false ↦ h
    ]

next_word_bytes : (w : List ℕ) (n i : ℕ) → Bytes n w → 4 ≤ i → 4 * i ≤ n → Bytes 4 (next_word w i)
unfolding next_word
next_word_bytes w n i h p q =
    xor_bytes_bytes 4 (word_at w (i - 4)) (addend i (word_at w (i - 1))) (word_at_bytes w n (i - 4) h (omega arith))
    (addend_bytes i (word_at w (i - 1)) (word_at_bytes w n (i - 1) h (omega arith)))

pub expanded_bytes : (k : List ℕ) (n : ℕ) → Bytes 16 k → Bytes (16 + 4 * n) (expanded k n)
unfolding with_next expanded
expanded_bytes k zero h = h
expanded_bytes k (suc n) h =
    let w : List ℕ = expanded k n in
    let hw : Bytes (16 + 4 * n) w = expanded_bytes k n h in
    let hn : Bytes 4 (next_word w (4 + n)) = next_word_bytes w (16 + 4 * n) (4 + n) hw (omega arith) (omega arith) in
    (length-append w (next_word w (4 + n)) ∙ omega (arith, hw.0, hn.0), All-append (λ x. x < 256) w (next_word w (4 + n)) hw.1 hn.1)

pub key_expansion_bytes : (k : List ℕ) → Bytes 16 k → Bytes 176 (key_expansion k)
unfolding key_expansion
key_expansion_bytes k h = expanded_bytes k 40 h

pub inverts : Inverts
inverts key block g h =
    let w : Bytes 176 (key_expansion key) = key_expansion_bytes key g in
    record {
      inv_cipher_of_cipher = inv_cipher_cipher (key_expansion key) block w h;
      cipher_of_inv_cipher = cipher_inv_cipher (key_expansion key) block w h;
      schedule_bytes = w;
      cipher_bytes = cipher_bytes_lem (key_expansion key) block w h;
      inv_cipher_bytes = inv_cipher_bytes_lem (key_expansion key) block w h;
    }

-- a word read from what is written already
word_before : (w rest : List ℕ) (i : ℕ) → 4 * i + 4 ≤ length w → word_at (w ++ rest) i ≡ word_at w i
unfolding word_at
word_before w rest i h =
    let l : 4 * i ≤ length w = omega arith in
    let m : 4 ≤ length (drop (4 * i) w) = simp length-drop (omega arith) in
    ap (take 4) (drop-append-le (4 * i) w rest l) ∙ take-append-le 4 (drop (4 * i) w) rest m

pub next_before : (w rest : List ℕ) (i : ℕ) → 4 ≤ i → length w ≡ 4 * i → next_word (w ++ rest) i ≡ next_word w i
unfolding next_word
next_before w rest i p e =
    ap₂ (λ a b. xor_bytes a (addend i b)) (word_before w rest (i - 4) (omega arith)) (word_before w rest (i - 1) (omega arith))

-- a part written after what is written already
pub put_after : (p old ys : List ℕ) (a k : ℕ) → length p ≡ a → put_mid a k (p ++ drop a old) ys ≡ (p ++ ys) ++ drop (a + k) old
put_after p old ys a k e =
    ap₂ ◌++◌ (take_at p (drop a old) a e) (ap (λ t. ys ++ t) (ap (drop k) (drop_at p (drop a old) a e) ∙ drop-drop k a old))
    ∙ sym (append_assoc p ys (drop (a + k) old))
