-- Deciphering undoes enciphering under any schedule: a round under the same key undoes itself between exchanges of the halves.
use Rattle.std.proofs.Common.{◌≡◌, ℕ, zero, suc, ◌^◌, ◌<◌, List, refl, ap, ◌∙◌, ap₂, mod-lt, lit<, shr_lt}
use lib.Arith.{digits_lt}
use lib.Bits.{bit_xor, xor_assoc, xor_self, xor_zero_r, xor_lt}
use lib.Pow.{split, high, low}
use Rattle.des.specs.Bits.{number, groups}
use Rattle.des.specs.Cipher.{IP, IP⁻¹, P, f, halves, preoutput, round, round_key, forwards, backwards, crypted, enciphered, deciphered}
use Rattle.des.specs.Laws.{Bytes, Inverse}
use Rattle.des.specs.Tables.{IP_table, IP⁻¹_table, P_table}
use Rattle.des.specs.declared.feistel.Halves.{Halves}
use Rattle.des.proofs.Digits.{number_lt, length_groups, groups_lt, groups_number, number_groups}
use Rattle.des.proofs.Permutations.{permuted_lt, permuted_permuted, permuted_none}
use Rattle.des.proofs.Tested.{within}

-- IP and its inverse
pub IP_lt : (x : ℕ) → IP x < 2 ^ 64
unfolding IP IP_table
IP_lt x = permuted_lt 64 IP_table x

pub IP⁻¹_lt : (x : ℕ) → IP⁻¹ x < 2 ^ 64
unfolding IP⁻¹ IP⁻¹_table
IP⁻¹_lt x = permuted_lt 64 IP⁻¹_table x

pub IP⁻¹_IP : (x : ℕ) → x < 2 ^ 64 → IP⁻¹ (IP x) ≡ x
unfolding IP IP⁻¹ IP_table IP⁻¹_table
IP⁻¹_IP x h = permuted_permuted 64 IP_table IP⁻¹_table x (within 64 IP⁻¹_table tt) ∙ permuted_none 64 x h

pub IP_IP⁻¹ : (x : ℕ) → x < 2 ^ 64 → IP (IP⁻¹ x) ≡ x
unfolding IP IP⁻¹ IP_table IP⁻¹_table
IP_IP⁻¹ x h = permuted_permuted 64 IP⁻¹_table IP_table x (within 64 IP_table tt) ∙ permuted_none 64 x h

-- the halves exchanged
exchange : Halves → Halves
exchange h = record { left = h.right; right = h.left }

both : ℕ → ℕ → Halves
both l r = record { left = l; right = r }

round_round : (k : List ℕ) (h : Halves) → round k (exchange (round k h)) ≡ exchange h
unfolding round exchange both
round_round k h =
    let y : ℕ = f h.right k in
    ap (both h.right) (xor_assoc h.left y y ∙ ap (bit_xor h.left) (xor_self y) ∙ xor_zero_r h.left)

module _ (w : List ℕ) where
  back : (n : ℕ) (h : Halves) → backwards w n (exchange (forwards w n h)) ≡ exchange h
  unfolding forwards backwards
  back zero h = refl
  back (suc n) h = ap (backwards w n) (round_round (round_key w n) (forwards w n h)) ∙ back n h

  forth : (n : ℕ) (h : Halves) → forwards w n (exchange (backwards w n h)) ≡ exchange h
  unfolding forwards backwards
  forth zero h = refl
  forth (suc n) h = ap (round (round_key w n)) (forth n (round (round_key w n) h)) ∙ round_round (round_key w n) h

-- halves of 32 bits
abbrev Small : Halves → Type 0
Small h = (h.left < 2 ^ 32) × (h.right < 2 ^ 32)

P_lt : (x : ℕ) → P x < 2 ^ 32
unfolding P P_table
P_lt x = permuted_lt 32 P_table x

f_lt : (r : ℕ) (k : List ℕ) → f r k < 2 ^ 32
unfolding f
f_lt r k = P_lt _

round_small : (k : List ℕ) (h : Halves) → Small h → Small (round k h)
unfolding round
round_small k h s = (s.1, xor_lt 32 h.left (f h.right k) s.0 (f_lt h.right k))

forwards_small : (w : List ℕ) (n : ℕ) (h : Halves) → Small h → Small (forwards w n h)
unfolding forwards
forwards_small w zero h s = s
forwards_small w (suc n) h s = round_small (round_key w n) (forwards w n h) (forwards_small w n h s)

backwards_small : (w : List ℕ) (n : ℕ) (h : Halves) → Small h → Small (backwards w n h)
unfolding backwards
backwards_small w zero h s = s
backwards_small w (suc n) h s = backwards_small w n (round (round_key w n) h) (round_small (round_key w n) h s)

halves_small : (x : ℕ) → x < 2 ^ 64 → Small (halves x)
unfolding halves
halves_small x h = (shr_lt 32 32 h, mod-lt x (lit< tt))

preoutput_lt : (h : Halves) → Small h → preoutput h < 2 ^ 64
unfolding preoutput
preoutput_lt h s = digits_lt s.1 s.0

halves_preoutput : (h : Halves) → Small h → halves (preoutput h) ≡ exchange h
unfolding halves preoutput exchange both
halves_preoutput h s = ap₂ both (high h.right 32 s.0) (low h.right 32 s.0)

preoutput_exchange : (x : ℕ) → preoutput (exchange (halves x)) ≡ x
unfolding halves preoutput exchange
preoutput_exchange x = split x 32

-- a block, there and back
module _ (there back : Halves → Halves) (keeps : (h : Halves) → Small h → Small (there h)) (undoes : (h : Halves) → back (exchange (there h)) ≡ exchange h) where
  crypted_crypted : (b : List ℕ) → Bytes 8 b → crypted back (crypted there b) ≡ b
  unfolding crypted
  crypted_crypted b h =
      let x : ℕ = number 8 b in
      let x_lt : x < 2 ^ 64 = rw h.0 at (number_lt 8 b h.1) in
      let g : Halves = there (halves (IP x)) in
      let small : Small g = keeps (halves (IP x)) (halves_small (IP x) (IP_lt x)) in
      ap (λ y. groups 8 8 (IP⁻¹ (preoutput (back (halves (IP y)))))) (number_groups 8 8 (IP⁻¹ (preoutput g)) (IP⁻¹_lt (preoutput g)))
      ∙ ap (λ y. groups 8 8 (IP⁻¹ (preoutput (back (halves y))))) (IP_IP⁻¹ (preoutput g) (preoutput_lt g small))
      ∙ ap (λ y. groups 8 8 (IP⁻¹ (preoutput y))) (ap back (halves_preoutput g small) ∙ undoes (halves (IP x)))
      ∙ ap (λ y. groups 8 8 (IP⁻¹ y)) (preoutput_exchange (IP x)) ∙ ap (groups 8 8) (IP⁻¹_IP x x_lt) ∙ groups_number 8 b 8 h.0 h.1

crypted_bytes : (rounds : Halves → Halves) (b : List ℕ) → Bytes 8 (crypted rounds b)
unfolding crypted
crypted_bytes rounds b = let x : ℕ = IP⁻¹ (preoutput (rounds (halves (IP (number 8 b))))) in (length_groups 8 8 x, groups_lt 8 8 x)

pub deciphered_enciphered : (w b : List ℕ) → Bytes 8 b → deciphered w (enciphered w b) ≡ b
unfolding enciphered deciphered
deciphered_enciphered w b h = crypted_crypted (forwards w 16) (backwards w 16) (forwards_small w 16) (back w 16) b h

pub enciphered_deciphered : (w b : List ℕ) → Bytes 8 b → enciphered w (deciphered w b) ≡ b
unfolding enciphered deciphered
enciphered_deciphered w b h = crypted_crypted (backwards w 16) (forwards w 16) (backwards_small w 16) (forth w 16) b h

pub enciphered_bytes_lem : (w b : List ℕ) → Bytes 8 (enciphered w b)
unfolding enciphered
enciphered_bytes_lem w b = crypted_bytes (forwards w 16) b

pub deciphered_bytes_lem : (w b : List ℕ) → Bytes 8 (deciphered w b)
unfolding deciphered
deciphered_bytes_lem w b = crypted_bytes (backwards w 16) b

pub inverse : (w b : List ℕ) → Bytes 8 b → Inverse w b
inverse w b h =
    record {
      deciphers = deciphered_enciphered w b h;
      enciphers = enciphered_deciphered w b h;
      enciphered_bytes = enciphered_bytes_lem w b;
      deciphered_bytes = deciphered_bytes_lem w b;
    }
