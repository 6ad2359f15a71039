-- The round keys as the parts of a key schedule, and the rounds that are left while they are taken from the end.
use Rattle.std.proofs.Common.{◌≡◌, ℕ, zero, suc, ◌+◌, ◌*◌, ◌<◌, List, [], ◌∷◌, length, get_or, take, drop, sym, refl, ap, ◌∙◌, mul-zero, mul-suc, arith, drop-drop}
use Rattle.std.proofs.lemmas.List.{get_or-take, get_or-drop, get_or_push, get_or_append_left, length_push}
use Rattle.std.specs.List.{push}
use Rattle.std.specs.Simd.{first_chunks}
use Rattle.aes.specs.Rounds.{round_key}
use Rattle.aes.specs.Inverse.{inv_cipher_round, inv_cipher_rounds}

pub chunk : (m : ℕ) (w : List ℕ) (n k : ℕ) → k < n → get_or (first_chunks m n w) k [] ≡ take m (drop (m * k) w)
chunk m w zero k h = absurd (omega arith)
chunk m w (suc n) zero h = ap (λ j. take m (drop j w)) (sym (mul-zero m))
chunk m w (suc n) (suc k) h =
    let e : m + m * k ≡ m * suc k = omega (arith, mul-suc m k) in
    chunk m (drop m w) n k (omega arith) ∙ ap (take m) (drop-drop (m * k) m w ∙ ap (λ j. drop j w) e)

module _ (w : List ℕ) (keys : List (List ℕ)) (e : keys ≡ first_chunks 16 11 w) where
  pub key_at : (k : ℕ) → k < 11 → get_or keys k [] ≡ round_key w k
  unfolding round_key
  key_at k h = ap (λ ks. get_or ks k []) e ∙ chunk 16 w 11 k h

  -- in a part that begins at the second
  pub part_key : (n k : ℕ) → k < n → k < 10 → get_or (take n (drop 1 keys)) k [] ≡ round_key w (suc k)
  part_key n k h l =
      let m : 1 + k ≡ suc k = omega arith in
      get_or-take n (drop 1 keys) k [] h ∙ get_or-drop 1 keys k [] ∙ ap (λ m. get_or keys m []) m ∙ key_at (suc k) (omega arith)

-- the keys of the rounds from 1 on
abbrev pub KeysFromOne : List ℕ → List (List ℕ) → Type 0
KeysFromOne w keys = (k : ℕ) → k < length keys → get_or keys k [] ≡ round_key w (suc k)

-- one round less to do
pub one_less : (w : List ℕ) (keys left : List (List ℕ)) (key s t : List ℕ) → keys ≡ push left key → t ≡ inv_cipher_round key s → KeysFromOne w keys →
    KeysFromOne w left × (inv_cipher_rounds w (length left) t ≡ inv_cipher_rounds w (length keys) s)
unfolding inv_cipher_rounds
one_less w keys left key s t e step known =
    let long : length keys ≡ suc (length left) = ap length e ∙ omega (arith, length_push left key) in
    let is : key ≡ round_key w (suc (length left)) =
    sym (ap (λ ks. get_or ks (length left) []) e ∙ get_or_push left key [] (length left) refl) ∙ known (length left) (omega arith) in (
      λ k h. sym (ap (λ ks. get_or ks k []) e ∙ get_or_append_left left (key ∷ []) [] k h) ∙ known k (omega arith),
      ap (inv_cipher_rounds w (length left)) (step ∙ ap (λ k. inv_cipher_round k s) is) ∙ ap (λ n. inv_cipher_rounds w n s) (sym long),
    )
