-- The laws of `xors`.
use Rattle.std.specs.Prelude.{◌≡◌, ℕ, suc, ◌+◌, ◌<◌, ◌≤◌, ◌⊎◌, List, [], ◌∷◌, ◌++◌, length, take, drop, bit_xor, slice_index, slice_set, refl}
use Rattle.std.proofs.Common.{sym, ap, ◌∙◌, append_assoc, inl, inr, arith}
use Rattle.std.specs.Int.Bits.{xor_self, xor_zero_r, xor_assoc}
use Rattle.std.proofs.lemmas.Nat.{xor_lt}
use Rattle.std.proofs.lemmas.List.{take_more_set, drop_more, drop-set-lt, take_all, drop_all, append-nil, take-append-drop}
use Rattle.cipher.specs.Bytes.{Bytes, Block, xors}

pub length_xors : (xs ks : List ℕ) → length (xors xs ks) ≡ length xs
length_xors [] ks = refl
length_xors (x ∷ xs) [] = refl
length_xors (x ∷ xs) (k ∷ ks) = ap suc (length_xors xs ks)

xor_back : (x k : ℕ) → bit_xor (bit_xor x k) k ≡ x
xor_back x k = xor_assoc x k k ∙ ap (bit_xor x) (xor_self k) ∙ xor_zero_r x

pub xors_back : (xs ks : List ℕ) → xors (xors xs ks) ks ≡ xs
xors_back [] ks = refl
xors_back (x ∷ xs) [] = refl
xors_back (x ∷ xs) (k ∷ ks) = ap (λ y. y ∷ xors (xors xs ks) ks) (xor_back x k) ∙ ap (λ ys. x ∷ ys) (xors_back xs ks)

pub bytes_xors : (xs ks : List ℕ) → Bytes xs → Bytes ks → Bytes (xors xs ks)
bytes_xors [] ks hx hk = tt
bytes_xors (x ∷ xs) [] hx hk = hx
bytes_xors (x ∷ xs) (k ∷ ks) hx hk = (xor_lt 8 x k hx.0 hk.0, bytes_xors xs ks hx.1 hk.1)

pub block_xors : (n : ℕ) (xs ks : List ℕ) → Block n xs → Bytes ks → Block n (xors xs ks)
block_xors n xs ks h hk = (length_xors xs ks ∙ h.0, bytes_xors xs ks h.1 hk)

-- one turn of a loop that XORs in place: what is done and what is left give the same list
pub xors_more : (xs ks : List ℕ) (i : ℕ) → i < length xs → i < length ks →
    take (i + 1) (slice_set xs i (bit_xor (slice_index xs i) (slice_index ks i))) ++ xors (drop (i + 1) (slice_set xs i (bit_xor (slice_index xs i) (slice_index ks i)))) (drop (i + 1) ks) ≡ take i xs ++ xors (drop i xs) (drop i ks)
xors_more xs ks i hx hk =
    let v : ℕ = bit_xor (slice_index xs i) (slice_index ks i) in
    let lt : i < i + 1 = omega arith in
    let a = take_more_set xs i v hx in
    let b = drop-set-lt (i + 1) xs i v lt in
    ap (λ zs. zs ++ xors (drop (i + 1) (slice_set xs i v)) (drop (i + 1) ks)) a
    ∙ ap (λ zs. (take i xs ++ v ∷ []) ++ xors zs (drop (i + 1) ks)) b
    ∙ append_assoc (take i xs) (v ∷ []) (xors (drop (i + 1) xs) (drop (i + 1) ks))
    ∙ sym (ap (λ zs. take i xs ++ xors zs (drop i ks)) (drop_more xs i 0 hx) ∙ ap (λ zs. take i xs ++ xors (slice_index xs i ∷ drop (i + 1) xs) zs) (drop_more ks i 0 hk))

xors_nil : (xs : List ℕ) → xors xs [] ≡ xs
xors_nil [] = refl
xors_nil (x ∷ xs) = refl

-- its end: one of the two lists is at its end
pub xors_all : (xs ks : List ℕ) (i : ℕ) → (length xs ≤ i) ⊎ (length ks ≤ i) → take i xs ++ xors (drop i xs) (drop i ks) ≡ xs
xors_all xs ks i (inl h) = ap (λ zs. take i xs ++ xors zs (drop i ks)) (drop_all i xs h) ∙ append-nil (take i xs) ∙ take_all i xs h
xors_all xs ks i (inr h) =
    ap (λ zs. take i xs ++ xors (drop i xs) zs) (drop_all i ks h) ∙ ap (λ zs. take i xs ++ zs) (xors_nil (drop i xs)) ∙ take-append-drop i xs
