-- The rounds of a block, as folds over the round keys that a schedule is cut into.
use Rattle.std.proofs.Common.{◌≡◌, ℕ, zero, suc, ◌+◌, ◌*◌, List, [], ◌∷◌, ◌++◌, reverse, take, drop, fold, refl, ap, ◌∙◌, arith, drop-drop}
use Rattle.std.proofs.lemmas.List.{reverse-append}
use Rattle.std.proofs.lemmas.List.Sums.{fold_push}
use Rattle.std.specs.Simd.{first_chunks}
use Rattle.des.specs.Cipher.{round, round_key, forwards, backwards}
use Rattle.des.specs.declared.feistel.Halves.{Halves}

one_key_more : (w : List ℕ) (n : ℕ) → first_chunks 8 (suc n) w ≡ first_chunks 8 n w ++ round_key w n ∷ []
unfolding round_key
one_key_more w zero = refl
one_key_more w (suc n) =
    let e : 8 + 8 * n ≡ 8 * suc n = omega arith in
    ap {B = List (List ℕ)} (◌∷◌ (take 8 w))
    (one_key_more (drop 8 w) n ∙ ap (λ k. first_chunks 8 n (drop 8 w) ++ take 8 k ∷ []) (drop-drop (8 * n) 8 w ∙ ap (λ m. drop m w) e))

pub forwards_fold : (w : List ℕ) (n : ℕ) (h : Halves) → fold (λ h k. round k h) h (first_chunks 8 n w) ≡ forwards w n h
unfolding forwards
forwards_fold w zero h = refl
forwards_fold w (suc n) h =
    ap (fold (λ h k. round k h) h) (one_key_more w n) ∙ fold_push (λ h k. round k h) h (first_chunks 8 n w) (round_key w n)
    ∙ ap (round (round_key w n)) (forwards_fold w n h)

pub backwards_fold : (w : List ℕ) (n : ℕ) (h : Halves) → fold (λ h k. round k h) h (reverse (first_chunks 8 n w)) ≡ backwards w n h
unfolding backwards
backwards_fold w zero h = refl
backwards_fold w (suc n) h =
    ap (λ ks. fold (λ h k. round k h) h ks) (ap reverse (one_key_more w n) ∙ reverse-append (first_chunks 8 n w) (round_key w n ∷ []))
    ∙ backwards_fold w n (round (round_key w n) h)
