-- Two digits for each byte: pairs of digits, and the places of the text that they came from.
use Rattle.std.proofs.Common.{◌≡◌, ℕ, zero, suc, ◌+◌, ◌*◌, ◌/◌, ◌%◌, ◌<◌, ◌≤◌, List, [], ◌∷◌, length, get_or, Some, Option, sym, refl, ap, ◌∙◌, below_more, arith}
use Rattle.std.specs.Simd.{first_chunks}
use Rattle.vectors.specs.Hex.{digit_of, byte_of, spelled_at, Spells}

-- the byte that a pair of digits spells
abbrev pub byte_at : List (List ℕ) → ℕ → Option ℕ
byte_at pairs k = byte_of (digit_of (get_or (get_or pairs k []) 0 0)) (digit_of (get_or (get_or pairs k []) 1 0))

pub pairs_spell : (n : ℕ) (text : List ℕ) (k : ℕ) → 2 * n ≤ length text → k < n → byte_at (first_chunks 2 n text) k ≡ spelled_at text k
pairs_spell zero text k long h = absurd (omega arith)
pairs_spell (suc n) [] k long h = absurd (omega arith)
pairs_spell (suc n) (a ∷ []) k long h = absurd (omega arith)
pairs_spell (suc n) (a ∷ b ∷ text) zero long h = refl
pairs_spell (suc n) (a ∷ b ∷ text) (suc k) long h =
    let all = a ∷ b ∷ text in
    let high : suc (suc (2 * k)) ≡ 2 * suc k = omega arith in
    let low : suc (suc (2 * k + 1)) ≡ 2 * suc k + 1 = omega arith in
    pairs_spell n text k (omega arith) (omega arith)
    ∙ ap (λ (i : ℕ). byte_of (digit_of (get_or all i 0)) (digit_of (get_or text (2 * k + 1) 0))) high
    ∙ ap (λ (i : ℕ). byte_of (digit_of (get_or all (2 * suc k) 0)) (digit_of (get_or all i 0))) low

-- one byte more at the end of those that are spelled
pub spelled_more : (f : ℕ → Option ℕ) (old new : List ℕ) (i b : ℕ)
    → ((k : ℕ) → k < i → f k ≡ Some (get_or old k 0))
    → ((k : ℕ) → k < i → get_or new k 0 ≡ get_or old k 0)
    → f i ≡ Some b → get_or new i 0 ≡ b
    → (k : ℕ) → k < i + 1 → f k ≡ Some (get_or new k 0)
spelled_more f old new i b spelled same here last =
    below_more _ _ (λ k h. spelled k h ∙ ap Some (sym (same k h))) (here ∙ ap Some (sym last))

-- the whole text, by its pairs
pub text_spelled : (text bytes : List ℕ) (pairs : List (List ℕ)) → pairs ≡ first_chunks 2 (length text / 2) text → length text % 2 ≡ 0 → length bytes ≡ length text / 2
    → ((k : ℕ) → k < length bytes → byte_at pairs k ≡ Some (get_or bytes k 0)) → Spells text bytes
text_spelled text bytes pairs are even long spelled = record {
  long = omega arith;
  each = λ k h. sym (pairs_spell (length text / 2) text k (omega arith) (omega arith)) ∙ ap (λ (p : List (List ℕ)). byte_at p k) (sym are) ∙ spelled k h;
}
