-- What holds of any n numbers in a row holds of each list of length n.
use Rattle.std.proofs.Common.{◌≡◌, ℕ, zero, suc, pred, List, [], ◌∷◌, length, ap, arith}

abbrev pub Row : ℕ → (List ℕ → Type 0) → Type 0
Row zero P = P []
Row (suc n) P = (x : ℕ) → Row n (λ t. P (x ∷ t))

pub exactly : (n : ℕ) (P : List ℕ → Type 0) → Row n P → (s : List ℕ) → length s ≡ n → P s
exactly zero P r [] e = r
exactly zero P r (x ∷ s) e = absurd (omega arith)
exactly (suc n) P r [] e = absurd (omega arith)
exactly (suc n) P r (x ∷ s) e = exactly n (λ t. P (x ∷ t)) (r x) s (ap pred e)
