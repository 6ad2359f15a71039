-- A rule of every number below a bound, or of every entry of a table, proved by one test that antt computes.
use Rattle.std.proofs.Common.{◌≡◌, ℕ, zero, suc, ◌+◌, ◌<◌, ◌≤◌, Bool, true, false, T, eqb, ltb, leb, List, [], ◌∷◌, sym, subst, le_of_suc-le-suc, not-suc-le-zero, arith, eqb→eq, ltb→lt, leb→le}
use Rattle.std.specs.List.{AllByRecursion}
use Rattle.std.proofs.ByRecursion.{All-weaker}

abbrev pub both : Bool → Bool → Bool
both true b = b
both false b = false

pub both_left : (a b : Bool) → T (both a b) → T a
both_left true b t = tt
both_left false b t = t

pub both_right : (a b : Bool) → T (both a b) → T b
both_right true b t = t
both_right false b t = absurd t

-- the test p passes at i and at the n - 1 numbers after it
abbrev pub every : (ℕ → Bool) → ℕ → ℕ → Bool
every p i zero = true
every p i (suc n) = both (p i) (every p (suc i) n)

pub tested : (p : ℕ → Bool) (i n : ℕ) → T (every p i n) → (k : ℕ) → k < n → T (p (k + i))
tested p i zero t k h = absurd (not-suc-le-zero h)
tested p i (suc n) t zero h = let e : 0 + i ≡ i = omega arith in subst (λ (m : ℕ). T (p m)) (sym e) (both_left (p i) (every p (suc i) n) t)
tested p i (suc n) t (suc k) h =
    let e : k + suc i ≡ suc k + i = omega arith in
    subst (λ (m : ℕ). T (p m)) e (tested p (suc i) n (both_right (p i) (every p (suc i) n) t) k (le_of_suc-le-suc h))

pub tested_below : (p : ℕ → Bool) (n : ℕ) → T (every p 0 n) → (k : ℕ) → k < n → T (p k)
tested_below p n t k h = let e : k + 0 ≡ k = omega arith in subst (λ (m : ℕ). T (p m)) e (tested p 0 n t k h)

-- two functions that agree below n
pub below : (f g : ℕ → ℕ) (n : ℕ) → T (every (λ k. eqb (f k) (g k)) 0 n) → (k : ℕ) → k < n → f k ≡ g k
below f g n t k h = eqb→eq (f k) (g k) (tested_below (λ k. eqb (f k) (g k)) n t k h)

-- the test p passes at each entry of a table
abbrev pub every_of : (ℕ → Bool) → List ℕ → Bool
every_of p [] = true
every_of p (x ∷ xs) = both (p x) (every_of p xs)

pub tested_of : (p : ℕ → Bool) (xs : List ℕ) → T (every_of p xs) → AllByRecursion (λ x. T (p x)) xs
tested_of p [] t = tt
tested_of p (x ∷ xs) t = (both_left (p x) (every_of p xs) t, tested_of p xs (both_right (p x) (every_of p xs) t))

-- each entry names a bit of a number of w bits
pub within : (w : ℕ) (xs : List ℕ) → T (every_of (λ t. both (ltb 0 t) (leb t w)) xs) → AllByRecursion (λ t. (0 < t) × (t ≤ w)) xs
within w xs t =
    All-weaker (λ t. T (both (ltb 0 t) (leb t w))) (λ t. (0 < t) × (t ≤ w))
    (λ t h. (ltb→lt 0 t (both_left (ltb 0 t) (leb t w) h), leb→le t w (both_right (ltb 0 t) (leb t w) h))) xs (tested_of (λ t. both (ltb 0 t) (leb t w)) xs t)
