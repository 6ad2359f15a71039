-- A rule of every number below n, shown by one test that is computed.
use Rattle.std.proofs.Common.{◌≡◌, ℕ, zero, suc, ◌+◌, ◌<◌, Bool, true, false, T, eqb, map, get_or, sym, subst, le_of_suc-le-suc, not-suc-le-zero, zero-add, arith, eqb→eq}
use Rattle.std.specs.List.{range_with_len}
use Rattle.std.proofs.lemmas.List.FromFn.{get_or-map-range_with_len}

-- a table that holds f of each place, at one place
pub tabled : (f : ℕ → ℕ) (n k : ℕ) → k < n → get_or (map f (range_with_len 0 n)) k 0 ≡ f k
tabled f n k h = get_or-map-range_with_len f 0 n k k 0 h (zero-add k)

abbrev pub both : Bool → Bool → Bool
both true b = b
both false b = false

both_left : (a b : Bool) → T (both a b) → T a
both_left true b t = tt
both_left false b t = t

both_right : (a b : Bool) → T (both a b) → T b
both_right true b t = t
both_right false b t = absurd t

-- f and g agree at the n numbers from i on
abbrev pub agree : (ℕ → ℕ) → (ℕ → ℕ) → ℕ → ℕ → Bool
agree f g i zero = true
agree f g i (suc n) = both (eqb (f i) (g i)) (agree f g (suc i) n)

from : (f g : ℕ → ℕ) (i n : ℕ) → T (agree f g i n) → (k : ℕ) → k < n → f (k + i) ≡ g (k + i)
from f g i zero t k h = absurd (not-suc-le-zero h)
from f g i (suc n) t zero h =
    let e : 0 + i ≡ i = omega arith in
    subst (λ (m : ℕ). f m ≡ g m) (sym e) (eqb→eq (f i) (g i) (both_left (eqb (f i) (g i)) (agree f g (suc i) n) t))
from f g i (suc n) t (suc k) h =
    let e : k + suc i ≡ suc k + i = omega arith in
    subst (λ (m : ℕ). f m ≡ g m) e (from f g (suc i) n (both_right (eqb (f i) (g i)) (agree f g (suc i) n) t) k (le_of_suc-le-suc h))

-- where the test passes, f and g agree below n
pub below : (f g : ℕ → ℕ) (n : ℕ) → T (agree f g 0 n) → (k : ℕ) → k < n → f k ≡ g k
below f g n t k h =
    let e : k + 0 ≡ k = omega arith in
    subst (λ (m : ℕ). f m ≡ g m) e (from f g 0 n t k h)
