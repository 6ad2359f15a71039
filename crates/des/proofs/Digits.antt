-- A number and its digits of some bits each: each makes the other.
use Rattle.std.proofs.Common.{◌≡◌, ℕ, zero, suc, ◌+◌, ◌-◌, ◌*◌, ◌/◌, ◌%◌, ◌^◌, ◌<◌, ◌≤◌, List, [], ◌∷◌, ◌++◌, map, length, get_or, take, drop, fold, sym, ap, ◌∙◌, ap₂, mod-lt, mul_assoc, add-mul, mul-zero, mul-one, mul-suc, div-one, arith, length-drop, pow_pos, pow-add, shl_exact, shr-shr, w64}
use native.Mathlib.Nat.{div-eq_of_lt, sub_self}
use lib.Arith.{digits_lt}
use lib.Bits.{bit_or, or_shifted}
use lib.Pow.{split, high, low}
use Rattle.std.specs.List.{range_with_len, AllByRecursion}
use Rattle.std.proofs.lemmas.List.FromFn.{map-range_with_len_more, length-map-range_with_len, get_or-map-range_with_len}
use Rattle.std.proofs.ByRecursion.{All-drop, All-get_or}
use Rattle.std.proofs.lemmas.List.{take-append-drop, take_more, ext_get_or}
use Rattle.std.proofs.lemmas.List.Sums.{fold_push, fold-append}
use Rattle.std.proofs.lemmas.Nat.{be_bytes_8}
use Rattle.std.specs.Int.{from_be_bytes, to_be_bytes}
use Rattle.des.specs.Bits.{number, groups}

-- one digit more at the right
pub number_push : (w : ℕ) (xs : List ℕ) (x : ℕ) → number w (xs ++ x ∷ []) ≡ number w xs * 2 ^ w + x
unfolding number
number_push w xs x = fold_push (λ n d. n * 2 ^ w + d) 0 xs x

pub number_more : (w : ℕ) (xs : List ℕ) (i : ℕ) → i < length xs → number w (take (i + 1) xs) ≡ number w (take i xs) * 2 ^ w + get_or xs i 0
number_more w xs i h = ap (number w) (take_more xs i 0 h) ∙ number_push w (take i xs) (get_or xs i 0)

-- the weight of a digit that k digits come after
pow_digits : (w k : ℕ) → 2 ^ w * 2 ^ (w * k) ≡ 2 ^ (w * suc k)
pow_digits w k = let e : w + w * k ≡ w * suc k = omega (arith, mul-suc w k) in sym (pow-add 2 w (w * k)) ∙ ap (λ n. 2 ^ n) e

from : (w a : ℕ) (xs : List ℕ) → fold (λ n d. n * 2 ^ w + d) a xs ≡ a * 2 ^ (w * length xs) + number w xs
unfolding number
from w a [] = let e : a * 2 ^ (w * 0) ≡ a = ap (λ n. a * 2 ^ n) (mul-zero w) ∙ mul-one a in omega arith
from w a (x ∷ xs) =
    let p : ℕ = 2 ^ w in
    let q : ℕ = 2 ^ (w * length xs) in
    let ih = from w (a * p + x) xs in
    let jh = from w (0 * p + x) xs in
    let e : (a * p + x) * q ≡ a * 2 ^ (w * suc (length xs)) + x * q =
    add-mul (a * p) x q ∙ ap (λ n. n + x * q) (mul_assoc a p q ∙ ap (λ n. a * n) (pow_digits w (length xs))) in
    let g : (0 * p + x) * q ≡ x * q = let z : 0 * p + x ≡ x = omega arith in ap (λ n. n * q) z in
    omega arith

pub number_append : (w : ℕ) (xs ys : List ℕ) → number w (xs ++ ys) ≡ number w xs * 2 ^ (w * length ys) + number w ys
unfolding number
number_append w xs ys = fold-append (λ n d. n * 2 ^ w + d) 0 xs ys ∙ from w (number w xs) ys

pub number_lt : (w : ℕ) (xs : List ℕ) → AllByRecursion (λ x. x < 2 ^ w) xs → number w xs < 2 ^ (w * length xs)
unfolding number
number_lt w [] h = let e : 2 ^ (w * 0) ≡ 1 = ap (λ n. 2 ^ n) (mul-zero w) in omega arith
number_lt w (x ∷ xs) h =
    let e : number w (x ∷ xs) ≡ x * 2 ^ (w * length xs) + number w xs =
    from w (0 * 2 ^ w + x) xs ∙ ap (λ n. n * 2 ^ (w * length xs) + number w xs) (omega arith) in
    let l : x * 2 ^ (w * length xs) + number w xs < 2 ^ w * 2 ^ (w * length xs) = digits_lt h.0 (number_lt w xs h.1) in
    omega (arith, pow_digits w (length xs))

-- the digit at a place of a number
pub digit : (w : ℕ) (xs : List ℕ) (i : ℕ) → AllByRecursion (λ x. x < 2 ^ w) xs → i < length xs →
    number w xs / 2 ^ (w * (length xs - 1 - i)) % 2 ^ w ≡ get_or xs i 0
digit w xs i h l =
    let ys : List ℕ = take (i + 1) xs in
    let zs : List ℕ = drop (i + 1) xs in
    let n : length xs - 1 - i ≡ length zs = simp length-drop (omega arith) in
    let e : number w xs ≡ number w ys * 2 ^ (w * length zs) + number w zs = ap (number w) (sym (take-append-drop (i + 1) xs)) ∙ number_append w ys zs in
    ap₂ (λ x m. x / 2 ^ (w * m) % 2 ^ w) e n
    ∙ ap (λ x. x % 2 ^ w) (high (number w ys) (w * length zs) (number_lt w zs (All-drop (λ x. x < 2 ^ w) (i + 1) xs h)) ∙ number_more w xs i l)
    ∙ low (number w (take i xs)) w (All-get_or (λ x. x < 2 ^ w) xs i 0 l h)

-- the groups of a number
pub length_groups : (w n x : ℕ) → length (groups w n x) ≡ n
unfolding groups
length_groups w n x = length-map-range_with_len (λ i. x / 2 ^ (w * (n - 1 - i)) % 2 ^ w) 0 n

pub get_or_groups : (w n x i : ℕ) → i < n → get_or (groups w n x) i 0 ≡ x / 2 ^ (w * (n - 1 - i)) % 2 ^ w
unfolding groups
get_or_groups w n x i h = get_or-map-range_with_len (λ i. x / 2 ^ (w * (n - 1 - i)) % 2 ^ w) 0 n i i 0 h (omega arith)

pub groups_lt : (w n x : ℕ) → AllByRecursion (λ d. d < 2 ^ w) (groups w n x)
unfolding groups
groups_lt w n x = each (range_with_len 0 n)
  where
    each : (is : List ℕ) → AllByRecursion (λ d. d < 2 ^ w) (map (λ i. x / 2 ^ (w * (n - 1 - i)) % 2 ^ w) is)
    each [] = tt
    each (i ∷ is) = (mod-lt (x / 2 ^ (w * (n - 1 - i))) (pow_pos w), each is)

pub groups_number : (w : ℕ) (xs : List ℕ) (n : ℕ) → length xs ≡ n → AllByRecursion (λ x. x < 2 ^ w) xs → groups w n (number w xs) ≡ xs
groups_number w xs n e h =
    ext_get_or 0 (groups w n (number w xs)) xs (length_groups w n (number w xs) ∙ sym e)
    (λ i l.
    let b : i < n = omega (arith, length_groups w n (number w xs)) in
    get_or_groups w n (number w xs) i b ∙ ap (λ m. number w xs / 2 ^ (w * (m - 1 - i)) % 2 ^ w) (sym e) ∙ digit w xs i h (omega arith))

-- the first k of n groups
fronts : (w n x k : ℕ) → x < 2 ^ (w * n) → k ≤ n → number w (map (λ i. x / 2 ^ (w * (n - 1 - i)) % 2 ^ w) (range_with_len 0 k)) ≡ x / 2 ^ (w * (n - k))
unfolding number
fronts w n x zero h l = let e : n - 0 ≡ n = omega arith in sym (ap (λ m. x / 2 ^ (w * m)) e ∙ div-eq_of_lt h)
fronts w n x (suc k) h l =
    let g : ℕ → ℕ = λ i. x / 2 ^ (w * (n - 1 - i)) % 2 ^ w in
    let m : ℕ = n - 1 - k in
    let one : suc k ≡ k + 1 = omega arith in
    let up : n - k ≡ suc m = omega arith in
    let down : m ≡ n - suc k = omega arith in
    ap (λ j. number w (map g (range_with_len 0 j))) one ∙ ap (number w) (map-range_with_len_more g 0 k k (omega arith)) ∙ number_push w (map g (range_with_len 0 k)) (g k)
    ∙ ap (λ y. y * 2 ^ w + g k) (fronts w n x k h (omega arith) ∙ ap (λ j. x / 2 ^ (w * j)) up ∙ ap (λ j. x / 2 ^ j) (mul-suc w m) ∙ sym (shr-shr x (w * m) w))
    ∙ split (x / 2 ^ (w * m)) w ∙ ap (λ j. x / 2 ^ (w * j)) down

pub number_groups : (w n x : ℕ) → x < 2 ^ (w * n) → number w (groups w n x) ≡ x
unfolding groups
number_groups w n x h = fronts w n x n h (omega arith) ∙ ap (λ j. x / 2 ^ (w * j)) (sub_self n) ∙ ap (λ j. x / 2 ^ j) (mul-zero w) ∙ div-one x

-- a digit of k bits put after j bits, at a type of v bits
pub appended : (v j k a d : ℕ) → a < 2 ^ j → d < 2 ^ k → j + k ≤ v → bit_or (a * 2 ^ k % 2 ^ v) d ≡ a * 2 ^ k + d
appended v j k a d h l b = ap (λ n. bit_or n d) (shl_exact j k v h b) ∙ or_shifted a k d l

-- the bytes that `to_be_bytes` makes of a number, and the number that `from_be_bytes` makes of eight bytes
pub bytes_number : (n : ℕ) → to_be_bytes w64 n ≡ groups 8 8 n
unfolding groups
bytes_number n = rw (div-one n)

pub number_bytes : (s : List ℕ) (n : ℕ) → length s ≡ 8 → ((i : ℕ) → get_or s i 0 < 256) → n < 2 ^ 64 → n ≡ from_be_bytes w64 s → n ≡ number 8 s
number_bytes s n l small h e = sym (number_groups 8 8 n h) ∙ ap (number 8) (sym (bytes_number n) ∙ be_bytes_8 s n l small e)
