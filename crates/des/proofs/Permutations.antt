-- A permutation after another is one by the composed table, and one by the table 1, 2, .. changes nothing.
use Rattle.std.proofs.Common.{◌≡◌, ℕ, zero, suc, ◌+◌, ◌-◌, ◌*◌, ◌/◌, ◌%◌, ◌^◌, ◌<◌, ◌≤◌, List, [], ◌∷◌, ◌++◌, map, length, get_or, take, sym, refl, ap, ◌∙◌, ap₂, mod-lt, one-mul, arith, lit<, length-append}
use lib.ListN.{length-map}
use Rattle.std.specs.List.{range_with_len, flat_map, AllByRecursion}
use Rattle.std.proofs.lemmas.List.FromFn.{length-map-range_with_len, get_or-map-range_with_len}
use Rattle.std.proofs.lemmas.List.{map_more, map-append, get_or-map, ext_get_or, take_more, flat_map_more}
use Rattle.des.specs.Bits.{bit, number, groups, permuted}
use Rattle.des.proofs.Digits.{number_push, number_append, number_lt, digit, length_groups, get_or_groups, number_groups}

pub bit_lt : (w x t : ℕ) → bit w x t < 2
unfolding bit
bit_lt w x t = mod-lt (x / 2 ^ (w - t)) (lit< tt)

bits_lt : (w x : ℕ) (table : List ℕ) → AllByRecursion (λ b. b < 2) (map (bit w x) table)
bits_lt w x [] = tt
bits_lt w x (t ∷ table) = (bit_lt w x t, bits_lt w x table)

pub permuted_more : (w : ℕ) (table : List ℕ) (x i : ℕ) → i < length table → permuted w (take (i + 1) table) x ≡ permuted w (take i table) x * 2 + bit w x (get_or table i 0)
unfolding permuted
permuted_more w table x i h = ap (number 1) (map_more (bit w x) table i 0 h) ∙ number_push 1 (map (bit w x) (take i table)) (bit w x (get_or table i 0))

pub permuted_lt : (w : ℕ) (table : List ℕ) (x : ℕ) → permuted w table x < 2 ^ length table
unfolding permuted
permuted_lt w table x =
    let e : 1 * length (map (bit w x) table) ≡ length table = one-mul (length (map (bit w x) table)) ∙ length-map table (bit w x) in
    rw e at (number_lt 1 (map (bit w x) table) (bits_lt w x table))

-- one table after the other
permuted_append : (w : ℕ) (xs ys : List ℕ) (x : ℕ) → permuted w (xs ++ ys) x ≡ permuted w xs x * 2 ^ length ys + permuted w ys x
unfolding permuted
permuted_append w xs ys x =
    let bits : List ℕ → List ℕ = map (bit w x) in
    let e : 1 * length (bits ys) ≡ length ys = one-mul (length (bits ys)) ∙ length-map ys (bit w x) in
    ap (number 1) (map-append (bit w x) xs ys) ∙ number_append 1 (bits xs) (bits ys) ∙ ap (λ n. number 1 (bits xs) * 2 ^ n + number 1 (bits ys)) e

-- the rows of a table, one after the other
abbrev pub rows : List (List ℕ) → List ℕ
rows table = flat_map (λ row. row) table

rows_more : (table : List (List ℕ)) (i : ℕ) → i < length table → rows (take (i + 1) table) ≡ rows (take i table) ++ get_or table i []
rows_more table i h = ap rows (take_more table i [] h) ∙ sym (flat_map_more (λ row. row) [] (take i table) (get_or table i []))

pub permuted_row : (w x : ℕ) (table : List (List ℕ)) (i : ℕ) → i < length table →
    permuted w (rows (take i table)) x * 2 ^ length (get_or table i []) + permuted w (get_or table i []) x ≡ permuted w (rows (take (i + 1) table)) x
permuted_row w x table i h = sym (permuted_append w (rows (take i table)) (get_or table i []) x) ∙ ap (λ t. permuted w t x) (sym (rows_more table i h))

length_rows : (n : ℕ) (table : List (List ℕ)) → length (rows (take n table)) ≤ length (rows table)
length_rows zero table = omega arith
length_rows (suc n) [] = omega arith
length_rows (suc n) (row ∷ table) = omega (arith, length-append row (rows (take n table)), length-append row (rows table), length_rows n table)

pub rows_le : (table : List (List ℕ)) (i : ℕ) → i < length table → length (rows (take i table)) + length (get_or table i []) ≤ length (rows table)
rows_le table i h = omega (arith, length_rows (i + 1) table, ap length (rows_more table i h), length-append (rows (take i table)) (get_or table i []))

-- what a table names, read off the permuted number
pub bit_permuted : (w : ℕ) (table : List ℕ) (x t : ℕ) → 0 < t → t ≤ length table → bit (length table) (permuted w table x) t ≡ bit w x (get_or table (t - 1) 0)
unfolding bit permuted
bit_permuted w table x t p h =
    let bits : List ℕ = map (bit w x) table in
    let n : length bits ≡ length table = length-map table (bit w x) in
    let e : length table - t ≡ 1 * (length bits - 1 - (t - 1)) = omega arith in
    ap (λ k. number 1 bits / 2 ^ k % 2) e ∙ digit 1 bits (t - 1) (bits_lt w x table) (omega arith) ∙ get_or-map (bit w x) table (t - 1) 0 0 (omega arith)

map_same : (f g : ℕ → ℕ) (Q : ℕ → Type 0) → ((t : ℕ) → Q t → f t ≡ g t) → (xs : List ℕ) → AllByRecursion Q xs → map f xs ≡ map g xs
map_same f g Q h [] a = refl
map_same f g Q h (x ∷ xs) a = ap₂ {C = List ℕ} ◌∷◌ (h x a.0) (map_same f g Q h xs a.1)

map_map : (f g : ℕ → ℕ) (xs : List ℕ) → map f (map g xs) ≡ map (λ x. f (g x)) xs
map_map f g [] = refl
map_map f g (x ∷ xs) = ap {B = List ℕ} (◌∷◌ (f (g x))) (map_map f g xs)

-- two numbers that agree in the bits that a table names are permuted alike
pub permuted_same : (w : ℕ) (table : List ℕ) (x y : ℕ) (Q : ℕ → Type 0) → ((t : ℕ) → Q t → bit w x t ≡ bit w y t) → AllByRecursion Q table → permuted w table x ≡ permuted w table y
unfolding permuted
permuted_same w table x y Q h a = ap (number 1) (map_same (bit w x) (bit w y) Q h table a)

pub permuted_permuted : (w : ℕ) (table next : List ℕ) (x : ℕ) → AllByRecursion (λ t. (0 < t) × (t ≤ length table)) next →
    permuted (length table) next (permuted w table x) ≡ permuted w (map (λ t. get_or table (t - 1) 0) next) x
unfolding permuted
permuted_permuted w table next x a =
    ap (number 1)
    (map_same (bit (length table) (permuted w table x)) (λ t. bit w x (get_or table (t - 1) 0)) (λ t. (0 < t) × (t ≤ length table))
    (λ t h. bit_permuted w table x t h.0 h.1) next a
    ∙ sym (map_map (bit w x) (λ t. get_or table (t - 1) 0) next))

pub permuted_none : (n x : ℕ) → x < 2 ^ n → permuted n (range_with_len 1 n) x ≡ x
unfolding bit permuted groups
permuted_none n x h =
    let one : 1 * n ≡ n = one-mul n in
    let bits : List ℕ = map (bit n x) (range_with_len 1 n) in
    let len : length bits ≡ n = length-map-range_with_len (bit n x) 1 n in
    ap (number 1)
    (ext_get_or 0 bits (groups 1 n x) (len ∙ sym (length_groups 1 n x))
    (λ i l.
    let b : i < n = omega arith in
    let e : n - (1 + i) ≡ 1 * (n - 1 - i) = omega arith in
    get_or-map-range_with_len (bit n x) 1 n i (1 + i) 0 b refl ∙ ap (λ k. x / 2 ^ k % 2) e ∙ sym (get_or_groups 1 n x i b)))
    ∙ number_groups 1 n x (rw one h)
