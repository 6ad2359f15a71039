-- The row and the column of a selection table that a group of six bits stands for, and the numbers that the tables give.
use Rattle.std.proofs.Common.{◌≡◌, ℕ, zero, suc, ◌+◌, ◌*◌, ◌/◌, ◌%◌, ◌^◌, ◌<◌, ◌≤◌, Bool, ltb, List, [], ◌∷◌, map, length, get_or, sym, ap, ◌∙◌, arith, ltb→lt}
use lib.Bits.{bit_or, bit_xor}
use Rattle.std.specs.List.{range_with_len, AllByRecursion}
use Rattle.std.proofs.lemmas.List.FromFn.{length-map-range_with_len, map-range_with_len_more}
use Rattle.des.specs.Bits.{bit, number, groups, permuted}
use Rattle.des.specs.Cipher.{E, S}
use Rattle.des.specs.Tables.{S_tables}
use Rattle.des.proofs.Digits.{number_push, number_lt, appended}
use Rattle.des.proofs.Permutations.{permuted_lt}
use Rattle.des.proofs.Tested.{every, tested_below, below}

unfoldable pub row_of : ℕ → ℕ
row_of b = permuted 6 (1 ∷ 6 ∷ []) b

unfoldable pub column_of : ℕ → ℕ
column_of b = permuted 6 (2 ∷ 3 ∷ 4 ∷ 5 ∷ []) b

pub row_is : (b : ℕ) → b < 256 → b / 32 % 2 * 2 + b % 2 ≡ row_of b
unfolding bit number permuted row_of
row_is b h = below (λ b. b / 32 % 2 * 2 + b % 2) row_of 256 tt b h

pub column_is : (b : ℕ) → b < 256 → b / 2 % 16 ≡ column_of b
unfolding bit number permuted column_of
column_is b h = below (λ b. b / 2 % 16) column_of 256 tt b h

pub row_lt : (b : ℕ) → row_of b < 4
unfolding row_of
row_lt b = permuted_lt 6 (1 ∷ 6 ∷ []) b

pub column_lt : (b : ℕ) → column_of b < 16
unfolding column_of
column_lt b = permuted_lt 6 (2 ∷ 3 ∷ 4 ∷ 5 ∷ []) b

-- every entry has four bits
pub S_lt : (i b : ℕ) → i < 8 → S i b < 16
unfolding S S_tables row_of column_of
S_lt i b h =
    let small : ℕ → ℕ → ℕ → Bool = λ i r c. ltb (get_or (get_or (get_or S_tables i []) r []) c 0) 16 in
    ltb→lt (S i b) 16
    (tested_below (small i (row_of b)) 16
    (tested_below (λ r. every (small i r) 0 16) 4 (tested_below (λ i. every (λ r. every (small i r) 0 16) 0 4) 8 tt i h) (row_of b) (row_lt b))
    (column_of b) (column_lt b))

-- what the first n of the selection functions give, and one more
module _ (r : ℕ) (k : List ℕ) where
  abbrev one : ℕ → ℕ
  one i = S i (bit_xor (get_or (groups 6 8 (E r)) i 0) (get_or k i 0))

  ones_lt : (a n : ℕ) → a + n ≤ 8 → AllByRecursion (λ x. x < 2 ^ 4) (map one (range_with_len a n))
  ones_lt a zero h = tt
  ones_lt a (suc n) h = (S_lt a (bit_xor (get_or (groups 6 8 (E r)) a 0) (get_or k a 0)) (omega arith), ones_lt (a + 1) n (omega arith))

  pub selected_more : (n : ℕ) → n < 8 → bit_or (number 4 (map one (range_with_len 0 n)) * 16 % 2 ^ 32) (one n) ≡ number 4 (map one (range_with_len 0 (n + 1)))
  selected_more n h =
      let xs : List ℕ = map one (range_with_len 0 n) in
      let l : length xs ≡ n = length-map-range_with_len one 0 n in
      appended 32 (4 * length xs) 4 (number 4 xs) (one n) (number_lt 4 xs (ones_lt 0 n (omega arith))) (S_lt n (bit_xor (get_or (groups 6 8 (E r)) n 0) (get_or k n 0)) h) (omega arith)
      ∙ sym (number_push 4 xs (one n)) ∙ ap (number 4) (sym (map-range_with_len_more one 0 n n (omega arith)))
