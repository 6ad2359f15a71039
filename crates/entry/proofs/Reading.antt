-- One step of reading a group: a digit goes on, no digit stops, the end answers the number so far.
use Rattle.std.proofs.Common.{◌≡◌, ℕ, ◌+◌, ◌*◌, ◌^◌, ◌<◌, ◌≤◌, Bool, cond, List, length, get_or, drop, Some, None, Ok, Err, Option, sym, ap, ◌∙◌, arith, pow_mono, pow-add, eq-eqb}
use Rattle.std.proofs.lemmas.List.{at_drop_more, at_drop_all}
use Rattle.std.proofs.lemmas.Bool.Decides.{nat_tests}
use Rattle.entry.specs.declared.faults.EntryFault.TheVariants.{Length, Digit}
use Rattle.entry.specs.Groups.{digit_of, with_digit, digits_of, group_of}

pub digit_low : (b d : ℕ) → Some d ≡ digit_of b → d < 16
digit_low b d e = grind (arith, nat_tests)

-- the byte at a position decides what follows of the rest
step : (g i so : ℕ) (xs : List ℕ) (o : Option ℕ) → i < length xs → o ≡ digit_of (get_or xs i 0)
    → digits_of g i so (drop i xs) ≡ with_digit o (Err (Digit g i)) (λ d. digits_of g (i + 1) (so * 16 + d) (drop (i + 1) xs))
step g i so xs o h e =
    at_drop_more (digits_of g i so) xs i 0 h
    ∙ ap (λ (o : Option ℕ). with_digit o (Err (Digit g i)) (λ d. digits_of g (i + 1) (so * 16 + d) (drop (i + 1) xs))) (sym e)

pub digits_some : (g i so d : ℕ) (xs : List ℕ) → i < length xs → Some d ≡ digit_of (get_or xs i 0)
    → digits_of g i so (drop i xs) ≡ digits_of g (i + 1) (so * 16 + d) (drop (i + 1) xs)
digits_some g i so d xs h e = step g i so xs (Some d) h e

pub digits_none : (g i so : ℕ) (xs : List ℕ) → i < length xs → None ≡ digit_of (get_or xs i 0)
    → digits_of g i so (drop i xs) ≡ Err (Digit g i)
digits_none g i so xs h e = step g i so xs None h e

pub digits_all : (g i so : ℕ) (xs : List ℕ) → length xs ≤ i → digits_of g i so (drop i xs) ≡ Ok so
digits_all g i so xs h = at_drop_all (digits_of g i so) xs i h

pub group_is : (g : ℕ) (xs : List ℕ) → length xs ≡ 8 → group_of g xs ≡ digits_of g 0 0 xs
group_is g xs e = ap (λ (b : Bool). cond b (digits_of g 0 0 xs) (Err (Length g (length xs)))) (eq-eqb (length xs) 8 e)

-- a number of i digits, with one digit more, has i + 1 digits and fits 32 bits
pub room : (n i d : ℕ) → n < 2 ^ (4 * i) → i < 8 → d < 16 → (n * 16 + d < 2 ^ (4 * (i + 1))) × (n * 16 + d < 4294967296)
room n i d h lt small =
    let k : 4 * (i + 1) ≡ 4 * i + 4 = omega arith in
    let e : 2 ^ (4 * (i + 1)) ≡ 2 ^ (4 * i) * 16 = ap (λ (j : ℕ). 2 ^ j) k ∙ pow-add 2 (4 * i) 4 in
    let m : 2 ^ (4 * (i + 1)) ≤ 4294967296 = pow_mono {i = 4 * (i + 1)} {j = 32} (omega arith) in
    (omega arith, omega arith)
