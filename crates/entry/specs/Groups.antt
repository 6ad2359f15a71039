-- The number that a group of eight hexadecimal digits stands for, given as the bytes of its text.
use Rattle.std.specs.Prelude.{ℕ, ◌+◌, ◌-◌, ◌*◌, cond, ◌&&◌, List, [], ◌∷◌, length, Some, None, Ok, Err, Option, Result, ◌==◌, nat_le}
use Rattle.entry.specs.declared.faults.EntryFault.{EntryFault}
use Rattle.entry.specs.declared.faults.EntryFault.TheVariants.{Length, Digit}

-- the value of a digit: 0 to 9 are the bytes 48 to 57, A to F are 65 to 70, a to f are 97 to 102
abbrev pub digit_of : ℕ → Option ℕ
digit_of b =
    cond (nat_le 48 b && nat_le b 57) (Some (b - 48))
    (cond (nat_le 65 b && nat_le b 70) (Some (b - 65 + 10)) (cond (nat_le 97 b && nat_le b 102) (Some (b - 97 + 10)) None))

-- what follows of a digit, or of there being none
abbrev pub with_digit : {X : Type 0} → Option ℕ → X → (ℕ → X) → X
with_digit None x k = x
with_digit (Some d) x k = k d

-- the number of the digits from a position on, after digits of the number so; the first that is no digit decides
abbrev pub digits_of : ℕ → ℕ → ℕ → List ℕ → Result ℕ EntryFault
digits_of group position so [] = Ok so
digits_of group position so (b ∷ bs) =
    with_digit (digit_of b) (Err (Digit group position)) (λ d. digits_of group (position + 1) (so * 16 + d) bs)

-- the number of a group: first its length is tested, then its digits from left to right
abbrev pub group_of : ℕ → List ℕ → Result ℕ EntryFault
group_of group text = cond (length text == 8) (digits_of group 0 0 text) (Err (Length group (length text)))
