-- A number of 64 bits and its eight bytes, the most significant first.
use Rattle.std.specs.Prelude.{ℕ, ◌+◌, ◌*◌, ◌/◌, ◌%◌, ◌^◌, List, [], ◌∷◌, slice_index}

-- the eight bytes of a number
abbrev pub bytes_of : ℕ → List ℕ
bytes_of n =
    (n / 2 ^ 56 % 256) ∷ (n / 2 ^ 48 % 256) ∷ (n / 2 ^ 40 % 256) ∷ (n / 2 ^ 32 % 256)
    ∷ (n / 2 ^ 24 % 256) ∷ (n / 2 ^ 16 % 256) ∷ (n / 2 ^ 8 % 256) ∷ (n % 256) ∷ []

-- the number that eight bytes stand for, from place i on
abbrev pub number_at : List ℕ → ℕ → ℕ
number_at bytes i =
    slice_index bytes i * 2 ^ 56 + slice_index bytes (i + 1) * 2 ^ 48 + slice_index bytes (i + 2) * 2 ^ 40 + slice_index bytes (i + 3) * 2 ^ 32
    + slice_index bytes (i + 4) * 2 ^ 24 + slice_index bytes (i + 5) * 2 ^ 16 + slice_index bytes (i + 6) * 2 ^ 8 + slice_index bytes (i + 7)
