-- A column of a state as a word of 32 bits, with the byte in row 0 lowest. Only contracts of inner functions cite this file.
use Rattle.std.specs.Prelude.{ℕ, ◌-◌, ◌/◌, ◌%◌, List, [], ◌∷◌, ◌++◌, take, drop, slice_index, slice_index_or}
use Rattle.aes.specs.declared.state.State.{State}

-- the bytes of a word, from row 0 down
unfoldable pub word_bytes : ℕ → List ℕ
word_bytes x = x % 256 ∷ x / 256 % 256 ∷ x / 65536 % 256 ∷ x / 16777216 % 256 ∷ []

-- the sixteen bytes of four columns
unfoldable pub state_bytes : State → List ℕ
state_bytes s = word_bytes s.c0 ++ (word_bytes s.c1 ++ (word_bytes s.c2 ++ word_bytes s.c3))

-- f of a column, turned so that each row comes first once
unfoldable pub column_of : (ℕ → ℕ → ℕ → ℕ → ℕ) → List ℕ → List ℕ
column_of f s =
    let a : ℕ = slice_index_or s 0 0 in
    let b : ℕ = slice_index_or s 1 0 in
    let c : ℕ = slice_index_or s 2 0 in
    let d : ℕ = slice_index_or s 3 0 in
    f a b c d ∷ f b c d a ∷ f c d a b ∷ f d a b c ∷ []

-- f of a byte of each of four columns, one row lower from column to column
unfoldable pub diagonal : (ℕ → ℕ) → ℕ → ℕ → ℕ → ℕ → List ℕ
unfolding word_bytes
diagonal f x y z u = f (slice_index (word_bytes x) 0) ∷ f (slice_index (word_bytes y) 1) ∷ f (slice_index (word_bytes z) 2) ∷ f (slice_index (word_bytes u) 3) ∷ []

-- a column n rows down, and round
unfoldable pub turned : ℕ → List ℕ → List ℕ
turned n a = drop (4 - n) a ++ take (4 - n) a
