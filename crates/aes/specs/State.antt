-- The state of FIPS 197, section 3.4: four rows and four columns of bytes, as the list of its sixteen bytes, column by column.
use Rattle.std.specs.Prelude.{◌≡◌, ℕ, ◌+◌, ◌*◌, ◌/◌, ◌%◌, ◌<◌, List, [], ◌∷◌, map, length, bit_xor, slice_index}
use Rattle.std.specs.List.{range_with_len, AllByRecursion}

-- n bytes
abbrev pub Bytes : ℕ → List ℕ → Type 0
Bytes n s = (length s ≡ n) × AllByRecursion (λ x. x < 256) s

-- the byte of a state in row r and column c
unfoldable pub byte_at : List ℕ → ℕ → ℕ → ℕ
byte_at s r c = slice_index s (4 * c + r)

-- the state with f r c in row r and column c
unfoldable pub state_of : (ℕ → ℕ → ℕ) → List ℕ
state_of f = map (λ i. f (i % 4) (i / 4)) (range_with_len 0 16)

-- the state with f of each column, turned so that the row comes first
unfoldable pub columns : (ℕ → ℕ → ℕ → ℕ → ℕ) → List ℕ → List ℕ
columns f s = state_of (λ r c. f (byte_at s r c) (byte_at s ((r + 1) % 4) c) (byte_at s ((r + 2) % 4) c) (byte_at s ((r + 3) % 4) c))

-- the sums of the bytes at the same places of two lists
unfoldable pub xor_bytes : List ℕ → List ℕ → List ℕ
xor_bytes [] k = []
xor_bytes (x ∷ s) [] = []
xor_bytes (x ∷ s) (y ∷ k) = bit_xor x y ∷ xor_bytes s k
