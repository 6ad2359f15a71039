-- Lists of bytes.
use Rattle.std.specs.Prelude.{◌≡◌, ℕ, ◌<◌, List, [], ◌∷◌, length, bit_xor}
use Rattle.std.specs.List.{AllByRecursion}

-- a number of eight bits
abbrev pub Byte : ℕ → Type 0
Byte x = x < 256

-- each element is a byte
abbrev pub Bytes : List ℕ → Type 0
Bytes xs = AllByRecursion Byte xs

-- so many bytes
abbrev pub Block : ℕ → List ℕ → Type 0
Block width xs = (length xs ≡ width) × Bytes xs

-- each byte XOR the one at its place in the mask; what is past the mask's end stays
abbrev pub xors : List ℕ → List ℕ → List ℕ
xors [] mask = []
xors (x ∷ xs) [] = x ∷ xs
xors (x ∷ xs) (m ∷ mask) = bit_xor x m ∷ xors xs mask
