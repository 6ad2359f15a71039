-- The initial vectors of the profiles.
use Rattle.std.specs.Prelude.{ℕ, List, [], ◌∷◌, replicate}

-- ETSI TS 103 127, clause 6.3.1.2
abbrev pub cissa_vector : List ℕ
cissa_vector =
    0x44 ∷ 0x56 ∷ 0x42 ∷ 0x54 ∷ 0x4d ∷ 0x43 ∷ 0x50 ∷ 0x54 ∷ 0x41 ∷ 0x45 ∷ 0x53 ∷ 0x43 ∷ 0x49 ∷ 0x53 ∷ 0x53 ∷ 0x41 ∷ []

abbrev pub zero_vector : List ℕ
zero_vector = replicate 16 0
