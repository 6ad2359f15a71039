-- Cipher block chaining over the whole blocks of a payload, and the tail after them.
use Rattle.std.specs.Prelude.{ℕ, zero, suc, List, ◌++◌, take, drop}
use Rattle.cipher.specs.Bytes.{xors}

-- so many blocks: each is E of the clear block XOR the chain value, and is the next chain value; then the tail, under the mask E of the last
abbrev pub chained : ℕ → (List ℕ → List ℕ) → (List ℕ → List ℕ → List ℕ) → ℕ → List ℕ → List ℕ → List ℕ
chained width E on zero chain p = on (E chain) p
chained width E on (suc n) chain p =
    E (xors (take width p) chain) ++ chained width E on n (E (xors (take width p) chain)) (drop width p)

-- so many blocks: each is D of the scrambled block XOR the chain value, and the scrambled block is the next; then the tail, under the mask E of the last
abbrev pub unchained : ℕ → (List ℕ → List ℕ) → (List ℕ → List ℕ) → (List ℕ → List ℕ → List ℕ) → ℕ → List ℕ → List ℕ → List ℕ
unchained width E D off zero chain p = off (E chain) p
unchained width E D off (suc n) chain p =
    xors (D (take width p)) chain ++ unchained width E D off n (take width p) (drop width p)
