-- Either direction of chaining.
use Rattle.std.specs.Prelude.{ℕ, List}
use Rattle.cipher.specs.Bytes.{xors}
use Rattle.cipher.specs.Chain.{chained, unchained}
use Rattle.cipher.specs.Profiles.{Meaning, scrambled, descrambled}
use Rattle.cipher.specs.declared.direction.Direction.{Direction}
use Rattle.cipher.specs.declared.direction.Direction.TheVariants.{Scramble, Descramble}
use Rattle.word.specs.declared.word.Word.{Word}

-- a block, from E and D and the chain value
abbrev pub turned_block : Direction → (List ℕ → List ℕ) → (List ℕ → List ℕ) → List ℕ → List ℕ → List ℕ
turned_block Scramble E D chain b = E (xors b chain)
turned_block Descramble E D chain b = xors (D b) chain

-- the next chain value is the scrambled block
abbrev pub next_value : Direction → List ℕ → List ℕ → List ℕ
next_value Scramble before after = after
next_value Descramble before after = before

-- a tail, under the rule's functions and the mask
abbrev pub turned_tail : Direction → (List ℕ → List ℕ → List ℕ) → (List ℕ → List ℕ → List ℕ) → List ℕ → List ℕ → List ℕ
turned_tail Scramble on off mask p = on mask p
turned_tail Descramble on off mask p = off mask p

-- so many blocks, then the tail
abbrev pub turned_blocks : Direction → Meaning → Word → ℕ → List ℕ → List ℕ → List ℕ
turned_blocks Scramble m w n chain p = chained m.width (m.E w) m.on n chain p
turned_blocks Descramble m w n chain p = unchained m.width (m.E w) (m.D w) m.off n chain p

-- a payload
abbrev pub turned : Direction → Meaning → Word → List ℕ → List ℕ
turned Scramble m w p = scrambled m w p
turned Descramble m w p = descrambled m w p
