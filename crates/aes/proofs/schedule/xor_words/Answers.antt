use Rattle.std.proofs.Common.{◌≡◌, [], ◌∷◌, get_or, refl, rules}
use lib.Bits.{bit_xor}
use Rattle.aes.specs.State.{xor_bytes}
use Rattle.aes.proofs.Rows.{exactly}
use Rattle.aes.proofs.schedule.xor_words.Goals as goal

pub returns : goal.returns
unfolding xor_bytes
returns c =
    exactly 4
    (λ a. bit_xor (get_or a 0 0) (get_or c.args.b 0 0) ∷ bit_xor (get_or a 1 0) (get_or c.args.b 1 0) ∷ bit_xor (get_or a 2 0) (get_or c.args.b 2 0) ∷ bit_xor (get_or a 3 0) (get_or c.args.b 3 0) ∷ [] ≡ xor_bytes a c.args.b)
    (λ p q r s.
    exactly 4
    (λ b. bit_xor p (get_or b 0 0) ∷ bit_xor q (get_or b 1 0) ∷ bit_xor r (get_or b 2 0) ∷ bit_xor s (get_or b 3 0) ∷ [] ≡ xor_bytes (p ∷ q ∷ r ∷ s ∷ []) b)
    (λ p' q' r' s'. refl) c.args.b (search rules))
    c.args.a (search rules)
