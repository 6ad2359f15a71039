use Rattle.std.proofs.Common.{◌≡◌, [], ◌∷◌, get_or, refl, rules}
use Rattle.aes.specs.KeyExpansion.{rot_word}
use Rattle.aes.proofs.Rows.{exactly}
use Rattle.aes.proofs.schedule.rot_word.Goals as goal

pub returns : goal.returns
unfolding rot_word
returns c =
    exactly 4 (λ a. get_or a 1 0 ∷ get_or a 2 0 ∷ get_or a 3 0 ∷ get_or a 0 0 ∷ [] ≡ rot_word a) (λ p q r s. refl) c.args.word (search rules)
