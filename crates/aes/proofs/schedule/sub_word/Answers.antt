use Rattle.std.proofs.Common.{◌≡◌, ℕ, List, [], ◌∷◌, get_or, refl, rules}
use Rattle.aes.specs.SBox.{s_box}
use Rattle.aes.specs.KeyExpansion.{sub_word}
use Rattle.aes.proofs.Rows.{exactly}
use Rattle.aes.proofs.schedule.sub_word.Goals as goal

pub returns : goal.returns
unfolding sub_word
returns c =
    let a : List ℕ = c.args.word in
    let e = exactly 4 (λ a. s_box (get_or a 0 0) ∷ s_box (get_or a 1 0) ∷ s_box (get_or a 2 0) ∷ s_box (get_or a 3 0) ∷ [] ≡ sub_word a) (λ p q r s. refl) a (search rules) in
    cc
