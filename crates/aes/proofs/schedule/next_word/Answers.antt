use Rattle.std.proofs.Common.{◌≡◌, ℕ, ◌-◌, ◌/◌, ◌<◌, List, [], length, get_or, ap, ◌∙◌, ap₂, arith}
use Rattle.aes.specs.State.{xor_bytes}
use Rattle.aes.specs.KeyExpansion.{word_at, addend, next_word}
use Rattle.aes.proofs.RoundKeys.{chunk}
use Rattle.aes.proofs.schedule.next_word.Goals as goal

pub returns : goal.returns
unfolding word_at next_word
returns c =
    let w : List ℕ = c.args.schedule.now in
    let word : (j : ℕ) → j < 44 → get_or c.as_chunks.result.0.now j [] ≡ word_at w j =
    λ j h. ap (λ ws. get_or ws j []) c.as_chunks.ensures.front ∙ chunk 4 w (length w / 4) j (omega arith) in
    c.xor_words.ensures
    ∙ ap₂ xor_bytes (word (c.args.i - 4) (omega arith)) (c.addend_of.ensures ∙ ap (addend c.args.i) (word (c.args.i - 1) (omega arith)))
