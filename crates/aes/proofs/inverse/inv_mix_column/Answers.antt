use Rattle.std.proofs.Common.{ℕ, List, [], ◌∷◌, get_or, ap, ◌∙◌}
use Rattle.aes.specs.Inverse.{inv_mix_byte}
use Rattle.aes.specs.Words.{word_bytes, column_of}
use Rattle.aes.proofs.Words.{inv_mix_linear, summed}
use Rattle.aes.proofs.inverse.inv_mix_column.Goals as goal

-- the column of a byte
alone : ℕ → List ℕ
alone b = column_of inv_mix_byte (b ∷ 0 ∷ 0 ∷ 0 ∷ [])

pub returns : goal.returns
unfolding word_bytes alone
returns c =
    let s : List ℕ = word_bytes c.args.x in
    summed inv_mix_byte inv_mix_linear (get_or s 0 0) (get_or s 1 0) (get_or s 2 0) (get_or s 3 0)
    c.inv_mixed.result c.inv_mixed-2.result c.inv_mixed-3.result c.inv_mixed-4.result
    (c.inv_mixed.ensures ∙ ap (λ t. alone (get_or t 0 0)) c.to_le_bytes.ensures) (c.inv_mixed-2.ensures ∙ ap (λ t. alone (get_or t 1 0)) c.to_le_bytes.ensures)
    (c.inv_mixed-3.ensures ∙ ap (λ t. alone (get_or t 2 0)) c.to_le_bytes.ensures) (c.inv_mixed-4.ensures ∙ ap (λ t. alone (get_or t 3 0)) c.to_le_bytes.ensures)
    c.turned_sum.ensures
