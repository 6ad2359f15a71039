use Rattle.std.proofs.Common.{ℕ, List, [], ◌∷◌, get_or, ap, ◌∙◌}
use Rattle.aes.specs.SBox.{s_box}
use Rattle.aes.specs.State.{xor_bytes}
use Rattle.aes.specs.Rounds.{mix_byte}
use Rattle.aes.specs.Words.{word_bytes, column_of, diagonal}
use Rattle.aes.proofs.Words.{xor_bytes_lem, mix_linear, summed}
use Rattle.aes.proofs.rounds.round_column.Goals as goal

-- the column of the S-box at a byte
boxed : ℕ → List ℕ
boxed b = column_of mix_byte (s_box b ∷ 0 ∷ 0 ∷ 0 ∷ [])

pub returns : goal.returns
unfolding word_bytes diagonal boxed
returns c =
    xor_bytes_lem c.turned_sum.result c.args.key
    ∙ ap (λ t. xor_bytes t (word_bytes c.args.key))
    (summed mix_byte mix_linear (s_box (get_or (word_bytes c.args.a) 0 0)) (s_box (get_or (word_bytes c.args.b) 1 0)) (s_box (get_or (word_bytes c.args.c) 2 0)) (s_box (get_or (word_bytes c.args.d) 3 0))
    c.mixed_s_box-p.result c.mixed_s_box-q.result c.mixed_s_box-r.result c.mixed_s_box-s.result
    (c.mixed_s_box-p.ensures ∙ ap (λ t. boxed (get_or t 0 0)) c.to_le_bytes.ensures) (c.mixed_s_box-q.ensures ∙ ap (λ t. boxed (get_or t 1 0)) c.to_le_bytes-2.ensures)
    (c.mixed_s_box-r.ensures ∙ ap (λ t. boxed (get_or t 2 0)) c.to_le_bytes-3.ensures) (c.mixed_s_box-s.ensures ∙ ap (λ t. boxed (get_or t 3 0)) c.to_le_bytes-4.ensures)
    c.turned_sum.ensures)
