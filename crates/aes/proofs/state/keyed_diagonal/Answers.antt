use Rattle.std.proofs.Common.{get_or, ap, ◌∙◌}
use Rattle.aes.specs.Words.{word_bytes}
use Rattle.aes.proofs.Words.{keyed_diagonal_lem}
use Rattle.aes.proofs.state.keyed_diagonal.Goals as goal

pub returns : goal.returns
unfolding word_bytes
returns g c = λ h k.
    keyed_diagonal_lem h c.args.a c.args.b c.args.c c.args.d c.image-p.result c.image-q.result c.image-r.result c.image-s.result c.from_le_bytes.result c.args.key
    c.image-p.type_inv c.image-q.type_inv c.image-r.type_inv c.image-s.type_inv
    (k _ _ c.image-p.ensures ∙ ap (λ t. h (get_or t 0 0)) c.to_le_bytes.ensures) (k _ _ c.image-q.ensures ∙ ap (λ t. h (get_or t 1 0)) c.to_le_bytes-2.ensures)
    (k _ _ c.image-r.ensures ∙ ap (λ t. h (get_or t 2 0)) c.to_le_bytes-3.ensures) (k _ _ c.image-s.ensures ∙ ap (λ t. h (get_or t 3 0)) c.to_le_bytes-4.ensures)
    c.from_le_bytes.ensures
