use Rattle.std.proofs.Common.{ℕ, List, [], ◌∷◌, ◌++◌, get_or, vec_items, ap, ◌∙◌, append_assoc}
use Rattle.wire.specs.Replies.{number_of, answer_bytes}
use Rattle.wire.proofs.reply.Reply.write.Goals as goal

pub returns : goal.returns
returns c =
    let items = vec_items c.args.out.now in
    let tag = c.args.self.now.tag in
    let body = c.body-body.result.now in
    let lengths = c.length_bytes.result in
    c.in_ok-extend_from_slice-2.ensures.items
    ∙ ap (λ (l : List ℕ). l ++ body) c.in_ok-extend_from_slice.ensures.items
    ∙ append_assoc items (tag ∷ get_or lengths 0 0 ∷ get_or lengths 1 0 ∷ c.number.result ∷ []) body
    ∙ ap (λ (l : List ℕ). items ++ (tag ∷ get_or l 0 0 ∷ get_or l 1 0 ∷ c.number.result ∷ body)) c.length_bytes.ensures
    ∙ ap (λ (n : ℕ). items ++ answer_bytes tag n body) c.number.ensures
    ∙ ap (λ (l : List ℕ). items ++ answer_bytes tag (number_of c.args.self.now.outcome) l) c.body-body.ensures
