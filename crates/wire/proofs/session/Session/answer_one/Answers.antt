use Rattle.std.proofs.Common.{◌≡◌, ◌∙◌, arith}
use Rattle.std.proofs.lemmas.List.{with_items_is}
use Rattle.std.proofs.lemmas.Result.{on_ok_weaker}
use Rattle.wire.proofs.Answered.{field_answered}
use Rattle.wire.proofs.session.Session.answer_one.Goals as goal

pub returns : goal.returns
returns c =
    let same : c.as_mut_slice.result.now ≡ c.args.field.value.now = c.as_mut_slice.ensures.value ∙ c.in_ok-left.ensures.items in
    let left : c.as_slice.result.now ≡ c.answer-reply.new.value = c.as_slice.ensures.value ∙ with_items_is c.in_ok-left.left c.answer-reply.new.value (omega arith) in
    on_ok_weaker _ (field_answered _ _ _ _ _ _ _ _ same c.answer-reply.ensures.reply (left ∙ c.answer-reply.ensures.value) c.answer-reply.ensures.does) c.write.ensures
