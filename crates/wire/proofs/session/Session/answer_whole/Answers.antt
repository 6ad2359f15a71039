use Rattle.std.proofs.Common.{List, ℕ, ◌<◌, ◌∷◌, length, vec_items, sym, ap, ◌∙◌, subst}
use Rattle.wire.specs.Answered.{Answered}
use Rattle.wire.specs.Fields.{Field, first_field, fields_in, rest_in}
use Rattle.wire.proofs.Answered.{no_field, further}
use Rattle.wire.proofs.Fields.{begins, ends, shorter}
use Rattle.wire.proofs.session.Session.answer_whole.Goals as goal

pub loop-field-preserved : goal.loop-field-preserved
loop-field-preserved c =
    let rest = c.loop-field.rest.now in
    let split = c.in-Some.ensures in
    let b = begins rest split.0 in
    let is = ap (λ (f : Field). f ∷ fields_in c.in-Some.behind.now) split.1 ∙ ap (λ (l : List ℕ). first_field rest ∷ fields_in l) split.2 ∙ sym b.fields in (
      ap rest_in split.2 ∙ sym b.rest ∙ c.loop-field.invariant.0,
      λ last out more. c.loop-field.invariant.1 last out
          (subst (λ (fs : List Field). Answered c.loop-field.self.engine (vec_items c.loop-field.out) fs last out) is (further _ _ _ _ _ _ _ _ c.in_ok-answer_one.ensures more)),
    )

pub loop-field-smaller : goal.loop-field-smaller
loop-field-smaller c =
    let split = c.in-Some.ensures in
    subst (λ (l : List ℕ). length l < length c.loop-field.rest.now) (sym split.2) (shorter c.loop-field.rest.now split.0)

pub returns : goal.returns
returns c =
    let e = c.loop-field.self.engine in
    let out = vec_items c.loop-field.out in
    let none = ends c.loop-field.rest.now c.in_default.ensures in
    record {
      rest = sym none.rest ∙ c.loop-field.invariant.0;
      answered = c.loop-field.invariant.1 e out (subst (λ (fs : List Field). Answered e out fs e out) (sym none.fields) (no_field e out));
    }
