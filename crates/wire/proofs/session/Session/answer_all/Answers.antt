use Rattle.std.proofs.Common.{ℕ, List, ◌++◌, vec_items, ap, ◌∙◌, append_assoc}
use Rattle.wire.specs.Fields.{answers, fields_in, cut_answer}
use Rattle.wire.specs.Programs.{state_of}
use Rattle.wire.proofs.session.Session.answer_all.Goals as goal

pub returns : goal.returns
returns c =
    let whole = c.in_ok-rest.ensures.answered in
    let items = vec_items c.args.out.now in
    let said = answers (state_of c.args.self.now.engine) (fields_in c.args.input.now) in
    let rest = c.in_ok-rest.rest.now in
    record {
      out =
          c.in_ok-answer_rest.ensures
          ∙ ap (λ (l : List ℕ). l ++ cut_answer rest) whole.out
          ∙ append_assoc items said (cut_answer rest)
          ∙ ap (λ (l : List ℕ). items ++ (said ++ cut_answer l)) c.in_ok-rest.ensures.rest;
      state = whole.state;
      runs = whole.runs;
      lawful = λ given calls run. c.every_run_is_lawful.ensures.runs given _ _ (whole.runs given calls run);
    }
