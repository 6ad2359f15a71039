use Rattle.std.proofs.Common.{Ok, Err, is_ok, rules, sym, ap, ◌∙◌}
use Rattle.std.proofs.lemmas.Bool.{false≢true}
use Rattle.std.proofs.lemmas.Result.{err_from_is_err_and}
use Rattle.engine.specs.declared.faults.EngineFault.{EngineFault}
use Rattle.engine.specs.Model.{model_of}
use Rattle.law.proofs.Rehearsed.{rehearsed}
use Rattle.law.proofs.rehearsal.rehearse.Goals as goal

pub returns : goal.returns
returns g c =
    rehearsed (model_of g.C.Cipher g.T.TailRule g.S.Shelf) (model_of g.R.Cipher g.U.TailRule g.V.Shelf) c.every_run_is_lawful.ensures c.args.one.now c.args.two.now
    c.args.area.now c.args.other_area.now c.args.batch.now c.scramble.new.batch c.in_ok-scrambled.ensures.does (search rules) c.scramble.auto.batch

-- the second call refuses, and its fault is the answer
pub returns-in_err-descrambled : goal.returns-in_err-descrambled
returns-in_err-descrambled g c =
    let p = err_from_is_err_and c.from_residual-in_err-descrambled.result c.from_residual-in_err-descrambled.ensures.1 in
    record {
      answer = Ok c.in_ok-scrambled.scrambled;
      scrambled = c.scramble.new.batch;
      first = c.in_ok-scrambled.ensures.does;
      second = (Err c.in_err-descrambled.field-0.0, c.in_err-descrambled.ensures.does, p.1 ∙ ap (λ (f : EngineFault). Err f) p.2);
      returns = λ h. absurd (false≢true (sym (ap is_ok p.1) ∙ h));
    }
