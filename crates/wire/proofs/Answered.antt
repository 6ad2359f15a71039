-- Fields that are answered one after the other.
use Rattle.std.proofs.Common.{◌≡◌, List, [], ◌∷◌, ◌++◌, ℕ, sym, refl, ap, ◌∙◌, subst, append_assoc, append-nil}
use Rattle.engine.specs.Model.{Model, Given}
use Rattle.engine.specs.Runs.{Call, Run}
use Rattle.wire.specs.Answered.{ProgramEngine, Answered, Does}
use Rattle.wire.specs.Calls.{calls_for}
use Rattle.wire.specs.Fields.{Field, asked, answer, answers, state_through, calls_through}
use Rattle.wire.specs.Programs.{view_of, state_of}
use Rattle.wire.specs.Replies.{reply_to, value_left, written}
use Rattle.wire.specs.Requests.{request_of}
use Rattle.wire.specs.States.{State, state_after}
use Rattle.wire.specs.declared.reply.Reply.{Reply}

-- a run whose last call is given its answer by another name
pub answered : {E R : Type 0} (view : E → Model) (given : Given) (calls : List Call) (e : E) (call : R → Call) (r s : R) → r ≡ s
    → Run view given (call r ∷ calls) e → Run view given (call s ∷ calls) e
answered view given calls e call r s p run = subst (λ x. Run view given (call x ∷ calls) e) p run

pub no_field : (e : ProgramEngine) (out : List ℕ) → Answered e out [] e out
no_field e out = record { out = sym (append-nil out); state = refl; runs = λ given calls run. run }

-- a field whose value was copied before it was answered
pub field_answered : (e e' : ProgramEngine) (out out' : List ℕ) (f : Field) (value left : List ℕ) (r : Reply) → value ≡ f.value
    → r ≡ reply_to (view_of e) (request_of f.tag value) value → left ≡ value_left (view_of e) (request_of f.tag value) value → Does e (request_of f.tag value) value e'
    → out' ≡ out ++ written r left → Answered e out (f ∷ []) e' out'
field_answered e e' out out' f value left r same reply was does wrote =
    let m = view_of e in
    record {
      out =
          wrote
          ∙ ap (λ (l : List ℕ). out ++ written r l) was
          ∙ ap (λ (x : Reply). out ++ written x (value_left m (request_of f.tag value) value)) reply
          ∙ ap (λ (v : List ℕ). out ++ written (reply_to m (request_of f.tag v) v) (value_left m (request_of f.tag v) v)) same
          ∙ ap (λ (l : List ℕ). out ++ l) (sym (append-nil (answer (state_of e) f)));
      state = does.0 ∙ ap (λ (v : List ℕ). state_after (state_of e) (request_of f.tag v)) same;
      runs = λ given calls run. subst (λ (v : List ℕ). Run view_of given (calls_for m (request_of f.tag v) v ++ calls) e') same (does.1 given calls run);
    }

-- fields behind those that were answered
pub further : (e e' e'' : ProgramEngine) (out out' out'' : List ℕ) (f : Field) (fs : List Field) → Answered e out (f ∷ []) e' out' → Answered e' out' fs e'' out'' → Answered e out (f ∷ fs) e'' out''
further e e' e'' out out' out'' f fs first later =
    let s = state_of e in
    let said = answer s f in
    record {
      out =
          later.out
          ∙ ap (λ (l : List ℕ). l ++ answers (state_of e') fs) (first.out ∙ ap (λ (l : List ℕ). out ++ l) (append-nil said))
          ∙ append_assoc out said (answers (state_of e') fs)
          ∙ ap (λ (x : State). out ++ (said ++ answers x fs)) first.state;
      state = later.state ∙ ap (λ (x : State). state_through x fs) first.state;
      runs = λ given calls run.
          subst (λ (x : State). Run view_of given (calls_through x fs (calls_for (view_of e) (asked f) f.value ++ calls)) e'') first.state
          (later.runs given _ (first.runs given calls run));
    }
