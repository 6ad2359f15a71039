-- A batch call with the program's key area is answered as with one of the schedule's length, and leaves the area as it was.
use Rattle.std.proofs.Common.{◌≡◌, ℕ, cond, eqb, List, ◌∷◌, length, replicate, is_ok, Ok, Result, refl, ap, ◌∙◌, subst}
use Rattle.batch.specs.Batches.{batch_answer, batch_after}
use Rattle.batch.specs.declared.faults.BatchFault.{BatchFault}
use Rattle.cipher.specs.declared.direction.Direction.{Direction}
use Rattle.engine.specs.Calls.{Counts, Batches, from_batch, counts_of}
use Rattle.engine.specs.Model.{Given, keys_of}
use Rattle.engine.specs.Runs.{Call, Run}
use Rattle.wire.specs.Answered.{ProgramEngine, Does}
use Rattle.wire.specs.Areas.{key_area}
use Rattle.wire.specs.Calls.{turns}
use Rattle.wire.specs.Programs.{view_of}
use Rattle.wire.specs.Replies.{counts, batch_left}
use Rattle.wire.specs.declared.request.Request.TheVariants.{Batch}

long : length key_area ≡ 176
unfolding key_area
long = refl

zeroed : (n s : ℕ) (area : List ℕ) → n ≡ 176 → s ≡ 176 → cond (eqb n s) (replicate n 0) area ≡ key_area
unfolding key_area
zeroed n s area e f =
    ap (λ (k : ℕ). cond (eqb k s) (replicate k 0) area) e ∙ ap (λ (k : ℕ). cond (eqb 176 k) (replicate 176 0) area) f

pub record Turned (d : Direction) (e : ProgramEngine) (batch : List ℕ) (r : Counts) (area' batch' : List ℕ) : Type 0 where
  pub answer : r ≡ from_batch (counts d (view_of e) batch)
  pub left : batch' ≡ batch_left d (view_of e) batch
  pub clean : area' ≡ key_area
  pub does : Does e (Ok (Batch d)) batch e

pub turned : (d : Direction) (e : ProgramEngine) (area batch area' batch' : List ℕ) (r : Counts) → area ≡ key_area
    → Batches d (view_of e) area batch r area' batch' (view_of e)
    → ((given : Given) (calls : List Call) → Run view_of given calls e → Run view_of given (turns d area batch r area' batch' ∷ calls) e)
    → Turned d e batch r area' batch'
turned d e area batch area' batch' r clean b runs =
    let m = view_of e in
    let n : length area ≡ 176 = ap length clean ∙ long in
    let same : counts_of d m area batch ≡ counts d m batch = ap (λ (k : ℕ). batch_answer d m.profile (keys_of m) k batch) n in
    let answer' : r ≡ from_batch (counts d m batch) = b.answer ∙ ap from_batch same in
    let left' : batch' ≡ batch_left d m batch = b.batched.after ∙ ap (λ (x : Result (ℕ × ℕ) BatchFault). cond (is_ok x) (batch_after d m.profile (keys_of m) batch) batch) same in
    let clean' : area' ≡ key_area = b.batched.wiped ∙ zeroed (length area) m.profile.schedule_length area n refl in
    record {
      answer = answer';
      left = left';
      clean = clean';
      does = (refl, λ given calls run. subst (λ (c : Call). Run view_of given (c ∷ calls) e) (λ i. turns d (clean i) batch (answer' i) (clean' i) (left' i)) (runs given calls run));
    }
