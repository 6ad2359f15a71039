use Rattle.std.proofs.Common.{Err, Result, sym, ap, ◌∙◌, arith}
use Rattle.batch.specs.Batches.{objection_at}
use Rattle.batch.specs.Packets.{first_fault}
use Rattle.batch.specs.Plan.{keys_of, plan_of, plan_for}
use Rattle.batch.specs.declared.faults.BatchFault.{BatchFault}
use Rattle.batch.proofs.Passes.{packets_are, fault_pass, fault_stop, fault_all}
use Rattle.batch.proofs.pass.Pass.test_all.Goals as goal

pub returns-in-Err : goal.returns-in-Err
returns-in-Err g c =
    let keys = keys_of g.K.Keyring c.args.self.now.keys.now in
    let plan = plan_of c.args.self.now.direction keys in
    ap {B = Result (Unit {0}) BatchFault} Err c.objection_at.ensures
    ∙ sym (fault_stop plan objection_at c.as_chunks.result.0.now c.loop-i.i c.in-Err.objection (omega arith) (c.in-Err.ensures ∙ ap (plan_for c.args.self.now.direction keys) c.header_of.ensures))
    ∙ c.loop-i.invariant
    ∙ ap (first_fault plan objection_at 0) (c.as_chunks.ensures.front ∙ packets_are c.args.batch.now)

pub loop-i-preserved : goal.loop-i-preserved
loop-i-preserved g c =
    let keys = keys_of g.K.Keyring c.args.self.now.keys.now in
    let plan = plan_of c.args.self.now.direction keys in
    sym (fault_pass plan objection_at c.as_chunks.result.0.now c.loop-i.i _ (omega arith) (c.in_default.ensures ∙ ap (plan_for c.args.self.now.direction keys) c.header_of.ensures))
    ∙ c.loop-i.invariant

pub returns : goal.returns
returns g c =
    let plan = plan_of c.args.self.now.direction (keys_of g.K.Keyring c.args.self.now.keys.now) in
    sym (fault_all plan objection_at c.as_chunks.result.0.now c.loop-i.i (omega arith))
    ∙ c.loop-i.invariant
    ∙ ap (first_fault plan objection_at 0) (c.as_chunks.ensures.front ∙ packets_are c.args.batch.now)
