use Rattle.std.proofs.Common.{◌≡◌, ℕ, ◌/◌, ◌<◌, true, false, cond, List, map, length, sym, ap, ◌∙◌, arith}
use Rattle.std.specs.List.{range_with_len}
use Rattle.cipher.specs.Profiles.{meaning}
use Rattle.batch.specs.Batches.{changed}
use Rattle.batch.specs.Packets.{packet_at, packets, changes, followed, changed_count, passed_count}
use Rattle.batch.specs.Plan.{keys_of, plan_of}
use Rattle.batch.proofs.Passes.{part_of, packet_length, change_step, count_more, change_all}
use Rattle.batch.proofs.pass.Pass.change_all.Goals as goal
use Rattle.batch.proofs.pass.Pass.change_all.Goals.{then-follow, else-follow}

pub follow-requires-clause-prepared : goal.follow-requires-clause-prepared
follow-requires-clause-prepared g c = c.loop-i.invariant.5

pub follow-requires-clause-size : goal.follow-requires-clause-size
follow-requires-clause-size g c =
    let inside : c.loop-i.i < length c.args.batch.now / 188 = omega arith in
    ap length (part_of c.args.batch.now c.loop-i.batch c.loop-i.i c.loop-i.invariant.1) ∙ packet_length c.args.batch.now c.loop-i.i inside

pub loop-i-preserved : goal.loop-i-preserved
loop-i-preserved g c =
    let m = meaning g.C.Cipher g.T.TailRule c.args.self.now.profile.now in
    let plan = plan_of c.args.self.now.direction (keys_of g.K.Keyring c.args.self.now.keys.now) in
    let f = followed plan (changed c.args.self.now.direction m) in
    let e = c.args.batch.now in
    let b = c.loop-i.batch in
    let i = c.loop-i.i in
    let inside : i < length e / 188 = omega arith in
    let part = part_of e b i c.loop-i.invariant.1 in
    let test = c.follow.ensures.value ∙ ap (λ (p : List ℕ). changes (plan p)) part in
    let size = c.follow.auto.packet ∙ ap length part ∙ packet_length e i inside in
    let step = change_step f e b c.follow.new.packet i inside c.loop-i.auto.batch c.loop-i.invariant.0 c.loop-i.invariant.1 (c.follow.ensures.after ∙ ap f part) size in
    elim c.if-follow.branch [
      | then-follow w ↦
          let is = sym w.if-follow.true ∙ test in
          let n = count_more plan (λ v. cond v 1 0) e i c.loop-i.changed true is c.loop-i.invariant.2 in
          let k = count_more plan (λ v. cond v 0 1) e i c.loop-i.passed true is c.loop-i.invariant.3 in
          (step.0, step.1, omega (arith, n, w.changed-is), omega (arith, k, w.passed-is), omega (arith, w.changed-is, w.passed-is), c.follow.ensures.prepared)
      | else-follow w ↦
          let is = sym w.if-follow.false ∙ test in
          let n = count_more plan (λ v. cond v 1 0) e i c.loop-i.changed false is c.loop-i.invariant.2 in
          let k = count_more plan (λ v. cond v 0 1) e i c.loop-i.passed false is c.loop-i.invariant.3 in
          (step.0, step.1, omega (arith, n, w.changed-is), omega (arith, k, w.passed-is), omega (arith, w.changed-is, w.passed-is), c.follow.ensures.prepared)
    ]

pub returns : goal.returns
returns g c =
    let m = meaning g.C.Cipher g.T.TailRule c.args.self.now.profile.now in
    let plan = plan_of c.args.self.now.direction (keys_of g.K.Keyring c.args.self.now.keys.now) in
    let f = followed plan (changed c.args.self.now.direction m) in
    let at : c.loop-i.i ≡ length c.args.batch.now / 188 = omega arith in
    let first : c.loop-i.changed ≡ changed_count plan (packets c.args.batch.now) = c.loop-i.invariant.2 ∙ ap (λ (k : ℕ). changed_count plan (map (packet_at c.args.batch.now) (range_with_len 0 k))) at in
    let second : c.loop-i.passed ≡ passed_count plan (packets c.args.batch.now) = c.loop-i.invariant.3 ∙ ap (λ (k : ℕ). passed_count plan (map (packet_at c.args.batch.now) (range_with_len 0 k))) at in
    record {
      after = change_all f c.args.batch.now c.loop-i.batch c.loop-i.i at c.requires.whole c.loop-i.auto.batch c.loop-i.invariant.0;
      value = cc;
    }
