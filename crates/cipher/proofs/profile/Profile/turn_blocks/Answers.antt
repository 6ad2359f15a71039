use Rattle.std.proofs.Common.{rules, ◌≡◌, ℕ, ◌<◌, ◌-◌, ◌+◌, ◌%◌, ◌/◌, ◌++◌, List, length, take, drop, arith, ap, sym, ◌∙◌}
use borrow.Rule.Slice.PartMut.{put_mid}
use Rattle.cipher.specs.Profiles.{meaning}
use Rattle.cipher.specs.Turns.{turned_blocks}
use Rattle.cipher.proofs.Chaining.{block_left, length_put_part, walk_more, walk_all}
use Rattle.cipher.proofs.profile.Profile.turn_blocks.Goals as goal
use Rattle.cipher.proofs.profile.Profile.turn_blocks.Goals.{else-loop-at-test, then-loop-at-test+else-at-step-whole}

pub loop-at-preserved : goal.loop-at-preserved
loop-at-preserved g c =
    let m = meaning g.C.Cipher g.T.TailRule c.args.self.now in
    let p = c.loop-at.payload in
    let at = c.loop-at.at in
    let k : ℕ = at + c.WIDTH-in-loop-at.result - at in
    let test : at < length p - length p % m.width = search rules in
    let left = block_left (length p) at m.width c.args.chain.width.0 test c.loop-at.invariant.left in
    let ln : length (put_mid at k p c.turn.new.block) ≡ length p = length_put_part at k p c.turn.new.block (omega arith) (omega arith) in
    record {
      cipher = search rules;
      schedule = search rules;
      at = search (rules, left);
      whole = search rules;
      left = search (rules, left);
      turned = λ w e.
          let same = c.loop-at.invariant.cipher in
          let block = c.turn.ensures.block w (cc) in
          walk_more c.args.direction m w c.args.chain.width.0 p _ c.turn.new.block _ at k _ (omega arith) (omega arith) (omega arith) (omega arith) (cc) c.turn.ensures.value
          ∙ c.loop-at.invariant.turned w e;
    }

pub returns : goal.returns
returns g c =
    let m = meaning g.C.Cipher g.T.TailRule c.args.self.now in
    let p = c.loop-at-test.payload in
    let at : ℕ = length c.args.payload.now - length c.args.payload.now % c.WIDTH.result in
    let value : List ℕ = take m.width c.loop-at-test.chain.value in
    λ w e.
    let done : (c.loop-at-test.chain.cipher.now ≡ c.args.self.now.cipher)
    × ((c.loop-at-test.chain.schedule.now ≡ c.args.chain.schedule.now)
    × (take at p ++ turned_blocks c.args.direction m w ((length p - at) / m.width) value (drop at p)
    ≡ turned_blocks c.args.direction m w (length c.args.payload.now / m.width) (take m.width c.args.chain.value) c.args.payload.now)) =
    elim c.loop-at-test.branch [
      | else-loop-at-test b ↦
          let end : at ≡ c.loop-at.at = omega arith in
          let so_far = c.loop-at.invariant.turned w e in
          (search rules, (search rules, cc))
      | then-loop-at-test+else-at-step-whole b ↦
          let k : ℕ = c.loop-at.at + b.WIDTH-in-loop-at.result - c.loop-at.at in
          let test : c.loop-at.at < length c.loop-at.payload - length c.loop-at.payload % m.width = search rules in
          let left = block_left (length c.loop-at.payload) c.loop-at.at m.width c.args.chain.width.0 test c.loop-at.invariant.left in
          let end : at ≡ c.loop-at.at + m.width = omega (arith, left) in
          let same = c.loop-at.invariant.cipher in
          let block = b.turn.ensures.block w (cc) in
          let so_far = walk_more c.args.direction m w c.args.chain.width.0 c.loop-at.payload _ b.turn.new.block _ c.loop-at.at k at (omega arith) end (omega arith) (omega arith) (cc) b.turn.ensures.value ∙ c.loop-at.invariant.turned w e in
          (search rules, (search rules, cc))
    ] in
    let size = c.WIDTH.ensures in
    let short : length p - at < m.width = omega (arith, c.args.chain.width.0) in
    let mask = c.mask-mask.ensures.value w (done.1.0 ∙ e ∙ sym (ap (λ s. g.C.Cipher.schedule s w) done.0)) in
    walk_all c.args.direction m w c.args.chain.width.0 p value _ c.turn_tail.new.tail at (omega arith) short (ap (λ n. take n c.mask-mask.result) c.WIDTH-2.ensures ∙ mask ∙ ap (λ s. g.C.Cipher.E s w value) done.0) c.turn_tail.ensures ∙ done.1.1
