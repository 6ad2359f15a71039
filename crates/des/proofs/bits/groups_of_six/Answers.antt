use Rattle.std.proofs.Common.{◌≡◌, ℕ, ◌+◌, ◌-◌, ◌*◌, ◌/◌, ◌%◌, ◌^◌, ◌<◌, get_or, set, sym, ap, ◌∙◌, subst, arith}
use lib.Bits.{bit_and, and_mask}
use Rattle.std.proofs.lemmas.List.FromFn.{fill_by_all}
use Rattle.std.proofs.lemmas.List.Edits.{fill_by_more}
use Rattle.des.specs.Bits.{groups}
use Rattle.des.proofs.bits.groups_of_six.Goals as goal

pub loop-i-preserved : goal.loop-i-preserved
loop-i-preserved c =
    let x : ℕ = c.args.x in
    let i : ℕ = c.loop-i.i in
    let group : ℕ → ℕ = λ k. x / 2 ^ (6 * (7 - k)) % 2 ^ 6 in
    let places : 42 - 6 * i ≡ 6 * (7 - i) = omega arith in
    let e : bit_and (x / 2 ^ (42 - 6 * i)) 63 ≡ group i = and_mask (x / 2 ^ (42 - 6 * i)) 6 ∙ ap (λ n. x / 2 ^ n % 2 ^ 6) places in
    subst (λ (v : ℕ). (k : ℕ) → k < i + 1 → get_or (set c.loop-i.group-items i v) k 0 ≡ group k) (sym e)
    (fill_by_more group c.loop-i.group-items i 0 (omega arith) c.loop-i.invariant)

pub returns : goal.returns
unfolding groups
returns c =
    let x : ℕ = c.args.x in
    fill_by_all (λ k. x / 2 ^ (6 * (8 - 1 - k)) % 2 ^ 6) c.loop-i.group-items 8 0 (omega arith) (λ k h. c.loop-i.invariant k (omega arith))
