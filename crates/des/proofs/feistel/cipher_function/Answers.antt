use Rattle.std.proofs.Common.{◌≡◌, ℕ, ◌*◌, ◌%◌, ◌^◌, List, map, get_or, refl, ap, ◌∙◌, ap₂, arith}
use lib.Bits.{bit_or, bit_xor}
use Rattle.std.specs.List.{range_with_len}
use Rattle.des.specs.Bits.{number, groups}
use Rattle.des.specs.Cipher.{E, P, S, f}
use Rattle.des.proofs.Selections.{selected_more}
use Rattle.des.proofs.feistel.cipher_function.Goals as goal

pub loop-i-init : goal.loop-i-init
unfolding number
loop-i-init c = refl

pub loop-i-preserved : goal.loop-i-preserved
loop-i-preserved c =
    let r : ℕ = c.args.right in
    let k : List ℕ = c.args.key.now in
    let i : ℕ = c.loop-i.i in
    let expanded : c.groups_of_six-groups.result ≡ groups 6 8 (E r) = c.groups_of_six-groups.ensures ∙ ap (groups 6 8) c.expand.ensures in
    ap₂ (λ x y. bit_or (x * 16 % 2 ^ 32) y) c.loop-i.invariant
    (c.from.ensures ∙ c.select.ensures ∙ ap (λ gs. S i (bit_xor (get_or gs i 0) (get_or k i 0))) expanded)
    ∙ selected_more r k i (omega arith)

pub returns : goal.returns
unfolding f
returns c =
    let r : ℕ = c.args.right in
    let k : List ℕ = c.args.key.now in
    let e : c.loop-i.i ≡ 8 = omega arith in
    c.permutation.ensures
    ∙ ap P (c.loop-i.invariant ∙ ap (λ n. number 4 (map (λ i. S i (bit_xor (get_or (groups 6 8 (E r)) i 0) (get_or k i 0))) (range_with_len 0 n))) e)
