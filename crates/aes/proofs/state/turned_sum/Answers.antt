use Rattle.std.proofs.Common.{ℕ, ap, ◌∙◌, ap₂, rules}
use lib.Bits.{bit_xor}
use Rattle.aes.specs.State.{xor_bytes}
use Rattle.aes.specs.Words.{word_bytes}
use Rattle.aes.proofs.Words.{xor_bytes_lem, rotate_1, rotate_2, rotate_3}
use Rattle.aes.proofs.state.turned_sum.Goals as goal

pub returns : goal.returns
returns c =
    let w : ℕ = c.args.w in
    let p : ℕ = c.rotate_left.result in
    let q : ℕ = c.rotate_left-2.result in
    let r : ℕ = c.rotate_left-3.result in
    xor_bytes_lem (bit_xor (bit_xor w p) q) r
    ∙ ap₂ xor_bytes
    (xor_bytes_lem (bit_xor w p) q
    ∙ ap₂ xor_bytes (xor_bytes_lem w p ∙ ap (xor_bytes (word_bytes w)) (ap word_bytes c.rotate_left.ensures ∙ rotate_1 c.args.x (search rules)))
    (ap word_bytes c.rotate_left-2.ensures ∙ rotate_2 c.args.y (search rules)))
    (ap word_bytes c.rotate_left-3.ensures ∙ rotate_3 c.args.z (search rules))
