use Rattle.std.proofs.Common.{◌≡◌, ap, ◌∙◌, rules}
use Rattle.des.specs.Bits.{number}
use Rattle.des.specs.Cipher.{IP, halves}
use Rattle.des.proofs.Digits.{number_bytes}
use Rattle.des.proofs.cipher.input.Goals as goal

pub returns : goal.returns
returns c =
    let whole : c.unwrap-bytes.result.now ≡ c.args.block.now = search rules in
    let number : c.from_be_bytes.result ≡ number 8 c.args.block.now =
    number_bytes c.args.block.now c.from_be_bytes.result c.requires (λ i. (c.type_inv.block i).fits) c.from_be_bytes.type_inv (rw whole at c.from_be_bytes.ensures) in
    c.of.ensures ∙ ap halves (c.initial_permutation.ensures ∙ ap IP number)
