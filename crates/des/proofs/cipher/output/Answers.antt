use Rattle.std.proofs.Common.{ap, ◌∙◌}
use Rattle.des.specs.Bits.{groups}
use Rattle.des.specs.Cipher.{IP⁻¹}
use Rattle.des.proofs.Digits.{bytes_number}
use Rattle.des.proofs.cipher.output.Goals as goal

pub returns : goal.returns
returns c = c.to_be_bytes.ensures ∙ bytes_number c.inverse_permutation.result ∙ ap (groups 8 8) (c.inverse_permutation.ensures ∙ ap IP⁻¹ c.exchanged.ensures)
