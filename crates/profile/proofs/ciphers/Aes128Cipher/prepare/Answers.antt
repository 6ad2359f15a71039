use Rattle.std.proofs.Common.{ap, ◌∙◌}
use Rattle.aes.specs.KeyExpansion.{key_expansion}
use Rattle.profile.proofs.ciphers.Aes128Cipher.prepare.Goals as goal

pub returns : goal.returns
returns c = c.key_expansion.ensures ∙ ap key_expansion c.to_bytes.ensures
