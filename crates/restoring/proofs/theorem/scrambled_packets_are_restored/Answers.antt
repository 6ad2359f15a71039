use Rattle.cipher.specs.Profiles.{meaning}
use Rattle.restoring.proofs.Calls.{restores}
use Rattle.restoring.proofs.theorem.scrambled_packets_are_restored.Goals as goal

pub returns : goal.returns
returns g c = λ p p₂ hi alike.
    restores (meaning g.C.Cipher g.T.TailRule p) (meaning g.R.Cipher g.U.TailRule p₂)
    (g.met.C.Cipher.sizes, g.met.C.Cipher.inverts p.cipher, g.met.T.TailRule.inverts p.tail)
    (g.met.R.Cipher.sizes, g.met.R.Cipher.inverts p₂.cipher, g.met.U.TailRule.inverts p₂.tail)
    (p.long, hi) alike
