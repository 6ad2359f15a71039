use Rattle.cipher.specs.Profiles.{meaning}
use Rattle.cipher.proofs.RoundTrip.{restored}
use Rattle.cipher.proofs.theorem.descrambling_restores.Goals as goal

pub returns : goal.returns
returns g c = λ p w payload hi hp.
    restored (meaning g.C.Cipher g.T.TailRule p)
    (g.met.C.Cipher.sizes, g.met.C.Cipher.inverts p.cipher, g.met.T.TailRule.inverts p.tail) w payload (p.long, hi) hp
