use Rattle.cipher.specs.Profiles.{meaning}
use Rattle.restoring.proofs.Calls.{leaves, counts_all}
use Rattle.restoring.proofs.theorem.unchanged_packets_stay.Goals as goal

pub returns : goal.returns
returns g c = λ d p hi. (
  leaves d (meaning g.C.Cipher g.T.TailRule p)
      (g.met.C.Cipher.sizes, g.met.C.Cipher.inverts p.cipher, g.met.T.TailRule.inverts p.tail) (p.long, hi),
  counts_all d (meaning g.C.Cipher g.T.TailRule p),
)
