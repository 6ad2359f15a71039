use Rattle.engine.specs.Model.{model_of}
use Rattle.law.proofs.Restored.{law}
use Rattle.law.proofs.theorem.every_run_is_lawful.Goals as goal

pub returns : goal.returns
returns g c =
    law (model_of g.C.Cipher g.T.TailRule g.S.Shelf) (model_of g.R.Cipher g.U.TailRule g.V.Shelf)
    (λ e. (g.met.C.Cipher.sizes, g.met.C.Cipher.inverts e.profile.cipher, g.met.T.TailRule.inverts e.profile.tail))
    (λ f. (g.met.R.Cipher.sizes, g.met.R.Cipher.inverts f.profile.cipher, g.met.U.TailRule.inverts f.profile.tail))
