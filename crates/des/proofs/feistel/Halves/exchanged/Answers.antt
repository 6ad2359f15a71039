use Rattle.std.proofs.Common.{lit≤, rules}
use Rattle.des.specs.Cipher.{preoutput}
use Rattle.des.proofs.Digits.{appended}
use Rattle.des.proofs.feistel.Halves.exchanged.Goals as goal

pub returns : goal.returns
unfolding preoutput
returns c = rw (c.from.ensures, c.from-2.ensures) (appended 64 32 32 c.args.self.right c.args.self.left (search rules) (search rules) (lit≤ tt))
