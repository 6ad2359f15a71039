use Rattle.std.proofs.Common.{ℕ, ap, ◌∙◌, arith}
use lib.Bits.{bit_or, or_shifted}
use Rattle.std.proofs.lemmas.Nat.{shl_whole}
use Rattle.entry.proofs.digits.half.Goals as goal

pub returns : goal.returns
returns c =
    simp (c.from.ensures, c.from-2.ensures)
    (ap (λ (n : ℕ). bit_or n c.args.right) (shl_whole c.args.left 32 32 64 (omega arith) (omega arith))
    ∙ or_shifted c.args.left 32 c.args.right (omega arith))
