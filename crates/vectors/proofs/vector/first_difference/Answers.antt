use Rattle.std.proofs.Common.{◌≡◌, ◌+◌, min, length, arith}
use Rattle.vectors.proofs.Differences.{differs_by_pairs}
use Rattle.vectors.proofs.vector.first_difference.Goals as goal

pub returns : goal.returns
returns c =
    let found = c.args.found.now in
    let expected = c.args.expected.now in
    let whole = differs_by_pairs 0 found expected in
    let end : 0 + min (length found) (length expected) ≡ min (length found) (length expected) = omega arith in
    cc
