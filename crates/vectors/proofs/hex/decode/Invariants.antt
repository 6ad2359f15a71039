-- As many bytes as pairs so far, each spelled by its pair.
use Rattle.std.proofs.Common.{◌≡◌, ℕ, ◌<◌, get_or, Some, vec_items, vec_len}
use Rattle.vectors.proofs.Spelling.{byte_at}
use Rattle.vectors.proofs.hex.decode.Given as goal

abbrev pub invariant-loop-high : goal.invariant-loop-high
invariant-loop-high l =
    (vec_len l.bytes ≡ l.high-index)
    × ((k : ℕ) → k < l.high-index → byte_at l.pairs k ≡ Some (get_or (vec_items l.bytes) k 0))
