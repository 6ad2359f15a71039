use Rattle.std.proofs.Common.{◌≡◌, ℕ, ◌+◌, ◌*◌, List, get_or, ap, ◌∙◌}
use Rattle.aes.specs.Words.{word_bytes}
use Rattle.aes.proofs.Words.{made_bytes, joined, four_at, sixteen}
use Rattle.aes.proofs.state.State.from_bytes.Goals as goal

pub returns : goal.returns
returns c =
    let s : List ℕ = c.args.block.now in
    let four : (x j : ℕ) → x ≡ get_or s j 0 + get_or s (j + 1) 0 * 256 + get_or s (j + 2) 0 * 65536 + get_or s (j + 3) 0 * 16777216 → word_bytes x ≡ four_at s j =
    λ x j e. ap word_bytes e ∙ made_bytes (get_or s j 0) (get_or s (j + 1) 0) (get_or s (j + 2) 0) (get_or s (j + 3) 0)
    (c.fits-block j) (c.fits-block (j + 1)) (c.fits-block (j + 2)) (c.fits-block (j + 3)) in
    joined _ (four _ 0 c.from_le_bytes.ensures) (four _ 4 c.from_le_bytes-2.ensures) (four _ 8 c.from_le_bytes-3.ensures) (four _ 12 c.from_le_bytes-4.ensures)
    ∙ sixteen s c.told-block
