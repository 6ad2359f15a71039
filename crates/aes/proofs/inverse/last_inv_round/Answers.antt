use Rattle.std.proofs.Common.{◌≡◌, ℕ}
use Rattle.aes.specs.SBox.{inv_s_box}
use Rattle.aes.specs.State.{byte_at, state_of, xor_bytes}
use Rattle.aes.specs.Rounds.{add_round_key}
use Rattle.aes.specs.Inverse.{inv_sub_bytes, inv_shift_rows}
use Rattle.aes.specs.Words.{word_bytes, state_bytes, diagonal}
use Rattle.aes.proofs.Words.{joined}
use Rattle.aes.proofs.inverse.last_inv_round.Goals as goal

pub returns : goal.returns
unfolding byte_at state_of xor_bytes add_round_key inv_sub_bytes inv_shift_rows word_bytes state_bytes diagonal
returns c =
    let boxed = λ (x y : ℕ) (e : y ≡ inv_s_box x). e in
    joined _ (c.keyed_diagonal.ensures inv_s_box boxed) (c.keyed_diagonal-2.ensures inv_s_box boxed) (c.keyed_diagonal-3.ensures inv_s_box boxed) (c.keyed_diagonal-4.ensures inv_s_box boxed)
