use Rattle.std.proofs.Common.{◌≡◌, ℕ}
use Rattle.aes.specs.SBox.{s_box}
use Rattle.aes.specs.State.{byte_at, state_of, xor_bytes}
use Rattle.aes.specs.Rounds.{sub_bytes, shift_rows, add_round_key}
use Rattle.aes.specs.Words.{word_bytes, state_bytes, diagonal}
use Rattle.aes.proofs.Words.{joined}
use Rattle.aes.proofs.rounds.last_round.Goals as goal

pub returns : goal.returns
unfolding byte_at state_of xor_bytes sub_bytes shift_rows add_round_key word_bytes state_bytes diagonal
returns c =
    let boxed = λ (x y : ℕ) (e : y ≡ s_box x). e in
    joined _ (c.keyed_diagonal.ensures s_box boxed) (c.keyed_diagonal-2.ensures s_box boxed) (c.keyed_diagonal-3.ensures s_box boxed) (c.keyed_diagonal-4.ensures s_box boxed)
