use Rattle.aes.specs.State.{byte_at, state_of, columns, xor_bytes}
use Rattle.aes.specs.Rounds.{sub_bytes, shift_rows, mix_columns, add_round_key, cipher_round}
use Rattle.aes.specs.Words.{word_bytes, state_bytes, column_of, diagonal}
use Rattle.aes.proofs.Words.{joined}
use Rattle.aes.proofs.rounds.cipher_round.Goals as goal

pub returns : goal.returns
unfolding byte_at state_of columns xor_bytes sub_bytes shift_rows mix_columns add_round_key cipher_round word_bytes state_bytes column_of diagonal
returns c = joined _ c.round_column.ensures c.round_column-2.ensures c.round_column-3.ensures c.round_column-4.ensures
