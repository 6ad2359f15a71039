use Rattle.std.proofs.Common.{ap, ◌∙◌}
use Rattle.aes.specs.State.{byte_at, state_of, columns}
use Rattle.aes.specs.Inverse.{inv_mix_columns, inv_cipher_round}
use Rattle.aes.specs.Words.{word_bytes, state_bytes, column_of}
use Rattle.aes.proofs.Words.{joined}
use Rattle.aes.proofs.inverse.inv_cipher_round.Goals as goal

pub returns : goal.returns
unfolding byte_at state_of columns inv_mix_columns inv_cipher_round word_bytes state_bytes column_of
returns c =
    joined _ c.inv_mix_column.ensures c.inv_mix_column-2.ensures c.inv_mix_column-3.ensures c.inv_mix_column-4.ensures
    ∙ ap inv_mix_columns c.last_inv_round-c0.ensures
