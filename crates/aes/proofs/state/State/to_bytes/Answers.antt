use Rattle.aes.specs.Words.{word_bytes, state_bytes}
use Rattle.aes.proofs.state.State.to_bytes.Goals as goal

pub returns : goal.returns
unfolding word_bytes state_bytes
returns c = rw (c.to_le_bytes.ensures, c.to_le_bytes-2.ensures, c.to_le_bytes-3.ensures, c.to_le_bytes-4.ensures)
