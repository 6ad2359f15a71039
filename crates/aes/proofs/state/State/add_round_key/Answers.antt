use Rattle.aes.specs.State.{xor_bytes}
use Rattle.aes.specs.Rounds.{add_round_key}
use Rattle.aes.specs.Words.{word_bytes, state_bytes}
use Rattle.aes.proofs.Words.{joined, xor_bytes_lem}
use Rattle.aes.proofs.state.State.add_round_key.Goals as goal

pub returns : goal.returns
unfolding xor_bytes add_round_key word_bytes state_bytes
returns c =
    joined _ (xor_bytes_lem c.args.self.c0 c.args.key.c0) (xor_bytes_lem c.args.self.c1 c.args.key.c1)
    (xor_bytes_lem c.args.self.c2 c.args.key.c2) (xor_bytes_lem c.args.self.c3 c.args.key.c3)
