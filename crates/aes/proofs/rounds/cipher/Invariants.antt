use Rattle.std.proofs.Common.{◌≡◌}
use Rattle.aes.specs.Rounds.{cipher_rounds}
use Rattle.aes.specs.Words.{state_bytes}
use Rattle.aes.proofs.rounds.cipher.Given as goal

-- the rounds before this one are done
abbrev pub invariant-loop-key : goal.invariant-loop-key
invariant-loop-key l = state_bytes l.state ≡ cipher_rounds l.schedule l.key-index (state_bytes l.initial.state)
