use Rattle.std.proofs.Common.{◌≡◌, length}
use Rattle.aes.specs.Inverse.{inv_cipher_rounds}
use Rattle.aes.specs.Words.{state_bytes}
use Rattle.aes.proofs.RoundKeys.{KeysFromOne}
use Rattle.aes.proofs.inverse.inv_cipher.Given as goal

-- the rounds under the keys that are left are left to do
abbrev pub invariant-loop-key : goal.invariant-loop-key
invariant-loop-key l =
    KeysFromOne l.schedule l.key-iterator.iter.rest.now
    × (inv_cipher_rounds l.schedule (length l.key-iterator.iter.rest.now) (state_bytes l.state) ≡ inv_cipher_rounds l.schedule 9 (state_bytes l.initial.state))
