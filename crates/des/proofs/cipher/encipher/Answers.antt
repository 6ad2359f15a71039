use Rattle.std.proofs.Common.{fold, ap, ◌∙◌}
use Rattle.des.specs.Bits.{groups}
use Rattle.des.specs.Cipher.{IP⁻¹, preoutput, round, forwards, crypted, enciphered}
use Rattle.des.proofs.RoundKeys.{forwards_fold}
use Rattle.des.proofs.cipher.encipher.Goals as goal

pub returns : goal.returns
unfolding crypted enciphered
returns c =
    c.copy_from_slice.ensures.after ∙ c.output.ensures
    ∙ ap (λ h. groups 8 8 (IP⁻¹ (preoutput h)))
    (c.forwards-halves.ensures ∙ ap (fold (λ h k. round k h) c.input.result) c.round_keys.ensures ∙ forwards_fold c.args.schedule.now 16 c.input.result ∙ ap (forwards c.args.schedule.now 16) c.input.ensures)
