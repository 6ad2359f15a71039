use Rattle.std.proofs.Common.{reverse, fold, ap, ◌∙◌}
use Rattle.des.specs.Bits.{groups}
use Rattle.des.specs.Cipher.{IP⁻¹, preoutput, round, backwards, crypted, deciphered}
use Rattle.des.proofs.RoundKeys.{backwards_fold}
use Rattle.des.proofs.cipher.decipher.Goals as goal

pub returns : goal.returns
unfolding crypted deciphered
returns c =
    c.copy_from_slice.ensures.after ∙ c.output.ensures
    ∙ ap (λ h. groups 8 8 (IP⁻¹ (preoutput h)))
    (c.backwards-halves.ensures ∙ ap (λ ks. fold (λ h k. round k h) c.input.result (reverse ks)) c.round_keys.ensures ∙ backwards_fold c.args.schedule.now 16 c.input.result ∙ ap (backwards c.args.schedule.now 16) c.input.ensures)
