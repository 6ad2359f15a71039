use Rattle.std.proofs.Common.{◌≤◌, ◌⊎◌, length, sym, ◌∙◌, inl, inr, arith}
use Rattle.std.proofs.lemmas.Bool.{cases_lt}
use Rattle.cipher.specs.Xors.{xors_more, xors_all}
use Rattle.cipher.proofs.bytes.xor_into.Goals as goal

pub loop-i-preserved : goal.loop-i-preserved
loop-i-preserved c =
    xors_more c.loop-i.bytes c.args.mask.now c.loop-i.i (omega arith) (omega arith) ∙ c.loop-i.invariant

pub returns : goal.returns
returns c =
    let end : (length c.loop-i.bytes ≤ c.loop-i.i) ⊎ (length c.args.mask.now ≤ c.loop-i.i) =
    elim (cases_lt (length c.loop-i.bytes) (length c.args.mask.now)) [ inl h ↦ inl (omega arith) | inr h ↦ inr (omega arith) ] in
    sym (xors_all c.loop-i.bytes c.args.mask.now c.loop-i.i end) ∙ c.loop-i.invariant
