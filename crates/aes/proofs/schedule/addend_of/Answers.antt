use Rattle.std.proofs.Common.{◌≡◌, ℕ, ◌/◌, ◌%◌, false, cond, eqb, List, sym, ap, ◌∙◌, ap₂, ne_eqb}
use Rattle.aes.specs.State.{xor_bytes}
use Rattle.aes.specs.KeyExpansion.{rot_word, sub_word, rcon, addend}
use Rattle.aes.proofs.schedule.addend_of.Goals as goal

pub returns-then-i-eq0 : goal.returns-then-i-eq0
unfolding addend
returns-then-i-eq0 c =
    let i : ℕ = c.args.i in
    let a : List ℕ = c.args.before in
    c.xor_words.ensures ∙ ap₂ xor_bytes (c.sub_word.ensures ∙ ap sub_word c.rot_word.ensures) c.round_constant.ensures
    ∙ ap (λ n. cond (eqb n 0) (xor_bytes (sub_word (rot_word a)) (rcon (i / 4))) a) (sym c.if-i-eq0.true)

pub returns-else-i-eq0 : goal.returns-else-i-eq0
unfolding addend
returns-else-i-eq0 c =
    let i : ℕ = c.args.i in
    let a : List ℕ = c.args.before in
    let e : eqb (i % 4) 0 ≡ false = ne_eqb (i % 4) 0 c.if-i-eq0.false in
    ap (λ v. cond v (xor_bytes (sub_word (rot_word a)) (rcon (i / 4))) a) (sym e)
