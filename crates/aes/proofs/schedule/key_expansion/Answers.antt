use Rattle.std.proofs.Common.{◌≡◌, ℕ, suc, ◌+◌, ◌-◌, ◌*◌, ◌<◌, ◌≤◌, List, ◌++◌, length, drop, sym, ap, ◌∙◌, ap₂, append-nil, arith, drop_of_length-le, drop_at}
use borrow.Rule.Slice.PartMut.{put_mid, post_of}
use Rattle.std.proofs.ByRecursion.{All-from_get_or}
use Rattle.aes.specs.State.{Bytes}
use Rattle.aes.specs.KeyExpansion.{next_word, with_next, expanded, key_expansion}
use Rattle.aes.proofs.KeyWords.{expanded_bytes, next_before, put_after}
use Rattle.aes.proofs.schedule.key_expansion.Goals as goal

pub loop-i-init : goal.loop-i-init
unfolding expanded
loop-i-init c =
    let p : List ℕ = c.copy_from_slice.new.self in
    let e : p ≡ c.args.key.now = c.copy_from_slice.ensures.after in
    ap₂ ◌++◌ e (sym (drop_at p (post_of 0 16 c.args.schedule.now) 16 (ap length e ∙ c.told-key)))

pub loop-i-preserved : goal.loop-i-preserved
unfolding with_next expanded
loop-i-preserved c =
    let key : List ℕ = c.args.key.now in
    let old : List ℕ = c.copy_from_slice.new.self ++ post_of 0 16 c.args.schedule.now in
    let s : List ℕ = c.loop-i.schedule in
    let i : ℕ = c.loop-i.i in
    let w : List ℕ = expanded key (i - 4) in
    let k : ℕ = 4 * i + 4 - 4 * i in
    let from : 4 ≤ i = c.loop-i.auto.i in
    let here : i ≡ 4 + (i - 4) = omega arith in
    let next : suc (i - 4) ≡ i + 1 - 4 = omega arith in
    let past : 4 * i + k ≡ 4 * (i + 1) = omega arith in
    let bytes : Bytes 16 key = (c.told-key, All-from_get_or (λ x. x < 256) key 0 (λ j h. c.fits-key j)) in
    let long : length w ≡ 4 * i = omega (arith, (expanded_bytes key (i - 4) bytes).0) in
    let word : c.copy_from_slice-in-loop-i.new.self ≡ next_word w (4 + (i - 4)) =
    c.copy_from_slice-in-loop-i.ensures.after ∙ c.next_word-word.ensures ∙ ap (λ t. next_word t i) c.loop-i.invariant
    ∙ next_before w (drop (4 * i) old) i from long ∙ ap (next_word w) here in
    ap₂ (put_mid (4 * i) k) c.loop-i.invariant word ∙ put_after w old (next_word w (4 + (i - 4))) (4 * i) k long
    ∙ ap₂ (λ m n. expanded key m ++ drop n old) next past

pub returns : goal.returns
unfolding key_expansion
returns c =
    let key : List ℕ = c.args.key.now in
    let old : List ℕ = c.copy_from_slice.new.self ++ post_of 0 16 c.args.schedule.now in
    let e : c.loop-i.i ≡ 44 = omega arith in
    let l : length old ≤ 176 = omega arith in
    c.loop-i.invariant ∙ ap (λ i. expanded key (i - 4) ++ drop (4 * i) old) e ∙ ap (λ t. expanded key 40 ++ t) (drop_of_length-le old l) ∙ append-nil (expanded key 40)
