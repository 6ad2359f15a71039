use Rattle.std.proofs.Common.{◌≡◌, ℕ, List, length, take, drop, sym, ap, ◌∙◌, ap₂, arith, lit<, rules}
use Rattle.aes.specs.Rounds.{add_round_key}
use Rattle.aes.specs.Inverse.{inv_sub_bytes, inv_shift_rows, inv_cipher_round, inv_cipher_rounds, inv_cipher}
use Rattle.aes.specs.Words.{state_bytes}
use Rattle.aes.proofs.RoundKeys.{key_at, part_key, one_less}
use Rattle.aes.proofs.inverse.inv_cipher.Goals as goal

pub loop-key-init : goal.loop-key-init
loop-key-init c =
    let w : List ℕ = c.args.schedule.now in
    let keys : List (List ℕ) = c.round_keys-keys.result.now in
    let all : c.into_iter-key-iterator.result.iter.rest.now ≡ take 9 (drop 1 keys) = search rules in
    let long : length (take 9 (drop 1 keys)) ≡ 9 = ap (λ ks. length (take 9 (drop 1 ks))) c.round_keys-keys.ensures in
    rw all ((λ k h. part_key w keys c.round_keys-keys.ensures 9 k (omega arith) (omega arith)), ap (λ n. inv_cipher_rounds w n (state_bytes c.add_round_key-state.result)) long)

pub loop-key-preserved : goal.loop-key-preserved
loop-key-preserved c =
    let s : List ℕ = state_bytes c.loop-key.state in
    let step = one_less c.args.schedule.now c.loop-key.key-iterator.iter.rest.now c.next.new.self.iter.rest.now c.in-Some.key.now s (state_bytes c.inv_cipher_round-state.result) c.in-Some.ensures.steps
    (c.inv_cipher_round-state.ensures ∙ ap (λ k. inv_cipher_round k s) c.from_bytes-in-loop-key.ensures) c.loop-key.invariant.0 in
    (step.0, step.1 ∙ c.loop-key.invariant.1)

pub returns : goal.returns
unfolding inv_cipher_rounds inv_cipher
returns c =
    let w : List ℕ = c.args.schedule.now in
    let s : List ℕ = state_bytes c.loop-key.state in
    let key = key_at w c.round_keys-keys.result.now c.round_keys-keys.ensures in
    let done : length c.loop-key.key-iterator.iter.rest.now ≡ 0 = c.in-None.ensures.steps.0 in
    c.copy_from_slice.ensures.after ∙ c.to_bytes.ensures ∙ c.last_inv_round-output.ensures
    ∙ ap₂ (λ s k. add_round_key (inv_sub_bytes (inv_shift_rows s)) k)
    (ap (λ n. inv_cipher_rounds w n s) (sym done) ∙ c.loop-key.invariant.1
    ∙ ap (inv_cipher_rounds w 9) (c.add_round_key-state.ensures ∙ ap₂ add_round_key (c.from_bytes-input.ensures ∙ search rules) (c.from_bytes.ensures ∙ key 10 (lit< tt))))
    (c.from_bytes-2.ensures ∙ key 0 (lit< tt))
