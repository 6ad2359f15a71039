use Rattle.std.proofs.Common.{◌≡◌, ℕ, suc, ◌+◌, List, refl, ap, ◌∙◌, ap₂, arith, lit<, rules}
use Rattle.aes.specs.Rounds.{sub_bytes, shift_rows, add_round_key, cipher_round, cipher_rounds, cipher}
use Rattle.aes.specs.Words.{state_bytes}
use Rattle.aes.proofs.RoundKeys.{key_at, part_key}
use Rattle.aes.proofs.rounds.cipher.Goals as goal

pub loop-key-init : goal.loop-key-init
unfolding cipher_rounds
loop-key-init c = refl

pub loop-key-preserved : goal.loop-key-preserved
unfolding cipher_rounds
loop-key-preserved c =
    let w : List ℕ = c.args.schedule.now in
    let i : ℕ = c.loop-key.key-index in
    let e : suc i ≡ i + 1 = omega arith in
    c.cipher_round-state.ensures
    ∙ ap₂ cipher_round (c.from_bytes-in-loop-key.ensures ∙ part_key w c.round_keys-keys.result.now c.round_keys-keys.ensures 9 i (omega arith) (omega arith)) c.loop-key.invariant
    ∙ ap (λ n. cipher_rounds w n (state_bytes c.add_round_key-state.result)) e

pub returns : goal.returns
unfolding cipher
returns c =
    let w : List ℕ = c.args.schedule.now in
    let key = key_at w c.round_keys-keys.result.now c.round_keys-keys.ensures in
    let rounds : c.loop-key.key-index ≡ 9 = omega arith in
    c.copy_from_slice.ensures.after ∙ c.to_bytes.ensures ∙ c.last_round-output.ensures
    ∙ ap₂ (λ s k. add_round_key (shift_rows (sub_bytes s)) k)
    (c.loop-key.invariant ∙ ap (λ n. cipher_rounds w n (state_bytes c.add_round_key-state.result)) rounds
    ∙ ap (cipher_rounds w 9) (c.add_round_key-state.ensures ∙ ap₂ add_round_key (c.from_bytes-input.ensures ∙ search rules) (c.from_bytes.ensures ∙ key 0 (lit< tt))))
    (c.from_bytes-2.ensures ∙ key 10 (lit< tt))
