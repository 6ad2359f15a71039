use Rattle.std.proofs.Common.{◌≡◌, ℕ, suc, ◌+◌, ◌-◌, ◌*◌, ◌/◌, ◌%◌, ◌^◌, ◌≤◌, List, ◌++◌, length, get_or, drop, refl, ap, ◌∙◌, ap₂, append-nil, arith, lit≤, drop_of_length-le}
use lib.Bits.{bit_or, and_mask, and_le_r}
use borrow.Rule.Slice.PartMut.{put_mid}
use Rattle.des.specs.Bits.{number, groups}
use Rattle.des.specs.Schedule.{PC_1, PC_2, left_shift, shifted, C, D, KS, key_schedule}
use Rattle.des.specs.Tables.{left_shifts}
use Rattle.des.proofs.Digits.{number_bytes, appended}
use Rattle.des.proofs.Keys.{PC_1_lt, C_lt, D_lt, round_keys, round_keys_more, round_keys_length, put_after}
use Rattle.des.proofs.Shifts.{shift_le}
use Rattle.des.proofs.schedule.key_schedule.Goals as goal

pub overflow_cast-c : goal.overflow_cast-c
overflow_cast-c c = record { fits = omega (arith, c.permuted_choice_1-chosen.ensures, PC_1_lt c.from_be_bytes.result) }

pub overflow_cast-d : goal.overflow_cast-d
overflow_cast-d c = record { fits = omega (arith, and_le_r c.permuted_choice_1-chosen.result 268435455) }

pub loop-n-init : goal.loop-n-init
unfolding C D shifted
loop-n-init c =
    let n : c.from_be_bytes.result ≡ number 8 c.args.key.now = number_bytes c.args.key.now c.from_be_bytes.result c.told-key (λ i. c.fits-key i) c.from_be_bytes.type_inv c.from_be_bytes.ensures in
    let e : c.permuted_choice_1-chosen.result ≡ PC_1 (number 8 c.args.key.now) = c.permuted_choice_1-chosen.ensures ∙ ap PC_1 n in
    (ap (λ x. x / 2 ^ 28) e, and_mask c.permuted_choice_1-chosen.result 28 ∙ ap (λ x. x % 2 ^ 28) e, refl)

pub rotate-c-requires : goal.rotate-c-requires
unfolding left_shifts
rotate-c-requires c =
    let n : ℕ = c.loop-n.n in
    omega (arith, c.loop-n.invariant.0, C_lt c.args.key.now n (omega arith), shift_le n (omega arith))

pub rotate-d-requires : goal.rotate-d-requires
unfolding left_shifts
rotate-d-requires c =
    let n : ℕ = c.loop-n.n in
    omega (arith, c.loop-n.invariant.1, D_lt c.args.key.now n (omega arith), shift_le n (omega arith))

pub loop-n-preserved : goal.loop-n-preserved
unfolding C D shifted KS left_shifts
loop-n-preserved c =
    let key : List ℕ = c.args.key.now in
    let old : List ℕ = c.args.schedule.now in
    let n : ℕ = c.loop-n.n in
    let e : suc n ≡ n + 1 = omega arith in
    let d : 8 * n + (8 * n + 8 - 8 * n) ≡ 8 * (n + 1) = omega arith in
    let is-C : c.rotate-c.result ≡ C key (n + 1) = c.rotate-c.ensures ∙ ap (left_shift (get_or left_shifts n 0)) c.loop-n.invariant.0 ∙ ap (C key) e in
    let is-D : c.rotate-d.result ≡ D key (n + 1) = c.rotate-d.ensures ∙ ap (left_shift (get_or left_shifts n 0)) c.loop-n.invariant.1 ∙ ap (D key) e in
    let is-K : c.permuted_choice_2-round_key.result ≡ KS key (n + 1) =
    c.permuted_choice_2-round_key.ensures
    ∙ ap PC_2
    (ap₂ (λ x y. bit_or (x * 2 ^ 28 % 2 ^ 64) y) (c.from.ensures ∙ is-C) (c.from-in-loop-n.ensures ∙ is-D)
    ∙ appended 64 28 28 (C key (n + 1)) (D key (n + 1)) (C_lt key (n + 1) (omega arith)) (D_lt key (n + 1) (omega arith)) (lit≤ tt)) in (
      is-C,
      is-D,
      ap₂ (put_mid (8 * n) (8 * n + 8 - 8 * n)) c.loop-n.invariant.2 (c.copy_from_slice.ensures.after ∙ c.groups_of_six.ensures ∙ ap (groups 6 8) is-K)
          ∙ put_after (round_keys key n) old (groups 6 8 (KS key (n + 1))) (8 * n) (8 * n + 8 - 8 * n) (round_keys_length key n)
          ∙ ap₂ (λ ks m. ks ++ drop m old) (round_keys_more key n) d,
    )

pub returns : goal.returns
unfolding key_schedule
returns c =
    let key : List ℕ = c.args.key.now in
    let old : List ℕ = c.args.schedule.now in
    let e : c.loop-n.n ≡ 16 = omega arith in
    let l : length old ≤ 128 = omega arith in
    c.loop-n.invariant.2 ∙ ap (λ n. round_keys key n ++ drop (8 * n) old) e ∙ ap (λ t. round_keys key 16 ++ t) (drop_of_length-le old l) ∙ append-nil (round_keys key 16)
