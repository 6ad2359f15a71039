use Rattle.std.proofs.Common.{◌≡◌, ℕ, ◌+◌, ◌-◌, ◌*◌, ◌/◌, ◌%◌, ◌^◌, ◌<◌, ◌≤◌, List, length, get_or, take, sym, ap, ◌∙◌, ap₂, mul_assoc, add-mul, mul-one, arith, pow-add}
use lib.Arith.{digits_lt}
use lib.Bits.{bit_or, and_mask}
use Rattle.std.proofs.ByRecursion.{All-get_or}
use Rattle.std.proofs.lemmas.List.{take_all, length-take-le}
use Rattle.des.specs.Bits.{bit, number, permuted}
use Rattle.des.proofs.Digits.{appended}
use Rattle.des.proofs.Permutations.{bit_lt, permuted_more, permuted_lt}
use Rattle.des.proofs.bits.append.Goals as goal

named : (c : goal.After-from) → (0 < c.from.result) × (c.from.result ≤ c.args.width)
named c = omega (arith, All-get_or (λ t. (0 < t) × (t ≤ c.args.width)) c.args.row.now c.loop-t.t-index 0 c.loop-t-test.true c.requires.1.0)

pub loop-t-init : goal.loop-t-init
unfolding number permuted
loop-t-init c = omega (arith, mul-one c.args.y)

pub overflow_sub-z : goal.overflow_sub-z
overflow_sub-z c = (named c).1

pub overflow_shr-z : goal.overflow_shr-z
overflow_shr-z c = omega (arith, named c)

pub loop-t-preserved : goal.loop-t-preserved
unfolding bit
loop-t-preserved c =
    let y : ℕ = c.args.y in
    let w : ℕ = c.args.width in
    let row : List ℕ = c.args.row.now in
    let x : ℕ = c.args.x in
    let i : ℕ = c.loop-t.t-index in
    let n : ℕ = 64 - length row in
    let p : ℕ = permuted w (take i row) x in
    let b : ℕ = bit w x (get_or row i 0) in
    let len : length (take i row) ≡ i = length-take-le i row (omega arith) in
    let p-lt : p < 2 ^ i = rw len at (permuted_lt w (take i row) x) in
    let v-lt : y * 2 ^ i + p < 2 ^ (n + i) = rw (pow-add 2 n i) (digits_lt c.requires.1.1.1 p-lt) in
    let two : y * 2 ^ i * 2 ≡ y * 2 ^ (i + 1) = mul_assoc y (2 ^ i) 2 ∙ ap (λ m. y * m) (sym (pow-add 2 i 1)) in
    ap₂ (λ z b. bit_or (z * 2 % 2 ^ 64) b) c.loop-t.invariant (and_mask (x / 2 ^ (w - c.from.result)) 1 ∙ ap (bit w x) c.from.ensures)
    ∙ appended 64 (n + i) 1 (y * 2 ^ i + p) b v-lt (bit_lt w x (get_or row i 0)) (omega arith)
    ∙ omega (arith, add-mul (y * 2 ^ i) p 2, two, permuted_more w row x i c.loop-t-test.true)

pub returns : goal.returns
returns c =
    let i : ℕ = c.loop-t.t-index in
    let row : List ℕ = c.args.row.now in
    let e : i ≡ length row = omega arith in
    c.loop-t.invariant ∙ ap₂ (λ n t. c.args.y * 2 ^ n + permuted c.args.width t c.args.x) e (take_all i row c.loop-t-test.false)
