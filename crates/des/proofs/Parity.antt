-- The lowest bit of a byte of the key is read by no table.
use Rattle.std.proofs.Common.{◌≡◌, ℕ, ◌+◌, ◌-◌, ◌*◌, ◌/◌, ◌%◌, ◌^◌, ◌<◌, T, ltb, List, map, length, get_or, sym, ap, ◌∙◌, arith, ltb→lt, shr-shr}
use lib.Pow.{field, mod-mod-pow}
use Rattle.std.specs.List.{range_with_len, flat_map, AllByRecursion}
use Rattle.std.proofs.ByRecursion.{All-weaker}
use Rattle.std.proofs.lemmas.List.{get_or-map}
use Rattle.des.specs.Bits.{bit, number, groups}
use Rattle.des.specs.Laws.{Bytes}
use Rattle.des.specs.Schedule.{PC_1, PC_2, shifted, C, D, KS, key_schedule}
use Rattle.des.specs.Tables.{PC_1_table}
use Rattle.des.proofs.Digits.{digit}
use Rattle.des.proofs.Permutations.{permuted_same}
use Rattle.des.proofs.Tested.{both, both_left, both_right, tested_of}

-- bit j of byte i, for a j other than 8
key_bit : (key : List ℕ) → Bytes 8 key → (i j : ℕ) → i < 8 → 0 < j → j < 8 → bit 64 (number 8 key) (8 * i + j) ≡ get_or (map (λ b. b / 2) key) i 0 / 2 ^ (7 - j) % 2
unfolding bit
key_bit key h i j hi p hj =
    let n : ℕ = number 8 key in
    let y : ℕ = n / 2 ^ (8 * (8 - 1 - i)) in
    let b : ℕ = get_or key i 0 in
    let k : ℕ = 8 - j in
    let l : i < length key = omega arith in
    let byte : y % 2 ^ 8 ≡ b = ap (λ m. n / 2 ^ (8 * (m - 1 - i)) % 2 ^ 8) (sym h.0) ∙ digit 8 key i h.1 l in
    let place : 64 - (8 * i + j) ≡ 8 * (8 - 1 - i) + k = omega arith in
    let one : j ≡ j - 1 + 1 = omega arith in
    let whole : j + k ≡ 8 = omega arith in
    let rest : k ≡ 1 + (7 - j) = omega arith in
    ap (λ m. n / 2 ^ m % 2) place ∙ ap (λ z. z % 2) (sym (shr-shr n (8 * (8 - 1 - i)) k))
    ∙ sym (ap (λ m. y / 2 ^ k % 2 ^ m % 2) one ∙ mod-mod-pow (y / 2 ^ k) (j - 1) 1)
    ∙ ap (λ z. z % 2) (sym (field y j k) ∙ ap (λ m. y % 2 ^ m / 2 ^ k) whole ∙ ap (λ z. z / 2 ^ k) byte ∙ ap (λ m. b / 2 ^ m) rest ∙ sym (shr-shr b 1 (7 - j)))
    ∙ ap (λ z. z / 2 ^ (7 - j) % 2) (sym (get_or-map (λ b. b / 2) key i 0 0 l))

-- a bit of the key other than 8, 16, .. 64
abbrev Read : ℕ → Type 0
Read t = (0 < t % 8) × (t < 64)

reads : AllByRecursion Read PC_1_table
unfolding PC_1_table
reads =
    All-weaker (λ t. T (both (ltb 0 (t % 8)) (ltb t 64))) Read
    (λ t h. (ltb→lt 0 (t % 8) (both_left (ltb 0 (t % 8)) (ltb t 64) h), ltb→lt t 64 (both_right (ltb 0 (t % 8)) (ltb t 64) h)))
    PC_1_table (tested_of (λ t. both (ltb 0 (t % 8)) (ltb t 64)) PC_1_table tt)

PC_1_same : (key other : List ℕ) → Bytes 8 key → Bytes 8 other → map (λ b. b / 2) key ≡ map (λ b. b / 2) other → PC_1 (number 8 key) ≡ PC_1 (number 8 other)
unfolding PC_1
PC_1_same key other h g e =
    permuted_same 64 PC_1_table (number 8 key) (number 8 other) Read
    (λ t r.
    let i : ℕ = t / 8 in
    let j : ℕ = t % 8 in
    let split : t ≡ 8 * i + j = omega arith in
    ap (bit 64 (number 8 key)) split ∙ key_bit key h i j (omega arith) r.0 (omega arith)
    ∙ ap (λ bs. get_or bs i 0 / 2 ^ (7 - j) % 2) e
    ∙ sym (ap (bit 64 (number 8 other)) split ∙ key_bit other g i j (omega arith) r.0 (omega arith)))
    reads

pub parity_ignored : (key other : List ℕ) → Bytes 8 key → Bytes 8 other → map (λ b. b / 2) key ≡ map (λ b. b / 2) other → key_schedule key ≡ key_schedule other
unfolding C D KS key_schedule
parity_ignored key other h g e =
    ap (λ p. flat_map (λ n. groups 6 8 (PC_2 (shifted n (p / 2 ^ 28) * 2 ^ 28 + shifted n (p % 2 ^ 28)))) (range_with_len 1 16)) (PC_1_same key other h g e)
