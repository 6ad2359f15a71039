-- The round keys one after the other: their number, their bounds, and one more of them.
use Rattle.std.proofs.Common.{◌≡◌, ℕ, zero, suc, ◌+◌, ◌*◌, ◌/◌, ◌%◌, ◌^◌, ◌<◌, ◌≤◌, List, [], ◌∷◌, ◌++◌, length, drop, sym, refl, ap, ◌∙◌, ap₂, append_assoc, mod-lt, arith, lit<, length-append, drop-drop, take_at, drop_at, shr_lt}
use borrow.Rule.Slice.PartMut.{put_mid}
use Rattle.std.specs.List.{range_with_len, flat_map, AllByRecursion}
use Rattle.std.proofs.lemmas.List.{flat_map_more}
use Rattle.std.proofs.ByRecursion.{All-append, All-weaker}
use Rattle.des.specs.Bits.{number, groups}
use Rattle.des.specs.Laws.{Bytes}
use Rattle.des.specs.Schedule.{PC_1, C, D, KS, key_schedule}
use Rattle.des.specs.Tables.{PC_1_table}
use Rattle.des.proofs.Digits.{length_groups, groups_lt}
use Rattle.des.proofs.Permutations.{permuted_lt}
use Rattle.des.proofs.Shifts.{shifted_lt}

pub PC_1_lt : (x : ℕ) → PC_1 x < 2 ^ 56
unfolding PC_1 PC_1_table
PC_1_lt x = permuted_lt 64 PC_1_table x

pub C_lt : (key : List ℕ) (n : ℕ) → n ≤ 16 → C key n < 2 ^ 28
unfolding C
C_lt key n h = shifted_lt n (PC_1 (number 8 key) / 2 ^ 28) h (shr_lt 28 28 (PC_1_lt (number 8 key)))

pub D_lt : (key : List ℕ) (n : ℕ) → n ≤ 16 → D key n < 2 ^ 28
unfolding D
D_lt key n h = shifted_lt n (PC_1 (number 8 key) % 2 ^ 28) h (mod-lt (PC_1 (number 8 key)) (lit< tt))

-- the first n round keys
abbrev pub round_keys : List ℕ → ℕ → List ℕ
round_keys key n = flat_map (λ n. groups 6 8 (KS key n)) (range_with_len 1 n)

counting_more : (a n : ℕ) → range_with_len a (suc n) ≡ range_with_len a n ++ (n + a) ∷ []
counting_more a zero = let e : a ≡ 0 + a = omega arith in ap (λ m. m ∷ []) e
counting_more a (suc n) = let e : n + (a + 1) ≡ suc n + a = omega arith in ap {B = List ℕ} (◌∷◌ a) (counting_more (a + 1) n ∙ ap (λ m. range_with_len (a + 1) n ++ m ∷ []) e)

pub round_keys_more : (key : List ℕ) (n : ℕ) → round_keys key n ++ groups 6 8 (KS key (n + 1)) ≡ round_keys key (n + 1)
round_keys_more key n =
    let e : suc n ≡ n + 1 = omega arith in
    flat_map_more (λ n. groups 6 8 (KS key n)) [] (range_with_len 1 n) (n + 1) ∙ ap (flat_map (λ n. groups 6 8 (KS key n))) (sym (counting_more 1 n) ∙ ap (range_with_len 1) e)

joined_length : (g : ℕ → List ℕ) → ((n : ℕ) → length (g n) ≡ 8) → (a n : ℕ) → length (flat_map g (range_with_len a n)) ≡ 8 * n
joined_length g e a zero = refl
joined_length g e a (suc n) = length-append (g a) (flat_map g (range_with_len (a + 1) n)) ∙ omega (arith, e a, joined_length g e (a + 1) n)

pub round_keys_length : (key : List ℕ) (n : ℕ) → length (round_keys key n) ≡ 8 * n
round_keys_length key n = joined_length (λ n. groups 6 8 (KS key n)) (λ n. length_groups 6 8 (KS key n)) 1 n

joined_all : (g : ℕ → List ℕ) (Q : ℕ → Type 0) → ((n : ℕ) → AllByRecursion Q (g n)) → (xs : List ℕ) → AllByRecursion Q (flat_map g xs)
joined_all g Q h [] = tt
joined_all g Q h (x ∷ xs) = All-append Q (g x) (flat_map g xs) (h x) (joined_all g Q h xs)

-- a schedule is 128 bytes, and indeed groups of six bits
pub key_schedule_groups : (key : List ℕ) → AllByRecursion (λ x. x < 64) (key_schedule key)
unfolding key_schedule
key_schedule_groups key = joined_all (λ n. groups 6 8 (KS key n)) (λ x. x < 64) (λ n. groups_lt 6 8 (KS key n)) (range_with_len 1 16)

pub key_schedule_bytes : (key : List ℕ) → Bytes 128 (key_schedule key)
unfolding key_schedule
key_schedule_bytes key =
    (round_keys_length key 16, All-weaker (λ x. x < 64) (λ x. x < 256) (λ x h. omega arith) (key_schedule key) (key_schedule_groups key))

-- a part written after what is written already
pub put_after : (p old ys : List ℕ) (a k : ℕ) → length p ≡ a → put_mid a k (p ++ drop a old) ys ≡ (p ++ ys) ++ drop (a + k) old
put_after p old ys a k e =
    ap₂ ◌++◌ (take_at p (drop a old) a e) (ap (λ t. ys ++ t) (ap (drop k) (drop_at p (drop a old) a e) ∙ drop-drop k a old))
    ∙ sym (append_assoc p ys (drop (a + k) old))
