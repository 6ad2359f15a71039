-- One packet more of each pass over a batch.
use Rattle.std.proofs.Common.{◌≡◌, ℕ, zero, suc, ◌+◌, ◌-◌, ◌*◌, ◌/◌, ◌%◌, ◌<◌, ◌≤◌, Bool, List, [], ◌∷◌, ◌++◌, map, length, get_or, take, drop, Ok, Err, Option, Result, sum_by, sym, refl, ap, ◌∙◌, zero-add, arith}
use borrow.Rule.Slice.PartMut.{put_mid}
use Rattle.std.specs.List.{range_with_len, flat_map}
use Rattle.std.specs.Simd.{first_chunks}
use Rattle.std.proofs.lemmas.List.FromFn.{length-map-range_with_len, get_or-map-range_with_len, map-range_with_len_more, sum_by-map-range_with_len_more}
use Rattle.std.proofs.lemmas.List.{at_drop_more, at_drop_all, flat_map_more, take_all, drop-drop, length-drop, length-take-le, take_at, drop_at}
use Rattle.std.proofs.lemmas.Slice.{take-put_mid, drop-put_mid}
use Rattle.batch.specs.Packets.{packets, packet_at, or_else, first_fault, changes}

pub packets_length : (xs : List ℕ) → length (packets xs) ≡ length xs / 188
packets_length xs = length-map-range_with_len (packet_at xs) 0 (length xs / 188)

pub packets_get_or : (xs : List ℕ) (i : ℕ) → i < length xs / 188 → get_or (packets xs) i [] ≡ packet_at xs i
packets_get_or xs i h = get_or-map-range_with_len (packet_at xs) 0 (length xs / 188) i i [] h (zero-add i)

-- the packets as the code cuts them
chunks_from : (n i : ℕ) (xs : List ℕ) → first_chunks 188 n (drop (188 * i) xs) ≡ map (packet_at xs) (range_with_len i n)
chunks_from zero i xs = refl
chunks_from (suc n) i xs =
    let next : 188 * i + 188 ≡ 188 * (i + 1) = omega arith in
    ap (λ (ps : List (List ℕ)). packet_at xs i ∷ ps)
    (ap (first_chunks 188 n) (drop-drop 188 (188 * i) xs ∙ ap (λ (k : ℕ). drop k xs) next) ∙ chunks_from n (i + 1) xs)

pub packets_are : (xs : List ℕ) → first_chunks 188 (length xs / 188) xs ≡ packets xs
packets_are xs = chunks_from (length xs / 188) 0 xs

pub packet_length : (xs : List ℕ) (i : ℕ) → i < length xs / 188 → length (packet_at xs i) ≡ 188
packet_length xs i h = length-take-le 188 (drop (188 * i) xs) (simp length-drop (omega arith))

-- a packet as the second pass cuts it
pub part_of : (e b : List ℕ) (i : ℕ) → drop (188 * i) b ≡ drop (188 * i) e → take (188 * i + 188 - 188 * i) (drop (188 * i) b) ≡ packet_at e i
part_of e b i same =
    let n : 188 * i + 188 - 188 * i ≡ 188 = omega arith in ap (λ (k : ℕ). take k (drop (188 * i) b)) n ∙ ap (take 188) same

module _ {X F G : Type 0} (plan : List ℕ → Result (Option X) F) (up : ℕ → F → G) (ps : List (List ℕ)) (i : ℕ) where
  -- the first pass at a packet that passes, at one that does not, and after the last
  pub fault_pass : (x : Option X) → i < length ps → Ok x ≡ plan (get_or ps i [])
      → first_fault plan up i (drop i ps) ≡ first_fault plan up (i + 1) (drop (i + 1) ps)
  fault_pass x h e =
      at_drop_more (first_fault plan up i) ps i [] h
      ∙ ap (λ (r : Result (Option X) F). or_else r (up i) (first_fault plan up (i + 1) (drop (i + 1) ps))) (sym e)

  pub fault_stop : (f : F) → i < length ps → Err f ≡ plan (get_or ps i []) → first_fault plan up i (drop i ps) ≡ Err (up i f)
  fault_stop f h e =
      at_drop_more (first_fault plan up i) ps i [] h
      ∙ ap (λ (r : Result (Option X) F). or_else r (up i) (first_fault plan up (i + 1) (drop (i + 1) ps))) (sym e)

  pub fault_all : length ps ≤ i → first_fault plan up i (drop i ps) ≡ Ok tt
  fault_all h = at_drop_all (first_fault plan up i) ps i h

-- one packet of the second pass
pub joined_step : (f : List ℕ → List ℕ) (g : ℕ → List ℕ) (i : ℕ)
    → flat_map f (map g (range_with_len 0 (i + 1))) ≡ flat_map f (map g (range_with_len 0 i)) ++ f (g i)
joined_step f g i =
    ap (flat_map f) (map-range_with_len_more g 0 i i (zero-add i)) ∙ sym (flat_map_more f [] (map g (range_with_len 0 i)) (g i))

-- and written over
pub change_step : (f : List ℕ → List ℕ) (e b q : List ℕ) (i : ℕ) → i < length e / 188 → length b ≡ length e
    → take (188 * i) b ≡ flat_map f (map (packet_at e) (range_with_len 0 i))
    → drop (188 * i) b ≡ drop (188 * i) e
    → q ≡ f (packet_at e i) → length q ≡ 188
    → (take (188 * (i + 1)) (put_mid (188 * i) (188 * i + 188 - 188 * i) b q) ≡ flat_map f (map (packet_at e) (range_with_len 0 (i + 1))))
    × (drop (188 * (i + 1)) (put_mid (188 * i) (188 * i + 188 - 188 * i) b q) ≡ drop (188 * (i + 1)) e)
change_step f e b q i lt long front back is size = (
  take-put_mid (188 * i) (188 * i + 188 - 188 * i) b q (188 * (i + 1)) (omega arith) (omega arith)
      ∙ ap (λ (z : List ℕ). z ++ q) front
      ∙ ap (λ (z : List ℕ). flat_map f (map (packet_at e) (range_with_len 0 i)) ++ z) is
      ∙ sym (joined_step f (packet_at e) i),
  drop-put_mid (188 * i) (188 * i + 188 - 188 * i) b q (188 * (i + 1)) (omega arith) (omega arith) (omega arith)
      ∙ at_next b ∙ ap (drop 188) back ∙ sym (at_next e),
)
  where
    at_next : (xs : List ℕ) → drop (188 * (i + 1)) xs ≡ drop 188 (drop (188 * i) xs)
    at_next xs =
        let n : 188 * (i + 1) ≡ 188 * i + 188 = omega arith in ap (λ (k : ℕ). drop k xs) n ∙ sym (drop-drop 188 (188 * i) xs)

-- the end of the second pass
pub change_all : (f : List ℕ → List ℕ) (e b : List ℕ) (i : ℕ) → i ≡ length e / 188 → length e % 188 ≡ 0 → length b ≡ length e
    → take (188 * i) b ≡ flat_map f (map (packet_at e) (range_with_len 0 i)) → b ≡ flat_map f (packets e)
change_all f e b i at whole long front =
    sym (take_all (188 * i) b (omega arith)) ∙ front ∙ ap (λ (k : ℕ). flat_map f (map (packet_at e) (range_with_len 0 k))) at

-- a count over the second pass, at a packet whose plan came out as b
pub count_more : {X F : Type 0} (plan : List ℕ → Result (Option X) F) (weight : Bool → ℕ) (e : List ℕ) (i n : ℕ) (b : Bool) → b ≡ changes (plan (packet_at e i))
    → n ≡ sum_by (λ p. weight (changes (plan p))) (map (packet_at e) (range_with_len 0 i))
    → n + weight b ≡ sum_by (λ p. weight (changes (plan p))) (map (packet_at e) (range_with_len 0 (i + 1)))
count_more plan weight e i n b t h =
    ap (λ (k : ℕ). k + weight b) h
    ∙ ap (λ (v : Bool). sum_by (λ p. weight (changes (plan p))) (map (packet_at e) (range_with_len 0 i)) + weight v) t
    ∙ sym (sum_by-map-range_with_len_more (λ p. weight (changes (plan p))) (packet_at e) 0 i i (zero-add i))

-- the packets of a batch that was turned packet by packet, each to 188 bytes
packet_in_front : (f : List ℕ → List ℕ) (ps : List (List ℕ)) (i : ℕ) → ((k : ℕ) → k < length ps → length (f (get_or ps k [])) ≡ 188) → i < length ps
    → take 188 (drop (188 * i) (flat_map f ps)) ≡ f (get_or ps i [])
packet_in_front f [] i long h = absurd (omega arith)
packet_in_front f (p ∷ ps) zero long h = take_at (f p) (flat_map f ps) 188 (long 0 (omega arith))
packet_in_front f (p ∷ ps) (suc i) long h =
    let n : 188 * suc i ≡ 188 + 188 * i = omega arith in
    ap (λ (k : ℕ). take 188 (drop k (f p ++ flat_map f ps))) n
    ∙ ap (take 188) (sym (drop-drop (188 * i) 188 (f p ++ flat_map f ps)) ∙ ap (drop (188 * i)) (drop_at (f p) (flat_map f ps) 188 (long 0 (omega arith))))
    ∙ packet_in_front f ps i (λ k l. long (suc k) (omega arith)) (omega arith)

pub packet_of_turned : (f : List ℕ → List ℕ) (xs : List ℕ) (i : ℕ) → ((k : ℕ) → k < length xs / 188 → length (f (packet_at xs k)) ≡ 188) → i < length xs / 188
    → packet_at (flat_map f (packets xs)) i ≡ f (packet_at xs i)
packet_of_turned f xs i long h =
    packet_in_front f (packets xs) i
    (λ k l. let lk : k < length xs / 188 = omega (arith, packets_length xs) in ap (λ (p : List ℕ). length (f p)) (packets_get_or xs k lk) ∙ long k lk)
    (omega (arith, packets_length xs))
    ∙ ap f (packets_get_or xs i h)
