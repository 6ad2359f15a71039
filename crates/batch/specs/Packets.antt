-- A batch of packets under a plan for each: the first that the plan refuses decides, else each is changed as planned.
use Rattle.std.specs.Prelude.{ℕ, ◌+◌, ◌*◌, ◌/◌, Bool, true, false, cond, List, [], ◌∷◌, map, length, take, drop, Some, None, Ok, Err, sum_by, Option, Result}
use Rattle.std.specs.List.{range_with_len, flat_map}

-- the packet at place i of a batch
abbrev pub packet_at : List ℕ → ℕ → List ℕ
packet_at batch i = take 188 (drop (188 * i) batch)

-- the packets of a batch
abbrev pub packets : List ℕ → List (List ℕ)
packets batch = map (packet_at batch) (range_with_len 0 (length batch / 188))

-- what follows a packet that is not refused
abbrev pub or_else : {X F G : Type 0} → Result X F → (F → G) → Result (Unit {0}) G → Result (Unit {0}) G
or_else (Ok x) at r = r
or_else (Err f) at r = Err (at f)

-- the first refused packet decides; i is the place of the first packet of the list, and `at` places a fault
abbrev pub first_fault : {X F G : Type 0} → (List ℕ → Result (Option X) F) → (ℕ → F → G) → ℕ → List (List ℕ) → Result (Unit {0}) G
first_fault plan at i [] = Ok tt
first_fault plan at i (p ∷ ps) = or_else (plan p) (at i) (first_fault plan at (i + 1) ps)

-- a packet under its plan: changed, or passed as it is
abbrev pub follow : {X F : Type 0} → (X → List ℕ → List ℕ) → Result (Option X) F → List ℕ → List ℕ
follow change (Ok (Some x)) p = change x p
follow change (Ok None) p = p
follow change (Err f) p = p

abbrev pub changes : {X F : Type 0} → Result (Option X) F → Bool
changes (Ok (Some x)) = true
changes (Ok None) = false
changes (Err f) = false

abbrev pub followed : {X F : Type 0} → (List ℕ → Result (Option X) F) → (X → List ℕ → List ℕ) → List ℕ → List ℕ
followed plan change p = follow change (plan p) p

-- every packet of a batch under its plan, in place
abbrev pub all_followed : {X F : Type 0} → (List ℕ → Result (Option X) F) → (X → List ℕ → List ℕ) → List ℕ → List ℕ
all_followed plan change batch = flat_map (followed plan change) (packets batch)

-- how many packets are changed, and how many pass
abbrev pub changed_count : {X F : Type 0} → (List ℕ → Result (Option X) F) → List (List ℕ) → ℕ
changed_count plan ps = sum_by (λ p. cond (changes (plan p)) 1 0) ps

abbrev pub passed_count : {X F : Type 0} → (List ℕ → Result (Option X) F) → List (List ℕ) → ℕ
passed_count plan ps = sum_by (λ p. cond (changes (plan p)) 0 1) ps
