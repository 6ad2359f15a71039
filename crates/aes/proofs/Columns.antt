-- A rule at each column of a state: it keeps bytes bytes, and a rule that undoes it at one byte undoes it at all.
use Rattle.std.proofs.Common.{◌≡◌, ℕ, zero, suc, ◌+◌, ◌*◌, ◌/◌, ◌%◌, ◌<◌, List, [], ◌∷◌, map, length, get_or, refl, ap, ◌∙◌, ap₂, lit<}
use Rattle.std.specs.List.{range_with_len, AllByRecursion}
use Rattle.aes.specs.State.{Bytes, byte_at, state_of, columns}
use Rattle.aes.proofs.Rows.{exactly}

abbrev pub Small : List ℕ → Type 0
Small = AllByRecursion (λ x. x < 256)

pub small_at : (s : List ℕ) (k : ℕ) → Small s → get_or s k 0 < 256
small_at [] k h = lit< tt
small_at (x ∷ s) zero h = h.0
small_at (x ∷ s) (suc k) h = small_at s k h.1

all_of : (P : ℕ → Type 0) (f : ℕ → ℕ) → ((i : ℕ) → P (f i)) → (ks : List ℕ) → AllByRecursion P (map f ks)
all_of P f h [] = tt
all_of P f h (k ∷ ks) = (h k, all_of P f h ks)

pub state_of_bytes : (f : ℕ → ℕ → ℕ) → ((r c : ℕ) → f r c < 256) → Bytes 16 (state_of f)
unfolding state_of
state_of_bytes f h = (refl, all_of (λ x. x < 256) (λ i. f (i % 4) (i / 4)) (λ i. h (i % 4) (i / 4)) (range_with_len 0 16))

pub byte_at_byte : (s : List ℕ) (r c : ℕ) → Small s → byte_at s r c < 256
unfolding byte_at
byte_at_byte s r c h = small_at s (4 * c + r) h

pub columns_bytes : (f : ℕ → ℕ → ℕ → ℕ → ℕ) → ((a b c d : ℕ) → a < 256 → b < 256 → c < 256 → d < 256 → f a b c d < 256) →
    (s : List ℕ) → Bytes 16 s → Bytes 16 (columns f s)
unfolding columns
columns_bytes f small s h =
    state_of_bytes (λ r c. f (byte_at s r c) (byte_at s ((r + 1) % 4) c) (byte_at s ((r + 2) % 4) c) (byte_at s ((r + 3) % 4) c))
    (λ r c. small (byte_at s r c) (byte_at s ((r + 1) % 4) c) (byte_at s ((r + 2) % 4) c) (byte_at s ((r + 3) % 4) c)
    (byte_at_byte s r c h.1) (byte_at_byte s ((r + 1) % 4) c h.1) (byte_at_byte s ((r + 2) % 4) c h.1) (byte_at_byte s ((r + 3) % 4) c h.1))

-- column after column
pub columnwise : (ℕ → ℕ → ℕ → ℕ → ℕ) → List ℕ → List ℕ
columnwise f [] = []
columnwise f (a ∷ []) = []
columnwise f (a ∷ b ∷ []) = []
columnwise f (a ∷ b ∷ c ∷ []) = []
columnwise f (a ∷ b ∷ c ∷ d ∷ s) = f a b c d ∷ f b c d a ∷ f c d a b ∷ f d a b c ∷ columnwise f s

columns_are : (f : ℕ → ℕ → ℕ → ℕ → ℕ) (s : List ℕ) → length s ≡ 16 → columns f s ≡ columnwise f s
unfolding byte_at state_of columns columnwise
columns_are f = exactly 16 (λ s. columns f s ≡ columnwise f s) (λ a b c d e f g h i j k l m n o p. refl)

abbrev Fours : List ℕ → Type 0
Fours [] = Unit {0}
Fours (a ∷ []) = ⊥
Fours (a ∷ b ∷ []) = ⊥
Fours (a ∷ b ∷ c ∷ []) = ⊥
Fours (a ∷ b ∷ c ∷ d ∷ s) = Fours s

module _ (f g : ℕ → ℕ → ℕ → ℕ → ℕ) (undoes : (a b c d : ℕ) → a < 256 → b < 256 → c < 256 → d < 256 → g (f a b c d) (f b c d a) (f c d a b) (f d a b c) ≡ a) where
  fours_undone : (s : List ℕ) → Fours s → Small s → columnwise g (columnwise f s) ≡ s
  unfolding columnwise
  fours_undone [] q h = refl
  fours_undone (a ∷ []) q h = absurd q
  fours_undone (a ∷ b ∷ []) q h = absurd q
  fours_undone (a ∷ b ∷ c ∷ []) q h = absurd q
  fours_undone (a ∷ b ∷ c ∷ d ∷ s) q h =
      let ha : a < 256 = h.0 in
      let hb : b < 256 = h.1.0 in
      let hc : c < 256 = h.1.1.0 in
      let hd : d < 256 = h.1.1.1.0 in
      ap₂ {C = List ℕ} ◌∷◌ (undoes a b c d ha hb hc hd)
      (ap₂ {C = List ℕ} ◌∷◌ (undoes b c d a hb hc hd ha)
      (ap₂ {C = List ℕ} ◌∷◌ (undoes c d a b hc hd ha hb)
      (ap₂ {C = List ℕ} ◌∷◌ (undoes d a b c hd ha hb hc) (fours_undone s q h.1.1.1.1))))

  pub columns_undone : (s : List ℕ) → Bytes 16 s → columns g (columns f s) ≡ s
  unfolding state_of columns
  columns_undone s h =
      columns_are g (columns f s) refl ∙ ap (columnwise g) (columns_are f s h.0)
      ∙ fours_undone s (exactly 16 Fours (λ a b c d e f g h i j k l m n o p. tt) s h.0) h.1
