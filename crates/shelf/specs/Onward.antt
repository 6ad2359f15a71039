-- What the next of a service is once it took words at further moments, for the shelves on which that hangs on the moments alone.
use Rattle.std.specs.Prelude.{◌≡◌, ℕ, max, cond, ◌&&◌, List, [], ◌∷◌, is_ok, Some, None, Option, Result, IfSome, ◌==◌}
use Rattle.std.proofs.Common.{ap}
use Rattle.shelf.specs.Paces.{PaceRow, paced}

-- the same after a put for service n at a moment that answered r: if taken, that moment is the first of the service's further ones
abbrev pub after_put : {R F : Type 0} → Result R F → ℕ → ℕ → Option (ℕ → List ℕ → ℕ) → Option (ℕ → List ℕ → ℕ)
after_put r n moment (Some f) = Some (λ k moments. cond (is_ok r && k == n) (f k (moment ∷ moments)) (f k moments))
after_put r n moment None = None

-- the pace after words at some moments, the first one first
abbrev pub paced_through : PaceRow → List ℕ → PaceRow
paced_through row [] = row
paced_through row (m ∷ ms) = paced_through (paced row m) ms

-- a shelf with such paces above another: the larger of its own next and the one below, and nothing if the one below names nothing
abbrev pub paced_onward : (ℕ → PaceRow) → Option (ℕ → List ℕ → ℕ) → Option (ℕ → List ℕ → ℕ)
paced_onward paces (Some f) = Some (λ k moments. max (paced_through (paces k) moments).next (f k moments))
paced_onward paces None = None

-- its next after no further moment is the larger of the pace's next and the one below
pub paced_present : (paces : ℕ → PaceRow) (below : Option (ℕ → List ℕ → ℕ)) (next : ℕ → ℕ) → IfSome below (λ f. (k : ℕ) → f k [] ≡ next k)
    → IfSome (paced_onward paces below) (λ f. (k : ℕ) → f k [] ≡ max (paces k).next (next k))
paced_present paces (Some f) next h = λ k. ap (max (paces k).next) (h k)
paced_present paces None next h = h
