-- The nexts of a pacing shelf after further moments, from those of the shelf below.
use Rattle.std.proofs.Common.{◌≡◌, ℕ, max, Bool, true, false, cond, eqb, List, ◌∷◌, Some, None, Ok, Option, refl, ap, ◌∙◌}
use Rattle.shelf.specs.Onward.{after_put, paced_through, paced_onward}
use Rattle.shelf.specs.Paces.{PaceRow, paced}

-- one service's next, with and without a word more
either : (b : Bool) (row : PaceRow) (m x y : ℕ) (ms : List ℕ)
    → max (paced_through (cond b (paced row m) row) ms).next (cond b x y) ≡ cond b (max (paced_through row (m ∷ ms)).next x) (max (paced_through row ms).next y)
either true row m x y ms = refl
either false row m x y ms = refl

-- a word that both take
pub paced_put : (F : Type 0) (n m : ℕ) (paces paces' : ℕ → PaceRow) (below below' : Option (ℕ → List ℕ → ℕ)) → ((k : ℕ) → paces' k ≡ cond (eqb k n) (paced (paces k) m) (paces k))
    → below' ≡ after_put {R = Unit {0}} {F = F} (Ok tt) n m below → paced_onward paces' below' ≡ after_put {R = Unit {0}} {F = F} (Ok tt) n m (paced_onward paces below)
paced_put F n m paces paces' (Some f) below' p b =
    ap (paced_onward paces') b
    ∙ (λ i. Some (λ k ms. (ap (λ (row : PaceRow). max (paced_through row ms).next (cond (eqb k n) (f k (m ∷ ms)) (f k ms))) (p k) ∙ either (eqb k n) (paces k) m (f k (m ∷ ms)) (f k ms) ms) i))
paced_put F n m paces paces' None below' p b = ap (paced_onward paces') b
