-- Grants that an engine takes back one after another, the last one that it gave first.
use Rattle.std.specs.Prelude.{ℕ, Bool, true, cond, ◌&&◌, List, [], ◌∷◌, ◌==◌}
use Rattle.engine.specs.Model.{is_open}
use Rattle.engine.specs.declared.desk.Slot.{Slot}
use Rattle.engine.specs.declared.desk.Slot.TheVariants.{Shut}
use Rattle.engine.specs.declared.grant.Grant.{Grant}

-- an engine of that tag and those slots accepts a close of the grant
abbrev pub accepted : ℕ → (ℕ → Slot) → Grant → Bool
accepted tag slots g = g.tag == tag && is_open (slots g.service)

-- the slots once a service is shut
abbrev pub without : ℕ → (ℕ → Slot) → ℕ → Slot
without n slots k = cond (k == n) Shut (slots k)

-- each grant is accepted when its turn comes
abbrev pub closable : ℕ → (ℕ → Slot) → List Grant → Bool
closable tag slots [] = true
closable tag slots (g ∷ gs) = accepted tag slots g && closable tag (without g.service slots) gs
