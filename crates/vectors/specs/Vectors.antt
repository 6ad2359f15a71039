-- When an answer is the expected one.
use Rattle.std.specs.Prelude.{ℕ, ◌+◌, cond, List, [], ◌∷◌, Some, None, Ok, Err, Option, Result, ◌==◌}
use Rattle.word.specs.declared.parity.Parity.{Parity}
use Rattle.word.specs.declared.parity.Parity.TheVariants.{Even, Odd}
use Rattle.vectors.specs.declared.mismatch.Mismatch.{Mismatch}
use Rattle.vectors.specs.declared.mismatch.Mismatch.TheVariants.{Byte}

-- the first place, counted from i, at which two lists differ; where one ends, the other must
abbrev pub differs_from : ℕ → List ℕ → List ℕ → Option ℕ
differs_from i [] [] = None
differs_from i [] (y ∷ ys) = Some i
differs_from i (x ∷ xs) [] = Some i
differs_from i (x ∷ xs) (y ∷ ys) = cond (x == y) (differs_from (i + 1) xs ys) (Some i)

-- the subject's own objection, else the first byte that differs
abbrev pub mismatch_of : Result (Unit {0}) Mismatch → Option ℕ → Option Mismatch
mismatch_of (Err m) place = Some m
mismatch_of (Ok u) (Some place) = Some (Byte place)
mismatch_of (Ok u) None = None

-- the parity of the control bits 10 and 11
abbrev pub parity_of : ℕ → Option Parity
parity_of control = cond (control == 2) (Some Even) (cond (control == 3) (Some Odd) None)
