-- What is the same of a table's one value and of the default is so at every place, past the table's end too.
use Rattle.std.proofs.Common.{◌≡◌, ℕ, zero, suc, get_or, replicate, refl}

pub at_replicate : {A B : Type 0} (f : A → B) (n k : ℕ) (a d : A) → f a ≡ f d → f (get_or (replicate n a) k d) ≡ f d
at_replicate f zero k a d e = refl
at_replicate f (suc n) zero a d e = e
at_replicate f (suc n) (suc k) a d e = at_replicate f n k a d e
