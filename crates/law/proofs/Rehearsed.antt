-- What the law says of a batch that was scrambled at one engine and descrambled at another.
use Rattle.std.proofs.Common.{◌≡◌, ℕ, ◌/◌, ◌<◌, List, length, Ok, refl, ap, ◌∙◌, arith}
use Rattle.engine.specs.Calls.{Counts}
use Rattle.engine.specs.Model.{Model}
use Rattle.engine.specs.Runs.{scrambles, descrambles, Step}
use Rattle.law.specs.Law.{joined_by, Law}
use Rattle.law.specs.Rehearsals.{Rehearses, Returns}

module _ {E F : Type 0} (one : E → Model) (two : F → Model) (law : Law one two) where
  pub returned : (e : E) (f : F) (area area₂ batch area' area₂' scrambled batch' : List ℕ) (r : Counts) (counts : ℕ × ℕ) → Step (one e) (scrambles area batch r area' scrambled) (one e)
      → Step (two f) (descrambles area₂ scrambled (Ok counts) area₂' batch') (two f) → length scrambled ≡ length batch → Returns one two e f batch scrambled batch'
  returned e f area area₂ batch area' area₂' scrambled batch' r counts first second long given calls run i inside differs =
      let both = law.restoring given calls e run area batch area' scrambled r (one e) first i inside differs in
      let inside₂ : i < length scrambled / 188 = omega arith in (
        both.0,
        λ given₂ calls₂ run₂ alike service₂ joined held.
            both.1 given₂ calls₂ f run₂ alike area₂ scrambled area₂' batch' counts (two f) second i inside₂ refl service₂ (ap (joined_by calls₂) both.0.named ∙ joined) held,
      )

  -- both calls accept
  pub rehearsed : (e : E) (f : F) (area area₂ batch scrambled : List ℕ) {n n₂ : ℕ × ℕ} {area' area₂' batch' : List ℕ} → Step (one e) (scrambles area batch (Ok n) area' scrambled) (one e)
      → Step (two f) (descrambles area₂ scrambled (Ok n₂) area₂' batch') (two f) → length scrambled ≡ length batch
      → Rehearses one two e f area area₂ batch (Ok (record { scrambled = n; descrambled = n₂ })) area' area₂' batch'
  rehearsed e f area area₂ batch scrambled {n} {n₂} {area'} {area₂'} {batch'} first second long = record {
    answer = Ok n;
    scrambled = scrambled;
    first = first;
    second = (Ok n₂, second, refl);
    returns = λ _. returned e f area area₂ batch area' area₂' scrambled batch' (Ok n) n₂ first second long;
  }
