-- A test of the 32 services is one of the numbers below 32.
use Rattle.std.proofs.Common.{◌≡◌, ℕ, ◌<◌, Bool, true, false, List, length, get_or, refl, sym, ap, ◌∙◌, ⊎_elim, arith, lit≤}
use Rattle.std.specs.Bool.{Decides}
use Rattle.std.specs.List.{list_any}
use Rattle.std.proofs.lemmas.Bool.{both_ways, cases_Bool}
use Rattle.std.proofs.lemmas.Bool.Decides.{Decides-below_or, Decides-by_or, same_from_decides}
use Rattle.word.specs.declared.service.Service.{Service}
use Rattle.shelf.specs.Examined.{any_below}

decided : (test : ℕ → Bool) (n : ℕ) → Decides (any_below n test) ((k : ℕ) × (k < n) × (test k ≡ true))
unfolding any_below
decided test n = Decides-below_or test (λ k. test k ≡ true) (λ n. any_below n test) (λ k. ((λ e. e), (λ e. e))) refl (λ _. refl) n

first : Service
first = record { number = 0; low = lit≤ tt }

pub any_service : (test : ℕ → Bool) (services : List Service) → length services ≡ 32 → ((k : ℕ) (d : Service) → k < 32 → (get_or services k d).number ≡ k)
    → list_any (λ s. test s.number) services ≡ any_below 32 test
any_service test services long order =
    let some = Decides-by_or (λ s. test s.number) (λ s. test s.number ≡ true) (list_any (λ s. test s.number)) (λ s. ((λ e. e), (λ e. e))) refl (λ _ _. refl) services in
    same_from_decides _ _ (
      (λ e. let at = some.0 e in let low : at.0 < 32 = omega arith in (at.0, low, ap test (sym (order at.0 first low)) ∙ at.2 first)),
      (λ at. let low : at.0 < length services = omega arith in some.1 (at.0, low, λ d. ap test (order at.0 d at.1) ∙ at.2)),
    )
    (decided test 32)

-- if none passes, each fails
pub each_fails : (test : ℕ → Bool) (n : ℕ) → any_below n test ≡ false → (k : ℕ) → k < n → test k ≡ false
each_fails test n e k h =
    ⊎_elim (λ t. absurd (both_ways (any_below n test) e ((decided test n).1 (k, h, t)))) (λ f. f) (cases_Bool (test k))
