-- What a PID is joined to in a list of components, one more or some fewer.
use Rattle.std.proofs.Common.{◌≡◌, ◌≢◌, ℕ, suc, ◌+◌, ◌<◌, Bool, cond, not, eqb, List, [], ◌∷◌, ◌++◌, length, get_or, is_some, Some, None, filter, Option, sym, refl, subst, arith}
use Rattle.std.specs.List.{find, position_or_len}
use Rattle.std.specs.Option.{option_map, option_and_then}
use Rattle.std.proofs.lemmas.Bool.Decides.{nat_tests}
use Rattle.std.proofs.lemmas.Grind.{common_steps}
use Rattle.std.proofs.lemmas.List.Folds.{find_at, find-append}
use Rattle.std.proofs.lemmas.List.Kept.{AllPairs-filter}
use Rattle.std.proofs.lemmas.List.Quantifiers.{all_pairs_push}
use Rattle.std.proofs.lemmas.List.Sums.{fails_before_first}
use Rattle.std.proofs.lemmas.Option.{slice_get_cases}
use Rattle.component.specs.declared.component.Component.{Component}
use Rattle.component.specs.Rows.{joined_in, Apart}
use Rattle.component.specs.Table.{other_pids, other_services, without_service}

-- whether a component has a PID
abbrev has : ℕ → Component → Bool
has pid c = eqb c.pid pid

-- the number of a component's service
abbrev number : Component → ℕ
number c = c.service.number

-- a PID that is joined nowhere is no component's
unjoined : (cs : List Component) (pid : ℕ) → joined_in cs pid ≡ None → (k : ℕ) (d : Component) → k < length cs → (get_or cs k d).pid ≢ pid
unjoined cs pid e k d h =
    let at = find_at (has pid) cs in
    let o = slice_get_cases cs (position_or_len (has pid) cs) in
    let before = fails_before_first (has pid) cs k d in
    grind (arith, nat_tests, common_steps)

-- a PID that no component has is joined nowhere
none_joined : (cs : List Component) (pid : ℕ) → ((k : ℕ) (d : Component) → k < length cs → (get_or cs k d).pid ≢ pid) → find (has pid) cs ≡ None
none_joined [] pid h = refl
none_joined (c ∷ cs) pid h = step (h 0 c) (none_joined cs pid (λ k d l. h (suc k) d (omega arith)))
  where
    step : (0 < length (c ∷ cs) → c.pid ≢ pid) → find (has pid) cs ≡ None → cond (eqb c.pid pid) (Some c) (find (has pid) cs) ≡ None
    step f e = grind (arith, nat_tests, common_steps)

-- ---- one component more
pub apart_more : (cs : List Component) (c : Component) → Apart cs → joined_in cs c.pid ≡ None → Apart (cs ++ c ∷ [])
apart_more cs c a n = all_pairs_push (λ x y. x.pid ≢ y.pid) cs c a (unjoined cs c.pid n)

pub joined_more : (k : ℕ) (cs : List Component) (c : Component) → joined_in cs c.pid ≡ None → joined_in (cs ++ c ∷ []) k ≡ cond (eqb k c.pid) (Some c.service.number) (joined_in cs k)
joined_more k cs c n =
    let more = find-append (has k) cs (c ∷ []) in
    grind (arith, nat_tests, common_steps)

-- ---- those that pass a test
pub apart_kept : (t : Component → Bool) (cs ds : List Component) → ds ≡ filter t cs → Apart cs → Apart ds
apart_kept t cs ds e a = rw e (AllPairs-filter (λ x y. x.pid ≢ y.pid) t cs a)

-- a first component's PID is joined nowhere after it
first_none : (c : Component) (cs : List Component) → Apart (c ∷ cs) → find (has c.pid) cs ≡ None
first_none c cs a = none_joined cs c.pid (λ k d h e. a 0 (suc k) d (omega arith) (omega arith) (sym e))

rest_apart : (c : Component) (cs : List Component) → Apart (c ∷ cs) → Apart cs
rest_apart c cs a = λ i j d h l. a (suc i) (suc j) d (omega arith) (omega arith)

-- what a PID is joined to, if PID and service pass a test
abbrev passing : (ℕ → ℕ → Bool) → ℕ → Option ℕ → Option ℕ
passing q k o = option_and_then (λ n. cond (q k n) (Some n) None) o

joined_kept : (q : ℕ → ℕ → Bool) (k : ℕ) (cs : List Component) → Apart cs → joined_in (filter (λ c. q c.pid c.service.number) cs) k ≡ passing q k (joined_in cs k)
joined_kept q k [] a = refl
joined_kept q k (c ∷ cs) a =
    step (filter (λ c. q c.pid c.service.number) cs) (find (has k) cs) (joined_kept q k cs (rest_apart c cs a)) (λ e. subst (λ (p : ℕ). find (has p) cs ≡ None) e (first_none c cs a))
  where
    step : (ds : List Component) (o : Option Component) → option_map number (find (has k) ds) ≡ passing q k (option_map number o) → (c.pid ≡ k → o ≡ None)
        → option_map number (find (has k) (cond (q c.pid c.service.number) (c ∷ ds) ds)) ≡ passing q k (option_map number (cond (eqb c.pid k) (Some c) o))
    step ds o ih none = grind (arith, nat_tests, common_steps)

-- ---- without a PID
pub joined_without_pid : (pid k : ℕ) (cs : List Component) → Apart cs → joined_in (other_pids pid cs) k ≡ cond (eqb k pid) None (joined_in cs k)
joined_without_pid pid k cs a = let kept = joined_kept (λ x n. not (eqb x pid)) k cs a in grind (arith, nat_tests, common_steps)

pub length_without_pid : (pid : ℕ) (cs : List Component) → Apart cs → length (other_pids pid cs) + cond (is_some (joined_in cs pid)) 1 0 ≡ length cs
length_without_pid pid [] a = refl
length_without_pid pid (c ∷ cs) a =
    step (other_pids pid cs) (find (has pid) cs) (length_without_pid pid cs (rest_apart c cs a)) (λ e. subst (λ (p : ℕ). find (has p) cs ≡ None) e (first_none c cs a))
  where
    step : (ds : List Component) (o : Option Component) → length ds + cond (is_some (option_map number o)) 1 0 ≡ length cs → (c.pid ≡ pid → o ≡ None)
        → length (cond (not (eqb c.pid pid)) (c ∷ ds) ds) + cond (is_some (option_map number (cond (eqb c.pid pid) (Some c) o))) 1 0 ≡ length (c ∷ cs)
    step ds o ih none = grind (arith, nat_tests, common_steps)

-- ---- without a service
pub joined_without_service : (n k : ℕ) (cs : List Component) → Apart cs → joined_in (other_services n cs) k ≡ without_service n (joined_in cs k)
joined_without_service n k cs a = let kept = joined_kept (λ x m. not (eqb m n)) k cs a in grind (arith, nat_tests, common_steps)
