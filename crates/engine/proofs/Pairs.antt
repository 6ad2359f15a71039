-- Components as pairs of PID and service: what a component more, one less, and those of a service less are there.
use Rattle.std.proofs.Common.{◌≡◌, ℕ, Bool, true, false, cond, not, ◌&&◌, ◌||◌, eqb, ltb, List, [], ◌∷◌, ◌++◌, map, length, is_some, is_ok, Some, None, Ok, Err, filter, Option, Result, sym, refl, ap, ◌∙◌, arith}
use mathlib.Core.List.{map-append}
use lib.ListN.{length-map}
use Rattle.std.specs.List.{find}
use Rattle.std.specs.Option.{option_map}
use Rattle.std.proofs.lemmas.Bool.Decides.{nat_tests}
use Rattle.component.specs.Rows.{joined_in}
use Rattle.component.specs.Table.{components_of, joined, count, add_answer, other_pids, other_services}
use Rattle.component.specs.declared.component.Component.{Component}
use Rattle.component.specs.declared.components.Components.{Components}
use Rattle.component.specs.declared.faults.ComponentFault.{ComponentFault}
use Rattle.word.specs.declared.service.Service.{Service}
use Rattle.engine.specs.Calls.{Answer, Joins, Leaves, closed, unless}
use Rattle.engine.specs.Faults.{join_fault}
use Rattle.engine.specs.Model.{Model, pairs_of}
use Rattle.engine.specs.declared.faults.EngineFault.{EngineFault}
use Rattle.engine.specs.declared.faults.EngineFault.TheVariants.{PidRange, AlreadyJoined, TableFull, NotJoined}

abbrev pair : Component → ℕ × ℕ
pair c = (c.pid, c.service.number)

map_cond : {A B : Type 0} (f : A → B) (b : Bool) (x : A) (xs ys : List A) (zs : List B) → map f xs ≡ zs → map f ys ≡ zs → map f (cond b (x ∷ xs) ys) ≡ cond b (f x ∷ zs) zs
map_cond f b x xs ys zs e h = grind arith

-- a filter on what f shows
map_kept : {A B : Type 0} (f : A → B) (test : B → Bool) (xs : List A) → map f (filter (λ x. test (f x)) xs) ≡ filter test (map f xs)
map_kept f test [] = refl
map_kept f test (x ∷ xs) =
    map_cond f (test (f x)) x (filter (λ y. test (f y)) xs) (filter (λ y. test (f y)) xs) (filter test (map f xs)) (map_kept f test xs) (map_kept f test xs)

pub without_service_lem : (before after : Components) (n : ℕ) → components_of after ≡ other_services n (components_of before)
    → pairs_of after ≡ filter (λ c. not (eqb c.1 n)) (pairs_of before)
without_service_lem before after n e = ap (map pair) e ∙ map_kept pair (λ c. not (eqb c.1 n)) (components_of before)

without_pid : (before after : Components) (pid : ℕ) → components_of after ≡ other_pids pid (components_of before)
    → pairs_of after ≡ filter (λ c. not (eqb c.0 pid)) (pairs_of before)
without_pid before after pid e = ap (map pair) e ∙ map_kept pair (λ c. not (eqb c.0 pid)) (components_of before)

-- a PID that is not joined has no component
others_first : (number : Component → ℕ) (b : Bool) (c : Component) (o : Option Component) (rest cs : List Component) → is_some (option_map number (cond b (Some c) o)) ≡ false
    → (is_some (option_map number o) ≡ false → rest ≡ cs) → cond (not b) (c ∷ rest) rest ≡ c ∷ cs
others_first number b c o rest cs e ih = grind arith

others_all : (cs : List Component) (pid : ℕ) → is_some (joined_in cs pid) ≡ false → other_pids pid cs ≡ cs
others_all [] pid e = refl
others_all (c ∷ cs) pid e =
    others_first (λ x. x.service.number) (eqb c.pid pid) c (find (λ x. eqb x.pid pid) cs) (other_pids pid cs) cs e (others_all cs pid)

stays : (f : ℕ → Option ℕ) (k pid : ℕ) → is_some (f pid) ≡ false → cond (eqb k pid) None (f k) ≡ f k
stays f k pid e = grind (arith, nat_tests)

-- an engine with other components
abbrev pub with_components : Model → Components → Model
with_components m t = record m { components = pairs_of t; joined = joined t }

-- a leave, by whether the PID was joined
pub leaves_by : (m : Model) (before after : Components) (pid : ℕ) (there : Bool) → there ≡ is_some (joined before pid) → components_of after ≡ other_pids pid (components_of before)
    → ((k : ℕ) → joined after k ≡ cond (eqb k pid) None (joined before k)) → Leaves (with_components m before) pid (cond there (Ok tt) (Err NotJoined)) (with_components m after)
unfolding joined
leaves_by m before after pid true e rows to = record {
  answer = ap (λ (b : Bool). cond {A = Answer} b (Ok tt) (Err NotJoined)) e;
  components = without_pid before after pid rows;
  joined = to;
  slots = refl;
  shelf = refl;
  profile = refl;
  tag = refl;
}
leaves_by m before after pid false e rows to = record {
  answer = ap (λ (b : Bool). cond {A = Answer} b (Ok tt) (Err NotJoined)) e;
  components = ap (map pair) (rows ∙ others_all (components_of before) pid (sym e));
  joined = λ k. to k ∙ stays (joined before) k pid (sym e);
  slots = refl;
  shelf = refl;
  profile = refl;
  tag = refl;
}

-- an answer of the table, as the engine's
abbrev pub lifted : Result (Unit {0}) ComponentFault → Answer
lifted (Ok x) = Ok tt
lifted (Err f) = Err (join_fault f)

lifted_ok : (r : Result (Unit {0}) ComponentFault) → is_ok (lifted r) ≡ is_ok r
lifted_ok r = grind arith

abbrev tested : Components → ℕ → ℕ → Answer
tested t n pid =
    cond (ltb pid 32 || ltb 8190 pid) (Err PidRange)
    (cond (is_some (joined t pid)) (Err AlreadyJoined) (cond (ltb n 64) (Ok tt) (Err TableFull)))

lifted_answer : (t : Components) (pid : ℕ) → lifted (add_answer t pid) ≡ tested t (length (pairs_of t)) pid
unfolding count
lifted_answer t pid = grind (arith, length-map (components_of t) pair)

pair_one : (b : Bool) (pid n : ℕ) (s : Service) → s.number ≡ n → map pair (cond b (record { pid = pid; service = s } ∷ []) []) ≡ cond b ((pid, n) ∷ []) []
pair_one b pid n s e = grind arith

unless_none : (o : Option EngineFault) (r : Answer) → o ≡ None → r ≡ unless o r
unless_none o r e = grind arith

-- a join of a service that is open
pub joins_by : (m : Model) (before after : Components) (n pid : ℕ) (s : Service) (a : Result (Unit {0}) ComponentFault) (r : Answer) → s.number ≡ n → closed m.slots n ≡ None → r ≡ lifted a
    → a ≡ add_answer before pid → components_of after ≡ components_of before ++ cond (is_ok a) (record { pid = pid; service = s } ∷ []) []
    → ((k : ℕ) → joined after k ≡ cond (is_ok a && eqb k pid) (Some s.number) (joined before k)) → Joins (with_components m before) n pid r (with_components m after)
joins_by m before after n pid s a r is live e answer rows to =
    let ok : is_ok a ≡ is_ok r = sym (ap is_ok e ∙ lifted_ok a) in
    record {
      answer = e ∙ ap lifted answer ∙ lifted_answer before pid ∙ unless_none (closed m.slots n) _ live;
      components =
          ap (map pair) rows
          ∙ map-append pair (components_of before) (cond (is_ok a) (record { pid = pid; service = s } ∷ []) [])
          ∙ ap (λ (l : List (ℕ × ℕ)). pairs_of before ++ l) (pair_one (is_ok a) pid n s is ∙ ap (λ (b : Bool). cond b ((pid, n) ∷ []) []) ok);
      joined = λ k.
          to k
          ∙ ap (λ (m : ℕ). cond (is_ok a && eqb k pid) (Some m) (joined before k)) is
          ∙ ap (λ (b : Bool). cond (b && eqb k pid) (Some n) (joined before k)) ok;
      slots = refl;
      shelf = refl;
      profile = refl;
      tag = refl;
    }
