-- Each call for service 0 makes of a state what its definition says.
use Rattle.std.proofs.Common.{◌≡◌, ℕ, List, [], Some, None, Option, sym, ap, ◌∙◌}
use Rattle.engine.specs.Calls.{Answer, Joins, Loads, Picks}
use Rattle.engine.specs.Model.{Model}
use Rattle.shelf.specs.Onward.{after_put}
use Rattle.word.specs.declared.parity.Parity.{Parity}
use Rattle.wire.specs.States.{State, after_join, after_load, after_pick}

pub joined : (before after : Model) (pid : ℕ) (r : Answer) → Joins before 0 pid r after → after ≡ after_join before pid r
joined before after pid r j = λ i. record {
  profile = j.profile i;
  shelf = j.shelf i;
  slots = j.slots i;
  components = j.components i;
  joined = λ k. j.joined k i;
  tag = j.tag i;
}

-- what two shelves name is the same if both name it
pub named : (f g : ℕ → List ℕ → ℕ) → ◌≡◌ {A = Option (ℕ → List ℕ → ℕ)} (Some f) (Some g) → f ≡ g
named f g e = ap taken_out e
  where
    taken_out : Option (ℕ → List ℕ → ℕ) → ℕ → List ℕ → ℕ
    taken_out (Some h) = h
    taken_out None = f

-- the next of a shelf is the one after no further moment
pub loaded : (before after : State) (p : Parity) (entry : List ℕ) (moment : ℕ) (r : Answer) → ((k : ℕ) → after.next_after k [] ≡ after.model.shelf.next k)
    → Loads before.model 0 p entry moment r after.model → Some after.next_after ≡ after_put r 0 moment (Some before.next_after) → after ≡ after_load before p entry moment r
loaded before after p entry moment r present l later =
    let after_it = named after.next_after _ later in
    λ i. record {
      model = record {
        profile = l.profile i;
        shelf = record {
          reads = l.reads i;
          held = λ k q. l.held k q i;
          next = λ k. (sym (present k) ∙ ap (λ (f : ℕ → List ℕ → ℕ). f k []) after_it) i;
        };
        slots = l.slots i;
        components = l.components i;
        joined = l.joined i;
        tag = l.tag i;
      };
      next_after = after_it i;
    }

pub picked : (before after : Model) (p : Parity) (r : Answer) → Picks before 0 p r after → after ≡ after_pick before p r
picked before after p r h = λ i. record {
  profile = h.profile i;
  shelf = h.shelf i;
  slots = λ k. h.slots k i;
  components = h.components i;
  joined = h.joined i;
  tag = h.tag i;
}

-- a state of which both parts are known
pub both : (m m' : Model) (f f' : ℕ → List ℕ → ℕ) → m ≡ m' → f ≡ f' → ◌≡◌ {A = State} (record { model = m; next_after = f }) (record { model = m'; next_after = f' })
both m m' f f' e later = λ i. record { model = e i; next_after = later i }
