-- What each request makes of the program's engine, as a value.
use Rattle.std.specs.Prelude.{ℕ, cond, ◌&&◌, List, [], ◌∷◌, ◌++◌, is_ok, Some, Ok, Err, ◌==◌}
use Rattle.engine.specs.Calls.{Answer, join_answer, load_answer, pick_answer}
use Rattle.engine.specs.Model.{Model}
use Rattle.engine.specs.declared.desk.Slot.TheVariants.{Live}
use Rattle.shelf.specs.Meaning.{ShelfMeaning, here}
use Rattle.word.specs.declared.parity.Parity.{Parity}
use Rattle.wire.specs.Requests.{Asked}
use Rattle.wire.specs.declared.request.Request.TheVariants.{Join, Load, Pick, Batch}

pub record State : Type 0 where
  -- the program's engine
  pub model : Model
  -- the next of each service of its shelf once it took words at further moments, the first one first
  pub next_after : ℕ → List ℕ → ℕ

-- another engine, and the same nexts to come
abbrev pub with_model : State → Model → State
with_model s m = record { model = m; next_after = s.next_after }

-- after a join to service 0 that was answered so
abbrev pub after_join : Model → ℕ → Answer → Model
after_join m pid r = record {
  profile = m.profile;
  shelf = m.shelf;
  slots = m.slots;
  components = m.components ++ cond (is_ok r) ((pid, 0) ∷ []) [];
  joined = λ k. cond (is_ok r && k == pid) (Some 0) (m.joined k);
  tag = m.tag;
}

-- a shelf after a load for service 0 that was answered so
abbrev pub shelf_after_load : State → Parity → List ℕ → ℕ → Answer → ShelfMeaning
shelf_after_load s p entry moment r = record {
  reads = s.model.shelf.reads;
  held = λ k q. cond (is_ok r && here 0 p k q) (Some (s.model.shelf.reads entry)) (s.model.shelf.held k q);
  next = λ k. cond (is_ok r && k == 0) (s.next_after k (moment ∷ [])) (s.next_after k []);
}

abbrev pub after_load : State → Parity → List ℕ → ℕ → Answer → State
after_load s p entry moment r = record {
  model = record {
    profile = s.model.profile;
    shelf = shelf_after_load s p entry moment r;
    slots = s.model.slots;
    components = s.model.components;
    joined = s.model.joined;
    tag = s.model.tag;
  };
  next_after = λ k moments. cond (is_ok r && k == 0) (s.next_after k (moment ∷ moments)) (s.next_after k moments);
}

-- after a pick for service 0 that was answered so
abbrev pub after_pick : Model → Parity → Answer → Model
after_pick m p r = record {
  profile = m.profile;
  shelf = m.shelf;
  slots = λ k. cond (is_ok r && k == 0) (Live (Some p)) (m.slots k);
  components = m.components;
  joined = m.joined;
  tag = m.tag;
}

-- after a field; a batch, and a field that asks for nothing, change nothing
abbrev pub state_after : State → Asked → State
state_after s (Ok (Join pid)) = with_model s (after_join s.model pid (join_answer s.model 0 pid))
state_after s (Ok (Load p entry moment)) = after_load s p entry moment (load_answer s.model 0 moment)
state_after s (Ok (Pick p)) = with_model s (after_pick s.model p (pick_answer s.model 0 p))
state_after s (Ok (Batch d)) = s
state_after s (Err f) = s
