-- What opening a service does, where the grant is kept.
use Rattle.std.specs.Prelude.{◌≡◌, ℕ, Ok, Err, Result}
use Rattle.engine.specs.Calls.{Opens}
use Rattle.engine.specs.Model.{Model}
use Rattle.engine.specs.declared.grant.Grant.{Grant}
use Rattle.reel.specs.declared.services.faults.ServicesFault.{ServicesFault}
use Rattle.reel.specs.declared.services.faults.ServicesFault.TheVariants.{Engine, NoMemory}

-- the engine opens the service and gives a grant, or refuses, or is not asked
abbrev pub OpensHeld : Model → ℕ → Result (Unit {0}) ServicesFault → Model → Type 0
OpensHeld before n (Ok u) after = (g : Grant) × Opens before n (Ok g) after
OpensHeld before n (Err (Engine f)) after = Opens before n (Err f) after
OpensHeld before n (Err NoMemory) after = after ≡ before
