-- What a table holds and what its calls answer.
use Rattle.std.specs.Prelude.{ℕ, cond, not, ◌||◌, List, length, is_some, Some, None, Ok, Err, filter, Option, Result, ◌==◌, nat_lt}
use Rattle.component.specs.Rows.{joined_in}
use Rattle.component.specs.declared.component.Component.{Component}
use Rattle.component.specs.declared.components.Components.{Components}
use Rattle.component.specs.declared.faults.ComponentFault.{ComponentFault}
use Rattle.component.specs.declared.faults.ComponentFault.TheVariants.{OutOfRange, Joined, Full}

-- the components of a table, in the order in which they were added
unfoldable pub components_of : Components → List Component
components_of t = t.rows.items

-- the number of the service that a PID is joined to
unfoldable pub joined : Components → ℕ → Option ℕ
joined t pid = joined_in (components_of t) pid

-- how many components there are
unfoldable pub count : Components → ℕ
count t = length (components_of t)

-- the answer to a component that is to be added: the PID's range, then a PID that is joined, then a table that is full
abbrev pub add_answer : Components → ℕ → Result (Unit {0}) ComponentFault
add_answer t pid =
    cond (nat_lt pid 32 || nat_lt 8190 pid) (Err OutOfRange) (cond (is_some (joined t pid)) (Err Joined) (cond (nat_lt (count t) 64) (Ok tt) (Err Full)))

-- the components of other PIDs
abbrev pub other_pids : ℕ → List Component → List Component
other_pids pid cs = filter (λ c. not (c.pid == pid)) cs

-- the components of other services
abbrev pub other_services : ℕ → List Component → List Component
other_services n cs = filter (λ c. not (c.service.number == n)) cs

-- what a PID is joined to once a service's components are gone
abbrev pub without_service : ℕ → Option ℕ → Option ℕ
without_service n None = None
without_service n (Some m) = cond (m == n) None (Some m)
