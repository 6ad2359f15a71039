-- Components in a list, and what a table of them keeps.
use Rattle.std.specs.Prelude.{ℕ, ◌≤◌, ◌≢◌, List, length, Option, ◌==◌}
use Rattle.std.specs.List.{find, AllPairs}
use Rattle.std.specs.Option.{option_map}
use Rattle.component.specs.declared.component.Component.{Component}

-- the number of the service that a PID is joined to
abbrev pub joined_in : List Component → ℕ → Option ℕ
joined_in cs pid = option_map (λ c. c.service.number) (find (λ c. c.pid == pid) cs)

-- no PID stands twice
abbrev pub Apart : List Component → Type 0
Apart cs = AllPairs (λ a b. a.pid ≢ b.pid) cs

-- a table holds at most 64 components
abbrev pub Few : List Component → Type 0
Few cs = length cs ≤ 64
