-- What an accepted component finds.
use Rattle.std.proofs.Common.{◌≡◌, ℕ, ◌<◌, None, Ok, arith}
use Rattle.std.proofs.lemmas.Bool.Decides.{nat_tests}
use Rattle.std.proofs.lemmas.Grind.{common_steps}
use Rattle.component.specs.declared.components.Components.{Components}
use Rattle.component.specs.Table.{joined, count, add_answer}

-- a component that is added has a PID that is not joined, and finds a free row
pub admitted : (t : Components) (pid : ℕ) → Ok tt ≡ add_answer t pid → (joined t pid ≡ None) × (count t < 64)
admitted t pid e = grind (arith, nat_tests, common_steps)
