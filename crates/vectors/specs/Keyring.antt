-- What a keyring of one word answers.
use Rattle.std.specs.Prelude.{ℕ, cond, Some, None, Option, ◌==◌}
use Rattle.batch.specs.Plan.{Keys}
use Rattle.word.specs.declared.parity.Parity.{Parity}
use Rattle.word.specs.declared.parity.Parity.TheVariants.{Even, Odd}
use Rattle.word.specs.declared.word.Word.{Word}

-- one PID is joined to service 0
abbrev pub joined_to : ℕ → ℕ → Option ℕ
joined_to own pid = cond (own == pid) (Some 0) None

-- the word is held under one parity
abbrev pub held_under : Parity → Word → Parity → Option Word
held_under Even w Even = Some w
held_under Even w Odd = None
held_under Odd w Even = None
held_under Odd w Odd = Some w

-- what the whole keyring means
abbrev pub one_word : Word → ℕ → Parity → Keys
one_word w pid q = record { joined = joined_to pid; picked = λ n. Some q; held = λ n asked. held_under q w asked }
