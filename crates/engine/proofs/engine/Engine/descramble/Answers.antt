use Rattle.std.proofs.Common.{rules}
use Rattle.engine.specs.Runs.{more}
use Rattle.engine.proofs.engine.Engine.descramble.Goals as goal

pub returns-in_err-counts-clause-runs : goal.returns-in_err-counts-clause-runs
returns-in_err-counts-clause-runs g c = λ given calls run. more run (search rules)

pub returns-clause-runs : goal.returns-clause-runs
returns-clause-runs g c = λ given calls run. more run (search rules)
