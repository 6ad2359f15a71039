use Rattle.std.proofs.Common.{rules}
use Rattle.engine.specs.Runs.{made}
use Rattle.engine.proofs.engine.Engine.make.Goals as goal

pub returns-clause-runs : goal.returns-clause-runs
returns-clause-runs g c = λ fresh. made (search rules) fresh
