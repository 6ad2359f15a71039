use Rattle.std.proofs.Common.{◌≡◌, true, reverse, vec_items, vec_len}
use Rattle.engine.specs.Model.{slots_of}
use Rattle.reel.specs.Held.{closable}
use Rattle.reel.proofs.services.Services.finish.Given as goal

abbrev pub invariant-loop-grant : goal.invariant-loop-grant
invariant-loop-grant g l = closable l.engine.tag (slots_of l.engine.desk) (reverse (vec_items l.grants)) ≡ true

abbrev pub decreases-loop-grant : goal.decreases-loop-grant
decreases-loop-grant g l = vec_len l.grants
