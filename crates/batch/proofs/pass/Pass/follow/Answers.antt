use Rattle.std.proofs.Common.{◌≡◌, Some, Ok, arith, rules}
use Rattle.batch.specs.Plan.{Plan, keys_of, plan_for}
use Rattle.batch.proofs.Plans.{change_inside}
use Rattle.batch.proofs.pass.Pass.follow.Goals as goal
use Rattle.batch.proofs.pass.Pass.follow.Goals.{then-ne, else-ne}

pub change-requires : goal.change-requires
change-requires g c =
    let keys = keys_of g.K.Keyring c.args.self.now.keys.now in
    let answer = c.in-Ok-Some.ensures in
    let planned : ◌≡◌ {A = Plan} (Ok (Some c.in-Ok-Some.how)) (plan_for c.args.self.now.direction keys c.header_of.result) = cc in
    let inside = change_inside c.args.self.now.direction keys c.header_of.result c.in-Ok-Some.how planned in
    record { size = c.requires.size; low = inside.0; high = omega arith; prepared = elim c.if-ne.branch [ then-ne w ↦ search rules | else-ne w ↦ search rules ] }
