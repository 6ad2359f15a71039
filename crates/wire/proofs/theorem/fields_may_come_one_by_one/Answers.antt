use Rattle.std.proofs.Common.{refl}
use Rattle.wire.proofs.Streams.{field_by_field}
use Rattle.wire.proofs.theorem.fields_may_come_one_by_one.Goals as goal

pub returns : goal.returns
returns c = record { streams = field_by_field; worked = refl }
