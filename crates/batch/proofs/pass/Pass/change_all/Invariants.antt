use Rattle.std.proofs.Common.{◌≡◌, ◌+◌, ◌*◌, map, take, drop}
use Rattle.std.specs.List.{range_with_len, flat_map}
use Rattle.cipher.specs.Profiles.{meaning}
use Rattle.batch.specs.Batches.{changed}
use Rattle.batch.specs.Packets.{packet_at, followed, changed_count, passed_count}
use Rattle.batch.specs.Plan.{keys_of, plan_of}
use Rattle.batch.specs.Prepared.{Prepared}
use Rattle.batch.proofs.pass.Pass.change_all.Given as goal

abbrev pub invariant-loop-i : goal.invariant-loop-i
invariant-loop-i g l =
    let m = meaning g.C.Cipher g.T.TailRule l.self.profile.now in
    let plan = plan_of l.self.direction (keys_of g.K.Keyring l.self.keys.now) in
    (take (188 * l.i) l.batch ≡ flat_map (followed plan (changed l.self.direction m)) (map (packet_at l.initial.batch) (range_with_len 0 l.i)))
    × (drop (188 * l.i) l.batch ≡ drop (188 * l.i) l.initial.batch)
    × (l.changed ≡ changed_count plan (map (packet_at l.initial.batch) (range_with_len 0 l.i)))
    × (l.passed ≡ passed_count plan (map (packet_at l.initial.batch) (range_with_len 0 l.i)))
    × (l.changed + l.passed ≡ l.i)
    × Prepared (g.C.Cipher.schedule l.self.profile.now.cipher) l.prepared l.area
