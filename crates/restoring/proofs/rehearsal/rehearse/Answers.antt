use Rattle.std.proofs.lemmas.Bool.{false≢true}
use Rattle.std.proofs.Common.{Ok}
use Rattle.batch.specs.Plan.{keys_of}
use Rattle.cipher.specs.Profiles.{meaning}
use Rattle.restoring.proofs.Rehearsed.{rehearsed}
use Rattle.restoring.proofs.rehearsal.rehearse.Goals as goal

pub returns-in_err-process : goal.returns-in_err-process
returns-in_err-process g c =
    let p = c.args.profile.now in
    let again = rehearsed (meaning g.C.Cipher g.T.TailRule p) (keys_of g.K.Keyring c.args.keys.now)
    c.args.area.now c.args.batch.now c.process.new.area c.process.new.batch c.process-2.new.area c.process-2.new.batch
    c.in_ok-counts.counts _
    (g.met.C.Cipher.sizes, g.met.C.Cipher.inverts p.cipher, g.met.T.TailRule.inverts p.tail) (p.long, c.all_bytes.ensures)
    c.process.auto.area c.process.auto.batch c.in_ok-counts.ensures c.in_err-process.ensures in
    absurd (false≢true again.0)

pub returns : goal.returns
returns g c =
    let p = c.args.profile.now in
    let there = c.in_ok-counts.ensures in
    let again = rehearsed (meaning g.C.Cipher g.T.TailRule p) (keys_of g.K.Keyring c.args.keys.now)
    c.args.area.now c.args.batch.now c.process.new.area c.process.new.batch c.process-2.new.area c.process-2.new.batch
    c.in_ok-counts.counts (Ok c.in_ok-process.field-0)
    (g.met.C.Cipher.sizes, g.met.C.Cipher.inverts p.cipher, g.met.T.TailRule.inverts p.tail) (p.long, c.all_bytes.ensures)
    c.process.auto.area c.process.auto.batch there c.in_ok-process.ensures in
    record { answer = there.answer; same = again.1; wiped = again.2 }
