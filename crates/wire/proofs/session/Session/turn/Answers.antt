use Rattle.std.proofs.Common.{refl}
use Rattle.cipher.specs.declared.direction.Direction.TheVariants.{Scramble, Descramble}
use Rattle.wire.proofs.Batched.{turned}
use Rattle.wire.proofs.session.Session.turn.Goals as goal

pub invariant_of-self : goal.invariant_of-self
invariant_of-self c =
    let session = c.args.self.now in
    let t = turned Scramble session.engine _ _ _ _ _ session.clean c.scramble.ensures.does c.scramble.ensures.runs in
    record { tagged = session.tagged; service = session.service; opened = session.opened; clean = t.clean }

pub returns-in-Scramble : goal.returns-in-Scramble
returns-in-Scramble c =
    let t = turned Scramble c.args.self.now.engine _ _ _ _ _ c.args.self.now.clean c.scramble.ensures.does c.scramble.ensures.runs in
    rw c.in-Scramble.is (record { answer = t.answer; batch = t.left; same = refl; does = t.does })

pub invariant_of-self-in-Descramble : goal.invariant_of-self-in-Descramble
invariant_of-self-in-Descramble c =
    let session = c.args.self.now in
    let t = turned Descramble session.engine _ _ _ _ _ session.clean c.descramble.ensures.does c.descramble.ensures.runs in
    record { tagged = session.tagged; service = session.service; opened = session.opened; clean = t.clean }

pub returns-in-Descramble : goal.returns-in-Descramble
returns-in-Descramble c =
    let t = turned Descramble c.args.self.now.engine _ _ _ _ _ c.args.self.now.clean c.descramble.ensures.does c.descramble.ensures.runs in
    rw c.in-Descramble.is (record { answer = t.answer; batch = t.left; same = refl; does = t.does })
