use Rattle.std.proofs.Common.{◌≡◌, ℕ, ◌+◌, ◌*◌, ◌%◌, ◌++◌, length, get_or, take, drop, set, refl, ap, ◌∙◌, arith}
use Rattle.cipher.specs.Profiles.{meaning}
use Rattle.packet.specs.Header.{control_bits, with_control}
use Rattle.packet.specs.declared.header.ScramblingControl.{ScramblingControl}
use Rattle.batch.specs.Batches.{control_after, payload_after}
use Rattle.batch.proofs.Payloads.{marked_put}
use Rattle.batch.proofs.pass.Pass.change.Goals as goal

pub returns : goal.returns
returns g c =
    let m = meaning g.C.Cipher g.T.TailRule c.args.self.now.profile.now in
    let how = c.args.how in
    let p = c.args.packet.now in
    let marked = c.set_control.new.packet in
    let is = c.set_control.ensures ∙ ap (λ (k : ScramblingControl). with_control k p) c.control_after.ensures in
    let long : length marked ≡ 188 = c.set_control.auto.packet ∙ c.requires.size in
    let f = payload_after c.args.self.now.direction m how.word in
    let v = control_bits (control_after c.args.self.now.direction how.parity) * 64 + get_or p 3 0 % 64 in
    marked_put f p marked c.process_payload.new.payload _ (length marked) v refl (omega arith) (omega arith) is (c.process_payload.ensures.after how.word c.requires.prepared)
    ∙ ap (λ (a : ℕ). take a (set p 3 v) ++ f (drop a p)) (grind arith)
