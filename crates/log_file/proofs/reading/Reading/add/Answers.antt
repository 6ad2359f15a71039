use Rattle.std.proofs.Common.{true, false, sym}
use Rattle.log_file.proofs.Soundness.{sound_kind, sound_pushed}
use Rattle.log_file.proofs.reading.Reading.add.Goals as goal

pub returns-then-not-counts-clause-sound : goal.returns-then-not-counts-clause-sound
returns-then-not-counts-clause-sound c = sound_kind _ _ _ _ c.requires.sound c.requires.kind

pub returns-in_err-push-clause-sound : goal.returns-in_err-push-clause-sound
returns-in_err-push-clause-sound c = sound_pushed _ _ _ _ c.args.line false c.in_err-push.ensures.items c.requires.sound c.requires.kind (sym c.if-not-counts.ensures) c.requires.apart

pub returns-clause-sound : goal.returns-clause-sound
returns-clause-sound c = sound_pushed _ _ _ _ c.args.line true c.in_ok-push.ensures.items c.requires.sound c.requires.kind (sym c.if-not-counts.ensures) c.requires.apart
