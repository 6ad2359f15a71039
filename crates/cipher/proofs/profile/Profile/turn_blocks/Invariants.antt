use Rattle.std.proofs.Common.{◌≡◌, ◌-◌, ◌/◌, ◌%◌, ◌≤◌, ◌++◌, length, take, drop}
use Rattle.cipher.specs.Profiles.{meaning}
use Rattle.cipher.specs.Turns.{turned_blocks}
use Rattle.cipher.proofs.profile.Profile.turn_blocks.Given as goal
use Rattle.word.specs.declared.word.Word.{Word}

abbrev pub invariant-loop-at : goal.invariant-loop-at
invariant-loop-at g l =
    let m = meaning g.C.Cipher g.T.TailRule l.self in record {
      cipher : l.chain.cipher.now ≡ l.self.cipher;
      schedule : l.chain.schedule.now ≡ l.initial.chain.schedule.now;
      at : l.at ≤ l.whole;
      whole : l.whole ≡ length l.payload - length l.payload % m.width;
      left : (length l.payload - l.at) % m.width ≡ length l.payload % m.width;
      turned : (w : Word) → l.initial.chain.schedule.now ≡ m.schedule w →
          take l.at l.payload ++ turned_blocks l.direction m w ((length l.payload - l.at) / m.width) (take m.width l.chain.value) (drop l.at l.payload)
          ≡ turned_blocks l.direction m w (length l.initial.payload / m.width) (take m.width l.initial.chain.value) l.initial.payload;
    }
