-- What a profile means: its cipher's and its tail rule's functions and the initial vector.
use Rattle.std.specs.Prelude.{ℕ, ◌/◌, cond, List, length, take, Ok, Err, Result, ◌==◌}
use Rattle.cipher.specs.Chain.{chained, unchained}
use Rattle.cipher.specs.declared.cipher.Cipher.{Ghosts as CipherGhosts}
use Rattle.cipher.specs.declared.profile.Profile.{Profile}
use Rattle.cipher.specs.declared.profile.chaining.ScheduleLength.{ScheduleLength}
use Rattle.cipher.specs.declared.tail.TailRule.{Ghosts as TailGhosts}
use Rattle.word.specs.declared.word.Word.{Word}

pub record Meaning : Type 0 where
  pub width : ℕ
  pub schedule_length : ℕ
  pub schedule : Word → List ℕ
  pub E : Word → List ℕ → List ℕ
  pub D : Word → List ℕ → List ℕ
  pub on : List ℕ → List ℕ → List ℕ
  pub off : List ℕ → List ℕ → List ℕ
  pub iv : List ℕ

abbrev pub meaning : {C T : Type 0} → CipherGhosts C → TailGhosts T → Profile C T → Meaning
meaning c t p = record {
  width = c.WIDTH;
  schedule_length = c.SCHEDULE;
  schedule = c.schedule p.cipher;
  E = c.E p.cipher;
  D = c.D p.cipher;
  on = t.on p.tail;
  off = t.off p.tail;
  iv = p.iv;
}

-- a payload scrambled under a word: its whole blocks chained from the first bytes of the initial vector, then its tail
abbrev pub scrambled : Meaning → Word → List ℕ → List ℕ
scrambled m w p = chained m.width (m.E w) m.on (length p / m.width) (take m.width m.iv) p

-- a payload descrambled under a word
abbrev pub descrambled : Meaning → Word → List ℕ → List ℕ
descrambled m w p = unchained m.width (m.E w) (m.D w) m.off (length p / m.width) (take m.width m.iv) p

-- the test of an area's length
abbrev pub tested : ℕ → ℕ → Result (Unit {0}) ScheduleLength
tested length schedule_length = cond (length == schedule_length) (Ok tt) (Err (record { length = length }))
