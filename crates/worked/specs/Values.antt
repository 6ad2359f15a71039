-- Worked values, each from the definitions that the contracts cite.
use Rattle.std.specs.Prelude.{◌≡◌, ℕ, ◌-◌, ◌/◌, ◌%◌, List, [], ◌∷◌, Some, None, Ok, Err, Option, Result, slice_index_or}
use Rattle.batch.specs.Batches.{control_after}
use Rattle.cipher.specs.declared.direction.Direction.TheVariants.{Scramble}
use Rattle.packet.specs.Faults.{packet_refusal}
use Rattle.packet.specs.Header.{adaptation_of, start_of, with_control}
use Rattle.packet.specs.declared.faults.HeaderFault.{HeaderFault}
use Rattle.shelf.specs.Meaning.{ShelfMeaning, put_answer}
use Rattle.shelf.specs.PacingRule.{pace_by}
use Rattle.shelf.specs.declared.faults.ShelfFault.TheVariants.{TooSoon}
use Rattle.word.specs.Words.{word_of}
use Rattle.word.specs.declared.parity.Parity.TheVariants.{Even, Odd}

-- a payload by its length, and its blocks and tail at a block's width
pub record Payload (bytes width blocks tail : ℕ) : Type 0 where
  pub whole : bytes / width ≡ blocks
  pub rest : bytes % width ≡ tail

-- the payload that a packet with this adaptation control and adaptation length has
abbrev pub Holds : ℕ → ℕ → ℕ → Type 0
Holds control n bytes = start_of (adaptation_of control) n ≡ Ok (Some (188 - bytes))

-- the packet with this adaptation control and adaptation length is refused with this number
abbrev pub refused_with : Result (Option ℕ) HeaderFault → ℕ
refused_with (Ok o) = 0
refused_with (Err f) = (packet_refusal (record { packet = 0; cause = f })).number

-- a plain shelf with the paces of service 0 after words at these moments, the latest first
abbrev pub paced_plain : List ℕ → ShelfMeaning
paced_plain moments = record { reads = word_of; held = λ k q. None; next = λ k. (pace_by moments).next }

pub record WorkedValues : Type 0 where
  -- adaptation control 01: 184 bytes, 11 blocks and a tail of 8 for AES, 23 blocks and none for DES
  pub control01 : (n : ℕ) → Holds 1 n 184
  pub control01_aes : Payload 184 16 11 8
  pub control01_des : Payload 184 8 23 0
  -- adaptation control 11
  pub control11_0 : Holds 3 0 183
  pub control11_167 : Holds 3 167 16
  pub control11_167_aes : Payload 16 16 1 0
  pub control11_168 : Holds 3 168 15
  pub control11_168_aes : Payload 15 16 0 15
  pub control11_182 : Holds 3 182 1
  -- refused: control 11 with 183, control 10 with 182
  pub control11_183 : refused_with (start_of (adaptation_of 3) 183) ≡ 15
  pub control10_182 : refused_with (start_of (adaptation_of 2) 182) ≡ 15
  -- byte 3 of 0x15 becomes 0x95 even and 0xD5 odd
  pub even : slice_index_or (with_control (control_after Scramble Even) (0x47 ∷ 0 ∷ 0 ∷ 0x15 ∷ [])) 3 0 ≡ 0x95
  pub odd : slice_index_or (with_control (control_after Scramble Odd) (0x47 ∷ 0 ∷ 0 ∷ 0x15 ∷ [])) 3 0 ≡ 0xd5
  -- a fresh pacing shelf takes a word at 1000, refuses one at 1009 with next 1010, and takes one at 1010
  pub first : put_answer (paced_plain []) 0 1000 ≡ Ok tt
  pub soon : put_answer (paced_plain (1000 ∷ [])) 0 1009 ≡ Err (TooSoon 0 1010)
  pub due : put_answer (paced_plain (1000 ∷ [])) 0 1010 ≡ Ok tt
  -- after ten words at 1200, 1210, up to 1290 it refuses one at 1300 with next 1500
  pub eleventh :
      put_answer (paced_plain (1290 ∷ 1280 ∷ 1270 ∷ 1260 ∷ 1250 ∷ 1240 ∷ 1230 ∷ 1220 ∷ 1210 ∷ 1200 ∷ [])) 0 1300 ≡ Err (TooSoon 0 1500)
