-- What a field asks for, in the order of the tests.
use Rattle.std.specs.Prelude.{ℕ, ◌+◌, ◌*◌, Bool, true, false, cond, List, length, take, drop, Ok, Err, Result, ◌==◌, nat_le, slice_index}
use Rattle.cipher.specs.declared.direction.Direction.{Direction}
use Rattle.cipher.specs.declared.direction.Direction.TheVariants as direction
use Rattle.word.specs.declared.parity.Parity.{Parity}
use Rattle.word.specs.declared.parity.Parity.TheVariants.{Even, Odd}
use Rattle.wire.specs.declared.faults.ProgramFault.{ProgramFault}
use Rattle.wire.specs.declared.faults.ProgramFault.TheVariants.{UnknownTag, BadValue}
use Rattle.wire.specs.declared.request.Request.{Request}
use Rattle.wire.specs.declared.request.Request.TheVariants.{Join, Load, Pick, Batch}
use Rattle.wire.specs.declared.request.Tag.{Tag}
use Rattle.wire.specs.declared.request.Tag.TheVariants as tag

-- a request, or why there is none
abbrev pub Asked : Type 0
Asked = Result Request ProgramFault

-- the number of two bytes, the most significant first
abbrev pub two_bytes : List ℕ → ℕ → ℕ
two_bytes bytes i = slice_index bytes i * 256 + slice_index bytes (i + 1)

-- the number of four bytes, the most significant first
abbrev pub four_bytes : List ℕ → ℕ → ℕ
four_bytes bytes i = two_bytes bytes i * 65536 + two_bytes bytes (i + 2)

-- 0 is even and 1 odd
abbrev pub parity_of : ℕ → Result Parity ProgramFault
parity_of byte = cond (byte == 0) (Ok Even) (cond (byte == 1) (Ok Odd) (Err BadValue))

-- a request under a parity
abbrev pub under : Result Parity ProgramFault → (Parity → Request) → Asked
under (Ok p) request = Ok (request p)
under (Err f) request = Err f

-- a value of a stated length
abbrev pub of_length : ℕ → List ℕ → Asked → Asked
of_length n value asked = cond (length value == n) asked (Err BadValue)

-- tag 1: a PID
abbrev pub join_in : List ℕ → Asked
join_in value = of_length 2 value (Ok (Join (two_bytes value 0)))

-- tag 2: a parity, an entry of sixteen bytes and a moment
abbrev pub load_in : List ℕ → Asked
load_in value = of_length 21 value (under (parity_of (slice_index value 0)) (λ p. Load p (take 16 (drop 1 value)) (four_bytes value 17)))

-- tag 3: a parity
abbrev pub pick_in : List ℕ → Asked
pick_in value = of_length 1 value (under (parity_of (slice_index value 0)) Pick)

-- tags 4 and 5: a batch of at most 64 packets
abbrev pub batch_in : List ℕ → Direction → Asked
batch_in value d = cond (nat_le (length value) 12032) (Ok (Batch d)) (Err BadValue)

-- the tag that a byte is
abbrev pub tag_in : ℕ → Result Tag ProgramFault
tag_in byte =
    cond (byte == 1) (Ok tag.Join)
    (cond (byte == 2) (Ok tag.Load)
    (cond (byte == 3) (Ok tag.Pick)
    (cond (byte == 4) (Ok tag.Scramble)
    (cond (byte == 5) (Ok tag.Descramble) (Err UnknownTag)))))

-- what a value asks for under a tag
abbrev pub asked_under : Result Tag ProgramFault → List ℕ → Asked
asked_under (Ok tag.Join) value = join_in value
asked_under (Ok tag.Load) value = load_in value
asked_under (Ok tag.Pick) value = pick_in value
asked_under (Ok tag.Scramble) value = batch_in value direction.Scramble
asked_under (Ok tag.Descramble) value = batch_in value direction.Descramble
asked_under (Err f) value = Err f

-- the tag is looked at first, then the value
abbrev pub request_of : ℕ → List ℕ → Asked
request_of byte value = asked_under (tag_in byte) value

-- the tag of a request
abbrev pub tag_of : Request → Tag
tag_of (Join pid) = tag.Join
tag_of (Load p entry moment) = tag.Load
tag_of (Pick p) = tag.Pick
tag_of (Batch direction.Scramble) = tag.Scramble
tag_of (Batch direction.Descramble) = tag.Descramble

-- the tag of the answer, in a byte: the field's plus 128
abbrev pub answer_byte : Tag → ℕ
answer_byte tag.Join = 1 + 128
answer_byte tag.Load = 2 + 128
answer_byte tag.Pick = 3 + 128
answer_byte tag.Scramble = 4 + 128
answer_byte tag.Descramble = 5 + 128

-- the tag of a request's answer
abbrev pub answer_tag : Request → ℕ
answer_tag r = answer_byte (tag_of r)

-- a batch is answered with its bytes
abbrev pub carries_batch : Request → Bool
carries_batch (Join pid) = false
carries_batch (Load p entry moment) = false
carries_batch (Pick p) = false
carries_batch (Batch d) = true
