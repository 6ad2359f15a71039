-- Known answers: a block enciphered under a key, as published.
use Rattle.std.specs.Prelude.{◌≡◌, ℕ, List}
use Rattle.des.specs.Bits.{groups}
use Rattle.des.specs.Cipher.{enciphered, deciphered}
use Rattle.des.specs.Schedule.{key_schedule}

-- a number of 64 bits as eight bytes
abbrev pub bytes : ℕ → List ℕ
bytes x = groups 8 8 x

-- under the key, the plain block enciphers to the other, and that deciphers to it
abbrev pub Answer : ℕ → ℕ → ℕ → Type 0
Answer key plain cipher =
    (enciphered (key_schedule (bytes key)) (bytes plain) ≡ bytes cipher) × (deciphered (key_schedule (bytes key)) (bytes cipher) ≡ bytes plain)

-- a worked example, and one each of the tests by variable plaintext, variable key, permutation and substitution table of NIST SP 800-17
abbrev pub KnownAnswers : Type 0
KnownAnswers =
    Answer 0x133457799bbcdff1 0x0123456789abcdef 0x85e813540f0ab405
    × Answer 0x0101010101010101 0x8000000000000000 0x95f8a5e5dd31d900
    × Answer 0x8001010101010101 0x0000000000000000 0x95a8d72813daa94d
    × Answer 0x1046913489980131 0x0000000000000000 0x88d55e54f54c97b4
    × Answer 0x7ca110454a1a6e57 0x01a1d6d039776742 0x690f5b0d9a26939b
