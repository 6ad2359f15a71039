-- The key area of the program's batches.
use Rattle.std.specs.Prelude.{ℕ, List, replicate}

-- as long as the schedule of AES-128, and zero between the calls
unfoldable pub key_area : List ℕ
key_area = replicate 176 0
