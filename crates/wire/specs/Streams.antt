-- An input that comes field by field is answered as the whole of it.
use Rattle.std.specs.Prelude.{◌≡◌, ℕ, ◌+◌, ◌≤◌, List, [], ◌∷◌, ◌++◌, length}
use Rattle.wire.specs.Fields.{stated, lacking, fields_in, state_through, output_to}
use Rattle.wire.specs.Programs.{opening}
use Rattle.wire.specs.States.{State}

-- the bytes of one field, and nothing behind them
abbrev pub OneField : List ℕ → Type 0
OneField bytes = (3 ≤ length bytes) × (length bytes ≡ 3 + stated bytes)

pub record FieldByField : Type 0 where
  -- three bytes, and as many more as they lack, are one field
  pub complete : (head value : List ℕ) → length head ≡ 3 → length value ≡ lacking head → OneField (head ++ value)
  -- a field is answered as if nothing came behind it, and what comes behind it as at the state that it leaves
  pub output : (s : State) (first rest : List ℕ) → OneField first → output_to s (first ++ rest) ≡ output_to s first ++ output_to (state_through s (fields_in first)) rest
  pub state : (s : State) (first rest : List ℕ) → OneField first → state_through s (fields_in (first ++ rest)) ≡ state_through (state_through s (fields_in first)) (fields_in rest)

-- a pick with no word held, and then an empty batch: 11 and accepted
abbrev pub WorkedInput : Type 0
WorkedInput =
    output_to opening (0x03 ∷ 0x00 ∷ 0x01 ∷ 0x00 ∷ 0x04 ∷ 0x00 ∷ 0x00 ∷ []) ≡ 0x83 ∷ 0x00 ∷ 0x01 ∷ 0x0b ∷ 0x84 ∷ 0x00 ∷ 0x01 ∷ 0x00 ∷ []
