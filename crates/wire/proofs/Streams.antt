-- An input that comes field by field is answered as the whole of it.
use Rattle.std.proofs.Common.{◌≡◌, ℕ, ◌+◌, ◌-◌, ◌*◌, Bool, true, ◌&&◌, leb, List, [], ◌∷◌, ◌++◌, length, take, drop, sym, ap, ◌∙◌, append_assoc, append-nil, arith, length-append}
use Rattle.std.proofs.lemmas.List.{drop-drop, drop_at, take_at}
use Rattle.std.proofs.lemmas.Bool.Decides.{nat_tests}
use Rattle.wire.specs.Fields.{Field, asked, answer, answers, state_through, lacking, holds_field, first_field, fields_in, rest_in, cut_answer, output_to}
use Rattle.wire.specs.States.{State, state_after}
use Rattle.wire.specs.Streams.{OneField, FieldByField}
use Rattle.wire.proofs.Fields.{begins}

-- a field of tag a, length bytes b and c and value v, with other bytes behind it
module _ (a b c : ℕ) (v rest : List ℕ) (long : length v ≡ b * 256 + c) where
  abbrev whole : List ℕ
  whole = a ∷ b ∷ c ∷ (v ++ rest)

  abbrev field : Field
  field = record { tag = a; value = v }

  holds : holds_field whole ≡ true
  holds =
      let n : length (v ++ rest) ≡ length v + length rest = length-append v rest in
      let three : leb 3 (length whole) ≡ true = grind (arith, nat_tests) in
      let all : leb (3 + (b * 256 + c)) (length whole) ≡ true = grind (arith, nat_tests) in
      ap (λ (x : Bool). x && leb (3 + (b * 256 + c)) (length whole)) three ∙ all

  value : take (b * 256 + c) (v ++ rest) ≡ v
  value = take_at v rest (b * 256 + c) long

  behind : drop (3 + (b * 256 + c)) whole ≡ rest
  behind = sym (drop-drop (b * 256 + c) 3 whole) ∙ drop_at v rest (b * 256 + c) long

  pub fields_of : fields_in whole ≡ field ∷ fields_in rest
  fields_of =
      (begins whole holds).fields
      ∙ ap (λ (l : List ℕ). first_field whole ∷ fields_in l) behind
      ∙ ap (λ (x : List ℕ). record { tag = a; value = x } ∷ fields_in rest) value

  pub rest_of : rest_in whole ≡ rest_in rest
  rest_of = (begins whole holds).rest ∙ ap rest_in behind

-- what a field and the bytes behind it come to
record Apart (m : State) (first rest : List ℕ) : Type 0 where
  output : output_to m (first ++ rest) ≡ output_to m first ++ output_to (state_through m (fields_in first)) rest
  state : state_through m (fields_in (first ++ rest)) ≡ state_through (state_through m (fields_in first)) (fields_in rest)

cut_off : (m : State) (a b c : ℕ) (v rest : List ℕ) → length v ≡ b * 256 + c → Apart m (a ∷ b ∷ c ∷ v) rest
cut_off m a b c v rest long =
    let f : Field = record { tag = a; value = v } in
    let first = a ∷ b ∷ c ∷ v in
    let m' = state_after m (asked f) in
    let alone : fields_in first ≡ f ∷ [] = ap (λ (l : List ℕ). fields_in (a ∷ b ∷ c ∷ l)) (sym (append-nil v)) ∙ fields_of a b c v [] long in
    let nothing : rest_in first ≡ [] = ap (λ (l : List ℕ). rest_in (a ∷ b ∷ c ∷ l)) (sym (append-nil v)) ∙ rest_of a b c v [] long in
    let one : output_to m first ≡ answer m f =
    ap (λ (fs : List Field). answers m fs ++ cut_answer (rest_in first)) alone
    ∙ ap (λ (l : List ℕ). (answer m f ++ []) ++ cut_answer l) nothing
    ∙ append-nil (answer m f ++ [])
    ∙ append-nil (answer m f) in
    let to : state_through m (fields_in first) ≡ m' = ap (state_through m) alone in
    record {
      output =
          ap (λ (fs : List Field). answers m fs ++ cut_answer (rest_in (first ++ rest))) (fields_of a b c v rest long)
          ∙ ap (λ (l : List ℕ). (answer m f ++ answers m' (fields_in rest)) ++ cut_answer l) (rest_of a b c v rest long)
          ∙ append_assoc (answer m f) (answers m' (fields_in rest)) (cut_answer (rest_in rest))
          ∙ ap (λ (l : List ℕ). l ++ output_to m' rest) (sym one)
          ∙ ap (λ (x : State). output_to m first ++ output_to x rest) (sym to);
      state = ap (state_through m) (fields_of a b c v rest long) ∙ ap (λ (x : State). state_through x (fields_in rest)) (sym to);
    }

apart : (m : State) (first rest : List ℕ) → OneField first → Apart m first rest
apart m [] rest one = let short = one.0 in absurd (omega arith)
apart m (a ∷ []) rest one = let short = one.0 in absurd (omega arith)
apart m (a ∷ b ∷ []) rest one = let short = one.0 in absurd (omega arith)
apart m (a ∷ b ∷ c ∷ v) rest one =
    let whole = one.1 in
    let long : length v ≡ b * 256 + c = omega arith in
    cut_off m a b c v rest long

complete : (head value : List ℕ) → length head ≡ 3 → length value ≡ lacking head → OneField (head ++ value)
complete [] value three more = absurd (omega arith)
complete (a ∷ []) value three more = absurd (omega arith)
complete (a ∷ b ∷ []) value three more = absurd (omega arith)
complete (a ∷ b ∷ c ∷ []) value three more = let n : length value ≡ (3 + (b * 256 + c)) - 3 = more in (omega arith, omega arith)
complete (a ∷ b ∷ c ∷ d ∷ head) value three more = absurd (omega arith)

pub field_by_field : FieldByField
field_by_field = record {
  complete = complete;
  output = λ m first rest one. (apart m first rest one).output;
  state = λ m first rest one. (apart m first rest one).state;
}
