-- The fields of an input: its first one, and then those of the bytes behind it.
use Rattle.std.proofs.Common.{◌≡◌, ℕ, zero, suc, ◌+◌, ◌-◌, ◌<◌, ◌≤◌, Bool, true, false, cond, List, [], ◌∷◌, length, drop, refl, ap, ◌∙◌, arith, length-drop}
use Rattle.wire.specs.Fields.{Field, stated, holds_field, first_field, fields_within, rest_within, fields_in, rest_in}

-- as many steps as bytes are enough
enough_fields : (n k : ℕ) (xs : List ℕ) → length xs ≤ n → length xs ≤ k → fields_within n xs ≡ fields_within k xs
enough_fields zero zero xs h l = refl
enough_fields zero (suc k) [] h l = refl
enough_fields zero (suc k) (x ∷ xs) h l = absurd (omega arith)
enough_fields (suc n) zero [] h l = refl
enough_fields (suc n) zero (x ∷ xs) h l = absurd (omega arith)
enough_fields (suc n) (suc k) xs h l =
    let d : length (drop (3 + stated xs) xs) ≡ length xs - (3 + stated xs) = length-drop (3 + stated xs) xs in
    ap (λ (fs : List Field). cond (holds_field xs) (first_field xs ∷ fs) []) (enough_fields n k (drop (3 + stated xs) xs) (omega arith) (omega arith))

enough_rest : (n k : ℕ) (xs : List ℕ) → length xs ≤ n → length xs ≤ k → rest_within n xs ≡ rest_within k xs
enough_rest zero zero xs h l = refl
enough_rest zero (suc k) [] h l = refl
enough_rest zero (suc k) (x ∷ xs) h l = absurd (omega arith)
enough_rest (suc n) zero [] h l = refl
enough_rest (suc n) zero (x ∷ xs) h l = absurd (omega arith)
enough_rest (suc n) (suc k) xs h l =
    let d : length (drop (3 + stated xs) xs) ≡ length xs - (3 + stated xs) = length-drop (3 + stated xs) xs in
    ap (λ (r : List ℕ). cond (holds_field xs) r xs) (enough_rest n k (drop (3 + stated xs) xs) (omega arith) (omega arith))

-- what an input that begins with a whole field comes to
pub record Begins (input behind : List ℕ) : Type 0 where
  pub fields : fields_in input ≡ first_field input ∷ fields_in behind
  pub rest : rest_in input ≡ rest_in behind

pub begins : (input : List ℕ) → holds_field input ≡ true → Begins input (drop (3 + stated input) input)
begins [] whole = cc
begins (x ∷ xs) whole =
    let input = x ∷ xs in
    let behind = drop (3 + stated input) input in
    let d : length behind ≡ length input - (3 + stated input) = length-drop (3 + stated input) input in
    record {
      fields =
          ap (λ (b : Bool). cond b (first_field input ∷ fields_within (length xs) behind) []) whole
          ∙ ap (λ (fs : List Field). first_field input ∷ fs) (enough_fields (length xs) (length behind) behind (omega arith) (omega arith));
      rest =
          ap (λ (b : Bool). cond b (rest_within (length xs) behind) input) whole
          ∙ enough_rest (length xs) (length behind) behind (omega arith) (omega arith);
    }

pub shorter : (input : List ℕ) → holds_field input ≡ true → length (drop (3 + stated input) input) < length input
shorter [] whole = cc
shorter (x ∷ xs) whole =
    let input = x ∷ xs in
    let d : length (drop (3 + stated input) input) ≡ length input - (3 + stated input) = length-drop (3 + stated input) input in
    omega arith

-- and one that does not
pub record Ends (input : List ℕ) : Type 0 where
  pub fields : fields_in input ≡ []
  pub rest : rest_in input ≡ input

pub ends : (input : List ℕ) → holds_field input ≡ false → Ends input
ends [] cut = record { fields = refl; rest = refl }
ends (x ∷ xs) cut =
    let input = x ∷ xs in
    let behind = drop (3 + stated input) input in
    record {
      fields = ap (λ (b : Bool). cond b (first_field input ∷ fields_within (length xs) behind) []) cut;
      rest = ap (λ (b : Bool). cond b (rest_within (length xs) behind) input) cut;
    }
