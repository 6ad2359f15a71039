-- Where two lists differ: at the first unequal pair, else where the shorter ends.
use Rattle.std.proofs.Common.{◌≡◌, ℕ, ◌+◌, min, Bool, true, false, not, cond, eqb, List, [], ◌∷◌, length, Some, Option, sym, refl, ap, ◌∙◌, arith}
use Rattle.std.proofs.Math.Dec.{eqb-zero-suc, eqb-suc-zero, eqb-suc-suc}
use Rattle.std.specs.Bool.{then_some}
use Rattle.std.specs.List.{position_from, zip}
use Rattle.std.specs.Option.{option_or}
use Rattle.vectors.specs.Vectors.{differs_from}

abbrev pub unequal : ℕ × ℕ → Bool
unequal p = not (eqb p.0 p.1)

-- one step: equal bytes go on, others stop here
step : (i : ℕ) (b : Bool) (d p e : Option ℕ) → d ≡ option_or p e → cond b d (Some i) ≡ option_or (cond (not b) (Some i) p) e
step i true d p e same = same
step i false d p e same = refl

pub differs_by_pairs : (i : ℕ) (xs ys : List ℕ)
    → differs_from i xs ys ≡ option_or (position_from unequal i (zip xs ys)) (then_some (not (eqb (length xs) (length ys))) (i + min (length xs) (length ys)))
differs_by_pairs i [] [] = refl
differs_by_pairs i [] (y ∷ ys) =
    let end : i ≡ i + min 0 (length (y ∷ ys)) = omega arith in
    ap Some end ∙ ap (λ (b : Bool). then_some (not b) (i + min 0 (length (y ∷ ys)))) (sym (eqb-zero-suc (length ys)))
differs_by_pairs i (x ∷ xs) [] =
    let end : i ≡ i + min (length (x ∷ xs)) 0 = omega arith in
    ap Some end ∙ ap (λ (b : Bool). then_some (not b) (i + min (length (x ∷ xs)) 0)) (sym (eqb-suc-zero (length xs)))
differs_by_pairs i (x ∷ xs) (y ∷ ys) =
    let n = i + min (length (x ∷ xs)) (length (y ∷ ys)) in
    let end : i + 1 + min (length xs) (length ys) ≡ n = omega arith in
    let pairs = position_from unequal (i + 1) (zip xs ys) in
    step i (eqb x y) (differs_from (i + 1) xs ys) pairs (then_some (not (eqb (length (x ∷ xs)) (length (y ∷ ys)))) n)
    (differs_by_pairs (i + 1) xs ys
    ∙ ap (λ (k : ℕ). option_or pairs (then_some (not (eqb (length xs) (length ys))) k)) end
    ∙ ap (λ (b : Bool). option_or pairs (then_some (not b) n)) (sym (eqb-suc-suc (length xs) (length ys))))
