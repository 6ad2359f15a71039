-- The laws of the tables, each by one computed test.
use Rattle.std.proofs.Common.{◌≡◌, ℕ, ◌+◌, ◌*◌, ◌%◌, ◌<◌, ◌≤◌, Bool, cond, T, eqb, ltb, leb, List, [], length, get_or, refl, eqb→eq, ltb→lt, leb→le}
use Rattle.std.specs.List.{AllByRecursion}
use Rattle.std.proofs.ByRecursion.{All-weaker}
use Rattle.des.specs.Laws.{times, Permutes, expanded, Lawful}
use Rattle.des.specs.Tables.{IP_table, IP⁻¹_table, E_table, P_table, PC_1_table, PC_2_table, left_shifts, S_tables}
use Rattle.des.proofs.Inverts.{IP⁻¹_IP, IP_IP⁻¹}
use Rattle.des.proofs.Tested.{both, both_left, both_right, every, tested_below, below, tested_of}

permutes : (n : ℕ) (table : List ℕ) → length table ≡ n → T (every (λ t. eqb (times (t + 1) table) 1) 0 n) → Permutes n table
permutes n table e t = (e, below (λ t. times (t + 1) table) (λ t. 1) n t)

expansion : (i j : ℕ) → i < 8 → j < 6 → get_or E_table (6 * i + j) 0 ≡ expanded i j
unfolding E_table
expansion i j h l =
    below (λ j. get_or E_table (6 * i + j) 0) (expanded i) 6
    (tested_below (λ i. every (λ j. eqb (get_or E_table (6 * i + j) 0) (expanded i j)) 0 6) 8 tt i h) j l

row_of : ℕ → ℕ → List ℕ
row_of i row = get_or (get_or S_tables i []) row []

rows : (i row : ℕ) → i < 8 → row < 4 → (length (row_of i row) ≡ 16) × ((x : ℕ) → x < 16 → times x (row_of i row) ≡ 1)
unfolding S_tables row_of
rows i row h l =
    let whole : ℕ → ℕ → Bool = λ i row. eqb (length (row_of i row)) 16 in
    let once : ℕ → ℕ → Bool = λ i row. every (λ x. eqb (times x (row_of i row)) 1) 0 16 in
    let t : T (both (whole i row) (once i row)) =
    tested_below (λ row. both (whole i row) (once i row)) 4 (tested_below (λ i. every (λ row. both (whole i row) (once i row)) 0 4) 8 tt i h) row l in (
      eqb→eq (length (row_of i row)) 16 (both_left (whole i row) (once i row) t),
      below (λ x. times x (row_of i row)) (λ x. 1) 16 (both_right (whole i row) (once i row) t),
    )

choice2 : AllByRecursion (λ t. (0 < t) × (t ≤ 56) × (times t PC_2_table ≡ 1)) PC_2_table
unfolding PC_2_table
choice2 =
    let p : ℕ → Bool = λ t. both (both (ltb 0 t) (leb t 56)) (eqb (times t PC_2_table) 1) in
    All-weaker (λ t. T (p t)) (λ t. (0 < t) × (t ≤ 56) × (times t PC_2_table ≡ 1))
    (λ t h.
    let near : T (both (ltb 0 t) (leb t 56)) = both_left (both (ltb 0 t) (leb t 56)) (eqb (times t PC_2_table) 1) h in (
      ltb→lt 0 t (both_left (ltb 0 t) (leb t 56) near),
      leb→le t 56 (both_right (ltb 0 t) (leb t 56) near),
      eqb→eq (times t PC_2_table) 1 (both_right (both (ltb 0 t) (leb t 56)) (eqb (times t PC_2_table) 1) h),
    ))
    PC_2_table (tested_of p PC_2_table tt)

pub lawful : Lawful
unfolding IP_table IP⁻¹_table E_table P_table PC_1_table PC_2_table left_shifts S_tables row_of
lawful =
    record {
      inverses = λ x h. (IP⁻¹_IP x h, IP_IP⁻¹ x h);
      initial = permutes 64 IP_table refl tt;
      inverse = permutes 64 IP⁻¹_table refl tt;
      permutation = permutes 32 P_table refl tt;
      expansion = (refl, expansion);
      selection = rows;
      choice1 = (refl, below (λ t. times (t + 1) PC_1_table) (λ t. cond (eqb ((t + 1) % 8) 0) 0 1) 64 tt);
      choice2 = (refl, choice2);
      shifts = (refl, refl);
    }
