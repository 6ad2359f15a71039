use Rattle.std.proofs.Common.{◌≡◌, ℕ, ◌+◌, ◌-◌, ◌^◌, ◌<◌, ◌≤◌, List, [], length, get_or, take, refl, ap, ◌∙◌, lt_of_lt_of_le, arith, pow_mono}
use Rattle.std.specs.List.{AllByRecursion}
use Rattle.std.proofs.ByRecursion.{All-get_or}
use Rattle.std.proofs.lemmas.List.{get_or_read, take_all}
use Rattle.des.specs.Bits.{number, permuted}
use Rattle.des.proofs.Permutations.{rows, rows_le, permuted_row, permuted_lt}
use Rattle.des.proofs.bits.permute.Goals as goal

pub loop-row-init : goal.loop-row-init
unfolding number permuted
loop-row-init g c = refl

pub append-y-requires : goal.append-y-requires
append-y-requires g c =
    let w : ℕ = c.args.width in
    let table : List (List ℕ) = c.args.table.now in
    let i : ℕ = c.loop-row.row-index in
    let row : List ℕ = c.row-item.result in
    let is : row ≡ get_or table i [] = get_or_read table i row c.loop-row-test.true c.row-item.is [] in
    let front : List ℕ = rows (take i table) in
    let fits : length front + length (get_or table i []) ≤ 64 = omega (arith, rows_le table i c.loop-row-test.true, c.requires.1.1) in
    let len : length row ≡ length (get_or table i []) = ap length is in
    let named : AllByRecursion (λ t. (0 < t) × (t ≤ w)) (get_or table i []) = All-get_or (AllByRecursion (λ t. (0 < t) × (t ≤ w))) table i [] c.loop-row-test.true c.requires.1.0 in
    let room : length front ≤ 64 - length row = omega arith in
    let y-lt : c.loop-row.y < 2 ^ (64 - length row) = rw c.loop-row.invariant (lt_of_lt_of_le (permuted_lt w front c.args.x) (pow_mono room)) in
    (c.requires.0, (rw is named, (omega arith, y-lt)))

pub loop-row-preserved : goal.loop-row-preserved
loop-row-preserved g c =
    let w : ℕ = c.args.width in
    let x : ℕ = c.args.x in
    let table : List (List ℕ) = c.args.table.now in
    let i : ℕ = c.loop-row.row-index in
    let is : c.row-item.result ≡ get_or table i [] = get_or_read table i c.row-item.result c.loop-row-test.true c.row-item.is [] in
    let more = permuted_row w x table i c.loop-row-test.true in
    rw (c.append-y.ensures, c.loop-row.invariant, is) more

pub returns : goal.returns
returns g c =
    let table : List (List ℕ) = c.args.table.now in
    c.loop-row.invariant ∙ ap (λ t. permuted c.args.width (rows t) c.args.x) (take_all c.loop-row.row-index table c.loop-row-test.false)
