-- The pace that is kept follows the rule of pacing: one word at a time.
use Rattle.std.proofs.Common.{◌≡◌, ℕ, ◌+◌, ◌*◌, ◌/◌, ◌<◌, ◌≤◌, cond, eqb, List, [], ◌∷◌, sym, refl, ap, ◌∙◌, subst, ⊎_elim, arith}
use Rattle.std.proofs.lemmas.Bool.{cases_eq}
use Rattle.std.proofs.lemmas.Bool.Decides.{nat_tests}
use Rattle.shelf.specs.Paces.{PaceRow, paced, full_until, taken_by}
use Rattle.shelf.specs.PacingRule.{in_span, next_by, Due, pace_by, PacingRule}

-- what a row knows of the moments behind it
record Knows (ms : List ℕ) (row : PaceRow) : Type 0 where
  next : row.next ≡ next_by ms
  taken : row.taken ≡ in_span row.span ms
  -- no word lies in a later span
  latest : (span : ℕ) → row.span < span → in_span span ms ≡ 0
  begun : row.span * 300 ≤ row.next
  full : full_until row.span row.taken ≤ row.next
  few : (span : ℕ) → in_span span ms ≤ 10

-- a word at m, which is not too soon
module _ (ms : List ℕ) (row : PaceRow) (m : ℕ) (k : Knows ms row) (h : row.next ≤ m) where
  -- the words of its span are those of the row's span, or none
  earlier : in_span (m / 300) ms ≡ cond (eqb (m / 300) row.span) row.taken 0
  earlier =
      let b = k.begun in
      let later : row.span ≤ m / 300 = omega arith in
      ⊎_elim
      (λ e. let t : in_span (m / 300) ms ≡ row.taken = ap (λ s. in_span s ms) e ∙ sym k.taken in grind (arith, nat_tests))
      (λ ne. let z : in_span (m / 300) ms ≡ 0 = k.latest (m / 300) (omega arith) in grind (arith, nat_tests))
      (cases_eq (m / 300) row.span)

  counted : taken_by row m ≡ in_span (m / 300) (m ∷ ms)
  counted = let e = earlier in grind (arith, nat_tests)

  -- its span was not full
  room : in_span (m / 300) ms < 10
  room =
      let e = earlier in
      let f : row.taken ≤ 10 = rw k.taken (k.few row.span) in
      let u : cond (eqb row.taken 10) ((row.span + 1) * 300) 0 ≤ m = omega (arith, k.full) in
      grind (arith, nat_tests)

  following : Knows (m ∷ ms) (paced row m)
  following =
      let e = counted in
      let r = room in
      record {
        next = grind (arith, nat_tests);
        taken = e;
        latest = λ span l. let z : in_span span ms ≡ 0 = k.latest span (omega (arith, k.begun)) in grind (arith, nat_tests);
        begun = omega arith;
        full = omega arith;
        few = λ span. let f : in_span span ms ≤ 10 = k.few span in ⊎_elim (λ here. let q : in_span span ms < 10 = subst (λ (s : ℕ). in_span s ms < 10) here r in grind (arith, nat_tests)) (λ _. grind (arith, nat_tests)) (cases_eq (m / 300) span);
      }

knows : (ms : List ℕ) → Due ms → Knows ms (pace_by ms)
knows [] d = record { next = refl; taken = refl; latest = λ _ _. refl; begun = omega arith; full = omega arith; few = λ _. omega arith }
knows (m ∷ ms) d =
    let k : Knows ms (pace_by ms) = knows ms d.1 in
    following ms (pace_by ms) m k (rw k.next d.0)

pub pacing_rule : PacingRule
pacing_rule ms d = record { next = (knows ms d).next; few = (knows ms d).few }
