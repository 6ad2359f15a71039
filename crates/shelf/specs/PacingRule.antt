-- The rule of pacing over the moments at which a service took words, and what follows of it.
use Rattle.std.specs.Prelude.{◌≡◌, ℕ, ◌+◌, ◌*◌, ◌/◌, ◌≤◌, max, cond, List, [], ◌∷◌, ◌==◌}
use Rattle.shelf.specs.Paces.{PaceRow, rested, paced}

-- how many of some moments lie in a span of 300 seconds
abbrev pub in_span : ℕ → List ℕ → ℕ
in_span span [] = 0
in_span span (m ∷ ms) = cond (m / 300 == span) (in_span span ms + 1) (in_span span ms)

-- the next of a service that took words at some moments, the latest first: 10 seconds after the latest,
-- and if that was the tenth of its span, no sooner than the span's end
abbrev pub next_by : List ℕ → ℕ
next_by [] = 0
next_by (m ∷ earlier) = cond (in_span (m / 300) (m ∷ earlier) == 10) (max (m + 10) ((m / 300 + 1) * 300)) (m + 10)

-- no moment is sooner than the next of those before it
abbrev pub Due : List ℕ → Type 0
Due [] = Unit {0}
Due (m ∷ earlier) = (next_by earlier ≤ m) × Due earlier

-- the pace of a service after words at some moments, the latest first
abbrev pub pace_by : List ℕ → PaceRow
pace_by [] = rested
pace_by (m ∷ earlier) = paced (pace_by earlier) m

pub record FollowsRule (moments : List ℕ) : Type 0 where
  -- the pace that is kept has the rule's next
  pub next : (pace_by moments).next ≡ next_by moments
  -- at most ten words are taken in any span
  pub few : (span : ℕ) → in_span span moments ≤ 10

-- whatever words a service took, none too soon
abbrev pub PacingRule : Type 0
PacingRule = (moments : List ℕ) → Due moments → FollowsRule moments

-- a word at 1000 moves the next to 1010; ten words from 1200 to 1290 move it to the end of their span
abbrev pub PacingExamples : Type 0
PacingExamples =
    ((pace_by (1000 ∷ [])).next ≡ 1010)
    × ((pace_by (1290 ∷ 1280 ∷ 1270 ∷ 1260 ∷ 1250 ∷ 1240 ∷ 1230 ∷ 1220 ∷ 1210 ∷ 1200 ∷ [])).next ≡ 1500)
