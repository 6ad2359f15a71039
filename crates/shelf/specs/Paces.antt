-- How the words of a service are paced: 10 seconds apart, and ten in each span of 300 seconds.
use Rattle.std.specs.Prelude.{ℕ, ◌+◌, ◌*◌, ◌/◌, max, cond, ◌==◌}

-- the pace of a service: its next moment, the span of its latest word, and how many words it took in that span
pub record PaceRow : Type 0 where
  pub next : ℕ
  pub span : ℕ
  pub taken : ℕ

-- a service that has taken no word yet
abbrev pub rested : PaceRow
rested = record { next = 0; span = 0; taken = 0 }

-- the end of a span that has taken ten words, and otherwise 0
abbrev pub full_until : ℕ → ℕ → ℕ
full_until span taken = cond (taken == 10) ((span + 1) * 300) 0

-- how many words a service has taken in the span of a moment, with the one taken at that moment
abbrev pub taken_by : PaceRow → ℕ → ℕ
taken_by row moment = cond (moment / 300 == row.span) (row.taken + 1) 1

-- the pace after a word was taken at a moment
abbrev pub paced : PaceRow → ℕ → PaceRow
paced row moment = record {
  next = max (moment + 10) (full_until (moment / 300) (taken_by row moment));
  span = moment / 300;
  taken = taken_by row moment;
}
