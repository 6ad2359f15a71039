-- What the shelves above another shelf mean.
use Rattle.std.specs.Prelude.{ℕ, ◌≤◌, max, slice_index_or}
use Rattle.std.proofs.Common.{lit≤, arith}
use Rattle.word.specs.Identifiers.{unwrapped}
use Rattle.shelf.specs.declared.pacing.Pacing.{Pacing}
use Rattle.shelf.specs.declared.pacing.Pace.{Pace}
use Rattle.shelf.specs.declared.shelf.Shelf.{Ghosts}
use Rattle.shelf.specs.declared.unwrapping.Unwrapping.{Unwrapping}
use Rattle.shelf.specs.Meaning.{ShelfMeaning, meaning}
use Rattle.shelf.specs.Paces.{PaceRow}

-- the meaning of any shelf
abbrev pub meaning_of : {S : Type 0} → Ghosts S → S → ShelfMeaning
meaning_of m s = meaning m.reads m.held m.next s

-- the pace of a service that has taken no word yet; so has each past the table's end
abbrev pub unpaced : Pace
unpaced = record { next = 0; span = 0; taken = 0; low = lit≤ tt; few = lit≤ tt; full = lit≤ tt }

-- a pace as a row of numbers
abbrev pub row_of : Pace → PaceRow
row_of p = record { next = p.next; span = p.span; taken = p.taken }

-- the pace of a service
abbrev pub pace_at : {S : Type 0} → Pacing S → ℕ → PaceRow
pace_at s k = row_of (slice_index_or s.paces k unpaced)

-- a pacing shelf reads and holds what the shelf below does, and its next is the larger of its own and the one below
abbrev pub pacing_meaning : {S : Type 0} → Ghosts S → Pacing S → ShelfMeaning
pacing_meaning m s = record {
  reads = m.reads s.below;
  held = m.held s.below;
  next = λ k. max (pace_at s k).next (m.next s.below k);
}

-- its next is no later than 300 seconds after the last moment, if that is so below
pub pacing_low : {S : Type 0} (s : Pacing S) (below : ℕ → ℕ) → ((k : ℕ) → below k ≤ 4000000300) → (k : ℕ) → max (pace_at s k).next (below k) ≤ 4000000300
pacing_low s below low k = omega (arith, (slice_index_or s.paces k unpaced).low, low k)

-- an unwrapping shelf reads an entry as the shelf below reads what the entry unwraps to, and holds and takes next what that does
abbrev pub unwrapping_meaning : {S : Type 0} → Ghosts S → Unwrapping S → ShelfMeaning
unwrapping_meaning m s = record {
  reads = λ entry. m.reads s.below (unwrapped s.identifier entry);
  held = m.held s.below;
  next = m.next s.below;
}
