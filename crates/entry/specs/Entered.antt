-- An entry and its four groups, leftmost first.
use Rattle.std.specs.Prelude.{ℕ, ◌+◌, ◌*◌, ◌^◌, List, Ok, Err, Result}
use Rattle.word.specs.declared.identifier.Identifier.{Identifier}
use Rattle.word.specs.declared.word.Word.{Word}
use Rattle.entry.specs.declared.faults.EntryFault.{EntryFault}
use Rattle.entry.specs.declared.groups.NoGroups.{NoGroups}
use Rattle.entry.specs.declared.groups.OneGroup.{OneGroup}
use Rattle.entry.specs.declared.groups.Refused.{Refused}
use Rattle.entry.specs.declared.groups.ThreeGroups.{ThreeGroups}
use Rattle.entry.specs.declared.groups.TwoGroups.{TwoGroups}
use Rattle.entry.specs.Groups.{group_of}

-- a group's number leads on, and its fault hands the state back
abbrev pub given : {S N : Type 0} → S → (ℕ → N) → Result ℕ EntryFault → Result N (Refused S)
given s next (Ok number) = Ok (next number)
given s next (Err fault) = Err (record { entry = s; fault = fault })

-- the 64 bits of two groups, the left one more significant
abbrev pub half_of : ℕ → ℕ → ℕ
half_of left right = left * 2 ^ 32 + right

-- the two halves of four groups, leftmost first
abbrev pub halves_of : ThreeGroups → ℕ → ℕ × ℕ
halves_of s fourth = (half_of s.first s.second, half_of s.third fourth)

abbrev pub word_of_halves : ℕ × ℕ → Word
word_of_halves h = record { high = h.0; low = h.1 }

abbrev pub identifier_of_halves : ℕ × ℕ → Identifier
identifier_of_halves h = record { high = h.0; low = h.1 }

abbrev pub first_given : NoGroups → List ℕ → Result OneGroup (Refused NoGroups)
first_given s text = given s (λ n. record { first = n }) (group_of 0 text)

abbrev pub second_given : OneGroup → List ℕ → Result TwoGroups (Refused OneGroup)
second_given s text = given s (λ n. record { first = s.first; second = n }) (group_of 1 text)

abbrev pub third_given : TwoGroups → List ℕ → Result ThreeGroups (Refused TwoGroups)
third_given s text = given s (λ n. record { first = s.first; second = s.second; third = n }) (group_of 2 text)

abbrev pub halves_given : ThreeGroups → List ℕ → Result (ℕ × ℕ) (Refused ThreeGroups)
halves_given s text = given s (halves_of s) (group_of 3 text)

abbrev pub word_given : ThreeGroups → List ℕ → Result Word (Refused ThreeGroups)
word_given s text = given s (λ n. word_of_halves (halves_of s n)) (group_of 3 text)

abbrev pub identifier_given : ThreeGroups → List ℕ → Result Identifier (Refused ThreeGroups)
identifier_given s text = given s (λ n. identifier_of_halves (halves_of s n)) (group_of 3 text)

-- a value leads on, and a fault stands
abbrev pub and_then : {A B : Type 0} → Result A EntryFault → (A → Result B EntryFault) → Result B EntryFault
and_then (Ok x) k = k x
and_then (Err fault) k = Err fault

-- three groups at once; the first fault decides
abbrev pub entered_three : List ℕ → List ℕ → List ℕ → Result ThreeGroups EntryFault
entered_three first second third =
    and_then (group_of 0 first) (λ a. and_then (group_of 1 second) (λ b. and_then (group_of 2 third)
    (λ c. Ok (record { first = a; second = b; third = c }))))

-- four groups at once; the first fault decides
abbrev pub entered_halves : List ℕ → List ℕ → List ℕ → List ℕ → Result (ℕ × ℕ) EntryFault
entered_halves first second third fourth =
    and_then (entered_three first second third) (λ s. and_then (group_of 3 fourth) (λ n. Ok (halves_of s n)))

abbrev pub entered_word : List ℕ → List ℕ → List ℕ → List ℕ → Result Word EntryFault
entered_word a b c d = and_then (entered_halves a b c d) (λ h. Ok (word_of_halves h))

abbrev pub entered_identifier : List ℕ → List ℕ → List ℕ → List ℕ → Result Identifier EntryFault
entered_identifier a b c d = and_then (entered_halves a b c d) (λ h. Ok (identifier_of_halves h))
