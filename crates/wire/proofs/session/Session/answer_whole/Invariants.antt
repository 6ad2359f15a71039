-- What the fields that are left come to behind what is answered, all of them come to.
use Rattle.std.proofs.Common.{◌≡◌, List, ℕ, length, vec_items}
use Rattle.wire.specs.Answered.{ProgramEngine, Answered}
use Rattle.wire.specs.Fields.{fields_in, rest_in}
use Rattle.wire.proofs.session.Session.answer_whole.Given as goal

abbrev pub invariant-loop-field : goal.invariant-loop-field
invariant-loop-field l =
    (rest_in l.rest ≡ rest_in l.input)
    × ((last : ProgramEngine) (out : List ℕ) → Answered l.self.engine (vec_items l.out) (fields_in l.rest) last out → Answered l.initial.self.engine (vec_items l.initial.out) (fields_in l.input) last out)

abbrev pub decreases-loop-field : goal.decreases-loop-field
decreases-loop-field l = length l.rest
