-- The digits to come, after the number so far, make what all the digits make; and the number has as many digits as were read.
use Rattle.std.proofs.Common.{◌≡◌, ◌*◌, ◌^◌, ◌<◌, drop}
use Rattle.entry.specs.Groups.{digits_of}
use Rattle.entry.proofs.digits.group_number.Given as goal

abbrev pub invariant-loop-position : goal.invariant-loop-position
invariant-loop-position l =
    (digits_of l.group l.position l.number (drop l.position l.text) ≡ digits_of l.group 0 0 l.text)
    × (l.number < 2 ^ (4 * l.position))
