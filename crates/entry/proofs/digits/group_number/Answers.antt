use Rattle.std.proofs.Common.{◌+◌, ◌*◌, ◌^◌, ◌<◌, get_or, sym, ◌∙◌, arith}
use Rattle.entry.proofs.Reading.{digit_low, digits_some, digits_none, digits_all, group_is, room}
use Rattle.entry.proofs.digits.group_number.Goals as goal
use Rattle.entry.proofs.digits.group_number.Goals.{In-Some}

pub returns-in_default : goal.returns-in_default
returns-in_default c =
    sym (digits_none c.args.group c.loop-position.position c.loop-position.number c.args.text.now c.loop-position-test.true c.in_default.ensures)
    ∙ c.loop-position.invariant.0
    ∙ sym (group_is c.args.group c.args.text.now c.if-text-ne8.false)

-- the number with the digit just read
grown : (c : In-Some) → (c.loop-position.number * 16 + c.in-Some.digit < 2 ^ (4 * (c.loop-position.position + 1))) × (c.loop-position.number * 16 + c.in-Some.digit < 4294967296)
grown c =
    let small = digit_low (get_or c.args.text.now c.loop-position.position 0) c.in-Some.digit c.in-Some.ensures in
    room c.loop-position.number c.loop-position.position c.in-Some.digit c.loop-position.invariant.1 (omega arith) small

pub overflow_mul-number : goal.overflow_mul-number
overflow_mul-number c = omega (arith, (grown (goal.at.overflow_mul-number c).In-Some).1)

pub overflow_add-number : goal.overflow_add-number
overflow_add-number c = omega (arith, (grown (goal.at.overflow_add-number c).In-Some).1)

pub loop-position-preserved : goal.loop-position-preserved
loop-position-preserved c =
    simp c.from.ensures (
      sym (digits_some c.args.group c.loop-position.position c.loop-position.number c.in-Some.digit c.args.text.now c.loop-position-test.true c.in-Some.ensures) ∙ c.loop-position.invariant.0,
      (grown (goal.at.loop-position-preserved c).In-Some).0,
    )

pub returns : goal.returns
returns c =
    sym (digits_all c.args.group c.loop-position.position c.loop-position.number c.args.text.now (omega arith))
    ∙ c.loop-position.invariant.0
    ∙ sym (group_is c.args.group c.args.text.now c.if-text-ne8.false)
