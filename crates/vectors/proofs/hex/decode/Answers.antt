use Rattle.std.proofs.Common.{◌≡◌, ℕ, ◌%◌, List, length, vec_items, vec_len, sym, refl, ◌∙◌, subst, arith}
use Rattle.std.proofs.lemmas.Bool.Decides.{nat_tests}
use Rattle.vectors.specs.Hex.{Spells}
use Rattle.vectors.proofs.Spelling.{byte_at, spelled_more, text_spelled}
use Rattle.vectors.proofs.hex.decode.Goals as goal

pub loop-high-preserved : goal.loop-high-preserved
loop-high-preserved c =
    let long : vec_len c.loop-high.bytes ≡ c.loop-high.high-index = c.loop-high.invariant.0 in
    let places = c.in_ok-push.ensures.by_index in (
      omega (arith, c.in_ok-push.ensures.len),
      spelled_more
          (byte_at c.as_chunks.result.0.now)
          (vec_items c.loop-high.bytes)
          (vec_items c.push.new.self)
          c.loop-high.high-index
          c.in_ok-context.field-0
          c.loop-high.invariant.1
          (λ k h. places.0 k 0 (omega arith))
          (sym c.byte_of.ensures ∙ c.in_ok-context.ensures)
          (rw long at (places.1 0 refl)),
    )

pub returns : goal.returns
returns c =
    let bytes = vec_items c.loop-high.bytes in
    let none : length c.as_chunks.result.1.now ≡ 0 = grind (arith, nat_tests) in
    let even : length c.as_bytes.result.now % 2 ≡ 0 = omega (arith, c.as_chunks.ensures.back_len) in
    subst (λ (t : List ℕ). Spells t bytes) c.as_bytes.ensures.value
    (text_spelled c.as_bytes.result.now bytes c.as_chunks.result.0.now c.as_chunks.ensures.front even (omega (arith, c.as_chunks.ensures.front_len)) (λ k h. c.loop-high.invariant.1 k (omega arith)))
