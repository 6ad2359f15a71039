-- One turn of a loop over a payload's blocks, and its end.
use Rattle.std.proofs.Common.{◌≡◌, ℕ, suc, ◌+◌, ◌-◌, ◌/◌, ◌%◌, ◌<◌, ◌≤◌, List, [], ◌++◌, length, take, drop, refl, ap, ◌∙◌, sym, append_assoc, add-one, inl, inr, arith, rules}
use Rattle.std.proofs.lemmas.Bool.{cases_lt}
use native.Mathlib.Nat.{div-eq-sub-div, div-eq_of_lt, mod-eq-sub-mod, mod-eq_of_lt, mod-le}
use borrow.Rule.Slice.PartMut.{put_mid}
use Rattle.std.proofs.lemmas.List.{drop-drop, drop_all, take_rest, append-nil, length-drop, places}
use Rattle.std.proofs.lemmas.Slice.{take-put_mid, drop-put_mid}
use Rattle.cipher.specs.Profiles.{Meaning}
use Rattle.cipher.specs.Turns.{turned_block, next_value, turned_tail, turned_blocks}
use Rattle.cipher.specs.declared.direction.Direction.{Direction}
use Rattle.cipher.specs.declared.direction.Direction.TheVariants.{Scramble, Descramble}
use Rattle.word.specs.declared.word.Word.{Word}

-- what a write of so many bytes leaves of the length
pub length_put_part : (at k : ℕ) (p b : List ℕ) → at + k ≤ length p → length b ≡ k → length (put_mid at k p b) ≡ length p
length_put_part at k p b h l = search (rules, places)

-- the bytes from `at` hold a whole number of blocks before the tail
pub block_left : (len at width : ℕ) → 0 < width → at < len - len % width → (len - at) % width ≡ len % width →
    (at + width ≤ len - len % width) × ((len - (at + width)) % width ≡ len % width)
block_left len at width pos h e = elim (cases_lt (len - at) width) [
  | inl lt ↦ let f = mod-eq_of_lt lt in (omega arith, omega arith)
  | inr ge ↦
      let f = mod-eq-sub-mod ge in
      let same : len - (at + width) ≡ len - at - width = omega arith in
      let le = mod-le (len - at - width) width in
      (omega arith, ap (λ n. n % width) same ∙ sym f ∙ e)
]

more : (d : Direction) (m : Meaning) (w : Word) (n : ℕ) (chain p : List ℕ) →
    turned_blocks d m w (suc n) chain p
    ≡ turned_block d (m.E w) (m.D w) chain (take m.width p) ++ turned_blocks d m w n (next_value d (take m.width p) (turned_block d (m.E w) (m.D w) chain (take m.width p))) (drop m.width p)
more Scramble m w n chain p = refl
more Descramble m w n chain p = refl

none : (d : Direction) (m : Meaning) (w : Word) (chain p : List ℕ) → turned_blocks d m w 0 chain p ≡ turned_tail d m.on m.off (m.E w chain) p
none Scramble m w chain p = refl
none Descramble m w chain p = refl

module _ (d : Direction) (m : Meaning) (w : Word) (pos : 0 < m.width) where
  -- b is written over the block at `at`
  pub walk_more : (p chain b value : List ℕ) (at k next : ℕ) → k ≡ m.width → next ≡ at + m.width → next ≤ length p → length b ≡ k
      → b ≡ turned_block d (m.E w) (m.D w) chain (take k (drop at p)) → value ≡ next_value d (take k (drop at p)) b
      → take next (put_mid at k p b) ++ turned_blocks d m w ((length (put_mid at k p b) - next) / m.width) value (drop next (put_mid at k p b))
      ≡ take at p ++ turned_blocks d m w ((length p - at) / m.width) chain (drop at p)
  walk_more p chain b value at k next ek en fits lb eb ev =
      let n : ℕ = (length p - next) / m.width in
      let t = take-put_mid at k p b next (omega arith) (omega arith) in
      let r = drop-put_mid at k p b next (omega arith) (omega arith) (omega arith) in
      let ln = length_put_part at k p b (omega arith) lb in
      let nn : (length p - at) / m.width ≡ suc n = div-eq-sub-div pos (omega arith) ∙ add-one _ ∙ ap (λ n. suc (n / m.width)) (omega arith) in
      let dd : drop m.width (drop at p) ≡ drop next p = drop-drop m.width at p ∙ ap (λ n. drop n p) (omega arith) in
      let un = more d m w n chain (drop at p) in
      let grp = append_assoc (take at p) b (turned_blocks d m w n value (drop next p)) in
      cc

  -- less than a block is left, and `tail` is written over it
  pub walk_all : (p chain mask tail : List ℕ) (at : ℕ) → at ≤ length p → length p - at < m.width → mask ≡ m.E w chain
      → tail ≡ turned_tail d m.on m.off mask (take (length p - at) (drop at p))
      → put_mid at (length p - at) p tail ≡ take at p ++ turned_blocks d m w ((length p - at) / m.width) chain (drop at p)
  walk_all p chain mask tail at h short em et =
      let z : (length p - at) / m.width ≡ 0 = div-eq_of_lt short in
      let rest = take_rest p at in
      let nil : drop (length p - at) (drop at p) ≡ [] = drop_all (length p - at) (drop at p) (omega (arith, length-drop at p)) in
      let end = none d m w chain (take (length p - at) (drop at p)) in
      let out = append-nil tail in
      cc
