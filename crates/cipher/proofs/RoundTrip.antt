-- Chaining and its undoing, from the laws of the cipher and of the tail rule.
use Rattle.std.proofs.Common.{◌≡◌, ℕ, zero, suc, ◌+◌, ◌-◌, ◌*◌, ◌/◌, ◌<◌, ◌≤◌, List, length, take, drop, ap, ◌∙◌, suc-mul, zero-mul, div-mul-le_self, arith}
use native.Mathlib.Nat.{lt-div-mul-add}
use Rattle.std.proofs.lemmas.List.{take_at, drop_at, length-take-le, length-drop, length-append, take-append-drop}
use Rattle.std.proofs.ByRecursion.{All-take, All-drop}
use Rattle.cipher.specs.Bytes.{Byte, Bytes, Block, xors}
use Rattle.cipher.specs.Chain.{chained, unchained}
use Rattle.cipher.specs.Laws.{Sizes, CipherLaws, TailLaws}
use Rattle.cipher.specs.Profiles.{Meaning}
use Rattle.cipher.specs.Restores.{Restored}
use Rattle.cipher.specs.Xors.{length_xors, xors_back, block_xors}
use Rattle.word.specs.declared.word.Word.{Word}

-- the first block of a payload that has one
first_block : (width : ℕ) (p : List ℕ) → width ≤ length p → Bytes p → Block width (take width p)
first_block width p h b = (length-take-le width p h, All-take Byte width p b)

-- so many blocks, and less than one more
abbrev Holds : ℕ → ℕ → ℕ → Type 0
Holds n width len = (n * width ≤ len) × (len < n * width + width)

-- a payload of one block more
one_more : (n width len : ℕ) → Holds (suc n) width len → (width ≤ len) × Holds n width (len - width)
one_more n width len h = let e = suc-mul n width in (omega arith, (omega arith, omega arith))

holds : (width len : ℕ) → 1 ≤ width → Holds (len / width) width len
holds width len pos = let p : 0 < width = omega arith in (div-mul-le_self len width, lt-div-mul-add p)

-- the tail is shorter than a block
tail_short : (width len : ℕ) → Holds 0 width len → len ≤ width
tail_short width len h = let z = zero-mul width in omega arith

module _
    {width schedule_length : ℕ} {schedule : Word → List ℕ} {E D : Word → List ℕ → List ℕ} {on off : List ℕ → List ℕ → List ℕ}
    (laws : CipherLaws width schedule_length schedule E D) (tails : TailLaws on off) (w : Word) where
  length_chained : (n : ℕ) (chain p : List ℕ) → Block width chain → Bytes p → Holds n width (length p) → length (chained width (E w) on n chain p) ≡ length p
  length_chained zero chain p hc hp h = tails.on_long (E w chain) p
  length_chained (suc n) chain p hc hp h =
      let fit = one_more n width (length p) h in
      let b : List ℕ = xors (take width p) chain in
      let hb = laws.E_block w b (block_xors width (take width p) chain (first_block width p fit.0 hp) hc.1) in
      let ld = length-drop width p in
      let ih = length_chained n (E w b) (drop width p) hb (All-drop Byte width p hp) (omega arith, omega arith) in
      length-append (E w b) (chained width (E w) on n (E w b) (drop width p)) ∙ omega (arith, hb.0)

  unchained_chained : (n : ℕ) (chain p : List ℕ) → Block width chain → Bytes p → Holds n width (length p) →
      unchained width (E w) (D w) off n chain (chained width (E w) on n chain p) ≡ p
  unchained_chained zero chain p hc hp h =
      let le = tail_short width (length p) h in
      tails.off_on (E w chain) p (omega (arith, (laws.E_block w chain hc).0)) hp
  unchained_chained (suc n) chain p hc hp h =
      let fit = one_more n width (length p) h in
      let b : List ℕ = xors (take width p) chain in
      let hx = block_xors width (take width p) chain (first_block width p fit.0 hp) hc.1 in
      let hb = laws.E_block w b hx in
      let rest : List ℕ = chained width (E w) on n (E w b) (drop width p) in
      let ld = length-drop width p in
      let ih = unchained_chained n (E w b) (drop width p) hb (All-drop Byte width p hp) (omega arith, omega arith) in
      let t = take_at (E w b) rest width hb.0 in
      let d = drop_at (E w b) rest width hb.0 in
      let e = laws.D_E w b hx in
      let x = xors_back (take width p) chain in
      let whole = take-append-drop width p in
      cc

  length_unchained : (n : ℕ) (chain p : List ℕ) → Bytes p → Holds n width (length p) → length (unchained width (E w) (D w) off n chain p) ≡ length p
  length_unchained zero chain p hp h = tails.off_long (E w chain) p
  length_unchained (suc n) chain p hp h =
      let fit = one_more n width (length p) h in
      let hb = laws.D_block w (take width p) (first_block width p fit.0 hp) in
      let ld = length-drop width p in
      let lx = length_xors (D w (take width p)) chain in
      let ih = length_unchained n (take width p) (drop width p) (All-drop Byte width p hp) (omega arith, omega arith) in
      length-append (xors (D w (take width p)) chain) (unchained width (E w) (D w) off n (take width p) (drop width p)) ∙ omega (arith, hb.0)

  chained_unchained : (n : ℕ) (chain p : List ℕ) → Block width chain → Bytes p → Holds n width (length p) →
      chained width (E w) on n chain (unchained width (E w) (D w) off n chain p) ≡ p
  chained_unchained zero chain p hc hp h =
      let le = tail_short width (length p) h in
      tails.on_off (E w chain) p (omega (arith, (laws.E_block w chain hc).0)) hp
  chained_unchained (suc n) chain p hc hp h =
      let fit = one_more n width (length p) h in
      let b : List ℕ = take width p in
      let hb = first_block width p fit.0 hp in
      let first : List ℕ = xors (D w b) chain in
      let rest : List ℕ = unchained width (E w) (D w) off n b (drop width p) in
      let ld = length-drop width p in
      let ih = chained_unchained n b (drop width p) hb (All-drop Byte width p hp) (omega arith, omega arith) in
      let long : length first ≡ width = length_xors (D w b) chain ∙ (laws.D_block w b hb).0 in
      let t = take_at first rest width long in
      let d = drop_at first rest width long in
      let x = xors_back (D w b) chain in
      let e = laws.E_D w b hb in
      let whole = take-append-drop width p in
      cc

-- what a lawful cipher and a lawful tail rule give, from a block of the initial vector on
abbrev pub Lawful : Meaning → Type 0
Lawful m = Sizes m.width m.schedule_length × CipherLaws m.width m.schedule_length m.schedule m.E m.D × TailLaws m.on m.off

pub restored : (m : Meaning) → Lawful m → (w : Word) (p : List ℕ) → Block 16 m.iv → Bytes p → Restored m w p
restored m lawful w p hi hp =
    let width : ℕ = m.width in
    let sizes = lawful.0 in
    let laws = lawful.1 in
    let tails = lawful.2 in
    let n : ℕ = length p / width in
    let chain : List ℕ = take width m.iv in
    let whole = holds width (length p) (omega arith) in
    let hc = first_block width m.iv (omega (arith, hi.0)) hi.1 in
    let long = length_chained laws tails w n chain p hc hp whole in
    let unlong = length_unchained laws tails w n chain p hp whole in
    record {
      back =
          ap (λ k. unchained width (m.E w) (m.D w) m.off (k / width) chain (chained width (m.E w) m.on n chain p)) long
          ∙ unchained_chained laws tails w n chain p hc hp whole;
      forth =
          ap (λ k. chained width (m.E w) m.on (k / width) chain (unchained width (m.E w) (m.D w) m.off n chain p)) unlong
          ∙ chained_unchained laws tails w n chain p hc hp whole;
      scrambled_long = long;
      descrambled_long = unlong;
    }
