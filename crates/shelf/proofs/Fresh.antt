-- A shelf of which no service passes either test is one to start with.
use Rattle.std.proofs.Common.{◌≡◌, ℕ, false, eqb, is_some, Some, None, Option, refl, arith}
use Rattle.std.proofs.lemmas.Bool.{eqb-true, not-false, or_parts, true≢false}
use Rattle.word.specs.declared.parity.Parity.{Parity}
use Rattle.word.specs.declared.parity.Parity.TheVariants.{Even, Odd}
use Rattle.shelf.specs.Examined.{any_below, holds_at, loaded_at, Fresh}
use Rattle.shelf.specs.Meaning.{ShelfMeaning}
use Rattle.shelf.proofs.Services.{each_fails}

none : {A : Type 0} (o : Option A) → is_some o ≡ false → o ≡ None
none None e = refl
none (Some x) e = absurd (true≢false e)

held : (m : ShelfMeaning) (k : ℕ) (q : Parity) → holds_at m k ≡ false → m.held k q ≡ None
held m k Even e = none (m.held k Even) (or_parts (is_some (m.held k Even)) (is_some (m.held k Odd)) e).0
held m k Odd e = none (m.held k Odd) (or_parts (is_some (m.held k Even)) (is_some (m.held k Odd)) e).1

pub fresh : (m : ShelfMeaning) → any_below 32 (holds_at m) ≡ false → any_below 32 (loaded_at m) ≡ false → Fresh m
fresh m e f =
    record {
      held = λ k q h. held m k q (each_fails (holds_at m) 32 e k (omega arith));
      next = λ k h. eqb-true (m.next k) 0 (not-false (eqb (m.next k) 0) (each_fails (loaded_at m) 32 f k (omega arith)));
    }
