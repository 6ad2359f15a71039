-- A log stays sound over a line that goes with it.
use Rattle.std.proofs.Common.{◌≡◌, Bool, true, false, cond, List, [], ◌∷◌, ◌++◌, is_some, Some, None, Option, sym, refl, ap, subst}
use Rattle.std.proofs.ByRecursion.{All-push, All-weaker}
use Rattle.std.proofs.lemmas.Bool.{true≢false, false≢true}
use Rattle.std.specs.List.{AllByRecursion}
use Rattle.word.specs.declared.moment.Moment.{Moment}
use Rattle.log_file.specs.Lines.{counted, is_for, goes_with, Apart, Sound}
use Rattle.log_file.specs.declared.line.Kind.{Kind}
use Rattle.log_file.specs.declared.line.Kind.TheVariants.{Word, Encrypted}
use Rattle.log_file.specs.declared.line.LogLine.{LogLine}

kinds_next : (before : Option Kind) (k : Kind) (ls : List LogLine) → goes_with before k ≡ true → AllByRecursion (λ l. Some l.kind ≡ before) ls → AllByRecursion (λ l. Some l.kind ≡ Some k) ls
kinds_next None k ls e all = All-weaker (λ l. Some l.kind ≡ None) (λ l. Some l.kind ≡ Some k) (λ l h. absurd (true≢false (ap is_some h))) ls all
kinds_next (Some Word) Word ls e all = all
kinds_next (Some Word) Encrypted ls e all = absurd (false≢true e)
kinds_next (Some Encrypted) Word ls e all = absurd (false≢true e)
kinds_next (Some Encrypted) Encrypted ls e all = all

-- the kind of a line that goes with the others is that of all
pub sound_kind : (last : Option Moment) (before : Option Kind) (k : Kind) (ls : List LogLine) → Sound last before ls → goes_with before k ≡ true → Sound last (Some k) ls
sound_kind last before k ls s e = record { counting = s.counting; kinds = kinds_next before k ls e s.kinds; apart = s.apart }

apart_push : (ls : List LogLine) (x : LogLine) → Apart ls → AllByRecursion (λ m. is_for x.service.number x.parity m ≡ false) ls → Apart (ls ++ x ∷ [])
apart_push [] x a h = (tt, tt)
apart_push (l ∷ ls) x a h = (All-push (λ m. is_for m.service.number m.parity l ≡ false) ls x a.0 h.0, apart_push ls x a.1 h.1)

sound_push : (last : Option Moment) (ls : List LogLine) (x : LogLine) → Sound last (Some x.kind) ls → counted last x.moment ≡ true
    → (last ≡ None → AllByRecursion (λ m. is_for x.service.number x.parity m ≡ false) ls) → Sound last (Some x.kind) (ls ++ x ∷ [])
sound_push last ls x s e h = record {
  counting = All-push (λ l. counted last l.moment ≡ true) ls x s.counting e;
  kinds = All-push (λ l. Some l.kind ≡ Some x.kind) ls x s.kinds refl;
  apart = λ none. apart_push ls x (s.apart none) (h none);
}

-- a line that counts is pushed, or finds no memory
pub sound_pushed : (last : Option Moment) (before : Option Kind) (ls after : List LogLine) (x : LogLine) (ok : Bool) → after ≡ cond ok (ls ++ x ∷ []) ls
    → Sound last before ls → goes_with before x.kind ≡ true → counted last x.moment ≡ true
    → (last ≡ None → AllByRecursion (λ m. is_for x.service.number x.parity m ≡ false) ls) → Sound last (Some x.kind) after
sound_pushed last before ls after x true e s w c h = subst (Sound last (Some x.kind)) (sym e) (sound_push last ls x (sound_kind last before x.kind ls s w) c h)
sound_pushed last before ls after x false e s w c h = subst (Sound last (Some x.kind)) (sym e) (sound_kind last before x.kind ls s w)
