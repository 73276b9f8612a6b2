-- What a call saw of the ignore patterns, where nobody else steps: it stands there.
use Rattle.std.proofs.Common.{ℕ, ◌≡◌, ◌≤◌, ◌<◌, true, List, length, Option, Some, None, ap, ◌∙◌, subst, inl, inr, arith}
use Rattle.std.specs.Option.{IsSomeAnd}
use Rattle.hg_flat.specs.Patterns.{HadPatterns, needs_patterns}
use Rattle.hg_listing.specs.declared.row.Wanted.{Wanted}
use Rattle.hg_ignore.specs.Patterns.{AreFine, HasBytes, IsOver, KeepsPatterns, ReadSo, RefusesPatterns, Saw, most_text}
use Rattle.hg_ignore.specs.Source.{text_at}
use Rattle.hg_ignore.specs.State.{Ignore, ignore_file}
use Rattle.hg_ignore.specs.declared.fault.IgnoreFault.TheVariants as an_ignore
use Rattle.hg_tree.specs.History.{History, IsOurs, Passes, now}
use Rattle.hg_tree.specs.Moment.{Moment}
use Rattle.hg_tree.proofs.Spans.{ours_unstepped}
use Rattle.hg_tree.proofs.Stillness.{ours_untouched}

large_of : (most size : ℕ) (o : Option (List ℕ)) → most < size → IsSomeAnd o (λ text. size ≡ length text) → IsSomeAnd o (λ text. (most < length text) × (size ≡ length text))
large_of most size None large is = absurd is
large_of most size (Some text) large is = (omega (arith, large, is), is)

apart : (most : ℕ) (o : Option (List ℕ)) → IsSomeAnd o (λ text. length text ≤ most) → IsSomeAnd o (λ text. most < length text) → ⊥
apart most None few many = absurd few
apart most (Some text) few many = omega (arith, few, many)

module _ (old new : History) (passes : Passes old new) (own : IsOurs old new) where
  abbrev still : new.last ≡ old.last
  still = ours_unstepped old new passes own

  saw_now : (P : Moment → Type 0) → Saw old new P → P (now old)
  saw_now P saw =
      let at : saw.at ≡ old.last = omega (arith, saw.from own.told, saw.to own.told, still) in
      subst P (ap new.at at ∙ passes.past.stay old.last (omega arith)) (saw.so own.told)

  pub so_now : (Seen : Moment → Type 0) (P : List ℕ → Type 0) → ReadSo old new Seen P → Seen (now old) × IsSomeAnd (text_at (now old)) P
  so_now Seen P read = (saw_now Seen read.seen, saw_now (λ moment. IsSomeAnd (text_at moment) P) read.read)

  -- what was seen at one moment is no other thing than what was read
  pub over_now : (size : ℕ) → IsOver old new size → RefusesPatterns (now old) (an_ignore.IgnoreTooLarge size)
  over_now size (large, inl saw) = let s = saw_now (HasBytes (λ text. size ≡ length text)) saw in (s.0, large_of most_text size (text_at (now old)) large s.1)
  over_now size (large, inr (is, read)) =
      let r = so_now (HasBytes (λ text. length text ≤ most_text)) (λ text. most_text < length text) read in absurd (apart most_text (text_at (now old)) r.0.1 r.1)

  kept : KeepsPatterns new old.last
  kept = record { told = passes.past.told ∙ own.told; file = (ours_untouched old new passes own ignore_file).own }

  pub fine_now : (wanted : Wanted) → HadPatterns wanted old new → needs_patterns wanted ≡ true → AreFine (Ignore (now old))
  fine_now wanted had needs = let read = (had needs).1 in subst AreFine (read.kept kept) read.fine
