-- What publishing a table leads to, in the words of a command.
use Rattle.std.proofs.Common.{ℕ, ◌≡◌, ◌⊎◌, true, Some, Result, Err, refl, sym, subst, inl, inr}
use Rattle.hg_mixed.specs.Held.{Held}
use Rattle.hg_save.specs.Over.{HasPublishCause, IsPutOver, UnlessEncode}
use Rattle.hg_save.specs.declared.publish_fault.PublishFault.{PublishFault}
use Rattle.hg_save.specs.declared.publish_fault.PublishFault.TheVariants as a_publish
use Rattle.hg_save.specs.declared.loaded.Loaded.{Loaded}
use Rattle.hg_session.proofs.Locked.{unwritten_here}
use Rattle.hg_session.specs.Anew.{MetWriting, WritesOnly}
use Rattle.hg_session.specs.Change.{IsUnwritten, of_change}
use Rattle.hg_session.specs.Changing.{FailsOrUnwritten, of_publish}
use Rattle.hg_session.specs.declared.change_fault.ChangeFault.TheVariants as a_change
use Rattle.hg_shelf.specs.Images.{Course}

-- whether a table was put over the record, by what publishing it came to
abbrev pub IsPutUnless : Result Unit PublishFault → Type 0 → Type 0
IsPutUnless done P = UnlessEncode done P

module _ (held : Held) (loaded : Loaded) (a c : Course) where
  still_unwritten : c ≡ a → IsUnwritten a.history c.history
  still_unwritten same = subst (λ (x : Course). IsUnwritten a.history x.history) (sym same) (unwritten_here a.history)

  -- a table that wasn't published wholly
  pub refused_over : (fault : PublishFault) → held.changed ≡ true → IsPutUnless (Err fault) (IsPutOver held loaded a c) → (fault ≡ a_publish.Failed) ⊎ (c ≡ a) → WritesOnly held loaded a c (Some (of_change (of_publish fault)))
  refused_over (a_publish.Encode e) set put (inl is) = absurd (cc is)
  refused_over (a_publish.Encode e) set put (inr same) = inl (still_unwritten same)
  refused_over a_publish.Failed set put left = inr (inl refl, record { changed = set; put = put })

  pub refused_still : (fault : PublishFault) → (fault ≡ a_publish.Failed) ⊎ (c ≡ a) → FailsOrUnwritten a.history c.history (of_publish fault)
  refused_still (a_publish.Encode e) (inl is) = absurd (cc is)
  refused_still (a_publish.Encode e) (inr same) = inr (still_unwritten same)
  refused_still a_publish.Failed left = inl refl

pub refused_same : {S : Type 0} (old new : S) (fault : PublishFault) → (fault ≡ a_publish.Failed) ⊎ (new ≡ old) → (of_publish fault ≡ a_change.ShelfFailed) ⊎ (new ≡ old)
refused_same old new (a_publish.Encode e) (inl is) = absurd (cc is)
refused_same old new (a_publish.Encode e) (inr same) = inr same
refused_same old new a_publish.Failed left = inl refl

pub refused_met : (held : Held) (before after : ℕ) (fault : PublishFault) → held.changed ≡ true → HasPublishCause held before after fault → MetWriting held before after (of_publish fault)
refused_met held before after (a_publish.Encode e) set cause = inl (e, refl, cause, set)
refused_met held before after a_publish.Failed set rose = inr (refl, rose)
