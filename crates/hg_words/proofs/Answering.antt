-- What is answered where `clap` takes the words, and where it refuses them.
use Rattle.std.proofs.Common.{◌≡◌, ◌⊎◌, inl, inr, true, false, List, [], ◌∷◌, drop, Option, Some, None, is_some, refl, sym, ap, ◌∙◌, true≢false, subst}
use Rattle.std.specs.List.{list_all}
use Rattle.std.proofs.lemmas.Bool.{and_parts}
use Rattle.hg_words.specs.Command.{Flag, Parted, parted_of}
use Rattle.hg_words.specs.Clapped.{AreTexts, Parts, app, fault_of_kind, is_good}
use Rattle.hg_words.specs.declared.fault.WordsFault.{WordsFault}
use Rattle.hg_words.specs.declared.fault.WordsFault.TheVariants as a_fault
use Rattle.hg_words.proofs.Letters.{is_fine}
use Rattle.hg_words.proofs.Refused.{reads, refuses}
use Rattle.clap.specs.Faults.{fault_of, is_free_app, is_simple_and_free}
use Rattle.clap.specs.Kinds.{HasKind, IsAmong, Kinds}
use Rattle.clap.specs.Simple.{App, built, is_simple, matches_of}
use Rattle.clap.specs.Values.{kind_of}
use Rattle.clap.specs.Walk.{Row, Text}
use Rattle.clap.specs.declared.error.Error.{Error}
use Rattle.clap.specs.declared.error.kind.ErrorKind.{ErrorKind}
use Rattle.clap.specs.declared.error.kind.ErrorKind.TheVariants as a_kind

fault_either : (kind : ErrorKind) → (fault_of_kind kind ≡ a_fault.OutOfMemory) ⊎ (fault_of_kind kind ≡ a_fault.Usage)
fault_either a_kind.OutOfMemory = inl refl
fault_either kind = inr refl

module _ (name : Text) (flags : List Flag) (good : list_all is_good flags ≡ true) (a : App) (is : a ≡ app name flags) (all : List Text) (texts : AreTexts (drop 1 all)) where
  -- it took the words
  pub taken : (rows : List Row) → fault_of a all ≡ [] → is_simple_and_free (app name flags) ≡ true → (is_simple a ≡ true → rows ≡ matches_of a all) → Parts flags (drop 1 all) rows
  taken rows none simple matches = by (parted_of flags (drop 1 all)) refl
    where
      by : (o : Option Parted) → parted_of flags (drop 1 all) ≡ o → Parts flags (drop 1 all) rows
      by None parted_is =
          absurd (true≢false (sym (ap is_fine (sym (ap (λ (x : App). fault_of x all) is) ∙ none)) ∙ refuses name flags good all texts ∙ ap is_some parted_is))
      by (Some parted) parted_is =
          subst (λ (r : List Row). Parts flags (drop 1 all) r)
          (sym (matches (ap is_simple is ∙ (and_parts (is_simple (app name flags)) (is_free_app (built (app name flags))) simple).0) ∙ ap (λ (x : App). matches_of x all) is))
          (reads name flags good all parted texts parted_is)

  among_refused : (kind : ErrorKind) (kinds : Kinds) → IsAmong kind kinds → is_fine kinds ≡ false
  among_refused kind [] among = absurd among
  among_refused kind (k ∷ kinds) among = refl

  -- it refused them
  pub turned_down : (e : Error) (fault : WordsFault) → HasKind (fault_of a all) e → fault ≡ fault_of_kind (kind_of e)
      → (fault ≡ a_fault.OutOfMemory) ⊎ ((fault ≡ a_fault.Usage) × (parted_of flags (drop 1 all) ≡ None))
  turned_down e fault (inl memory) so = inl (so ∙ ap fault_of_kind memory)
  turned_down e fault (inr among) so = by (fault_either (kind_of e))
    where
      none : (o : Option Parted) → parted_of flags (drop 1 all) ≡ o → is_some o ≡ false → o ≡ None
      none None is_so e = refl
      none (Some parted) is_so e = absurd (true≢false e)

      is_none : parted_of flags (drop 1 all) ≡ None
      is_none = none (parted_of flags (drop 1 all)) refl
          (sym (refuses name flags good all texts) ∙ ap is_fine (ap (λ (x : App). fault_of x all) (sym is)) ∙ among_refused (kind_of e) (fault_of a all) among)

      by : (fault_of_kind (kind_of e) ≡ a_fault.OutOfMemory) ⊎ (fault_of_kind (kind_of e) ≡ a_fault.Usage)
          → (fault ≡ a_fault.OutOfMemory) ⊎ ((fault ≡ a_fault.Usage) × (parted_of flags (drop 1 all) ≡ None))
      by (inl memory) = inl (so ∙ memory)
      by (inr usage) = inr (so ∙ usage, is_none)
