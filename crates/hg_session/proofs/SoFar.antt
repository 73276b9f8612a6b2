-- What holds of the words so far, and of the call whenever it ends.
use Rattle.std.proofs.Common.{ℕ, ◌≡◌, ◌+◌, Bool, true, false, List, [], ◌∷◌, ◌++◌, take, Option, Some, inl, inr, refl, sym, ap, ◌∙◌, subst, true≢false}
use Rattle.std.specs.Prelude.{IsTrue}
use Rattle.std.specs.List.{slice_get}
use Rattle.std.proofs.lemmas.Bool.{cases_Bool}
use Rattle.std.proofs.lemmas.List.{take_more}
use Rattle.std.proofs.lemmas.Option.{get_or_from_slice_get, slice_get_within}
use Rattle.hg_entry.specs.Table.{Table}
use Rattle.hg_mixed.specs.Edits.{IsOfSameImage}
use Rattle.hg_nodes.specs.Edits.{IsSame, Marks}
use Rattle.hg_mixed.specs.Held.{Held, table}
use Rattle.hg_nodes.proofs.Edited.{same_trans}
use Rattle.hg_ops.specs.declared.refusal.Refusal.{Refusal}
use Rattle.hg_session.specs.Acts.{Deed, IsActed, IsStep, Stepping, refused_line}
use Rattle.hg_session.proofs.Acted.{acted_more, acted_none}
use Rattle.hg_session.proofs.SameTables.{table_stays}
use Rattle.hg_tree.specs.History.{Extends, History, Passes}
use Rattle.hg_tree.proofs.Spans.{passes_same, passes_trans}

-- ---- the words so far

-- one word more
pub word_more : (words : List (List ℕ)) (i : ℕ) (word : List ℕ) → slice_get words i ≡ Some word → take (i + 1) words ≡ take i words ++ word ∷ []
word_more words i word is =
    take_more words i word (slice_get_within words i word is) ∙ ap (λ (w : List ℕ). take i words ++ w ∷ []) (get_or_from_slice_get words i word word is)

-- a table in memory stays one of the same image
pub image_trans : (old between new : Held) → IsOfSameImage old between → IsOfSameImage between new → IsOfSameImage old new
image_trans old between new p q = record { docket = q.docket ∙ p.docket; bytes = q.bytes ∙ p.bytes }

-- ---- what holds so far

-- a command did what it says for these words, and met no fault; of the mark that something was changed
pub record SoFar (name : List ℕ) (Steps : Stepping) (start at : History) (words : List (List ℕ)) (old new : Held) (lines : List ℕ) (before after : ℕ) : Type 0 where
  pub acted : old.changed ≡ false → IsActed name Steps words (record { old = start; new = at; before = before; after = after }) (table old) (table new) lines new.changed
  pub image : IsOfSameImage old new
  pub count : after ≡ before

-- at first there are no words, and nothing was done
pub none_yet : (name : List ℕ) (Steps : Stepping) (start : History) (held : Held) (lines : List ℕ) (count : ℕ) → lines ≡ [] → SoFar name Steps start start [] held held lines count count
none_yet name Steps start held lines count none = record {
  acted = λ unset. acted_none name Steps (record { old = start; new = start; before = count; after = count }) (table held) held.changed lines refl unset none;
  image = record { docket = refl; bytes = refl };
  count = refl;
}

-- a mark that is set stays set
pub mark_stays : (same : Type 0) (was now : Bool) → Marks same was now → was ≡ true → now ≡ true
mark_stays same was true marks is = refl
mark_stays same was false marks is =
    absurd (true≢false (sym (marks.marked (λ s. true≢false (sym is ∙ sym (marks.kept s))))))

-- where it isn't set, nothing differs
pub unmarked : (a b : Table) (was now : Bool) → Marks (IsSame a b) was now → now ≡ false → IsSame a b
unmarked a b was now marks is = table_stays a b (λ differs. true≢false (sym (marks.marked differs) ∙ is))

module _ (name : List ℕ) (Steps : Stepping) (start mid at : History) (old between new : Held) (words : List (List ℕ)) (word : List ℕ) (lines : List ℕ) (one : Option Refusal) (before during after : ℕ)
    (so_far : SoFar name Steps start mid words old between lines before during) (past : Extends mid at) (step : Steps mid at word (table between) one (table new))
    (image : IsOfSameImage between new) (marks : Marks (IsSame (table new) (table between)) between.changed new.changed) (count : after ≡ during) where
  abbrev deed : Deed
  deed = record { word = word; refused = one }

  step_is : IsStep Steps mid at deed (table between) (table new)
  step_is = record { past = past; made = step }

  same_more : (IsSame (table between) (table old)) → new.changed ≡ false → IsSame (table new) (table old)
  same_more so is = same_trans (table new) (table between) (table old) (unmarked (table new) (table between) between.changed new.changed marks is) so

  changed_more : (between.changed ≡ false → IsSame (table between) (table old)) → new.changed ≡ false → IsSame (table new) (table old)
  changed_more so is = elim (cases_Bool between.changed) [
    | inl set ↦ absurd (true≢false (sym (mark_stays (IsSame (table new) (table between)) between.changed new.changed marks set) ∙ is))
    | inr unset ↦ same_more (so unset) is
  ]

  pub goes_on : SoFar name Steps start at (words ++ word ∷ []) old new (lines ++ refused_line name word one) before after
  goes_on = record {
    acted = λ unset.
        let acted = so_far.acted unset in
        acted_more name Steps mid at deed words start (table old) (table between) (table new) between.changed new.changed lines before during after
        acted step_is marks.kept (changed_more acted.same);
    image = image_trans old between new so_far.image image;
    count = count ∙ so_far.count;
  }

-- the place of the next word, and the lines behind its own
pub goes_on_at : (name : List ℕ) (Steps : Stepping) (start at : History) (words : List (List ℕ)) (i : ℕ) (word : List ℕ) (old new : Held) (lines more : List ℕ) (before after : ℕ)
    → slice_get words i ≡ Some word → more ≡ lines → SoFar name Steps start at (take i words ++ word ∷ []) old new lines before after
    → SoFar name Steps start at (take (i + 1) words) old new more before after
goes_on_at name Steps start at words i word old new lines more before after is put so_far =
    subst (λ (l : List ℕ). SoFar name Steps start at (take (i + 1) words) old new l before after) (sym put)
    (subst (λ (w : List (List ℕ)). SoFar name Steps start at w old new lines before after) (sym (word_more words i word is)) so_far)

-- ---- a working copy that is only looked at

pub record Leaves (start at : History) : Type 0 where
  pub passes : Passes start at
  pub asked : IsTrue start.told → at.asked ≡ start.asked

pub leaves_same : (start : History) → Leaves start start
leaves_same start = record { passes = passes_same start; asked = λ told. refl }

pub leaves_trans : (start mid at : History) → Leaves start mid → Leaves mid at → Leaves start at
leaves_trans start mid at p q = record {
  passes = passes_trans start mid at p.passes q.passes;
  asked = λ told. q.asked (p.passes.past.told ∙ told) ∙ p.asked told;
}
