-- The words of a command that changes the record, one after another.
use Rattle.std.proofs.Common.{ℕ, ◌≡◌, Bool, false, List, [], ◌∷◌, ◌++◌, map, Option, Some, None, refl, sym, ap, ◌∙◌, subst}
use Rattle.std.proofs.lemmas.List.{append_assoc, append-nil}
use Rattle.hg_entry.specs.Table.{Table}
use Rattle.hg_nodes.specs.Edits.{IsSame}
use Rattle.hg_ops.specs.declared.refusal.Refusal.{Refusal}
use Rattle.hg_ops.proofs.Added.{same_table}
use Rattle.hg_report.specs.Refusal.{refusal_line}
use Rattle.hg_session.specs.Acts.{AllIdle, AllSteps, Deed, IsActed, IsStep, NoneRefused, Stepping, refused_line, refusals_text}
use Rattle.hg_session.specs.Call.{Watched}
use Rattle.hg_session.proofs.SameTables.{one_table}
use Rattle.hg_tree.specs.History.{History}

-- ---- steps that are other steps too

module _ (Part Whole : Stepping) (wide : (before after : History) (word : List ℕ) (old : Table) (refused : Option Refusal) (new : Table)
    → Part before after word old refused new → Whole before after word old refused new) where
  abbrev pub steps_wide : (before after : History) (deeds : List Deed) (old new : Table) → AllSteps Part before after deeds old new → AllSteps Whole before after deeds old new
  steps_wide before after [] old new steps = steps
  steps_wide before after (deed ∷ more) old new steps = (
    steps.0,
    steps.1,
    record { past = steps.2.past; made = wide before steps.0 deed.word old deed.refused steps.1 steps.2.made },
    steps_wide steps.0 after more steps.1 new steps.3,
  )

  idle_wide : (before after : History) (deeds : List Deed) (old new : Table) (steps : AllSteps Part before after deeds old new)
      → AllIdle Whole before after deeds old new (steps_wide before after deeds old new steps) → AllIdle Part before after deeds old new steps
  idle_wide before after [] old new steps idle = tt
  idle_wide before after (deed ∷ more) old new steps idle = (idle.0, idle_wide steps.0 after more steps.1 new steps.3 idle.1)

  pub acted_wide : (name : List ℕ) (words : List (List ℕ)) (copy : Watched History) (old new : Table) (lines : List ℕ) (changed : Bool)
      → IsActed name Part words copy old new lines changed → IsActed name Whole words copy old new lines changed
  acted_wide name words copy old new lines changed acted = record {
    deeds = acted.deeds;
    all = acted.all;
    steps = steps_wide copy.old copy.new acted.deeds old new acted.steps;
    text = acted.text;
    silent = acted.silent;
    told = acted.told;
    idle = λ idle. acted.idle (idle_wide copy.old copy.new acted.deeds old new acted.steps idle);
    same = acted.same;
  }

-- ---- no lines

-- a text of no bytes has no bytes in its first part, nor in what is behind it
both_empty : (a b : List ℕ) → a ++ b ≡ [] → (a ≡ []) × (b ≡ [])
both_empty [] b is = (refl, is)
both_empty (x ∷ a) b is = absurd (cc is)

pub has_line : (name word : List ℕ) (refusal : Refusal) → refusal_line name word refusal ≡ [] → ⊥
has_line [] word refusal is = absurd (cc is)
has_line (x ∷ name) word refusal is = absurd (cc is)

line_empty : (name word : List ℕ) (one : Option Refusal) → refused_line name word one ≡ [] → one ≡ None
line_empty name word None is = refl
line_empty name word (Some refusal) is = absurd (has_line name word refusal is)

-- without a line no word was refused
no_lines : (name : List ℕ) (deeds : List Deed) → refusals_text name deeds ≡ [] → NoneRefused deeds
no_lines name [] is = tt
no_lines name (deed ∷ more) is =
    let parts = both_empty (refused_line name deed.word deed.refused) (refusals_text name more) is in
    (line_empty name deed.word deed.refused parts.0, no_lines name more parts.1)

-- and where none was refused there is no line
none_refused : (name : List ℕ) (deeds : List Deed) → NoneRefused deeds → refusals_text name deeds ≡ []
none_refused name [] none = refl
none_refused name (deed ∷ more) none =
    ap (λ (o : Option Refusal). refused_line name deed.word o ++ refusals_text name more) none.0 ∙ none_refused name more none.1

-- ---- one word more

module _ (name : List ℕ) (Steps : Stepping) (mid after : History) (last : Deed) where
  abbrev pub steps_more : (before : History) (deeds : List Deed) (old between new : Table) → AllSteps Steps before mid deeds old between
      → IsStep Steps mid after last between new → AllSteps Steps before after (deeds ++ last ∷ []) old new
  steps_more before [] old between new steps step = (
    after,
    new,
    subst (λ (h : History). IsStep Steps h after last old new) steps.0 (subst (λ (t : Table). IsStep Steps mid after last t new) (one_table between old steps.1) step),
    (refl, same_table new),
  )
  steps_more before (deed ∷ more) old between new steps step =
      (steps.0, steps.1, steps.2, steps_more steps.0 more steps.1 between new steps.3 step)

  -- where all of the words are idle, those before the last are, and so is the last
  idle_more : (before : History) (deeds : List Deed) (old between new : Table) (steps : AllSteps Steps before mid deeds old between)
      (step : IsStep Steps mid after last between new)
      → AllIdle Steps before after (deeds ++ last ∷ []) old new (steps_more before deeds old between new steps step)
      → AllIdle Steps before mid deeds old between steps × IsSame new between
  idle_more before [] old between new steps step idle = (tt, subst (IsSame new) (sym (one_table between old steps.1)) idle.0)
  idle_more before (deed ∷ more) old between new steps step idle =
      let rest = idle_more steps.0 more steps.1 between new steps.3 step idle.1 in
      ((idle.0, rest.0), rest.1)

  pub words_more : (deeds : List Deed) → map (λ (deed : Deed). deed.word) deeds ++ last.word ∷ [] ≡ map (λ (deed : Deed). deed.word) (deeds ++ last ∷ [])
  words_more [] = refl
  words_more (deed ∷ more) = ap (λ (l : List (List ℕ)). deed.word ∷ l) (words_more more)

  text_more : (deeds : List Deed) → refusals_text name deeds ++ refused_line name last.word last.refused ≡ refusals_text name (deeds ++ last ∷ [])
  text_more [] = sym (append-nil (refused_line name last.word last.refused))
  text_more (deed ∷ more) =
      append_assoc (refused_line name deed.word deed.refused) (refusals_text name more) (refused_line name last.word last.refused)
      ∙ ap (λ (l : List ℕ). refused_line name deed.word deed.refused ++ l) (text_more more)

  pub acted_more : (words : List (List ℕ)) (start : History) (old between new : Table) (then now : Bool) (lines : List ℕ) (before during end : ℕ)
      → IsActed name Steps words (record { old = start; new = mid; before = before; after = during }) old between lines then → IsStep Steps mid after last between new
      → (IsSame new between → now ≡ then) → (now ≡ false → IsSame new old)
      → IsActed name Steps (words ++ last.word ∷ []) (record { old = start; new = after; before = before; after = end }) old new (lines ++ refused_line name last.word last.refused) now
  acted_more words start old between new then now lines before during end acted step stays same = record {
    deeds = acted.deeds ++ last ∷ [];
    all = sym (words_more acted.deeds) ∙ ap (λ (l : List (List ℕ)). l ++ last.word ∷ []) acted.all;
    steps = steps_more start acted.deeds old between new acted.steps step;
    text = text;
    silent = λ none. text ∙ none_refused name (acted.deeds ++ last ∷ []) none;
    told = λ none. no_lines name (acted.deeds ++ last ∷ []) (sym text ∙ none);
    idle = λ idle.
        let parts = idle_more start acted.deeds old between new acted.steps step idle in
        stays parts.1 ∙ acted.idle parts.0;
    same = same;
  }
    where
      text : lines ++ refused_line name last.word last.refused ≡ refusals_text name (acted.deeds ++ last ∷ [])
      text = ap (λ (l : List ℕ). l ++ refused_line name last.word last.refused) acted.text ∙ text_more acted.deeds

-- at first there are no words, and nothing was done
pub acted_none : (name : List ℕ) (Steps : Stepping) (copy : Watched History) (old : Table) (changed : Bool) (lines : List ℕ)
    → copy.new ≡ copy.old → changed ≡ false → lines ≡ [] → IsActed name Steps [] copy old old lines changed
acted_none name Steps copy old changed lines same unset none = record {
  deeds = [];
  all = refl;
  steps = (same, same_table old);
  text = none;
  silent = λ all. none;
  told = λ empty. tt;
  idle = λ idle. unset;
  same = λ is. same_table old;
}
