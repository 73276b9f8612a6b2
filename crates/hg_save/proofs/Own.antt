-- What each step of the caller's own does in a part of a publication.
use Rattle.std.proofs.Common.{◌≡◌, ℕ, ◌+◌, ◌<◌, ◌≤◌, Bool, true, List, length, IsSome, refl, sym, ◌∙◌, subst, arith, inl, inr, ◌⊎◌}
use Rattle.std.proofs.lemmas.Bool.{cases_lt}
use Rattle.hg_shelf.specs.History.{By, Files, Passes, label, readers, us}
use Rattle.hg_shelf.specs.Images.{Acts, Course, Goes, Remains, Scene, last_scene, scene}
use Rattle.hg_shelf.specs.Polite.{Undisturbed}
use Rattle.hg_shelf.specs.Rules.{Perhaps, Removes, Renames, Surely, Syncs, SyncsNames, Tears, TornAt, Writes, moved, without}
use Rattle.hg_shelf.proofs.Scenes.{Knows, first_part, knows_later, remains_trans, stays_until}
use Rattle.hg_save.specs.Leads.{OnceBy, OwnSteps, StepBy}
use Rattle.hg_save.proofs.Parts.{torn_by_write, torn_itself}

-- ---- the steps of one call

-- a step of others, while the caller holds the lock, is none of its own
not_own : (a b : Course) (from to k : ℕ) → a.history.ours ≡ true → By (label a.history.ours) b.history from to → from ≤ k → k < to → b.history.who k ≡ us → ⊥
not_own a b from to k ours by after before own =
    let theirs : By readers b.history from to = subst (λ (t : Bool). By (label t) b.history from to) ours by in
    cc (sym own ∙ theirs k after before)

-- of a call that made one step, that is its own
own_place : (rule : Scene → Scene → Type 0) (a b : Course) → a.history.ours ≡ true → (own : Acts rule a b) → (k : ℕ) → a.history.last ≤ k → k < b.history.last → b.history.who k ≡ us → k ≡ own.place
own_place rule a b ours own k after before is = elim (cases_lt k own.place) [
  | inl early ↦ absurd (not_own a b a.history.last own.place k ours own.before after early is)
  | inr from ↦ elim (cases_lt own.place k) [
    | inl late ↦ absurd (not_own a b (own.place + 1) b.history.last k ours own.behind (omega (arith, late)) before is)
    | inr to ↦ omega (arith, from, to)
  ]
]

one_step : (rule other : Scene → Scene → Type 0) (a b : Course) → a.history.ours ≡ true → (own : Acts rule a b) → other (scene b own.place) (scene b (own.place + 1)) → OwnSteps other a b
one_step rule other a b ours own step = record {
  each = λ k after before is. subst (λ (m : ℕ). other (scene b m) (scene b (m + 1))) (sym (own_place rule a b ours own k after before is)) step;
}

no_step : (rule : Scene → Scene → Type 0) (a b : Course) → a.history.ours ≡ true → Passes a.history b.history → OwnSteps rule a b
no_step rule a b ours none = record { each = λ k after before is. absurd (not_own a b a.history.last b.history.last k ours none.by_others after before is) }

perhaps_step : (rule other : Scene → Scene → Type 0) (a b : Course) → a.history.ours ≡ true → Acts rule a b ⊎ Passes a.history b.history
    → ((own : Acts rule a b) → other (scene b own.place) (scene b (own.place + 1))) → OwnSteps other a b
perhaps_step rule other a b ours (inl own) step = one_step rule other a b ours own (step own)
perhaps_step rule other a b ours (inr none) step = no_step other a b ours none

-- nothing was called
pub no_call : (rule : Scene → Scene → Type 0) (a : Course) → OwnSteps rule a a
no_call rule a = record { each = λ k after before is. absurd (omega (arith, after, before)) }

-- ---- one part after another

pub steps_on : (rule : Scene → Scene → Type 0) (a b c : Course) → ((x y u v : Scene) → Remains x u → Remains u x → Remains y v → rule x y → rule u v) → OwnSteps rule a b → Goes b c → OwnSteps rule b c → OwnSteps rule a c
steps_on rule a b c along first goes second = record {
  each = λ k after before is. elim (cases_lt k b.history.last) [
    | inl early ↦
        along (scene b k) (scene b (k + 1)) (scene c k) (scene c (k + 1)) (goes.kept k (omega (arith, early))) (goes.back k (omega (arith, early))) (goes.kept (k + 1) (omega (arith, early)))
        (first.each k after early (sym (goes.past.who k early) ∙ is))
    | inr late ↦ second.each k late before is
  ];
}

-- what each step does, said more weakly
pub steps_weaker : (change weak : Files → Files → Type 0) → ((c d : Files) → change c d → weak c d) → (a b : Course) → OwnSteps (StepBy change) a b → OwnSteps (StepBy weak) a b
steps_weaker change weak weaken a b steps = record {
  each = λ k after before is.
      let step = steps.each k after before is in
      record { shown = weaken (scene b k).files (scene b (k + 1)).files step.shown; left = λ f is. let was = step.left f is in (was.0, was.1, weaken was.0 f was.2) };
}

step_along : (change : Files → Files → Type 0) (x y u v : Scene) → Remains x u → Remains u x → Remains y v → StepBy change x y → StepBy change u v
step_along change x y u v there back behind step = record {
  shown = subst (λ (f : Files). change f v.files) (sym there.shown) (subst (change x.files) (sym behind.shown) step.shown);
  left = λ c is. let was = step.left c (behind.left c is) in (was.0, back.left was.0 was.1, was.2);
}

once_along : (start : Scene) (change : Files → Files) (x y u v : Scene) → Remains x u → Remains u x → Remains y v → OnceBy start change x y → OnceBy start change u v
once_along start change x y u v there back behind (inl still) = inl (remains_trans u x v back (remains_trans x y v still behind))
once_along start change x y u v there back behind (inr first) =
    let step = step_along (Surely change) x y u v there back behind in
    inr (record {
      since = remains_trans start x u first.since there;
      shown = subst (λ (f : Files). Surely change f v.files) (sym there.shown) (subst (Surely change x.files) (sym behind.shown) first.shown);
      left = λ c is. let was = first.left c (behind.left c is) in (was.0, back.left was.0 was.1, was.2);
    })

-- ---- a write that is made sure

still_step : (name : List ℕ) (place n : ℕ) (x y : Scene) → Remains x y → StepBy (TornAt name place n) x y
still_step name place n x y still = record {
  shown = subst (TornAt name place n x.files) (sym still.shown) (torn_itself name place n x.files);
  left = λ c is. (c, still.left c is, torn_itself name place n c);
}

torn_step : (name : List ℕ) (place : ℕ) (bytes : List ℕ) (x y : Scene) → Tears name place bytes x y → StepBy (TornAt name place (length bytes)) x y
torn_step name place bytes x y step = record { shown = step.shown; left = step.left }

write_step : (name : List ℕ) (place : ℕ) (bytes : List ℕ) (x y : Scene) → Writes name place bytes x y → StepBy (TornAt name place (length bytes)) x y
write_step name place bytes x y step = record { shown = torn_by_write name place bytes x.files y.files step.shown; left = step.left }

module _ (name : List ℕ) (place : ℕ) (bytes : List ℕ) (a b : Course) (ours : a.history.ours ≡ true) where
  -- what each step does
  abbrev Tearing : Scene → Scene → Type 0
  Tearing = StepBy (TornAt name place (length bytes))

  pub tears_failed : Acts (Tears name place bytes) a b ⊎ Passes a.history b.history → OwnSteps Tearing a b
  tears_failed (inl own) = one_step (Tears name place bytes) Tearing a b ours own (torn_step name place bytes (scene b own.place) (scene b (own.place + 1)) own.step)
  tears_failed (inr none) = no_step Tearing a b ours none

  wrote_steps : Acts (Writes name place bytes) a b → OwnSteps Tearing a b
  wrote_steps own = one_step (Writes name place bytes) Tearing a b ours own (write_step name place bytes (scene b own.place) (scene b (own.place + 1)) own.step)

  module _ (c : Course) (still : b.history.ours ≡ a.history.ours) (second : Goes b c) (own : Acts (Writes name place bytes) a b) where
    pub tears_unsynced : Passes b.history c.history → OwnSteps Tearing a c
    tears_unsynced none = steps_on Tearing a b c (step_along (TornAt name place (length bytes))) (wrote_steps own) second (no_step Tearing b c (still ∙ ours) none)

    pub tears_synced : Acts (Syncs name) b c → OwnSteps Tearing a c
    tears_synced sure =
        steps_on Tearing a b c (step_along (TornAt name place (length bytes))) (wrote_steps own) second
        (one_step (Syncs name) Tearing b c (still ∙ ours) sure (still_step name place (length bytes) (scene c sure.place) (scene c (sure.place + 1)) sure.step.same))

-- ---- a rename that is made sure

-- nothing changed before the one step of a call
remains_until : (rule : Scene → Scene → Type 0) (a b : Course) → a.history.ours ≡ true → Goes a b → Undisturbed a b → (own : Acts rule a b) → Remains (last_scene a) (scene b own.place)
remains_until rule a b ours goes calm own =
    let S : Files → Type 0 = λ f. f ≡ (last_scene a).files in
    let before : By readers b.history a.history.last own.place = subst (λ (t : Bool). By (label t) b.history a.history.last own.place) ours own.before in
    let start : Knows (last_scene a) S (last_scene a).leaves (last_scene a).named = record { shown = refl; left = λ f is. is; done = λ f is. is } in
    let there = stays_until b a.history.last own.place own.place S (last_scene a).leaves (last_scene a).named calm.others before (omega (arith, own.to))
    (knows_later a b S (last_scene a).leaves (last_scene a).named goes start) own.from (omega arith) in
    record { shown = there.shown; left = there.left; done = there.done }

rename_step : (from to : List ℕ) (start x y : Scene) → IsSome (start.files from) → Remains start x → Renames from to x y → OnceBy start (moved from to) x y
rename_step from to start x y there since step =
    let change = step.there (subst (λ (f : Files). IsSome (f from)) (sym since.shown) there) in
    inr (record { since = since; shown = change.shown; left = change.left })

module _ (from to : List ℕ) (a b : Course) (ours : a.history.ours ≡ true) (first : Goes a b) (there : IsSome ((last_scene a).files from)) where
  renamed_at : Undisturbed a b → (own : Acts (Renames from to) a b) → OnceBy (last_scene a) (moved from to) (scene b own.place) (scene b (own.place + 1))
  renamed_at calm own = rename_step from to (last_scene a) (scene b own.place) (scene b (own.place + 1)) there (remains_until (Renames from to) a b ours first calm own) own.step

  pub rename_failed_steps : Undisturbed a b → Acts (Renames from to) a b ⊎ Passes a.history b.history → OwnSteps (OnceBy (last_scene a) (moved from to)) a b
  rename_failed_steps calm did = perhaps_step (Renames from to) (OnceBy (last_scene a) (moved from to)) a b ours did (renamed_at calm)

  module _ (c : Course) (still : b.history.ours ≡ a.history.ours) (second : Goes b c) (calm : Undisturbed a c) (own : Acts (Renames from to) a b) where
    begun : OwnSteps (OnceBy (last_scene a) (moved from to)) a b
    begun = one_step (Renames from to) (OnceBy (last_scene a) (moved from to)) a b ours own (renamed_at (first_part a b c second calm) own)

    pub names_failed_steps : Passes b.history c.history → OwnSteps (OnceBy (last_scene a) (moved from to)) a c
    names_failed_steps none =
        steps_on (OnceBy (last_scene a) (moved from to)) a b c (once_along (last_scene a) (moved from to)) begun second (no_step (OnceBy (last_scene a) (moved from to)) b c (still ∙ ours) none)

    pub swap_steps : Acts SyncsNames b c → OwnSteps (OnceBy (last_scene a) (moved from to)) a c
    swap_steps sure =
        steps_on (OnceBy (last_scene a) (moved from to)) a b c (once_along (last_scene a) (moved from to)) begun second
        (one_step SyncsNames (OnceBy (last_scene a) (moved from to)) b c (still ∙ ours) sure (inl sure.step.same))

-- ---- a removal

remove_step : (name : List ℕ) (x y : Scene) → Removes name x y → StepBy (Perhaps (without name)) x y
remove_step name x y step = record { shown = inr step.shown; left = step.left }

pub remove_steps : (name : List ℕ) (a b : Course) → a.history.ours ≡ true → Acts (Removes name) a b ⊎ Passes a.history b.history → OwnSteps (StepBy (Perhaps (without name))) a b
remove_steps name a b ours did =
    perhaps_step (Removes name) (StepBy (Perhaps (without name))) a b ours did (λ own. remove_step name (scene b own.place) (scene b (own.place + 1)) own.step)
