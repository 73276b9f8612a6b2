-- What a call leads to, by the steps that it makes and those of others beside them.
use Rattle.std.proofs.Common.{◌≡◌, ◌≤◌, ℕ, ◌+◌, refl, sym, ◌∙◌, subst, arith, inl, inr, ◌⊎◌, Result, Ok, Err}
use Rattle.std.specs.Result.{OnErr, OnOk}
use Rattle.std.proofs.lemmas.Bool.{cases_lt}
use Rattle.hg_shelf.specs.History.{Files, Passes}
use Rattle.hg_shelf.specs.Images.{Acts, Course, Goes, Scene, last_scene, scene}
use Rattle.hg_shelf.specs.Rules.{Changes, SyncsNames}
use Rattle.hg_shelf.proofs.Scenes.{Carried, acts, changes, first_part, goes_same, goes_trans, passes, second_part, starts, syncs_names}
use Rattle.hg_store.specs.Storing.{IsAlone, Leads, Proceeds}

-- ---- parts of a call

pub proceeds_same : (a : Course) → Proceeds a a
proceeds_same a = record { goes = goes_same a; ours = refl; locks = refl }

pub proceeds_call : {a b : Course} → Goes a b → b.history.ours ≡ a.history.ours → b.history.locks ≡ a.history.locks → Proceeds a b
proceeds_call goes ours locks = record { goes = goes; ours = ours; locks = locks }

pub proceeds_trans : {a b c : Course} → Proceeds a b → Proceeds b c → Proceeds a c
proceeds_trans {a} {b} {c} p q = record { goes = goes_trans a b c p.goes q.goes; ours = q.ours ∙ p.ours; locks = q.locks ∙ p.locks }

pub alone_first : {a b c : Course} → Proceeds b c → IsAlone a c → IsAlone a b
alone_first {a} {b} {c} q alone = record { ours = alone.ours; calm = first_part a b c q.goes alone.calm }

pub alone_second : {a b c : Course} → Proceeds a b → IsAlone a c → IsAlone b c
alone_second {a} {b} {c} p alone = record { ours = p.ours ∙ alone.ours; calm = second_part a b c p.goes alone.calm }

-- ---- a change that leads from one moment to another

pub leads_same : (change : Files → Files → Type 0) (a : Course) → ((f : Files) → change f f) → Leads change a a
leads_same change a still = record {
  shown = λ k after before. subst (λ (m : ℕ). change (last_scene a).files (scene a m).files) (omega (arith, after, before)) (still (last_scene a).files);
  left = λ k f after before is. (f, subst (λ (m : ℕ). (scene a m).leaves f) (omega (arith, after, before)) is, still f);
  done = λ f is. (f, is, still f);
}

pub leads_trans : (change : Files → Files → Type 0) → ((d e f : Files) → change d e → change e f → change d f) → {a b c : Course} → Proceeds a b → Proceeds b c → Leads change a b → Leads change b c → Leads change a c
leads_trans change join {a} {b} {c} p q first second = record {
  shown = λ k after before. elim (cases_lt b.history.last k) [
    | inl late ↦ join (last_scene a).files (last_scene b).files (scene c k).files (first.shown b.history.last p.goes.past.later (omega arith)) (second.shown k (omega (arith, late)) before)
    | inr early ↦ subst (change (last_scene a).files) (sym (q.goes.kept k early).shown) (first.shown k after early)
  ];
  left = λ k f after before is. elim (cases_lt b.history.last k) [
    | inl late ↦
        let near = second.left k f (omega (arith, late)) before is in
        let far = first.left b.history.last near.0 p.goes.past.later (omega arith) near.1 in
        (far.0, far.1, join far.0 near.0 f far.2 near.2)
    | inr early ↦ first.left k f after early ((q.goes.kept k early).left f is)
  ];
  done = λ f is. let near = second.done f is in let far = first.done near.0 near.1 in (far.0, far.1, join far.0 near.0 f far.2 near.2);
}

-- the same of a call in two parts, each of which leads so where the caller is alone
pub leads_on : (change : Files → Files → Type 0) → ((d e f : Files) → change d e → change e f → change d f) → {a b c : Course} → Proceeds a b → Proceeds b c → (IsAlone a b → Leads change a b) → (IsAlone b c → Leads change b c) → IsAlone a c → Leads change a c
leads_on change join p q first second alone = leads_trans change join p q (first (alone_first q alone)) (second (alone_second p alone))

pub leads_weaker : (change weaker : Files → Files → Type 0) → ((d f : Files) → change d f → weaker d f) → {a b : Course} → Leads change a b → Leads weaker a b
leads_weaker change weaker by {a} {b} leads = record {
  shown = λ k after before. by (last_scene a).files (scene b k).files (leads.shown k after before);
  left = λ k f after before is. let was = leads.left k f after before is in (was.0, was.1, by was.0 f was.2);
  done = λ f is. let was = leads.done f is in (was.0, was.1, by was.0 f was.2);
}

-- what is shown at the end
pub leads_last : {change : Files → Files → Type 0} {a b : Course} → Proceeds a b → Leads change a b → change (last_scene a).files (last_scene b).files
leads_last {change} {a} {b} p leads = leads.shown b.history.last p.goes.past.later (omega arith)

-- ---- steps

-- what comes by a change from what was there before
abbrev pub From : (Files → Files → Type 0) → (Files → Type 0) → Files → Type 0
From change before f = (d : Files) × before d × change d f

-- what is shown at the start
abbrev pub Shown : Course → Files → Type 0
Shown a f = f ≡ (last_scene a).files

-- one step, by changes of what is shown, of what a crash leaves, and of what of it has all names done
abbrev pub Moves : (shows leaves names : Files → Files → Type 0) → Course → Course → Type 0
Moves shows leaves names a b =
    Carried a b (shows (last_scene a).files) (From leaves (last_scene a).leaves) (From names (last_scene a).named)
    (λ f. Shown a f ⊎ shows (last_scene a).files f) (λ f. (last_scene a).leaves f ⊎ From leaves (last_scene a).leaves f)

pub stepped : (rule : Scene → Scene → Type 0) (shows leaves names : Files → Files → Type 0) (a b : Course) → IsAlone a b → Proceeds a b → Acts rule a b
    → ((k : ℕ) → (scene b k).files ≡ (last_scene a).files → rule (scene b k) (scene b (k + 1)) → Changes shows leaves names (scene b k) (scene b (k + 1)))
    → Moves shows leaves names a b
stepped rule shows leaves names a b alone p own by =
    acts rule a b (Shown a) (last_scene a).leaves (last_scene a).named (shows (last_scene a).files) (From leaves (last_scene a).leaves) (From names (last_scene a).named) alone.ours p.ours p.goes own alone.calm.others (starts a alone.ours).knows
    (λ k step knows.
    let change : Changes shows leaves names (scene b k) (scene b (k + 1)) = by k knows.shown step in
    let next = changes shows leaves names (scene b k) (scene b (k + 1)) (Shown a) (last_scene a).leaves (last_scene a).named change knows in
    record { shown = subst (λ (f : Files). shows f (scene b (k + 1)).files) knows.shown change.shown; left = next.left; done = next.done })

pub moved_leads : (change shows leaves names : Files → Files → Type 0) (a b : Course) → Moves shows leaves names a b → ((f : Files) → change f f)
    → ((f : Files) → shows (last_scene a).files f → change (last_scene a).files f)
    → ((d f : Files) → (last_scene a).leaves d → leaves d f → change d f)
    → ((d f : Files) → (last_scene a).named d → names d f → change d f)
    → Leads change a b
moved_leads change shows leaves names a b carried still shown left done = record {
  shown = λ k after before. elim (carried.each k after before).shown [
    | inl same ↦ subst (change (last_scene a).files) (sym same) (still (last_scene a).files)
    | inr next ↦ shown (scene b k).files next
  ];
  left = λ k f after before is. elim ((carried.each k after before).left f is) [
    | inl same ↦ (f, same, still f)
    | inr next ↦ (next.0, next.1, left next.0 f next.1 next.2)
  ];
  done = λ f is. let was = carried.knows.done f is in (was.0, was.1, done was.0 f was.1 was.2);
}

-- what is known where others alone made steps
pub record IsPassed (a b : Course) : Type 0 where
  pub shown : (last_scene b).files ≡ (last_scene a).files
  pub left : (f : Files) → (last_scene b).leaves f → (last_scene a).leaves f
  pub done : (f : Files) → (last_scene b).named f → (last_scene a).named f
  pub each : (k : ℕ) → a.history.last ≤ k → k ≤ b.history.last → (scene b k).files ≡ (last_scene a).files
  pub each_left : (k : ℕ) (f : Files) → a.history.last ≤ k → k ≤ b.history.last → (scene b k).leaves f → (last_scene a).leaves f

pub passed : (a b : Course) → IsAlone a b → Goes a b → Passes a.history b.history → IsPassed a b
passed a b alone goes none =
    let carried = passes a b (Shown a) (last_scene a).leaves (last_scene a).named alone.ours goes none alone.calm.others (starts a alone.ours).knows in
    record {
      shown = carried.knows.shown;
      left = carried.knows.left;
      done = carried.knows.done;
      each = λ k after before. (carried.each k after before).shown;
      each_left = λ k f after before is. (carried.each k after before).left f is;
    }

pub passed_leads : (change : Files → Files → Type 0) (a b : Course) → ((f : Files) → change f f) → IsPassed a b → Leads change a b
passed_leads change a b still is = record {
  shown = λ k after before. subst (change (last_scene a).files) (sym (is.each k after before)) (still (last_scene a).files);
  left = λ k f after before left. (f, is.each_left k f after before left, still f);
  done = λ f done. (f, is.done f done, still f);
}

-- ---- all names are made sure

abbrev Same : Files → Files → Type 0
Same d f = f ≡ d

names_change : (a b : Scene) → SyncsNames a b → Changes Same Same Same a b
names_change a b rule = record { shown = rule.same.shown; left = λ f is. (f, rule.same.left f is, refl); done = λ f is. (f, rule.same.done f is, refl) }

pub names_leads : (change : Files → Files → Type 0) (a b : Course) → ((f : Files) → change f f) → IsAlone a b → Proceeds a b → Acts SyncsNames a b → Leads change a b
names_leads change a b still alone p own =
    moved_leads change Same Same Same a b (stepped SyncsNames Same Same Same a b alone p own (λ k same rule. names_change (scene b k) (scene b (k + 1)) rule)) still
    (λ f is. subst (change (last_scene a).files) (sym is) (still (last_scene a).files)) (λ d f was is. subst (change d) (sym is) (still d)) (λ d f was is. subst (change d) (sym is) (still d))

pub record AreSure (a b : Course) : Type 0 where
  pub shown : (last_scene b).files ≡ (last_scene a).files
  pub left : (f : Files) → (last_scene b).leaves f → (last_scene a).named f

pub names_sure : (a b : Course) → IsAlone a b → Proceeds a b → Acts SyncsNames a b → AreSure a b
names_sure a b alone p own =
    let carried = acts SyncsNames a b (Shown a) (last_scene a).leaves (last_scene a).named (Shown a) (last_scene a).named (last_scene a).named alone.ours p.ours p.goes own alone.calm.others (starts a alone.ours).knows
    (λ k rule knows. syncs_names (scene b k) (scene b (k + 1)) (Shown a) (last_scene a).leaves (last_scene a).named rule knows) in
    record { shown = carried.knows.shown; left = carried.knows.left }

-- ---- answers

-- what a call did, whether it succeeded or failed
pub either : {T E A P : Type 0} (r : Result T E) → OnOk r A → OnErr r (A ⊎ P) → A ⊎ P
either (Ok x) done perhaps = inl done
either (Err e) done perhaps = perhaps

pub on_ok : {T E A B : Type 0} (r : Result T E) → (A → B) → OnOk r A → OnOk r B
on_ok (Ok x) by is = by is
on_ok (Err e) by is = tt

pub either_torn : {T E A B P : Type 0} (r : Result T E) → (A → B) → OnOk r A → OnErr r (B ⊎ P) → B ⊎ P
either_torn (Ok x) by done perhaps = inl (by done)
either_torn (Err e) by done perhaps = perhaps
