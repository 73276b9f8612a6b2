-- What the parts of a publication lead to: a write that is made sure, a rename that is made sure, a removal.
use Rattle.std.proofs.Common.{◌≡◌, ℕ, ◌+◌, List, length, Option, Some, None, IsSome, Bool, true, cond, arith, Result, Ok, Err, refl, sym, ap, ◌∙◌, subst, inl, inr, ◌⊎◌}
use Rattle.std.specs.Result.{OnErr, OnOk}
use Rattle.hg_base.proofs.Within.{equal_bytes}
use Rattle.hg_shelf.specs.History.{Files, Passes}
use Rattle.hg_shelf.specs.Images.{Acts, Course, Goes, Scene, last_scene, scene}
use Rattle.hg_shelf.specs.Polite.{Undisturbed}
use Rattle.hg_shelf.specs.Rules.{Changes, Perhaps, Removes, Renames, Surely, Syncs, SyncsNames, Tears, TornAt, TornFile, Writes, Written, content, moved, overwritten, without}
use Rattle.hg_shelf.specs.Torn.{torn_over}
use Rattle.hg_shelf.proofs.Scenes.{Carried, Knows, acts, changes, first_part, goes_on, passes, second_part, starts, syncs, syncs_names}
use Rattle.hg_save.specs.Leads.{IsDone, IsSure, IsWhole, Leads}

-- what comes by a change from what was there before
abbrev From : (Files → Files → Type 0) → (Files → Type 0) → Files → Type 0
From change before c = (d : Files) × before d × change d c

-- what is shown at the start
abbrev Shown : Course → Files → Type 0
Shown a f = f ≡ (last_scene a).files

-- what is shown there, or by a change of it; and what a crash leaves
abbrev ShownBy : (Files → Files → Type 0) → Course → Files → Type 0
ShownBy shows a f = Shown a f ⊎ shows (last_scene a).files f

abbrev LeftBy : (Files → Files → Type 0) → Course → Files → Type 0
LeftBy leaves a c = (last_scene a).leaves c ⊎ From leaves (last_scene a).leaves c

-- what is shown, and what a crash leaves, by three changes
abbrev Moves : (shows leaves names : Files → Files → Type 0) → Course → Course → Type 0
Moves shows leaves names a b = Carried a b (shows (last_scene a).files) (From leaves (last_scene a).leaves) (From names (last_scene a).named) (ShownBy shows a) (LeftBy leaves a)

leads_by : (change : Files → Files → Type 0) (old new : Course) (S Q R O P : Files → Type 0) → Carried old new S Q R O P → ((f : Files) → O f → change (last_scene old).files f) → ((f : Files) → P f → From change (last_scene old).leaves f) → Leads change old new
leads_by change old new S Q R O P carried shown each = record {
  shown = λ k after before. shown (scene new k).files (carried.each k after before).shown;
  left = λ k c after before is. each c ((carried.each k after before).left c is);
}

known : (a : Course) → a.history.ours ≡ true → Knows (last_scene a) (Shown a) (last_scene a).leaves (last_scene a).named
known a ours = (starts a ours).knows

-- no step was made
pub unstepped : (change : Files → Files → Type 0) (a : Course) → a.history.ours ≡ true → ((f : Files) → change f f) → Leads change a a
unstepped change a ours still =
    leads_by change a a (Shown a) (last_scene a).leaves (last_scene a).named (Shown a) (last_scene a).leaves (starts a ours) (λ f is. subst (change (last_scene a).files) (sym is) (still (last_scene a).files)) (λ f is. (f, is, still f))

-- others alone made steps
passed : (change : Files → Files → Type 0) (a b : Course) → a.history.ours ≡ true → Goes a b → Passes a.history b.history → Undisturbed a b → ((f : Files) → change f f) → Leads change a b
passed change a b ours goes none calm still =
    leads_by change a b (Shown a) (last_scene a).leaves (last_scene a).named (Shown a) (last_scene a).leaves (passes a b (Shown a) (last_scene a).leaves (last_scene a).named ours goes none calm.others (known a ours)) (λ f is. subst (change (last_scene a).files) (sym is) (still (last_scene a).files)) (λ f is. (f, is, still f))

-- one step, by changes of what is shown, of what a crash leaves, and of what of it has all names done
stepped : (rule : Scene → Scene → Type 0) (shows leaves names : Files → Files → Type 0) (a b : Course) → a.history.ours ≡ true → b.history.ours ≡ a.history.ours → Goes a b → Acts rule a b → Undisturbed a b
    → ((k : ℕ) → (scene b k).files ≡ (last_scene a).files → rule (scene b k) (scene b (k + 1)) → Changes shows leaves names (scene b k) (scene b (k + 1)))
    → Moves shows leaves names a b
stepped rule shows leaves names a b ours still goes own calm by =
    acts rule a b (Shown a) (last_scene a).leaves (last_scene a).named (shows (last_scene a).files) (From leaves (last_scene a).leaves) (From names (last_scene a).named) ours still goes own calm.others (known a ours)
    (λ k step knows.
    let change : Changes shows leaves names (scene b k) (scene b (k + 1)) = by k knows.shown step in
    let next = changes shows leaves names (scene b k) (scene b (k + 1)) (Shown a) (last_scene a).leaves (last_scene a).named change knows in
    record { shown = subst (λ (f : Files). shows f (scene b (k + 1)).files) knows.shown change.shown; left = next.left; done = next.done })

shown_by : (change shows : Files → Files → Type 0) (a : Course) → ((f : Files) → change f f) → ((c d : Files) → shows c d → change c d) → (f : Files) → ShownBy shows a f → change (last_scene a).files f
shown_by change shows a still shown f (inl same) = subst (change (last_scene a).files) (sym same) (still (last_scene a).files)
shown_by change shows a still shown f (inr next) = shown (last_scene a).files f next

left_by : (change leaves : Files → Files → Type 0) (a : Course) → ((f : Files) → change f f) → ((c d : Files) → leaves c d → change c d) → (f : Files) → LeftBy leaves a f → From change (last_scene a).leaves f
left_by change leaves a still left f (inl same) = (f, same, still f)
left_by change leaves a still left f (inr next) = (next.0, next.1, left next.0 f next.2)

step_leads : (change shows leaves : Files → Files → Type 0) (a b : Course) (S Q R : Files → Type 0) → Carried a b S Q R (ShownBy shows a) (LeftBy leaves a)
    → ((f : Files) → change f f) → ((c d : Files) → shows c d → change c d) → ((c d : Files) → leaves c d → change c d) → Leads change a b
step_leads change shows leaves a b S Q R carried still shown left =
    leads_by change a b S Q R (ShownBy shows a) (LeftBy leaves a) carried (shown_by change shows a still shown) (left_by change leaves a still left)

-- a file that is torn nowhere
pub torn_nowhere : (place n : ℕ) (file : Option (List ℕ)) → TornFile place n file file
torn_nowhere place n None = refl
torn_nowhere place n (Some bytes) = record {
  before = λ m near within. refl;
  after = refl;
  no_shorter = omega arith;
  no_longer = omega arith;
}

pub torn_itself : (name : List ℕ) (place n : ℕ) (f : Files) → TornAt name place n f f
torn_itself name place n f = record { elsewhere = λ at apart. refl; here = torn_nowhere place n (f name) }

-- a write that came through whole
pub torn_by_write : (name : List ℕ) (place : ℕ) (bytes : List ℕ) (c d : Files) → Written name place bytes c d → TornAt name place (length bytes) c d
torn_by_write name place bytes c d is = record {
  elsewhere = is.elsewhere;
  here = subst (λ (file : Option (List ℕ)). TornFile place (length bytes) (c name) file) (sym is.here) (torn_over (content (c name)) place bytes);
}

-- ---- a write that is made sure

-- a write that failed
pub write_failed : (name : List ℕ) (place : ℕ) (bytes : List ℕ) (a b : Course) → a.history.ours ≡ true → b.history.ours ≡ a.history.ours → Goes a b → Undisturbed a b → Acts (Tears name place bytes) a b ⊎ Passes a.history b.history → Leads (TornAt name place (length bytes)) a b
write_failed name place bytes a b ours still goes calm (inl own) =
    let torn : Files → Files → Type 0 = TornAt name place (length bytes) in
    step_leads torn torn torn a b _ _ _ (stepped (Tears name place bytes) torn torn torn a b ours still goes own calm (λ k same rule. rule)) (torn_itself name place (length bytes)) (λ c d is. is) (λ c d is. is)
write_failed name place bytes a b ours still goes calm (inr none) = passed (TornAt name place (length bytes)) a b ours goes none calm (torn_itself name place (length bytes))

-- one that succeeded, before it is made sure
abbrev Wrote : List ℕ → ℕ → List ℕ → Course → Course → Type 0
Wrote name place bytes a b = Moves (Written name place bytes) (TornAt name place (length bytes)) (TornAt name place (length bytes)) a b

wrote : (name : List ℕ) (place : ℕ) (bytes : List ℕ) (a b : Course) → a.history.ours ≡ true → b.history.ours ≡ a.history.ours → Goes a b → Undisturbed a b → Acts (Writes name place bytes) a b → Wrote name place bytes a b
wrote name place bytes a b ours still goes calm own =
    stepped (Writes name place bytes) (Written name place bytes) (TornAt name place (length bytes)) (TornAt name place (length bytes)) a b ours still goes own calm (λ k same rule. rule)

wrote_leads : (name : List ℕ) (place : ℕ) (bytes : List ℕ) (a b : Course) (S Q R : Files → Type 0) → Carried a b S Q R (ShownBy (Written name place bytes) a) (LeftBy (TornAt name place (length bytes)) a) → Leads (TornAt name place (length bytes)) a b
wrote_leads name place bytes a b S Q R carried =
    step_leads (TornAt name place (length bytes)) (Written name place bytes) (TornAt name place (length bytes)) a b S Q R carried (torn_itself name place (length bytes)) (torn_by_write name place bytes) (λ c d is. is)

-- it could not be made sure
pub sync_failed : (name : List ℕ) (place : ℕ) (bytes : List ℕ) (a b c : Course) → a.history.ours ≡ true → b.history.ours ≡ a.history.ours → Goes a b → Goes b c → Undisturbed a c
    → Acts (Writes name place bytes) a b → Passes b.history c.history → Leads (TornAt name place (length bytes)) a c
sync_failed name place bytes a b c ours still first second calm own none =
    let torn : Files → Files → Type 0 = TornAt name place (length bytes) in
    let S : Files → Type 0 = Written name place bytes (last_scene a).files in
    let Q : Files → Type 0 = From torn (last_scene a).leaves in
    let R : Files → Type 0 = From torn (last_scene a).named in
    let begun = wrote name place bytes a b ours still first (first_part a b c second calm) own in
    let next = passes b c S Q R begun.ours second none (second_part a b c first calm).others begun.knows in
    wrote_leads name place bytes a c S Q R (goes_on a b c S Q R (ShownBy (Written name place bytes) a) (LeftBy torn a) S Q R S Q begun next (λ f is. inr is) (λ f is. inr is))

-- it was made sure
synced : (name : List ℕ) (place : ℕ) (bytes : List ℕ) (a b c : Course) → a.history.ours ≡ true → b.history.ours ≡ a.history.ours → c.history.ours ≡ b.history.ours → Goes a b → Goes b c → Undisturbed a c
    → Acts (Writes name place bytes) a b → Acts (Syncs name) b c
    → Carried a c (Written name place bytes (last_scene a).files) (λ f. From (TornAt name place (length bytes)) (last_scene a).leaves f × (f name ≡ Some (overwritten (content ((last_scene a).files name)) place bytes))) (From (TornAt name place (length bytes)) (last_scene a).named)
    (ShownBy (Written name place bytes) a) (LeftBy (TornAt name place (length bytes)) a)
synced name place bytes a b c ours still again first second calm own sure =
    let torn : Files → Files → Type 0 = TornAt name place (length bytes) in
    let whole : List ℕ = overwritten (content ((last_scene a).files name)) place bytes in
    let begun = wrote name place bytes a b ours still first (first_part a b c second calm) own in
    let S : Files → Type 0 = Written name place bytes (last_scene a).files in
    let Q : Files → Type 0 = From torn (last_scene a).leaves in
    let R : Files → Type 0 = From torn (last_scene a).named in
    let next = acts (Syncs name) b c S Q R S (λ f. Q f × (f name ≡ Some whole)) R begun.ours again second sure (second_part a b c first calm).others begun.knows (λ k rule knows. syncs name whole (scene c k) (scene c (k + 1)) S Q R (λ f is. is.here) rule knows) in
    goes_on a b c S Q R (ShownBy (Written name place bytes) a) (LeftBy torn a) S (λ f. Q f × (f name ≡ Some whole)) R (λ f. S f ⊎ S f) (λ f. Q f ⊎ (Q f × (f name ≡ Some whole))) begun next
    (λ f is. elim is [ inl before ↦ inr before | inr behind ↦ inr behind ]) (λ f is. elim is [ inl torn ↦ inr torn | inr both ↦ inr both.0 ])

pub put_leads : (name : List ℕ) (place : ℕ) (bytes : List ℕ) (a b c : Course) → a.history.ours ≡ true → b.history.ours ≡ a.history.ours → c.history.ours ≡ b.history.ours → Goes a b → Goes b c → Undisturbed a c
    → Acts (Writes name place bytes) a b → Acts (Syncs name) b c → Leads (TornAt name place (length bytes)) a c
put_leads name place bytes a b c ours still again first second calm own sure = wrote_leads name place bytes a c _ _ _ (synced name place bytes a b c ours still again first second calm own sure)

pub put_sure : (name : List ℕ) (place : ℕ) (bytes : List ℕ) (a b c : Course) → a.history.ours ≡ true → b.history.ours ≡ a.history.ours → c.history.ours ≡ b.history.ours → Goes a b → Goes b c → Undisturbed a c
    → Acts (Writes name place bytes) a b → Acts (Syncs name) b c → IsSure name (overwritten (content ((last_scene a).files name)) place bytes) c
put_sure name place bytes a b c ours still again first second calm own sure =
    let carried = synced name place bytes a b c ours still again first second calm own sure in
    record { shown = carried.knows.shown.here; left = λ f is. (carried.knows.left f is).1 }

-- ---- a rename that is made sure

pub perhaps_itself : (change : Files → Files) (f : Files) → Perhaps change f f
perhaps_itself change f = inl (λ name. refl)

perhaps_surely : (change : Files → Files) (c d : Files) → Surely change c d → Perhaps change c d
perhaps_surely change c d is = inr is

there_still : (from to : List ℕ) (a b : Course) (k : ℕ) → IsSome ((last_scene a).files from) → (scene b k).files ≡ (last_scene a).files → Renames from to (scene b k) (scene b (k + 1))
    → Changes (Surely (moved from to)) (Perhaps (moved from to)) (Surely (moved from to)) (scene b k) (scene b (k + 1))
there_still from to a b k there same rule = rule.there (subst (λ (f : Files). IsSome (f from)) (sym same) there)

renamed : (from to : List ℕ) (a b : Course) → a.history.ours ≡ true → b.history.ours ≡ a.history.ours → Goes a b → Undisturbed a b → IsSome ((last_scene a).files from) → Acts (Renames from to) a b
    → Moves (Surely (moved from to)) (Perhaps (moved from to)) (Surely (moved from to)) a b
renamed from to a b ours still goes calm there own =
    stepped (Renames from to) (Surely (moved from to)) (Perhaps (moved from to)) (Surely (moved from to)) a b ours still goes own calm (λ k same rule. there_still from to a b k there same rule)

-- a rename that failed
pub rename_failed : (from to : List ℕ) (a b : Course) → a.history.ours ≡ true → b.history.ours ≡ a.history.ours → Goes a b → Undisturbed a b → IsSome ((last_scene a).files from) → Acts (Renames from to) a b ⊎ Passes a.history b.history
    → Leads (Perhaps (moved from to)) a b
rename_failed from to a b ours still goes calm there (inl own) =
    step_leads (Perhaps (moved from to)) (Surely (moved from to)) (Perhaps (moved from to)) a b _ _ _ (renamed from to a b ours still goes calm there own) (perhaps_itself (moved from to)) (perhaps_surely (moved from to)) (λ c d is. is)
rename_failed from to a b ours still goes calm there (inr none) = passed (Perhaps (moved from to)) a b ours goes none calm (perhaps_itself (moved from to))

-- it was done wholly or not at all
pub rename_whole : (from to : List ℕ) (a b : Course) → a.history.ours ≡ true → b.history.ours ≡ a.history.ours → Goes a b → Undisturbed a b → IsSome ((last_scene a).files from) → Acts (Renames from to) a b ⊎ Passes a.history b.history
    → IsWhole (moved from to) a b
rename_whole from to a b ours still goes calm there (inl own) = inl (renamed from to a b ours still goes calm there own).knows.shown
rename_whole from to a b ours still goes calm there (inr none) =
    let carried = passes a b (Shown a) (last_scene a).leaves (last_scene a).named ours goes none calm.others (known a ours) in
    inr (record { shown = carried.knows.shown; left = carried.knows.left })

-- a rename that could not be made sure
pub names_failed : (from to : List ℕ) (a b c : Course) → a.history.ours ≡ true → b.history.ours ≡ a.history.ours → Goes a b → Goes b c → Undisturbed a c → IsSome ((last_scene a).files from)
    → Acts (Renames from to) a b → Passes b.history c.history → Leads (Perhaps (moved from to)) a c
names_failed from to a b c ours still first second calm there own none =
    let change : Files → Files → Type 0 = Perhaps (moved from to) in
    let begun = renamed from to a b ours still first (first_part a b c second calm) there own in
    let S : Files → Type 0 = Surely (moved from to) (last_scene a).files in
    let Q : Files → Type 0 = From change (last_scene a).leaves in
    let R : Files → Type 0 = From (Surely (moved from to)) (last_scene a).named in
    let next = passes b c S Q R begun.ours second none (second_part a b c first calm).others begun.knows in
    step_leads change (Surely (moved from to)) change a c S Q R (goes_on a b c S Q R (ShownBy (Surely (moved from to)) a) (LeftBy change a) S Q R S Q begun next (λ f is. inr is) (λ f is. inr is)) (perhaps_itself (moved from to)) (perhaps_surely (moved from to)) (λ c d is. is)

pub names_whole : (from to : List ℕ) (a b c : Course) → a.history.ours ≡ true → b.history.ours ≡ a.history.ours → Goes a b → Goes b c → Undisturbed a c → IsSome ((last_scene a).files from)
    → Acts (Renames from to) a b → Passes b.history c.history → IsWhole (moved from to) a c
names_whole from to a b c ours still first second calm there own none =
    let begun = renamed from to a b ours still first (first_part a b c second calm) there own in
    let S : Files → Type 0 = Surely (moved from to) (last_scene a).files in
    let Q : Files → Type 0 = From (Perhaps (moved from to)) (last_scene a).leaves in
    let R : Files → Type 0 = From (Surely (moved from to)) (last_scene a).named in
    inl (passes b c S Q R begun.ours second none (second_part a b c first calm).others begun.knows).knows.shown

-- a rename that was made sure
swapped : (from to : List ℕ) (a b c : Course) → a.history.ours ≡ true → b.history.ours ≡ a.history.ours → c.history.ours ≡ b.history.ours → Goes a b → Goes b c → Undisturbed a c → IsSome ((last_scene a).files from)
    → ((f : Files) → (last_scene a).named f → (last_scene a).leaves f) → Acts (Renames from to) a b → Acts SyncsNames b c
    → Carried a c (Surely (moved from to) (last_scene a).files) (From (Surely (moved from to)) (last_scene a).named) (From (Surely (moved from to)) (last_scene a).named)
    (ShownBy (Surely (moved from to)) a) (LeftBy (Perhaps (moved from to)) a)
swapped from to a b c ours still again first second calm there law own sure =
    let change : Files → Files → Type 0 = Perhaps (moved from to) in
    let begun = renamed from to a b ours still first (first_part a b c second calm) there own in
    let S : Files → Type 0 = Surely (moved from to) (last_scene a).files in
    let Q : Files → Type 0 = From change (last_scene a).leaves in
    let R : Files → Type 0 = From (Surely (moved from to)) (last_scene a).named in
    let next = acts SyncsNames b c S Q R S R R begun.ours again second sure (second_part a b c first calm).others begun.knows (λ k rule knows. syncs_names (scene c k) (scene c (k + 1)) S Q R rule knows) in
    goes_on a b c S Q R (ShownBy (Surely (moved from to)) a) (LeftBy change a) S R R (λ f. S f ⊎ S f) (λ f. Q f ⊎ R f) begun next
    (λ f is. elim is [ inl before ↦ inr before | inr behind ↦ inr behind ]) (λ f is. elim is [ inl perhaps ↦ inr perhaps | inr done ↦ inr (done.0, law done.0 done.1, inr done.2) ])

pub swap_leads : (from to : List ℕ) (a b c : Course) → a.history.ours ≡ true → b.history.ours ≡ a.history.ours → c.history.ours ≡ b.history.ours → Goes a b → Goes b c → Undisturbed a c → IsSome ((last_scene a).files from)
    → ((f : Files) → (last_scene a).named f → (last_scene a).leaves f) → Acts (Renames from to) a b → Acts SyncsNames b c → Leads (Perhaps (moved from to)) a c
swap_leads from to a b c ours still again first second calm there law own sure =
    step_leads (Perhaps (moved from to)) (Surely (moved from to)) (Perhaps (moved from to)) a c _ _ _ (swapped from to a b c ours still again first second calm there law own sure) (perhaps_itself (moved from to)) (perhaps_surely (moved from to)) (λ c d is. is)

pub swap_done : (from to : List ℕ) (a b c : Course) → a.history.ours ≡ true → b.history.ours ≡ a.history.ours → c.history.ours ≡ b.history.ours → Goes a b → Goes b c → Undisturbed a c → IsSome ((last_scene a).files from)
    → ((f : Files) → (last_scene a).named f → (last_scene a).leaves f) → Acts (Renames from to) a b → Acts SyncsNames b c → IsDone (moved from to) a c
swap_done from to a b c ours still again first second calm there law own sure =
    let carried = swapped from to a b c ours still again first second calm there law own sure in
    record { shown = carried.knows.shown; left = λ f is. let was = carried.knows.left f is in (was.0, law was.0 was.1, was.2) }

-- ---- a removal

removed : (name : List ℕ) (a b : Course) → a.history.ours ≡ true → b.history.ours ≡ a.history.ours → Goes a b → Undisturbed a b → Acts (Removes name) a b → Moves (Surely (without name)) (Perhaps (without name)) (Surely (without name)) a b
removed name a b ours still goes calm own =
    stepped (Removes name) (Surely (without name)) (Perhaps (without name)) (Surely (without name)) a b ours still goes own calm (λ k same rule. rule)

pub remove_leads : (name : List ℕ) (a b : Course) → a.history.ours ≡ true → b.history.ours ≡ a.history.ours → Goes a b → Undisturbed a b → Acts (Removes name) a b ⊎ Passes a.history b.history → Leads (Perhaps (without name)) a b
remove_leads name a b ours still goes calm (inl own) =
    step_leads (Perhaps (without name)) (Surely (without name)) (Perhaps (without name)) a b _ _ _ (removed name a b ours still goes calm own) (perhaps_itself (without name)) (perhaps_surely (without name)) (λ c d is. is)
remove_leads name a b ours still goes calm (inr none) = passed (Perhaps (without name)) a b ours goes none calm (perhaps_itself (without name))

-- what a removal did, whether it succeeded or failed
pub either : {T E A P : Type 0} (r : Result T E) → OnOk r A → OnErr r (A ⊎ P) → A ⊎ P
either (Ok x) done perhaps = inl done
either (Err e) done perhaps = perhaps

pub remove_shown : (name : List ℕ) (a b : Course) → a.history.ours ≡ true → b.history.ours ≡ a.history.ours → Goes a b → Undisturbed a b → Acts (Removes name) a b → Surely (without name) (last_scene a).files (last_scene b).files
remove_shown name a b ours still goes calm own = (removed name a b ours still goes calm own).knows.shown

-- it is shown no more
pub gone_from : (name : List ℕ) (old new : Files) → Surely (without name) old new → new name ≡ None
gone_from name old new gone = gone name ∙ ap (λ (t : Bool). cond t None (old name)) (equal_bytes name)
