-- What giving the new file its name leads to, and letting the file stand that has it.
use Rattle.std.specs.Prelude.{bytes_eq, not, ◌||◌}
use Rattle.std.proofs.lemmas.Bool.{false≢true}
use Rattle.std.specs.Result.{OnErr, OnOk}
use Rattle.std.proofs.Common.{◌≡◌, ℕ, List, Option, Some, None, IsSome, Bool, true, false, cond, refl, sym, ◌∙◌, ap, subst, inl, inr, ◌⊎◌, Result, Ok, Err}
use Rattle.std.proofs.lemmas.Slice.Eq.{bytes_eq-Decides}
use Rattle.hg_shelf.specs.History.{Files, Passes}
use Rattle.hg_shelf.specs.Images.{Acts, Course, Goes, last_scene, scene}
use Rattle.hg_shelf.specs.Rules.{Perhaps, Renames, Surely, SyncsNames, moved}
use Rattle.hg_shelf.specs.Torn.{other_name, same_name}
use Rattle.hg_base.specs.declared.id.Id20.{Id20}
use Rattle.hg_store.specs.Standing.{Decides, IsStill, clashes, is_other, standing_of}
use Rattle.hg_store.specs.declared.fault.StoreFault.{StoreFault}
use Rattle.hg_store.specs.declared.fault.StoreFault.TheVariants as a_fault
use Rattle.hg_store.specs.declared.standing.Standing.TheVariants as a_standing
use Rattle.hg_store.specs.Storing.{ButNew, IsAlone, IsCleared, IsSure, IsStored, Keeps, Leads, Proceeds, new_name}
use Rattle.hg_store.proofs.Leading.{IsPassed, Moves, alone_first, alone_second, leads_last, leads_trans, leads_weaker, moved_leads, names_leads, names_sure, passed, passed_leads, stepped}

pub keeps_same : (before : Option (List ℕ)) (name text : List ℕ) (f : Files) → Keeps before name text f f
keeps_same before name text f = record { others = λ at apart away. refl; own = inl refl }

own_trans : (before : Option (List ℕ)) (name text : List ℕ) (d e f : Files) → (e name ≡ d name) ⊎ ((before ≡ None) × (e name ≡ Some text)) → (f name ≡ e name) ⊎ ((before ≡ None) × (f name ≡ Some text)) → (f name ≡ d name) ⊎ ((before ≡ None) × (f name ≡ Some text))
own_trans before name text d e f first (inr is) = inr is
own_trans before name text d e f (inl same) (inl is) = inl (is ∙ same)
own_trans before name text d e f (inr placed) (inl is) = inr (placed.0, is ∙ placed.1)

pub keeps_trans : (before : Option (List ℕ)) (name text : List ℕ) (d e f : Files) → Keeps before name text d e → Keeps before name text e f → Keeps before name text d f
keeps_trans before name text d e f first second = record {
  others = λ at apart away. second.others at apart away ∙ first.others at apart away;
  own = own_trans before name text d e f first.own second.own;
}

pub keeps_but : (before : Option (List ℕ)) (name text : List ℕ) → (name ≡ new_name → ⊥) → (d f : Files) → ButNew d f → Keeps before name text d f
keeps_but before name text apart d f is = record { others = λ at away other. is.others at away; own = inl (is.others name apart) }

-- ---- a rename

moved_to : (name : List ℕ) (d f : Files) → Surely (moved new_name name) d f → f name ≡ d new_name
moved_to name d f is = is name ∙ ap (λ (t : Bool). cond t (d new_name) (cond (bytes_eq new_name name) None (d name))) (same_name name)

moved_from : (name : List ℕ) → (name ≡ new_name → ⊥) → (d f : Files) → Surely (moved new_name name) d f → f new_name ≡ None
moved_from name apart d f is =
    is new_name ∙ ap (λ (t : Bool). cond t (d new_name) (cond (bytes_eq new_name new_name) None (d new_name))) (other_name name new_name (λ same. apart (sym same)))
    ∙ ap (λ (t : Bool). cond t None (d new_name)) (same_name new_name)

moved_else : (name at : List ℕ) → (at ≡ new_name → ⊥) → (at ≡ name → ⊥) → (d f : Files) → Surely (moved new_name name) d f → f at ≡ d at
moved_else name at apart away d f is =
    is at ∙ ap (λ (t : Bool). cond t (d new_name) (cond (bytes_eq new_name at) None (d at))) (other_name name at away)
    ∙ ap (λ (t : Bool). cond t None (d at)) (other_name new_name at apart)

moved_keeps : (name text : List ℕ) (d f : Files) → d new_name ≡ Some text → Surely (moved new_name name) d f → Keeps None name text d f
moved_keeps name text d f there is = record { others = λ at apart away. moved_else name at apart away d f is; own = inr (refl, moved_to name d f is ∙ there) }

perhaps_keeps : (name text : List ℕ) (d f : Files) → d new_name ≡ Some text → Perhaps (moved new_name name) d f → Keeps None name text d f
perhaps_keeps name text d f there (inl same) = record { others = λ at apart away. same at; own = inl (same name) }
perhaps_keeps name text d f there (inr is) = moved_keeps name text d f there is

some_is : (file : Option (List ℕ)) (text : List ℕ) → file ≡ Some text → IsSome file
some_is None text is = absurd cc
some_is (Some bytes) text is = refl

renamed : (name text : List ℕ) (a b : Course) → IsAlone a b → Proceeds a b → IsSure new_name text a → Acts (Renames new_name name) a b → Moves (Surely (moved new_name name)) (Perhaps (moved new_name name)) (Surely (moved new_name name)) a b
renamed name text a b alone p sure own =
    stepped (Renames new_name name) (Surely (moved new_name name)) (Perhaps (moved new_name name)) (Surely (moved new_name name)) a b alone p own
    (λ k same rule. rule.there (some_is ((scene b k).files new_name) text (ap (λ (f : Files). f new_name) same ∙ sure.shown)))

-- of what a crash may leave some has all names done
abbrev pub Law : Course → Type 0
Law a = (f : Files) → (last_scene a).named f → (last_scene a).leaves f

pub rename_leads : (name text : List ℕ) (a b : Course) → Law a → IsAlone a b → Proceeds a b → IsSure new_name text a → Acts (Renames new_name name) a b ⊎ Passes a.history b.history → Leads (Keeps None name text) a b
rename_leads name text a b law alone p sure (inl own) =
    moved_leads (Keeps None name text) (Surely (moved new_name name)) (Perhaps (moved new_name name)) (Surely (moved new_name name)) a b (renamed name text a b alone p sure own) (keeps_same None name text)
    (λ f is. moved_keeps name text (last_scene a).files f sure.shown is) (λ d f was is. perhaps_keeps name text d f (sure.left d was) is) (λ d f was is. moved_keeps name text d f (sure.left d (law d was)) is)
rename_leads name text a b law alone p sure (inr none) = passed_leads (Keeps None name text) a b (keeps_same None name text) (passed a b alone p.goes none)

pub renamed_stored : (name text : List ℕ) (a b c : Course) → Law a → IsAlone a b → IsAlone b c → Proceeds a b → Proceeds b c → IsSure new_name text a → (name ≡ new_name → ⊥) → Acts (Renames new_name name) a b → Acts SyncsNames b c → IsStored name text a c
renamed_stored name text a b c law first second p q sure apart own names =
    let carried = renamed name text a b first p sure own in
    let are = names_sure b c second q names in
    record {
      shown = ap (λ (f : Files). f name) are.shown ∙ moved_to name (last_scene a).files (last_scene b).files carried.knows.shown ∙ sure.shown;
      left = λ whole f is. let was = carried.knows.done f (are.left f is) in moved_to name was.0 f was.2 ∙ sure.left was.0 (law was.0 was.1);
      cleared = ap (λ (f : Files). f new_name) are.shown ∙ moved_from name apart (last_scene a).files (last_scene b).files carried.knows.shown;
      cleared_left = λ f is. let was = carried.knows.done f (are.left f is) in moved_from name apart was.0 f was.2;
    }

-- ---- the file that stands

pub stood_stored : (name text : List ℕ) (a b c : Course) → IsAlone b c → Proceeds a b → Proceeds b c → Leads ButNew a b → IsCleared b → (name ≡ new_name → ⊥) → (last_scene a).files name ≡ Some text → Acts SyncsNames b c → IsStored name text a c
stood_stored name text a b c second p q leads cleared apart there names =
    let are = names_sure b c second q names in
    let last : ButNew (last_scene a).files (last_scene b).files = leads_last p leads in
    record {
      shown = ap (λ (f : Files). f name) are.shown ∙ last.others name apart ∙ there;
      left = λ whole f is. let was = leads.done f (are.left f is) in was.2.others name apart ∙ whole text was.0 there was.1;
      cleared = ap (λ (f : Files). f new_name) are.shown ∙ cleared.shown;
      cleared_left = λ f is. cleared.done f (are.left f is);
    }

-- all names are made sure, or that failed
pub names_either : {T E : Type 0} (change : Files → Files → Type 0) → ((f : Files) → change f f) → (a b : Course) → IsAlone a b → Proceeds a b → (r : Result T E) → OnOk r (Acts SyncsNames a b) → OnErr r (Passes a.history b.history) → Leads change a b
names_either change still a b alone p (Ok x) done none = names_leads change a b still alone p done
names_either change still a b alone p (Err e) done none = passed_leads change a b still (passed a b alone p.goes none)

-- ---- behind calls of others alone

pub still_of : (a b : Course) → IsAlone a b → Goes a b → Passes a.history b.history → IsStill a.history b.history
still_of a b alone goes none = record { told = alone.calm.told; same = λ k after before. (passed a b alone goes none).each k after before }

pub proceeds_passes : {a b : Course} → Goes a b → Passes a.history b.history → Proceeds a b
proceeds_passes goes none = record { goes = goes; ours = none.ours; locks = none.locks }

pub sure_passed : (name text : List ℕ) (a b : Course) → IsPassed a b → IsSure name text a → IsSure name text b
sure_passed name text a b is sure = record { shown = ap (λ (f : Files). f name) is.shown ∙ sure.shown; left = λ f left. sure.left f (is.left f left) }

pub stored_passed : (name text : List ℕ) (a b c : Course) → IsPassed a b → IsStored name text b c → IsStored name text a c
stored_passed name text a b c is stored = record {
  shown = stored.shown;
  left = λ whole f left. stored.left (λ bytes g there done. whole bytes g (sym (ap (λ (h : Files). h name) is.shown) ∙ there) (is.done g done)) f left;
  cleared = stored.cleared;
  cleared_left = stored.cleared_left;
}

-- what stands under a name by the answer
pub absent_is : (file : Option (List ℕ)) (text : List ℕ) → standing_of file text ≡ a_standing.Absent → file ≡ None
absent_is None text is = refl
absent_is (Some bytes) text is = absurd (other_branch (bytes_eq bytes text) is)
  where
    other_branch : (t : Bool) → cond t a_standing.Same a_standing.Other ≡ a_standing.Absent → ⊥
    other_branch true is = absurd cc
    other_branch false is = absurd cc

pub same_is : (file : Option (List ℕ)) (text : List ℕ) → standing_of file text ≡ a_standing.Same → file ≡ Some text
same_is None text is = absurd cc
same_is (Some bytes) text is = ap Some ((bytes_eq-Decides bytes text).0 (same_branch (bytes_eq bytes text) is))
  where
    same_branch : (t : Bool) → cond t a_standing.Same a_standing.Other ≡ a_standing.Same → t ≡ true
    same_branch true is = refl
    same_branch false is = absurd cc

pub other_is : (file : Option (List ℕ)) (text : List ℕ) → standing_of file text ≡ a_standing.Other → is_other file text ≡ true
other_is None text is = absurd cc
other_is (Some bytes) text is = other_branch (bytes_eq bytes text) is
  where
    other_branch : (t : Bool) → cond t a_standing.Same a_standing.Other ≡ a_standing.Other → not t ≡ true
    other_branch true is = absurd cc
    other_branch false is = refl

pub absent_fits : (file : Option (List ℕ)) (text : List ℕ) → standing_of file text ≡ a_standing.Absent → is_other file text ≡ false
absent_fits file text is = ap (λ (f : Option (List ℕ)). is_other f text) (absent_is file text is)

pub same_fits : (file : Option (List ℕ)) (text : List ℕ) → standing_of file text ≡ a_standing.Same → is_other file text ≡ false
same_fits file text is = ap (λ (f : Option (List ℕ)). is_other f text) (same_is file text is) ∙ ap not ((bytes_eq-Decides text text).1 refl)

-- ---- what giving the new file its place leads to, by what stands there

pub absent_leads : (name text : List ℕ) (a b c : Course) → Goes a b → Passes a.history b.history → Proceeds b c → IsAlone a c → IsSure new_name text a
    → (IsStill a.history b.history → standing_of ((last_scene a).files name) text ≡ a_standing.Absent)
    → (IsAlone b c → IsSure new_name text b → (last_scene b).files name ≡ None → Leads (Keeps None name text) b c)
    → Leads (Keeps ((last_scene a).files name) name text) a c
absent_leads name text a b c goes none q alone sure stands placed =
    let p : Proceeds a b = proceeds_passes goes none in
    let first : IsAlone a b = alone_first q alone in
    let is : IsPassed a b = passed a b first goes none in
    let before : Option (List ℕ) = (last_scene a).files name in
    let absent : before ≡ None = absent_is before text (stands (still_of a b first goes none)) in
    leads_trans (Keeps before name text) (keeps_trans before name text) p q (passed_leads (Keeps before name text) a b (keeps_same before name text) is)
    (subst (λ (f : Option (List ℕ)). Leads (Keeps f name text) b c) (sym absent) (placed (alone_second p alone) (sure_passed new_name text a b is sure) (ap (λ (f : Files). f name) is.shown ∙ absent)))

pub but_leads : (name text : List ℕ) (a b c : Course) → Goes a b → Passes a.history b.history → Proceeds b c → IsAlone a c → (name ≡ new_name → ⊥) → (IsAlone b c → Leads ButNew b c) → Leads (Keeps ((last_scene a).files name) name text) a c
but_leads name text a b c goes none q alone apart leads =
    let p : Proceeds a b = proceeds_passes goes none in
    let before : Option (List ℕ) = (last_scene a).files name in
    leads_trans (Keeps before name text) (keeps_trans before name text) p q (passed_leads (Keeps before name text) a b (keeps_same before name text) (passed a b (alone_first q alone) goes none))
    (leads_weaker ButNew (Keeps before name text) (keeps_but before name text apart) (leads (alone_second p alone)))

pub absent_stored : (name text : List ℕ) (a b c : Course) → Goes a b → Passes a.history b.history → Proceeds b c → IsAlone a c → IsSure new_name text a → (IsAlone b c → IsSure new_name text b → IsStored name text b c) → IsStored name text a c
absent_stored name text a b c goes none q alone sure stored =
    let is : IsPassed a b = passed a b (alone_first q alone) goes none in
    stored_passed name text a b c is (stored (alone_second (proceeds_passes goes none) alone) (sure_passed new_name text a b is sure))

pub same_stored : (name text : List ℕ) (a b c : Course) → Goes a b → Passes a.history b.history → Proceeds b c → IsAlone a c → (IsStill a.history b.history → standing_of ((last_scene a).files name) text ≡ a_standing.Same)
    → (IsAlone b c → (last_scene b).files name ≡ Some text → IsStored name text b c) → IsStored name text a c
same_stored name text a b c goes none q alone stands stored =
    let first : IsAlone a b = alone_first q alone in
    let is : IsPassed a b = passed a b first goes none in
    stored_passed name text a b c is (stored (alone_second (proceeds_passes goes none) alone) (ap (λ (f : Files). f name) is.shown ∙ same_is ((last_scene a).files name) text (stands (still_of a b first goes none))))

-- whether a text clashed
pub neither : (x y : Bool) → x ≡ false → y ≡ false → (x || y) ≡ false
neither true y p q = absurd (false≢true (sym p))
neither false y p q = q

pub second_is : (x y : Bool) → y ≡ true → (x || y) ≡ true
second_is true y q = refl
second_is false y q = q

pub first_is : (x y : Bool) → x ≡ true → (x || y) ≡ true
first_is true y q = refl
first_is false y q = absurd (false≢true q)

-- ---- behind calls on the new file alone

pub laid_leads : (name text : List ℕ) (a b c : Course) → Proceeds a b → Proceeds b c → IsAlone a c → (name ≡ new_name → ⊥) → (IsAlone a b → Leads ButNew a b) → (IsAlone b c → Leads (Keeps ((last_scene b).files name) name text) b c) → Leads (Keeps ((last_scene a).files name) name text) a c
laid_leads name text a b c p q alone apart first second =
    let before : Option (List ℕ) = (last_scene a).files name in
    let but : Leads ButNew a b = first (alone_first q alone) in
    leads_trans (Keeps before name text) (keeps_trans before name text) p q (leads_weaker ButNew (Keeps before name text) (keeps_but before name text apart) but)
    (subst (λ (f : Option (List ℕ)). Leads (Keeps f name text) b c) ((leads_last p but).others name apart) (second (alone_second p alone)))

pub laid_file : (name : List ℕ) (a b : Course) → Proceeds a b → (name ≡ new_name → ⊥) → Leads ButNew a b → (last_scene b).files name ≡ (last_scene a).files name
laid_file name a b p apart but = (leads_last p but).others name apart

pub laid_stored : (name text : List ℕ) (a b c : Course) → Proceeds a b → Proceeds b c → IsAlone a c → (name ≡ new_name → ⊥) → (IsAlone a b → Leads ButNew a b) → (IsAlone b c → IsStored name text b c) → IsStored name text a c
laid_stored name text a b c p q alone apart first second =
    let but : Leads ButNew a b = first (alone_first q alone) in
    let stored : IsStored name text b c = second (alone_second p alone) in
    record {
      shown = stored.shown;
      left = λ whole f left.
          stored.left
          (λ bytes g there done. let was = but.done g done in was.2.others name apart ∙ whole bytes was.0 (sym (laid_file name a b p apart but) ∙ there) was.1) f left;
      cleared = stored.cleared;
      cleared_left = stored.cleared_left;
    }

-- the same of a name that was spelled
pub text_leads : (name spelled text : List ℕ) (a b c : Course) → spelled ≡ name → Proceeds a b → Proceeds b c → IsAlone a c → (name ≡ new_name → ⊥) → (IsAlone a b → Leads ButNew a b)
    → (IsAlone b c → (spelled ≡ new_name → ⊥) → Leads (Keeps ((last_scene b).files spelled) spelled text) b c) → Leads (Keeps ((last_scene a).files name) name text) a c
text_leads name spelled text a b c is p q alone apart first second =
    laid_leads name text a b c p q alone apart first (λ later. subst (λ (n : List ℕ). Leads (Keeps ((last_scene b).files n) n text) b c) is (second later (λ same. apart (sym is ∙ same))))

pub text_stored : (name spelled text : List ℕ) (a b c : Course) → spelled ≡ name → Proceeds a b → Proceeds b c → IsAlone a c → (name ≡ new_name → ⊥) → (IsAlone a b → Leads ButNew a b)
    → (IsAlone b c → (spelled ≡ new_name → ⊥) → IsStored spelled text b c) → IsStored name text a c
text_stored name spelled text a b c is p q alone apart first second =
    laid_stored name text a b c p q alone apart first (λ later. subst (λ (n : List ℕ). IsStored n text b c) is (second later (λ same. apart (sym is ∙ same))))

pub clash_same : (name spelled text id sum : List ℕ) (a b : Course) → spelled ≡ name → id ≡ sum → Proceeds a b → (name ≡ new_name → ⊥) → Leads ButNew a b → clashes id ((last_scene b).files spelled) text ≡ clashes sum ((last_scene a).files name) text
clash_same name spelled text id sum a b is known p apart but =
    ap (λ (n : List ℕ). clashes id ((last_scene b).files n) text) is
    ∙ ap (λ (i : List ℕ). clashes i ((last_scene b).files name) text) known
    ∙ ap (λ (f : Option (List ℕ)). clashes sum f text) (laid_file name a b p apart but)

abbrev id_of : List ℕ → Id20
id_of bytes = record { 0 = bytes }

decides_as : (A B : Type 0) (clash : Bool) (id : Id20) (fault : StoreFault) → Decides {A = A} clash id (Err fault) → Decides {A = B} clash id (Err fault)
decides_as A B clash id a_fault.OutOfMemory is = is
decides_as A B clash id (a_fault.Gone path) is = is
decides_as A B clash id (a_fault.StoreClash named) is = is
decides_as A B clash id (a_fault.ManifestTooLarge size) is = is
decides_as A B clash id a_fault.TreeFailed is = is
decides_as A B clash id a_fault.ShelfFailed is = is

pub decides_err : (A B : Type 0) (fault : StoreFault) (clash settled : Bool) (id sum : List ℕ) → settled ≡ clash → id ≡ sum → Decides {A = A} settled (record { 0 = id }) (Err fault) → Decides {A = B} clash (record { 0 = sum }) (Err fault)
decides_err A B fault clash settled id sum same known is =
    decides_as A B clash (id_of sum) fault (subst (λ (i : List ℕ). Decides {A = A} clash (id_of i) (Err fault)) known (subst (λ (t : Bool). Decides {A = A} t (id_of id) (Err fault)) same is))
