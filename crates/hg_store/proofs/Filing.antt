-- What storing a path answers, by what its parts answer.
use Rattle.std.proofs.Common.{◌≡◌, ℕ, List, Option, Some, None, Bool, refl, sym, ap, ◌∙◌, subst, arith, inl, inr, ◌⊎◌, Result, Ok, Err}
use Rattle.std.specs.Prelude.{IsTrue, option_map}
use Rattle.std.specs.Option.{option_and_then}
use Rattle.sha1.specs.Sha1.{sha1}
use Rattle.hg_base.specs.declared.id.Id20.{Id20}
use Rattle.hg_base.specs.declared.stat.Kind.{Kind}
use Rattle.hg_base.specs.declared.stat.Kind.TheVariants as a_kind
use Rattle.hg_base.specs.declared.stat.Stat.{Stat}
use Rattle.hg_compare.specs.Alike.{contents_name}
use Rattle.hg_manifest.specs.declared.row.FileRow.{FileRow}
use Rattle.hg_shelf.specs.Images.{Course, last_scene}
use Rattle.hg_tree.specs.History.{History, Passes, now}
use Rattle.hg_tree.specs.Moment.{Moment, bytes_of, kind_of, stat_at, stat_of}
use Rattle.hg_tree.specs.declared.thing.Placed.{Placed}
use Rattle.hg_tree.specs.declared.thing.Thing.{Thing}
use Rattle.hg_tree.specs.declared.thing.Thing.TheVariants as a_thing
use Rattle.hg_store.specs.Standing.{Decides, IsSettleFault, OnClash, clashes}
use Rattle.hg_store.specs.Storing.{ButNew, IsAlone, Keeps, Leads, new_name}
use Rattle.hg_store.specs.Taking.{Answers, AnswersSized, IsDevice, IsFlag, IsTaken, LeadsFile, LeavesPlain, SeesNone, Shows, StoresFile, StoresSized}
use Rattle.hg_store.specs.declared.fault.StoreFault.{StoreFault}
use Rattle.hg_store.specs.declared.fault.StoreFault.TheVariants as a_fault
use Rattle.hg_store.specs.declared.names.Plain.TheVariants as a_plain
use Rattle.hg_store.proofs.Copying.{shows_last, shows_second}
use Rattle.hg_store.proofs.Laying.{but_same}
use Rattle.hg_store.proofs.Leading.{leads_same, leads_weaker}
use Rattle.hg_store.proofs.Naming.{name_apart}
use Rattle.hg_store.proofs.Placing.{keeps_but, keeps_same}

pub contents_apart : (id : List ℕ) → contents_name id ≡ new_name → ⊥
contents_apart id = name_apart a_plain.Contents id

pub file_but : (text : List ℕ) (a b : Course) → (IsAlone a b → Leads ButNew a b) → LeadsFile text a b
file_but text a b leads alone = leads_weaker ButNew (Keeps ((last_scene a).files (contents_name (sha1 text))) (contents_name (sha1 text)) text) (keeps_but _ _ _ (contents_apart (sha1 text))) (leads alone)

pub file_same : (text : List ℕ) (a : Course) → LeadsFile text a a
file_same text a alone = leads_same (Keeps ((last_scene a).files (contents_name (sha1 text))) (contents_name (sha1 text)) text) a (keeps_same _ _ _)

pub plain_same : (a : Course) → LeavesPlain a a
plain_same a alone = leads_same ButNew a but_same

pub device_answer : (path text : List ℕ) (size : ℕ) (th tn : History) (a b : Course) (fault : StoreFault) → IsDevice fault → LeavesPlain a b → AnswersSized path text size th tn a b (Err fault)
device_answer path text size th tn a b a_fault.OutOfMemory is leaves = absurd is
device_answer path text size th tn a b (a_fault.Gone gone) is leaves = absurd is
device_answer path text size th tn a b (a_fault.StoreClash id) is leaves = absurd is
device_answer path text size th tn a b (a_fault.ManifestTooLarge most) is leaves = absurd is
device_answer path text size th tn a b a_fault.TreeFailed is leaves = leaves
device_answer path text size th tn a b a_fault.ShelfFailed is leaves = inl leaves

pub gone_sized : (path text : List ℕ) (size : ℕ) (th tn : History) (a b : Course) (fault : StoreFault) → (fault ≡ a_fault.OutOfMemory) ⊎ (fault ≡ a_fault.Gone path) → SeesNone path th tn → LeavesPlain a b → AnswersSized path text size th tn a b (Err fault)
gone_sized path text size th tn a b fault (inl is) none leaves = subst (λ (f : StoreFault). AnswersSized path text size th tn a b (Err f)) (sym is) leaves
gone_sized path text size th tn a b fault (inr is) none leaves = subst (λ (f : StoreFault). AnswersSized path text size th tn a b (Err f)) (sym is) (refl, none, leaves)

pub gone_answer : (path text : List ℕ) (th tn : History) (a b : Course) (fault : StoreFault) → (fault ≡ a_fault.OutOfMemory) ⊎ (fault ≡ a_fault.Gone path) → SeesNone path th tn → LeavesPlain a b → Answers path text th tn a b (Err fault)
gone_answer path text th tn a b fault (inl is) none leaves = subst (λ (f : StoreFault). Answers path text th tn a b (Err f)) (sym is) leaves
gone_answer path text th tn a b fault (inr is) none leaves = subst (λ (f : StoreFault). Answers path text th tn a b (Err f)) (sym is) (refl, none, leaves)

pub settled_answer : (path text : List ℕ) (size : ℕ) (th tn : History) (a b : Course) (id : Id20) (fault : StoreFault) → IsSettleFault id fault → id.0 ≡ sha1 text → IsTaken path text size th tn
    → (IsAlone a b → Decides {A = Id20} (clashes (sha1 text) ((last_scene a).files (contents_name (sha1 text))) text) (record { 0 = sha1 text }) (Err fault)) → (IsAlone a b → OnClash {A = Id20} ((last_scene b).files new_name ≡ None) (Err fault)) → AnswersSized path text size th tn a b (Err fault)
settled_answer path text size th tn a b id a_fault.OutOfMemory is known taken decides left = absurd is
settled_answer path text size th tn a b id (a_fault.Gone gone) is known taken decides left = absurd is
settled_answer path text size th tn a b id (a_fault.StoreClash named) is known taken decides left =
    record { taken = taken; id_is = ap (λ (i : Id20). i.0) is ∙ known; clash = λ alone. (decides alone).1; cleared = left }
settled_answer path text size th tn a b id (a_fault.ManifestTooLarge most) is known taken decides left = absurd is
settled_answer path text size th tn a b id a_fault.TreeFailed is known taken decides left = absurd is
settled_answer path text size th tn a b id a_fault.ShelfFailed is known taken decides left = inr taken

-- ---- a row

pub shows_start : {a b : History} (P : Moment → Type 0) → Passes a b → (IsTrue a.told → P (now a)) → Shows a b P
shows_start {a} {b} P p is = record {
  at = a.last;
  during = λ told. record { from = omega arith; to = p.past.later };
  so = λ told. subst P (sym (p.past.stay a.last (omega arith))) (is told);
}

row_err : (path text : List ℕ) (stat : Stat) (th tn : History) (a b : Course) (fault : StoreFault) → Shows th tn (λ moment. stat_at moment path ≡ Some stat) → AnswersSized path text stat.size th tn a b (Err fault) → Answers path text th tn a b (Err fault)
row_err path text stat th tn a b a_fault.OutOfMemory looked is = is
row_err path text stat th tn a b (a_fault.Gone gone) looked is = is
row_err path text stat th tn a b (a_fault.StoreClash id) looked is = record { stat = stat; looked = looked; refused = is }
row_err path text stat th tn a b (a_fault.ManifestTooLarge most) looked is = is
row_err path text stat th tn a b a_fault.TreeFailed looked is = is
row_err path text stat th tn a b a_fault.ShelfFailed looked (inl leaves) = inl leaves
row_err path text stat th tn a b a_fault.ShelfFailed looked (inr taken) = inr (record { stat = stat; looked = looked; taken = taken })

pub row_stores_err : (path : List ℕ) (stat : Stat) (th tn : History) (a b : Course) (fault : StoreFault) → Passes th tn → (IsTrue th.told → stat_at (now th) path ≡ Some stat) → StoresSized path stat.size th tn a b (Err fault) → StoresFile path th tn a b (Err fault)
row_stores_err path stat th tn a b fault p looked stores = record {
  text = stores.text;
  answer = row_err path stores.text stat th tn a b fault (shows_start (λ moment. stat_at moment path ≡ Some stat) p looked) stores.answer;
  leads = stores.leads;
}

pub row_stores_ok : (path : List ℕ) (stat : Stat) (link : Bool) (th tn : History) (a b : Course) (id : Id20) → IsFlag link stat.kind → Passes th tn → (IsTrue th.told → stat_at (now th) path ≡ Some stat) → StoresSized path stat.size th tn a b (Ok id)
    → StoresFile path th tn a b (Ok (record { id = id; exec = stat.exec; link = link }))
row_stores_ok path stat link th tn a b id flag p looked stores = record {
  text = stores.text;
  answer = record { stat = stat; looked = shows_start (λ moment. stat_at moment path ≡ Some stat) p looked; flag = flag; exec = refl; kept = stores.answer };
  leads = stores.leads;
}

-- ---- a look before

taken_later : {a b c : History} (path text : List ℕ) (size : ℕ) → Passes a b → IsTaken path text size b c → IsTaken path text size a c
taken_later path text size p taken = record {
  front = λ k below. shows_second _ p (taken.front k below);
  few = taken.few;
  ended = λ less. shows_second _ p (taken.ended less);
}

answers_later : {a b : History} (c : History) (path text : List ℕ) (x y : Course) (r : Result FileRow StoreFault) → Passes a b → Answers path text b c x y r → Answers path text a c x y r
answers_later c path text x y (Ok row) p is = record {
  stat = is.stat;
  looked = shows_second _ p is.looked;
  flag = is.flag;
  exec = is.exec;
  kept = record { taken = taken_later path text is.stat.size p is.kept.taken; id_is = is.kept.id_is; known = is.kept.known; stored = is.kept.stored; fits = is.kept.fits };
}
answers_later c path text x y (Err a_fault.OutOfMemory) p is = is
answers_later c path text x y (Err (a_fault.Gone gone)) p is = (is.0, shows_second _ p is.1, is.2)
answers_later c path text x y (Err (a_fault.StoreClash id)) p is = record {
  stat = is.stat;
  looked = shows_second _ p is.looked;
  refused = record { taken = taken_later path text is.stat.size p is.refused.taken; id_is = is.refused.id_is; clash = is.refused.clash; cleared = is.refused.cleared };
}
answers_later c path text x y (Err (a_fault.ManifestTooLarge most)) p is = is
answers_later c path text x y (Err a_fault.TreeFailed) p is = is
answers_later c path text x y (Err a_fault.ShelfFailed) p (inl leaves) = inl leaves
answers_later c path text x y (Err a_fault.ShelfFailed) p (inr read) = inr (record { stat = read.stat; looked = shows_second _ p read.looked; taken = taken_later path text read.stat.size p read.taken })

pub stores_later : {a b c : History} (path : List ℕ) (x y : Course) (r : Result FileRow StoreFault) → Passes a b → StoresFile path b c x y r → StoresFile path a c x y r
stores_later path x y r p stores = record { text = stores.text; answer = answers_later _ path stores.text x y r p stores.answer; leads = stores.leads }

-- nothing to read where nothing stands, nor at a directory
abbrev bytes_in : Option Placed → Option (List ℕ)
bytes_in placed = option_and_then (λ (p : Placed). bytes_of p.thing) placed

none_in : (placed : Option Placed) → None ≡ option_map (λ (p : Placed). stat_of p.thing p.mtime) placed → bytes_in placed ≡ None
none_in None is = refl
none_in (Some placed) is = absurd cc

thing_none : (thing : Thing) → (kind_of thing ≡ a_kind.File → ⊥) → (kind_of thing ≡ a_kind.Link → ⊥) → bytes_of thing ≡ None
thing_none (a_thing.File exec bytes) file link = absurd (file refl)
thing_none (a_thing.Link target) file link = absurd (link refl)
thing_none a_thing.Dir file link = refl
thing_none a_thing.Other file link = refl

kind_stat : (thing : Thing) (placed : Placed) → (stat_of thing placed.mtime).kind ≡ kind_of thing
kind_stat (a_thing.File exec bytes) placed = refl
kind_stat (a_thing.Link target) placed = refl
kind_stat a_thing.Dir placed = refl
kind_stat a_thing.Other placed = refl

abbrev stat_or : Option Stat → Stat → Stat
stat_or None stat = stat
stat_or (Some found) stat = found

other_in : (placed : Option Placed) (stat : Stat) → Some stat ≡ option_map (λ (p : Placed). stat_of p.thing p.mtime) placed → (stat.kind ≡ a_kind.File → ⊥) → (stat.kind ≡ a_kind.Link → ⊥) → bytes_in placed ≡ None
other_in None stat is file link = refl
other_in (Some placed) stat is file link =
    let same : stat.kind ≡ kind_of placed.thing = ap (λ (o : Option Stat). (stat_or o stat).kind) is ∙ kind_stat placed.thing placed in
    thing_none placed.thing (λ k. file (same ∙ k)) (λ k. link (same ∙ k))

pub none_seen : {a b : History} (path : List ℕ) → Passes a b → (IsTrue a.told → None ≡ stat_at (now b) path) → SeesNone path a b
none_seen {a} {b} path p found = shows_last _ p (λ told. none_in ((now b).things path) (found (sym p.past.told ∙ told)))

pub other_seen : {a b : History} (path : List ℕ) (stat : Stat) → Passes a b → (IsTrue a.told → Some stat ≡ stat_at (now b) path) → (stat.kind ≡ a_kind.File → ⊥) → (stat.kind ≡ a_kind.Link → ⊥) → SeesNone path a b
other_seen {a} {b} path stat p found file link = shows_last _ p (λ told. other_in ((now b).things path) stat (found (sym p.past.told ∙ told)) file link)

pub no_file_at_dir : (kind : Kind) → kind ≡ a_kind.Dir → kind ≡ a_kind.File → ⊥
no_file_at_dir kind dir file = absurd cc

pub no_link_at_dir : (kind : Kind) → kind ≡ a_kind.Dir → kind ≡ a_kind.Link → ⊥
no_link_at_dir kind dir link = absurd cc

pub no_file_at_other : (kind : Kind) → kind ≡ a_kind.Other → kind ≡ a_kind.File → ⊥
no_file_at_other kind other file = absurd cc

pub no_link_at_other : (kind : Kind) → kind ≡ a_kind.Other → kind ≡ a_kind.Link → ⊥
no_link_at_other kind other link = absurd cc

pub looked_there : {a b : History} (path : List ℕ) (stat : Stat) → Passes a b → (IsTrue a.told → Some stat ≡ stat_at (now b) path) → IsTrue b.told → stat_at (now b) path ≡ Some stat
looked_there path stat p found told = sym (found (sym p.past.told ∙ told))
