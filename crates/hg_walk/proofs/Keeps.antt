-- Edits that bring no time leave a trusted record trusted.
use Rattle.std.proofs.Common.{ℕ, ◌≡◌, inl, inr, Bool, true, false, not, ◌&&◌, ◌||◌, cond, List, Option, Some, None, refl, sym, ap, ◌∙◌, subst, true≢false}
use Rattle.std.specs.Prelude.{IsTrue, is_some}
use Rattle.std.specs.Map.{update}
use Rattle.std.specs.Str.{bytes_eq}
use Rattle.std.proofs.lemmas.Bool.{and_from, and_parts, cases_Bool}
use Rattle.std.proofs.lemmas.Map.{update_other, update_same}
use Rattle.std.proofs.lemmas.Slice.Eq.{bytes_eq-Decides}
use Rattle.hg_base.specs.PathText.{is_component, joined}
use Rattle.hg_base.specs.Within.{is_within}
use Rattle.hg_base.proofs.Components.{parent_joined}
use Rattle.hg_base.proofs.Paths.{component_plain}
use Rattle.hg_entry.specs.Entry.{CacheData, EntryData, StampData}
use Rattle.hg_entry.specs.Table.{Table}
use Rattle.hg_tree.specs.History.{History}
use Rattle.hg_tree.specs.Honest.{has_name}
use Rattle.hg_tree.specs.Moment.{is_dir}
use Rattle.hg_tree.proofs.Telling.{face_names}
use Rattle.hg_walk.specs.Keeping.{KeepsCaches}
use Rattle.hg_walk.specs.EditLaws.{CopyIsEdit, DropKeepsTimes, EditKeepsTimes, ForgetKeepsTimes, KeepsThrough, KeptIsTrusted, OthersAreTrusted, SameKeepsTimes, SetIsEdit, UncachedKeepsTimes}
use Rattle.hg_walk.specs.Seeing.{IsAccounted, SeenDir}
use Rattle.hg_walk.specs.Trust.{CouldVouch}

-- ---- trust

accounted_in : (h : History) (hash : List ℕ) (whole : Bool) (nodes more : List ℕ → Bool) (path : List ℕ) → (IsTrue (nodes path) → IsTrue (more path)) → IsAccounted h hash whole nodes path → IsAccounted h hash whole more path
accounted_in h hash whole nodes more path to (inl node) = inl (to node)
accounted_in h hash whole nodes more path to (inr both) = inr both

dir_kept : (old new : Table) (h : History) → KeepsCaches old new → (dir : List ℕ) (cache : CacheData) → new.caches dir ≡ Some cache → SeenDir h dir cache old.hash old.nodes → SeenDir h dir cache new.hash new.nodes
dir_kept old new h keeps dir cache is seen =
    let cached : IsTrue (is_some (new.caches dir)) = ap is_some is in
    subst (λ (hash : List ℕ). SeenDir h dir cache hash new.nodes) (sym (keeps.hash dir cached)) (
    record {
      at = seen.at;
      within = seen.within;
      time = seen.time;
      shown = seen.shown;
      stamped = seen.stamped;
      past = seen.past;
      so = record {
        kind = seen.so.kind;
        plain = seen.so.plain;
        each = λ name named.
            let has : has_name (h.at seen.at) dir name ≡ true = sym (face_names (h.at seen.at) dir name) ∙ named in
            let first = and_parts (is_dir ((h.at seen.at).things dir) && is_component name) (is_some ((h.at seen.at).things (joined (Some dir) name))) has in
            let component = (and_parts (is_dir ((h.at seen.at).things dir)) (is_component name) first.0).1 in
            accounted_in h old.hash cache.full old.nodes new.nodes (joined (Some dir) name) (keeps.nodes dir name cached component) (seen.so.each name named);
      };
    }
    )

pub kept_is_trusted : KeptIsTrusted
kept_is_trusted rows old new h trusted keeps = record {
  entries = λ path entry stamp is could. let was = keeps.entries path entry stamp is could in trusted.entries path entry stamp was.0 was.1;
  caches = λ dir cache is. dir_kept old new h keeps.caches dir cache is (trusted.caches dir cache (keeps.caches.caches dir cache is));
}

pub others_are_trusted : OthersAreTrusted
others_are_trusted rows others old new h trusted keeps none = record {
  entries = λ path entry stamp is could. absurd (none path entry stamp is could);
  caches = λ dir cache is. dir_kept old new h keeps dir cache is (trusted.caches dir cache (keeps.caches dir cache is));
}

-- ---- edits behind one another

cached_before : (old new : Table) → KeepsCaches old new → (dir : List ℕ) → IsTrue (is_some (new.caches dir)) → IsTrue (is_some (old.caches dir))
cached_before old new keeps dir cached = by (new.caches dir) refl cached
  where
    by : (cache : Option CacheData) → new.caches dir ≡ cache → is_some cache ≡ true → is_some (old.caches dir) ≡ true
    by None is some = absurd (cc some)
    by (Some cache) is some = ap is_some (keeps.caches dir cache is)

pub keeps_through : KeepsThrough
keeps_through a b c first second = record {
  entries = λ path entry stamp is could. let was = second.entries path entry stamp is could in first.entries path entry stamp was.0 was.1;
  caches = record {
    hash = λ dir cached. second.caches.hash dir cached ∙ first.caches.hash dir (cached_before b c second.caches dir cached);
    caches = λ dir cache is. first.caches.caches dir cache (second.caches.caches dir cache is);
    nodes = λ dir name cached component node. second.caches.nodes dir name cached component (first.caches.nodes dir name (cached_before b c second.caches dir cached) component node);
  };
}

could_too : (entry : EntryData) (stamp : StampData) (a b : Option (List ℕ)) → a ≡ b → CouldVouch entry (is_some a) stamp → CouldVouch entry (is_some b) stamp
could_too entry stamp a b same could = subst (λ (s : Option (List ℕ)). CouldVouch entry (is_some s) stamp) same could

pub same_keeps_times : SameKeepsTimes
same_keeps_times old new same = record {
  entries = λ path entry stamp is could. (sym (same.entries path) ∙ is, could_too entry stamp (new.sources path) (old.sources path) (same.sources path) could);
  caches = record {
    hash = λ dir cached. same.hash;
    caches = λ dir cache is. sym (same.caches dir) ∙ is;
    nodes = λ dir name cached component node. same.nodes (joined (Some dir) name) ∙ node;
  };
}

-- ---- an edit of one path

pub edit_keeps_times : EditKeepsTimes
edit_keeps_times path old new edit = record {
  entries = λ at entry stamp is could.
      elim (cases_Bool (bytes_eq path at)) [
        | inl here ↦
            let same : path ≡ at = (bytes_eq-Decides path at).0 here in
            absurd (edit.own entry stamp (ap new.entries same ∙ is) (could_too entry stamp (new.sources at) (new.sources path) (ap new.sources (sym same)) could))
        | inr apart ↦ (sym (edit.entries at apart) ∙ is, could_too entry stamp (new.sources at) (old.sources at) (edit.sources at apart) could)
      ];
  caches = record { hash = λ dir cached. edit.hash; caches = edit.caches; nodes = λ dir name cached component node. edit.nodes (joined (Some dir) name) node };
}

here_is : (path : List ℕ) → bytes_eq path path ≡ true
here_is path = (bytes_eq-Decides path path).1 refl

or_left : (x y : Bool) → x ≡ true → (x || y) ≡ true
or_left true y is = refl
or_left false y is = absurd (cc is)

-- a map that has nothing at a path has there what it had elsewhere
without : {A : Type 0} (f : List ℕ → Option A) (path at : List ℕ) (x : A) → update bytes_eq f path None at ≡ Some x → f at ≡ Some x
without f path at x is = by (bytes_eq path at) is
  where
    by : (t : Bool) → cond t None (f at) ≡ Some x → f at ≡ Some x
    by true same = absurd (cc same)
    by false same = same

pub set_is_edit : SetIsEdit
set_is_edit path entry t none = record {
  hash = refl;
  own = λ other stamp is could.
      let same : entry ≡ other = one entry other (sym (update_same bytes_eq t.entries path (Some entry) path (here_is path)) ∙ is) in
      none stamp (subst (λ (e : EntryData). CouldVouch e (is_some (t.sources path)) stamp) (sym same) could);
  entries = λ at apart. update_other bytes_eq t.entries path (Some entry) at apart;
  sources = λ at apart. refl;
  nodes = λ at node. or_left (t.nodes at) (is_within at path) node;
  caches = λ dir cache is. without t.caches path dir cache is;
}
  where
    one : (a b : EntryData) → Some a ≡ Some b → a ≡ b
    one a b is = cc is

pub copy_is_edit : CopyIsEdit
copy_is_edit path source t none = record {
  hash = refl;
  own = λ entry stamp is could. none entry stamp is (could_too entry stamp (update bytes_eq t.sources path source path) source (update_same bytes_eq t.sources path source path (here_is path)) could);
  entries = λ at apart. refl;
  sources = λ at apart. update_other bytes_eq t.sources path source at apart;
  nodes = λ at node. node;
  caches = λ dir cache is. is;
}

-- ---- a drop

kept_cache : (gone stale : Bool) (was : Option CacheData) (cache : CacheData) → cond (gone || stale) None was ≡ Some cache → (stale ≡ false) × (was ≡ Some cache)
kept_cache true stale was cache is = absurd (cc is)
kept_cache false true was cache is = absurd (cc is)
kept_cache false false was cache is = (refl, is)

pub drop_keeps_times : DropKeepsTimes
drop_keeps_times path t left pruned = record {
  entries = λ at entry stamp is could.
      let there : update bytes_eq t.entries path None at ≡ Some entry = sym (pruned.entries at) ∙ is in
      let apart : bytes_eq path at ≡ false = elsewhere at entry there in
      (without t.entries path at entry there, could_too entry stamp (left.sources at) (t.sources at) (pruned.sources at ∙ update_other bytes_eq t.sources path None at apart) could);
  caches = record {
    hash = λ dir cached. pruned.hash;
    caches = λ dir cache is. (kept_cache (pruned.gone dir) (pruned.stale dir) (t.caches dir) cache (sym (pruned.caches dir) ∙ is)).1;
    nodes = λ dir name cached component node. by_cache dir name component node (left.caches dir) refl cached;
  };
}
  where
    elsewhere : (at : List ℕ) (entry : EntryData) → update bytes_eq t.entries path None at ≡ Some entry → bytes_eq path at ≡ false
    elsewhere at entry is = by (bytes_eq path at) refl is
      where
        by : (b : Bool) → bytes_eq path at ≡ b → cond b None (t.entries at) ≡ Some entry → bytes_eq path at ≡ false
        by true same none = absurd (cc none)
        by false same none = same

    by_cache : (dir name : List ℕ) → is_component name ≡ true → t.nodes (joined (Some dir) name) ≡ true → (cache : Option CacheData) → left.caches dir ≡ cache → is_some cache ≡ true
        → left.nodes (joined (Some dir) name) ≡ true
    by_cache dir name component node None is some = absurd (cc some)
    by_cache dir name component node (Some cache) is some =
        let fresh = (kept_cache (pruned.gone dir) (pruned.stale dir) (t.caches dir) cache (sym (pruned.caches dir) ∙ is)).0 in
        let above = parent_joined (Some dir) name (component_plain name component) in
        pruned.nodes (joined (Some dir) name)
        ∙ and_from (t.nodes (joined (Some dir) name)) (not (pruned.gone (joined (Some dir) name))) node
        (stays (pruned.gone (joined (Some dir) name)) (λ gone. true≢false (sym (pruned.all_stale dir (joined (Some dir) name) gone above) ∙ fresh)))
      where
        stays : (b : Bool) → (b ≡ true → ⊥) → not b ≡ true
        stays true h = absurd (h refl)
        stays false h = refl

-- ---- caches that go

pub forget_keeps_times : ForgetKeepsTimes
forget_keeps_times dir t = record {
  entries = λ path entry stamp is could. (is, could);
  caches = record { hash = λ at cached. refl; caches = λ at cache is. without t.caches dir at cache is; nodes = λ at name cached component node. node };
}

pub uncached_keeps_times : UncachedKeepsTimes
uncached_keeps_times t = record {
  entries = λ path entry stamp is could. (is, could);
  caches = record { hash = λ at cached. refl; caches = λ at cache is. absurd (cc is); nodes = λ at name cached component node. node };
}
