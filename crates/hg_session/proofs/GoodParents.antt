-- A record with new parents is good, by the manifests that were loaded.
use Rattle.std.proofs.Common.{ℕ, ◌≡◌, Bool, true, false, not, ◌&&◌, ◌||◌, cond, List, [], Option, Some, None, Result, Ok, refl, sym, ap, ◌∙◌, subst, arith, true≢false}
use Rattle.std.specs.Prelude.{IsTrue, MatchBool, is_some}
use Rattle.hg_base.specs.PathText.{is_component, joined}
use Rattle.hg_base.specs.declared.id.Id20.{Id20}
use Rattle.hg_base.proofs.Components.{parent_joined}
use Rattle.hg_base.proofs.Paths.{component_plain}
use Rattle.hg_entry.specs.Entry.{CacheData, EntryData}
use Rattle.hg_entry.specs.Table.{Table}
use Rattle.hg_flat.specs.Parent.{manifest_at, parent_rows}
use Rattle.hg_manifest.proofs.Loads.{read_in}
use Rattle.hg_manifest.specs.Load.{Reads, file_manifest}
use Rattle.hg_manifest.specs.Plain.{is_null, plain_name}
use Rattle.hg_manifest.specs.Rows.{Rows}
use Rattle.hg_manifest.specs.declared.fault.ManifestFault.{ManifestFault}
use Rattle.hg_nodes.specs.Clash.{is_tracked_entry}
use Rattle.hg_ops.specs.Parents.{HasParents, entry_of_parents, fallback_in, is_other_file, row_at}
use Rattle.hg_session.specs.Call.{Watched}
use Rattle.hg_session.specs.Good.{IsGoodIn}
use Rattle.hg_session.specs.Manifests.{IsReparented, LoadsRows}
use Rattle.hg_shelf.specs.History.{Files, History}
use Rattle.hg_shelf.specs.Polite.{StaysIn, StaysPlain}
use Rattle.hg_tree.specs.History as tree
use Rattle.hg_walk.proofs.Keeps.{others_are_trusted}
use Rattle.hg_walk.specs.Keeping.{KeepsCaches, NoneCouldVouch}
use Rattle.hg_walk.specs.Trust.{is_first, is_second}

-- ---- the manifest that was loaded is a store's

module _ (files : Watched History) (store : Files) (told : IsTrue files.old.told) (plain : StaysPlain store files.new files.old.last) where
  abbrev read_as : Rows → Result Rows ManifestFault
  read_as rows = Ok rows

  -- a plain file that is there at a moment of a load is the store's
  stays_loaded : (id : Id20) (rows : Rows) (is : LoadsRows files id (Ok rows)) → StaysIn store is.new is.old.last (plain_name id.0)
  stays_loaded id rows is k from upto bytes there =
      let name = plain_name id.0 in
      plain.each name refl k (omega (arith, is.before.later, from)) (omega (arith, upto, is.behind.later)) bytes (ap (λ (f : Files). f name) (is.behind.stay k upto).shown ∙ there)

  pub manifest_loaded : (id : Id20) (rows : Rows) → LoadsRows files id (Ok rows) → manifest_at store id ≡ Ok rows
  manifest_loaded id rows is = by (is_null id.0) refl is.answers
    where
      by : (null : Bool) → is_null id.0 ≡ null → MatchBool null (read_as rows ≡ read_as []) (Reads is.old is.new (plain_name id.0) (read_as rows)) → manifest_at store id ≡ read_as rows
      by true null none = ap (λ (t : Bool). cond t (Ok []) (file_manifest id (store (plain_name id.0)))) null ∙ sym none
      by false some reads =
          let took = reads.took in
          let there : IsTrue is.old.told = is.before.told ∙ told in
          let during = took.sized.during there in
          read_in store is.old is.new (plain_name id.0) id took.size reads.bytes (read_as rows) there (stays_loaded id rows is) some took.few took.short took.sized
          (record { at = is.new.last; during = λ known. record { from = omega (arith, during.from, during.to); to = omega arith }; so = took.front }) reads.found

-- ---- the entries by both manifests

neither : (x y : Bool) → (x || y) ≡ false → (x ≡ false) × (y ≡ false)
neither true y is = absurd (cc is)
neither false y is = (refl, is)

module _ (first second : Bool) (was : Option EntryData) where
  abbrev entry_with : EntryData
  entry_with = record {
    w = is_tracked_entry was;
    p1 = first;
    p2 = second;
    exec = false;
    link = false;
    size = None;
    stamp = None;
    modified = false;
    fallback = fallback_in was;
  }

  marked_first : (b : Bool) → (is_tracked_entry was || first || second) ≡ b → is_first (cond b (Some entry_with) None) ≡ first
  marked_first true is = refl
  marked_first false is = sym (neither (is_tracked_entry was) first (neither (is_tracked_entry was || first) second is).0).1

  by_first : is_first (entry_of_parents first second was) ≡ first
  by_first = marked_first (is_tracked_entry was || first || second) refl

  marked_second : (b : Bool) → second ≡ false → is_second (cond b (Some entry_with) None) ≡ false
  marked_second true none = none
  marked_second false none = refl

  by_second : second ≡ false → is_second (entry_of_parents first second was) ≡ false
  by_second none = marked_second (is_tracked_entry was || first || second) none

  timeless : (b : Bool) (entry : EntryData) → cond b (Some entry_with) None ≡ Some entry → entry.stamp ≡ None
  timeless true entry is = let same : entry_with ≡ entry = cc is in sym (ap (λ (e : EntryData). e.stamp) same)
  timeless false entry is = absurd (cc is)

  by_stamp : (entry : EntryData) → entry_of_parents first second was ≡ Some entry → entry.stamp ≡ None
  by_stamp entry is = timeless (is_tracked_entry was || first || second) entry is

-- ---- the caches

kept_cache : (gone stale held : Bool) (was : Option CacheData) (cache : CacheData) → cond (gone || stale || held) None was ≡ Some cache → (stale ≡ false) × (was ≡ Some cache)
kept_cache true stale held was cache is = absurd (cc is)
kept_cache false true held was cache is = absurd (cc is)
kept_cache false false true was cache is = absurd (cc is)
kept_cache false false false was cache is = (refl, is)

stays : (b : Bool) → (b ≡ true → ⊥) → not b ≡ true
stays true h = absurd (h refl)
stays false h = refl

module _ (p1 p2 : List ℕ) (m1 m2 : Rows) (old new : Table) (is : HasParents p1 p2 m1 m2 old new) where
  cached : (dir : List ℕ) (cache : CacheData) → new.caches dir ≡ Some cache → (is.stale dir ≡ false) × (old.caches dir ≡ Some cache)
  cached dir cache there = kept_cache (is.gone dir) (is.stale dir) (is_some (new.entries dir)) (old.caches dir) cache (sym (is.caches dir) ∙ there)

  node_kept : (dir name : List ℕ) → is_component name ≡ true → old.nodes (joined (Some dir) name) ≡ true → (cache : Option CacheData) → new.caches dir ≡ cache → is_some cache ≡ true
      → new.nodes (joined (Some dir) name) ≡ true
  node_kept dir name component node None there some = absurd (cc some)
  node_kept dir name component node (Some stamp) there some =
      let fresh = (cached dir stamp there).0 in
      let above = parent_joined (Some dir) name (component_plain name component) in
      is.nodes_left (joined (Some dir) name) node
      ∙ stays (is.gone (joined (Some dir) name)) (λ gone. true≢false (sym (is.all_stale dir (joined (Some dir) name) gone above) ∙ fresh))

  pub caches_kept : KeepsCaches old new
  caches_kept = record {
    hash = λ dir there. is.hash;
    caches = λ dir cache there. (cached dir cache there).1;
    nodes = λ dir name there component node. node_kept dir name component node (new.caches dir) refl there;
  }

  abbrev merged : Bool
  merged = not (is_null p2)

  abbrev other_at : List ℕ → Bool
  other_at path = merged && is_other_file (row_at m1 path) (row_at m2 path)

  pub none_vouches : NoneCouldVouch new
  none_vouches path entry stamp there could =
      let none : entry.stamp ≡ None = by_stamp (is_some (row_at m1 path)) (other_at path) (old.entries path) entry (sym (is.entries path) ∙ there) in
      let both : None ≡ Some stamp = sym none ∙ could.stamp_is in
      cc both

  pub first_kept : (path : List ℕ) → is_first (new.entries path) ≡ is_some (row_at m1 path)
  first_kept path = ap is_first (is.entries path) ∙ by_first (is_some (row_at m1 path)) (other_at path) (old.entries path)

  pub second_kept : is_null p2 ≡ true → (path : List ℕ) → is_second (new.entries path) ≡ false
  second_kept null path =
      ap is_second (is.entries path)
      ∙ by_second (is_some (row_at m1 path)) (other_at path) (old.entries path) (ap (λ (t : Bool). not t && is_other_file (row_at m1 path) (row_at m2 path)) null)

-- ---- new parents

pub reparented_good : (files : Watched History) (store : Files) → IsTrue files.old.told → StaysPlain store files.new files.old.last → (p1 p2 : Id20) (h : tree.History) (old new : Table) (lines : List ℕ) (changed : Bool)
    → IsReparented p1 p2 files old new lines changed → IsGoodIn store old h → IsGoodIn store new h
reparented_good files store told plain p1 p2 h old new lines changed is good = record {
  consistent = record {
    files = is.m1;
    read = subst (λ (p : List ℕ). manifest_at store (record { 0 = p }) ≡ Ok is.m1) (sym is.parents.p1_is) (manifest_loaded files store told plain p1 is.m1 is.first);
    first = first_kept p1.0 p2.0 is.m1 is.m2 old new is.parents;
    second = λ null. second_kept p1.0 p2.0 is.m1 is.m2 old new is.parents (subst (λ (p : List ℕ). is_null p ≡ true) is.parents.p2_is null);
  };
  trusted =
      others_are_trusted (parent_rows store (record { 0 = old.p1 })) (parent_rows store (record { 0 = new.p1 })) old new h good.trusted
      (caches_kept p1.0 p2.0 is.m1 is.m2 old new is.parents) (none_vouches p1.0 p2.0 is.m1 is.m2 old new is.parents);
}
