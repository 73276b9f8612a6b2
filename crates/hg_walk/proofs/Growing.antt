-- Trust over a longer history, and a trusted record with notes.
use Rattle.std.proofs.Common.{ℕ, ◌≡◌, inl, inr, zero, suc, Bool, true, false, cond, List, [], ◌∷◌, Option, Some, None, option_map, refl, sym, ap, ◌∙◌, subst, arith, true≢false}
use Rattle.std.specs.Prelude.{is_some}
use Rattle.std.specs.List.{Contains, find}
use Rattle.std.specs.Str.{bytes_eq}
use Rattle.std.proofs.lemmas.List.Elements.{Contains-append_cases}
use Rattle.std.proofs.lemmas.Slice.Eq.{bytes_eq-Decides}
use Rattle.hg_base.specs.PathText.{joined}
use Rattle.hg_compare.specs.Tracked.{ParentRow}
use Rattle.hg_entry.specs.Entry.{CacheData, EntryData, StampData}
use Rattle.hg_entry.specs.Steps.{seen_clean}
use Rattle.hg_entry.specs.Table.{Table}
use Rattle.hg_ignore.proofs.Staying.{texts_stay}
use Rattle.hg_tree.specs.History.{Extends, History}
use Rattle.hg_tree.specs.Moment.{is_among}
use Rattle.hg_walk.specs.Laws.{NotedIsGood, NotesAreTrusted, OneMoreClean, OneMoreSeen}
use Rattle.hg_walk.specs.Notes.{AreEarned, CleanNote, DirNote, IsCleanNote, NotesData, clean_at, seen_at, with_clean, with_hash, with_seen}
use Rattle.hg_walk.specs.Seeing.{IsAccounted, IsAccountedDir, IsFaceOf, SeenDir}
use Rattle.hg_walk.specs.Trust.{CouldVouch, IsEarned, IsTrusted, is_first, is_second}
use Rattle.hg_walk.proofs.Again.{seen_as, seen_on}

-- ---- a longer history

pub earned_on : (rows : List ℕ → Option ParentRow) (old new : History) → Extends old new → (path : List ℕ) (entry : EntryData) (stamp : StampData) → IsEarned rows old path entry stamp → IsEarned rows new path entry stamp
earned_on rows old new p path entry stamp earned =
    record { row = earned.row; is = earned.is; flag = earned.flag; seen = seen_on (IsFaceOf earned.row) old new p path stamp earned.seen }

accounted_on : (old new : History) → Extends old new → (hash : List ℕ) (whole : Bool) (nodes : List ℕ → Bool) (path : List ℕ) → IsAccounted old hash whole nodes path → IsAccounted new hash whole nodes path
accounted_on old new p hash whole nodes path (inl node) = inl node
accounted_on old new p hash whole nodes path (inr both) =
    let under = both.1 in inr (both.0, record { state = under.state; given = texts_stay old new under.state p under.given; hashed = under.hashed; ignored = under.ignored })

pub dir_on : (old new : History) → Extends old new → (dir : List ℕ) (cache : CacheData) (hash : List ℕ) (nodes : List ℕ → Bool) → SeenDir old dir cache hash nodes → SeenDir new dir cache hash nodes
dir_on old new p dir cache hash nodes seen =
    seen_as (IsAccountedDir old hash cache.full nodes dir) (IsAccountedDir new hash cache.full nodes dir) new dir cache.stamp
    (λ shown so. record { kind = so.kind; plain = so.plain; each = λ name named. accounted_on old new p hash cache.full nodes (joined (Some dir) name) (so.each name named) })
    (seen_on (IsAccountedDir old hash cache.full nodes dir) old new p dir cache.stamp seen)

pub trust_stays : (rows : List ℕ → Option ParentRow) (table : Table) (old new : History) → Extends old new → IsTrusted rows table old → IsTrusted rows table new
trust_stays rows table old new p trusted = record {
  entries = λ path entry stamp is could. earned_on rows old new p path entry stamp (trusted.entries path entry stamp is could);
  caches = λ dir cache is. dir_on old new p dir cache table.hash table.nodes (trusted.caches dir cache is);
}

-- ---- one note more

pub only_one : {A : Type 0} (x y : A) → Contains (x ∷ []) y → x ≡ y
only_one x y (zero, below, is) = is
only_one x y (suc k, below, is) = absurd (omega (arith, below))

pub one_more_clean : OneMoreClean
one_more_clean rows t old new notes note p before own other among =
    elim (Contains-append_cases notes (note ∷ []) other among) [
      | inl here ↦ λ entry is. earned_on rows old new p other.path (seen_clean entry other.stat other.stamp) other.stamp (before other here entry is)
      | inr last ↦ subst (IsCleanNote rows t new) (only_one note other last) own
    ]

pub one_more_seen : OneMoreSeen
one_more_seen t old new hash notes note p before own other among =
    elim (Contains-append_cases notes (note ∷ []) other among) [
      | inl here ↦ dir_on old new p other.dir other.cache hash t.nodes (before other here)
      | inr last ↦ subst (λ (n : DirNote). SeenDir new n.dir n.cache hash t.nodes) (only_one note other last) own
    ]

-- ---- with notes

later : {A : Type 0} (x : A) (xs : List A) (y : A) → Contains xs y → Contains (x ∷ xs) y
later x xs y (k, below, is) = (suc k, omega (arith, below), is)

first_found : {A : Type 0} (test : A → Bool) (x : A) (xs : List A) (y : A) (t : Bool) → test x ≡ t → cond t (Some x) (find test xs) ≡ Some y
    → (find test xs ≡ Some y → (test y ≡ true) × Contains xs y) → (test y ≡ true) × Contains (x ∷ xs) y
first_found test x xs y true so same rest = let one : x ≡ y = cc same in (ap test (sym one) ∙ so, (0, omega arith, one))
first_found test x xs y false so same rest = let more = rest same in (more.0, later x xs y more.1)

pub found : {A : Type 0} (test : A → Bool) (xs : List A) (y : A) → find test xs ≡ Some y → (test y ≡ true) × Contains xs y
found test [] y is = absurd (cc is)
found test (x ∷ xs) y is = first_found test x xs y (test x) refl is (found test xs y)

mapped : {A B : Type 0} (f : A → B) (o : Option A) (y : B) → option_map f o ≡ Some y → (x : A) × (o ≡ Some x) × (f x ≡ y)
mapped f None y is = absurd (cc is)
mapped f (Some x) y is = (x, refl, cc is)

module _ (rows : List ℕ → Option ParentRow) (t : Table) (h : History) (notes : NotesData) (trusted : IsTrusted rows t h) (earned : AreEarned rows t h notes) where
  entry_with : (path : List ℕ) (entry : EntryData) (stamp : StampData) (note : Option CleanNote) → clean_at notes.clean path ≡ note → with_clean note (t.entries path) ≡ Some entry
      → CouldVouch entry (is_some (t.sources path)) stamp → IsEarned rows h path entry stamp
  entry_with path entry stamp None none is could = trusted.entries path entry stamp is could
  entry_with path entry stamp (Some note) noted is could =
      let at = found (λ (n : CleanNote). bytes_eq n.path path) notes.clean note noted in
      let same : note.path ≡ path = (bytes_eq-Decides note.path path).0 at.0 in
      let was = mapped (λ (e : EntryData). seen_clean e note.stat note.stamp) (t.entries path) entry is in
      let own : IsEarned rows h note.path (seen_clean was.0 note.stat note.stamp) note.stamp = earned.clean note at.1 was.0 (ap t.entries same ∙ was.1) in
      let stamps : note.stamp ≡ stamp = same_stamp note.stamp stamp (ap (λ (e : EntryData). e.stamp) was.2 ∙ could.stamp_is) in
      subst (λ (s : StampData). IsEarned rows h path entry s) stamps
      (subst (λ (e : EntryData). IsEarned rows h path e note.stamp) was.2 (subst (λ (q : List ℕ). IsEarned rows h q (seen_clean was.0 note.stat note.stamp) note.stamp) same own))
    where
      same_stamp : (a b : StampData) → Some a ≡ Some b → a ≡ b
      same_stamp a b is = cc is

  -- a cache that isn't noted anew stands beside the old hash
  old_cache : (dir : List ℕ) (cache : CacheData) (hash : Option (List ℕ)) → notes.hash ≡ hash → seen_at notes.seen dir ≡ None → (gone : Bool) → is_among dir notes.gone ≡ gone → cond gone None (t.caches dir) ≡ Some cache
      → SeenDir h dir cache (with_hash hash t.hash) t.nodes
  old_cache dir cache hash same none true gone is = absurd (cc is)
  old_cache dir cache None same none false gone is = trusted.caches dir cache is
  old_cache dir cache (Some other) same none false gone is =
      absurd (true≢false (sym (earned.renewed (ap is_some same) dir none (ap is_some is)) ∙ gone))

  cache_with : (dir : List ℕ) (cache : CacheData) (note : Option DirNote) → seen_at notes.seen dir ≡ note → with_seen note (is_among dir notes.gone) (t.caches dir) ≡ Some cache
      → SeenDir h dir cache (with_hash notes.hash t.hash) t.nodes
  cache_with dir cache None none is = old_cache dir cache notes.hash refl none (is_among dir notes.gone) refl is
  cache_with dir cache (Some note) noted is =
      let at = found (λ (n : DirNote). bytes_eq n.dir dir) notes.seen note noted in
      let same : note.dir ≡ dir = (bytes_eq-Decides note.dir dir).0 at.0 in
      let caches : note.cache ≡ cache = cc is in
      subst (λ (c : CacheData). SeenDir h dir c (with_hash notes.hash t.hash) t.nodes) caches
      (subst (λ (d : List ℕ). SeenDir h d note.cache (with_hash notes.hash t.hash) t.nodes) same (earned.seen note at.1))

pub notes_are_trusted : NotesAreTrusted
notes_are_trusted rows t h notes trusted earned = record {
  entries = λ path entry stamp is could. entry_with rows t h notes trusted earned path entry stamp (clean_at notes.clean path) refl is could;
  caches = λ dir cache is. cache_with rows t h notes trusted earned dir cache (seen_at notes.seen dir) refl is;
}

-- ---- notes keep the marks

first_with : (note : Option CleanNote) (entry : Option EntryData) → is_first (with_clean note entry) ≡ is_first entry
first_with None entry = refl
first_with (Some note) None = refl
first_with (Some note) (Some entry) = refl

second_with : (note : Option CleanNote) (entry : Option EntryData) → is_second (with_clean note entry) ≡ is_second entry
second_with None entry = refl
second_with (Some note) None = refl
second_with (Some note) (Some entry) = refl

pub noted_is_good : NotedIsGood
noted_is_good manifest rows t h notes good earned =
    let was = good.consistent in record {
      consistent = record {
        files = was.files;
        read = was.read;
        first = λ path. first_with (clean_at notes.clean path) (t.entries path) ∙ was.first path;
        second = λ alone path. second_with (clean_at notes.clean path) (t.entries path) ∙ was.second alone path;
      };
      trusted = notes_are_trusted rows t h notes good.trusted earned;
    }
