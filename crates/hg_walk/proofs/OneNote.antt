-- One more note is written: of a clean path, of a directory that is no longer cached, of a listed one.
use Rattle.std.proofs.Common.{ℕ, zero, suc, ◌≡◌, inl, inr, Bool, true, false, ◌||◌, cond, List, [], ◌∷◌, Option, Some, None, refl, sym, ap, ◌∙◌, true≢false, arith}
use Rattle.std.specs.List.{Contains}
use Rattle.std.specs.Str.{bytes_eq}
use Rattle.std.proofs.lemmas.Bool.{cases_Bool}
use Rattle.hg_base.proofs.Within.{equal_bytes, same_bytes}
use Rattle.hg_entry.specs.Entry.{CacheData, EntryData}
use Rattle.hg_entry.specs.Steps.{seen_clean}
use Rattle.hg_entry.specs.Table.{Table}
use Rattle.hg_nodes.specs.Edits.{IsSame, after_cache}
use Rattle.hg_mixed.specs.Held.{Held, table}
use Rattle.hg_tree.specs.Moment.{is_among}
use Rattle.hg_walk.specs.Notes.{CleanNote, DirNote, clean_at, seen_at, with_clean, with_seen}
use Rattle.hg_walk.specs.Writing.{AreKnownClean, AreKnownGone, AreKnownSeen, IsEdit, WritesClean, WritesGone, WritesSeen, after_clean, cached, cleaned, forgotten}
use Rattle.hg_walk.proofs.Written.{edit_is_written, places_same, table_same, written_on}

-- ---- clean paths

-- a path without entry stays without
no_entry : (t : Table) (note : CleanNote) → t.entries note.path ≡ None → IsSame t (after_clean note t)
no_entry t note none = record {
  p1 = refl;
  p2 = refl;
  hash = refl;
  entries = λ at. elim (cases_Bool (bytes_eq note.path at)) [
    | inl here ↦
        ap t.entries (sym (same_bytes note.path at here)) ∙ none ∙ ap (with_clean (Some note)) (sym none)
        ∙ ap (λ (b : Bool). cond b (with_clean (Some note) (t.entries note.path)) (t.entries at)) (sym here)
    | inr apart ↦ ap (λ (b : Bool). cond b (with_clean (Some note) (t.entries note.path)) (t.entries at)) (sym apart)
  ];
  sources = λ at. refl;
  nodes = λ at. refl;
  caches = λ at. refl;
}

pub no_edit : (note : CleanNote) (a : Held) → (table a).entries note.path ≡ None → IsEdit note.path (after_clean note (table a)) a a
no_edit note a none = record {
  made = no_entry (table a) note none;
  marks = record { kept = λ same. refl; marked = λ other. absurd (other (table_same (table a))) };
  lends = record { kept = λ same dir. refl; ended = λ other. absurd (other (table_same (table a))) };
  places = places_same a;
}

here_by : {X : Type 0} (path at : List ℕ) (x y : X) → bytes_eq path at ≡ true → cond (bytes_eq path at) x y ≡ x
here_by path at x y is = ap (λ (b : Bool). cond b x y) is

apart_by : {X : Type 0} (path at : List ℕ) (x y : X) → bytes_eq path at ≡ false → cond (bytes_eq path at) x y ≡ y
apart_by path at x y is = ap (λ (b : Bool). cond b x y) is

-- the first of two notes stands
twice : (note : CleanNote) (later : Option CleanNote) (entry : Option EntryData) → with_clean (Some note) (with_clean later entry) ≡ with_clean (Some note) entry
twice note None entry = refl
twice note (Some other) None = refl
twice note (Some other) (Some entry) = refl

pub clean_more : (note : CleanNote) (rest : List CleanNote) (t mid : Table) → IsSame mid (cleaned rest t) → IsSame (after_clean note mid) (cleaned (note ∷ rest) t)
clean_more note rest t mid same = record {
  p1 = same.p1;
  p2 = same.p2;
  hash = same.hash;
  entries = λ at. elim (cases_Bool (bytes_eq note.path at)) [
    | inl here ↦
        here_by note.path at (with_clean (Some note) (mid.entries note.path)) (mid.entries at) here
        ∙ ap (with_clean (Some note)) (ap mid.entries (same_bytes note.path at here) ∙ same.entries at) ∙ twice note (clean_at rest at) (t.entries at)
        ∙ ap (λ (o : Option CleanNote). with_clean o (t.entries at)) (sym (here_by note.path at (Some note) (clean_at rest at) here))
    | inr apart ↦
        apart_by note.path at (with_clean (Some note) (mid.entries note.path)) (mid.entries at) apart ∙ same.entries at
        ∙ ap (λ (o : Option CleanNote). with_clean o (t.entries at)) (sym (apart_by note.path at (Some note) (clean_at rest at) apart))
  ];
  sources = same.sources;
  nodes = same.nodes;
  caches = same.caches;
}

later : {X : Type 0} (x : X) (xs : List X) (y : X) → Contains xs y → Contains (x ∷ xs) y
later x xs y among = (suc among.0, omega (arith, among.1), among.2)

pub first : {X : Type 0} (x : X) (xs : List X) → Contains (x ∷ xs) x
first x xs = (zero, omega arith, refl)

-- a note that says what is recorded changes nothing
known_clean : (note : CleanNote) (entry : Option EntryData) → ((e : EntryData) → entry ≡ Some e → seen_clean e note.stat note.stamp ≡ e) → with_clean (Some note) entry ≡ entry
known_clean note None known = refl
known_clean note (Some e) known = ap Some (known e refl)

cleaned_as_is : (notes : List CleanNote) (t : Table) (test : List ℕ → Bool) → AreKnownClean notes t test → (at : List ℕ) → test at ≡ true → with_clean (clean_at notes at) (t.entries at) ≡ t.entries at
cleaned_as_is [] t test known at is = refl
cleaned_as_is (note ∷ rest) t test known at is = elim (cases_Bool (bytes_eq note.path at)) [
  | inl here ↦
      let same : note.path ≡ at = same_bytes note.path at here in
      ap (λ (o : Option CleanNote). with_clean o (t.entries at)) (here_by note.path at (Some note) (clean_at rest at) here)
      ∙ known_clean note (t.entries at) (λ e is_there. known note (first note rest) (ap test same ∙ is) e (ap t.entries same ∙ is_there))
  | inr apart ↦
      ap (λ (o : Option CleanNote). with_clean o (t.entries at)) (apart_by note.path at (Some note) (clean_at rest at) apart)
      ∙ cleaned_as_is rest t test (λ other among. known other (later note rest other among)) at is
]

-- one more note, in front of those that are written
pub clean_next : (note : CleanNote) (rest : List CleanNote) (a b c : Held) → WritesClean rest a b → IsEdit note.path (after_clean note (table b)) b c
    → WritesClean (note ∷ rest) a c
clean_next note rest a b c written edit =
    written_on (AreKnownClean rest (table a)) (λ test. test note.path ≡ true → IsSame (after_clean note (table b)) (table b)) (AreKnownClean (note ∷ rest) (table a))
    (cleaned rest (table a)) (after_clean note (table b)) (cleaned (note ∷ rest) (table a)) a b c written
    (edit_is_written note.path (after_clean note (table b)) b c edit (λ at apart. (apart_by note.path at (with_clean (Some note) ((table b).entries note.path)) ((table b).entries at) apart, refl)))
    (clean_more note rest (table a) (table b) written.made) (λ test known other among. known other (later note rest other among)) as_is
  where
    as_is : (test : List ℕ → Bool) → AreKnownClean (note ∷ rest) (table a) test → test note.path ≡ true → IsSame (after_clean note (table b)) (table b)
    as_is test known is = record {
      p1 = refl;
      p2 = refl;
      hash = refl;
      entries = λ at. elim (cases_Bool (bytes_eq note.path at)) [
        | inl here ↦
            here_by note.path at (with_clean (Some note) ((table b).entries note.path)) ((table b).entries at) here ∙ ap (with_clean (Some note)) own
            ∙ known_clean note ((table a).entries note.path) (known note (first note rest) is) ∙ sym own ∙ ap (table b).entries (same_bytes note.path at here)
        | inr apart ↦ apart_by note.path at (with_clean (Some note) ((table b).entries note.path)) ((table b).entries at) apart
      ];
      sources = λ at. refl;
      nodes = λ at. refl;
      caches = λ at. refl;
    }
      where
        own : (table b).entries note.path ≡ (table a).entries note.path
        own = written.made.entries note.path ∙ cleaned_as_is rest (table a) test (λ other among. known other (later note rest other among)) note.path is

-- ---- caches

turned : (a b : List ℕ) → bytes_eq a b ≡ false → bytes_eq b a ≡ false
turned a b apart = elim (cases_Bool (bytes_eq b a)) [
  | inl here ↦ absurd (true≢false (sym (ap (bytes_eq a) (same_bytes b a here) ∙ equal_bytes a) ∙ apart))
  | inr other ↦ other
]

turned_here : (a b : List ℕ) → bytes_eq a b ≡ true → bytes_eq b a ≡ true
turned_here a b here = ap (λ (x : List ℕ). bytes_eq x a) (sym (same_bytes a b here)) ∙ equal_bytes a

-- a directory among some
among_first : (dir at : List ℕ) (rest : List (List ℕ)) (cache : Option CacheData) → bytes_eq dir at ≡ true → cond (is_among at (dir ∷ rest)) None cache ≡ None
among_first dir at rest cache here = ap (λ (b : Bool). cond (b || is_among at rest) None cache) (turned_here dir at here)

among_rest : (dir at : List ℕ) (rest : List (List ℕ)) (cache : Option CacheData) → bytes_eq dir at ≡ false → cond (is_among at (dir ∷ rest)) None cache ≡ cond (is_among at rest) None cache
among_rest dir at rest cache apart = ap (λ (b : Bool). cond (b || is_among at rest) None cache) (turned dir at apart)

gone_more : (dir : List ℕ) (rest : List (List ℕ)) (t mid : Table) → IsSame mid (forgotten rest t) → IsSame (after_cache dir None mid) (forgotten (dir ∷ rest) t)
gone_more dir rest t mid same = record {
  p1 = same.p1;
  p2 = same.p2;
  hash = same.hash;
  entries = same.entries;
  sources = same.sources;
  nodes = same.nodes;
  caches = λ at. elim (cases_Bool (bytes_eq dir at)) [
    | inl here ↦ here_by dir at None (mid.caches at) here ∙ sym (among_first dir at rest (t.caches at) here)
    | inr apart ↦ apart_by dir at None (mid.caches at) apart ∙ same.caches at ∙ sym (among_rest dir at rest (t.caches at) apart)
  ];
}

pub forgotten_as_is : (gone : List (List ℕ)) (t : Table) (test : List ℕ → Bool) → AreKnownGone gone t test → (at : List ℕ) → test at ≡ true → cond (is_among at gone) None (t.caches at) ≡ t.caches at
forgotten_as_is [] t test known at is = refl
forgotten_as_is (dir ∷ rest) t test known at is = elim (cases_Bool (bytes_eq dir at)) [
  | inl here ↦
      let same : dir ≡ at = same_bytes dir at here in
      among_first dir at rest (t.caches at) here ∙ sym (sym (ap t.caches same) ∙ known dir (first dir rest) (ap test same ∙ is))
  | inr apart ↦ among_rest dir at rest (t.caches at) apart ∙ forgotten_as_is rest t test (λ other among. known other (later dir rest other among)) at is
]

-- a cache that is written as it was
cache_as_is : (dir : List ℕ) (cache : Option CacheData) (t : Table) → t.caches dir ≡ cache → IsSame (after_cache dir cache t) t
cache_as_is dir cache t is = record {
  p1 = refl;
  p2 = refl;
  hash = refl;
  entries = λ at. refl;
  sources = λ at. refl;
  nodes = λ at. refl;
  caches = λ at. elim (cases_Bool (bytes_eq dir at)) [
    | inl here ↦ here_by dir at cache (t.caches at) here ∙ sym is ∙ ap t.caches (same_bytes dir at here)
    | inr apart ↦ apart_by dir at cache (t.caches at) apart
  ];
}

pub gone_next : (dir : List ℕ) (rest : List (List ℕ)) (a b c : Held) → WritesGone rest a b → IsEdit dir (after_cache dir None (table b)) b c
    → WritesGone (dir ∷ rest) a c
gone_next dir rest a b c written edit =
    written_on (AreKnownGone rest (table a)) (λ test. test dir ≡ true → IsSame (after_cache dir None (table b)) (table b)) (AreKnownGone (dir ∷ rest) (table a))
    (forgotten rest (table a)) (after_cache dir None (table b)) (forgotten (dir ∷ rest) (table a)) a b c written
    (edit_is_written dir (after_cache dir None (table b)) b c edit (λ at apart. (refl, apart_by dir at None ((table b).caches at) apart)))
    (gone_more dir rest (table a) (table b) written.made) (λ test known other among. known other (later dir rest other among))
    (λ test known is.
    cache_as_is dir None (table b)
    (written.made.caches dir ∙ forgotten_as_is rest (table a) test (λ other among. known other (later dir rest other among)) dir is ∙ known dir (first dir rest) is))

seen_more : (note : DirNote) (rest : List DirNote) (t mid : Table) → IsSame mid (cached rest t) → IsSame (after_cache note.dir (Some note.cache) mid) (cached (note ∷ rest) t)
seen_more note rest t mid same = record {
  p1 = same.p1;
  p2 = same.p2;
  hash = same.hash;
  entries = same.entries;
  sources = same.sources;
  nodes = same.nodes;
  caches = λ at. elim (cases_Bool (bytes_eq note.dir at)) [
    | inl here ↦
        here_by note.dir at (Some note.cache) (mid.caches at) here
        ∙ ap (λ (o : Option DirNote). with_seen o false (t.caches at)) (sym (here_by note.dir at (Some note) (seen_at rest at) here))
    | inr apart ↦
        apart_by note.dir at (Some note.cache) (mid.caches at) apart ∙ same.caches at
        ∙ ap (λ (o : Option DirNote). with_seen o false (t.caches at)) (sym (apart_by note.dir at (Some note) (seen_at rest at) apart))
  ];
}

cached_as_is : (notes : List DirNote) (t : Table) (test : List ℕ → Bool) → AreKnownSeen notes t test → (at : List ℕ) → test at ≡ true → with_seen (seen_at notes at) false (t.caches at) ≡ t.caches at
cached_as_is [] t test known at is = refl
cached_as_is (note ∷ rest) t test known at is = elim (cases_Bool (bytes_eq note.dir at)) [
  | inl here ↦
      let same : note.dir ≡ at = same_bytes note.dir at here in
      ap (λ (o : Option DirNote). with_seen o false (t.caches at)) (here_by note.dir at (Some note) (seen_at rest at) here)
      ∙ sym (sym (ap t.caches same) ∙ known note (first note rest) (ap test same ∙ is))
  | inr apart ↦
      ap (λ (o : Option DirNote). with_seen o false (t.caches at)) (apart_by note.dir at (Some note) (seen_at rest at) apart)
      ∙ cached_as_is rest t test (λ other among. known other (later note rest other among)) at is
]

pub seen_next : (note : DirNote) (rest : List DirNote) (a b c : Held) → WritesSeen rest a b
    → IsEdit note.dir (after_cache note.dir (Some note.cache) (table b)) b c → WritesSeen (note ∷ rest) a c
seen_next note rest a b c written edit =
    written_on (AreKnownSeen rest (table a)) (λ test. test note.dir ≡ true → IsSame (after_cache note.dir (Some note.cache) (table b)) (table b)) (AreKnownSeen (note ∷ rest) (table a))
    (cached rest (table a)) (after_cache note.dir (Some note.cache) (table b)) (cached (note ∷ rest) (table a)) a b c written
    (edit_is_written note.dir (after_cache note.dir (Some note.cache) (table b)) b c edit (λ at apart. (refl, apart_by note.dir at (Some note.cache) ((table b).caches at) apart)))
    (seen_more note rest (table a) (table b) written.made) (λ test known other among. known other (later note rest other among))
    (λ test known is.
    cache_as_is note.dir (Some note.cache) (table b)
    (written.made.caches note.dir ∙ cached_as_is rest (table a) test (λ other among. known other (later note rest other among)) note.dir is ∙ known note (first note rest) is))
