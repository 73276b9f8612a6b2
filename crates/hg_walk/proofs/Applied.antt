-- Notes that are written one by one make the record with the notes.
use Rattle.std.proofs.Common.{ℕ, zero, ◌≡◌, Bool, true, false, cond, List, [], ◌∷◌, ◌++◌, Option, Some, None, refl, sym, ap, ◌∙◌, subst, true≢false, arith}
use Rattle.std.specs.List.{Contains}
use Rattle.std.proofs.lemmas.List.{append-nil, append_assoc}
use Rattle.std.proofs.lemmas.List.Elements.{Contains-append_left, Contains-append_right}
use Rattle.hg_entry.specs.Entry.{CacheData, EntryData}
use Rattle.hg_entry.specs.Table.{Table}
use Rattle.hg_mixed.specs.Edits.{ArePlacedAsBefore, IsOfSameImage}
use Rattle.hg_nodes.specs.Edits.{IsSame, after_cache}
use Rattle.hg_mixed.specs.Held.{Held, table}
use Rattle.hg_tree.specs.Moment.{is_among}
use Rattle.hg_walk.specs.Applying.{AreKnown, IsBare, LendsNotes, MarksNotes}
use Rattle.hg_walk.specs.Notes.{CleanNote, DirNote, NotesData, applied, clean_at, seen_at, with_clean, with_hash, with_seen}
use Rattle.hg_walk.specs.Writing.{AreKnownClean, AreKnownGone, AreKnownSeen, IsEdit, IsHashed, IsWritten, WritesClean, WritesGone, WritesSeen, after_clean, cached, cleaned, forgotten}
use Rattle.hg_walk.proofs.OneNote.{clean_next, forgotten_as_is, gone_next, seen_next}
use Rattle.hg_walk.proofs.Written.{image_on, image_same, places_on, same_on, table_same, unwritten, written_on}

-- ---- from the last to the first

-- so many are left, and those behind them are written
pub record AreBehindWritten {X : Type 0} (Writes : List X → Held → Held → Type 0) (all left : List X) (a b : Held) : Type 0 where
  pub behind : List X
  pub whole : left ++ behind ≡ all
  pub written : Writes behind a b
  pub image : IsOfSameImage a b

module _ {X : Type 0} (Writes : List X → Held → Held → Type 0) (all : List X) where
  start : (a : Held) → Writes [] a a → AreBehindWritten Writes all all a a
  start a none = record { behind = []; whole = append-nil all; written = none; image = image_same a }

  step : (left rest : List X) (x : X) (a b c : Held) → left ≡ rest ++ x ∷ [] → (so_far : AreBehindWritten Writes all left a b) → Writes (x ∷ so_far.behind) a c → IsOfSameImage b c
      → AreBehindWritten Writes all rest a c
  step left rest x a b c is so_far written image = record {
    behind = x ∷ so_far.behind;
    whole = sym (append_assoc rest (x ∷ []) so_far.behind) ∙ ap (λ (l : List X). l ++ so_far.behind) (sym is) ∙ so_far.whole;
    written = written;
    image = image_on a b c so_far.image image;
  }

  pub among : (left rest : List X) (x : X) (a b : Held) → left ≡ rest ++ x ∷ [] → AreBehindWritten Writes all left a b → Contains all x
  among left rest x a b is so_far =
      subst (λ (l : List X). Contains l x) (ap (λ (l : List X). l ++ so_far.behind) (sym is) ∙ so_far.whole)
      (Contains-append_left (rest ++ x ∷ []) so_far.behind x (Contains-append_right rest (x ∷ []) x (zero, omega arith, refl)))

-- ---- the loops

abbrev pub CleanSoFar : List CleanNote → List CleanNote → Held → Held → Type 0
CleanSoFar notes left a b = AreBehindWritten WritesClean notes left a b

pub clean_start : (notes : List CleanNote) (a : Held) → CleanSoFar notes notes a a
clean_start notes a = start WritesClean notes a (unwritten (AreKnownClean [] (table a)) (cleaned [] (table a)) a (table_same (table a)))

pub clean_step : (notes left rest : List CleanNote) (note : CleanNote) (a b c : Held) → left ≡ rest ++ note ∷ [] → CleanSoFar notes left a b
    → IsEdit note.path (after_clean note (table b)) b c → IsOfSameImage b c → CleanSoFar notes rest a c
clean_step notes left rest note a b c is so_far edit image =
    step WritesClean notes left rest note a b c is so_far (clean_next note so_far.behind a b c so_far.written edit) image

abbrev pub GoneSoFar : List (List ℕ) → List (List ℕ) → Held → Held → Type 0
GoneSoFar gone left a b = AreBehindWritten WritesGone gone left a b

pub gone_start : (gone : List (List ℕ)) (a : Held) → GoneSoFar gone gone a a
gone_start gone a = start WritesGone gone a (unwritten (AreKnownGone [] (table a)) (forgotten [] (table a)) a (table_same (table a)))

pub gone_step : (gone left rest : List (List ℕ)) (dir : List ℕ) (a b c : Held) → left ≡ rest ++ dir ∷ [] → GoneSoFar gone left a b
    → IsEdit dir (after_cache dir None (table b)) b c → IsOfSameImage b c → GoneSoFar gone rest a c
gone_step gone left rest dir a b c is so_far edit image =
    step WritesGone gone left rest dir a b c is so_far (gone_next dir so_far.behind a b c so_far.written edit) image

abbrev pub SeenSoFar : List DirNote → List DirNote → Held → Held → Type 0
SeenSoFar notes left a b = AreBehindWritten WritesSeen notes left a b

pub seen_start : (notes : List DirNote) (a : Held) → SeenSoFar notes notes a a
seen_start notes a = start WritesSeen notes a (unwritten (AreKnownSeen [] (table a)) (cached [] (table a)) a (table_same (table a)))

pub seen_step : (notes left rest : List DirNote) (note : DirNote) (a b c : Held) → left ≡ rest ++ note ∷ [] → SeenSoFar notes left a b
    → IsEdit note.dir (after_cache note.dir (Some note.cache) (table b)) b c → IsOfSameImage b c → SeenSoFar notes rest a c
seen_step notes left rest note a b c is so_far edit image =
    step WritesSeen notes left rest note a b c is so_far (seen_next note so_far.behind a b c so_far.written edit) image

-- ---- a directory that may be cached stays so

pub still_bare : (t mid : Table) (dir : List ℕ) → mid.nodes dir ≡ t.nodes dir → mid.entries dir ≡ t.entries dir → IsBare t dir → IsBare mid dir
still_bare t mid dir nodes entries bare = record { node = nodes ∙ bare.node; no_entry = entries ∙ bare.no_entry }

none_cleaned : (note : Option CleanNote) (entry : Option EntryData) → entry ≡ None → with_clean note entry ≡ None
none_cleaned None entry is = is
none_cleaned (Some note) entry is = ap (with_clean (Some note)) is

pub bare_cleaned : (notes : List CleanNote) (t mid : Table) (dir : List ℕ) → IsSame mid (cleaned notes t) → IsBare t dir → IsBare mid dir
bare_cleaned notes t mid dir same bare = record {
  node = same.nodes dir ∙ bare.node;
  no_entry = same.entries dir ∙ none_cleaned (clean_at notes dir) (t.entries dir) bare.no_entry;
}

-- ---- all notes

-- a record with the notes but for their hash
abbrev unhashed : NotesData → Table → Table
unhashed notes t =
    record t {
      entries = λ path. with_clean (clean_at notes.clean path) (t.entries path);
      caches = λ dir. with_seen (seen_at notes.seen dir) (is_among dir notes.gone) (t.caches dir);
    }

seen_over : (note : Option DirNote) (gone : Bool) (cache : Option CacheData) → with_seen note false (cond gone None cache) ≡ with_seen note gone cache
seen_over None gone cache = refl
seen_over (Some note) gone cache = refl

module _ (notes : NotesData) (a b c d : Held) (cleans : WritesClean notes.clean a b)
    (forgets : WritesGone notes.gone b c) (caches : WritesSeen notes.seen c d) where
  abbrev Known : (List ℕ → Bool) → Type 0
  Known test = AreKnown test notes (table a)

  known_gone : (test : List ℕ → Bool) → Known test → AreKnownGone notes.gone (table b) test
  known_gone test known dir among is = cleans.made.caches dir ∙ known.gone dir among is

  known_seen : (test : List ℕ → Bool) → Known test → AreKnownSeen notes.seen (table c) test
  known_seen test known note among is =
      forgets.made.caches note.dir ∙ forgotten_as_is notes.gone (table b) test (known_gone test known) note.dir is ∙ cleans.made.caches note.dir ∙ known.seen note among is

  cache_of : (dir : List ℕ) → (table c).caches dir ≡ cond (is_among dir notes.gone) None ((table a).caches dir)
  cache_of dir = forgets.made.caches dir ∙ ap (cond (is_among dir notes.gone) None) (cleans.made.caches dir)

  both : IsWritten Known (forgotten notes.gone (table b)) a c
  both =
      written_on (AreKnownClean notes.clean (table a)) (AreKnownGone notes.gone (table b)) Known (cleaned notes.clean (table a)) (forgotten notes.gone (table b)) (forgotten notes.gone (table b))
      a b c cleans forgets (table_same (forgotten notes.gone (table b))) (λ test known. known.clean) known_gone

  all : IsWritten Known (unhashed notes (table a)) a d
  all =
      written_on Known (AreKnownSeen notes.seen (table c)) Known (forgotten notes.gone (table b)) (cached notes.seen (table c)) (unhashed notes (table a))
      a c d both caches
      (record {
        p1 = forgets.made.p1 ∙ cleans.made.p1;
        p2 = forgets.made.p2 ∙ cleans.made.p2;
        hash = forgets.made.hash ∙ cleans.made.hash;
        entries = λ at. forgets.made.entries at ∙ cleans.made.entries at;
        sources = λ at. forgets.made.sources at ∙ cleans.made.sources at;
        nodes = λ at. forgets.made.nodes at ∙ cleans.made.nodes at;
        caches = λ dir. ap (with_seen (seen_at notes.seen dir) false) (cache_of dir) ∙ seen_over (seen_at notes.seen dir) (is_among dir notes.gone) ((table a).caches dir);
      })
      (λ test known. known) known_seen

  module _ (e : Held) (hashes : IsHashed (with_hash notes.hash (table d).hash) d e) where
    pub all_table : IsSame (table e) (applied notes (table a))
    all_table = record {
      p1 = hashes.made.p1 ∙ all.made.p1;
      p2 = hashes.made.p2 ∙ all.made.p2;
      hash = hashes.made.hash ∙ ap (with_hash notes.hash) all.made.hash;
      entries = λ at. hashes.made.entries at ∙ all.made.entries at;
      sources = λ at. hashes.made.sources at ∙ all.made.sources at;
      nodes = λ at. hashes.made.nodes at ∙ all.made.nodes at;
      caches = λ at. hashes.made.caches at ∙ all.made.caches at;
    }

    same_hash : with_hash notes.hash (table a).hash ≡ (table a).hash → IsSame (table e) (table d)
    same_hash is = record {
      p1 = hashes.made.p1;
      p2 = hashes.made.p2;
      hash = hashes.made.hash ∙ ap (with_hash notes.hash) all.made.hash ∙ is ∙ sym all.made.hash;
      entries = hashes.made.entries;
      sources = hashes.made.sources;
      nodes = hashes.made.nodes;
      caches = hashes.made.caches;
    }

    stays : d.changed ≡ true → e.changed ≡ true
    stays was = by e.changed refl
      where
        by : (mark : Bool) → e.changed ≡ mark → e.changed ≡ true
        by true is = is
        by false is = hashes.marks.marked (λ same. true≢false (sym was ∙ sym (hashes.marks.kept same) ∙ is))

    pub all_marks : MarksNotes notes a e
    all_marks = record {
      kept = λ known hash. hashes.marks.kept (same_hash hash) ∙ all.kept known;
      marked = λ other. by other e.changed refl;
      stays = λ was. stays (all.stays was);
    }
      where
        by : (IsSame (table e) (table a) → ⊥) → (mark : Bool) → e.changed ≡ mark → e.changed ≡ true
        by other true is = is
        by other false is = absurd (no_second (λ s2. no_first (λ s1. other (same_on (table e) (table d) (table a) s2 s1))))
          where
            no_second : (IsSame (table e) (table d) → ⊥) → ⊥
            no_second n = true≢false (sym (hashes.marks.marked n) ∙ is)

            no_first : (IsSame (table d) (table a) → ⊥) → ⊥
            no_first n = true≢false (sym (stays (all.marked n)) ∙ is)

    pub all_lent : LendsNotes notes a e
    all_lent = record {
      kept = λ dir known. hashes.lent dir ∙ all.lent dir known;
      ended = λ dir at above other. hashes.lent dir ∙ all.ended dir at above (λ entries stamps. other (hashes.made.entries at ∙ entries) (hashes.made.caches at ∙ stamps));
    }

    pub all_places : ArePlacedAsBefore a e
    all_places = places_on a d e all.places hashes.places
