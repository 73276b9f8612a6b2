-- Notes keep each list lent below which they change nothing: none is of a path there, since each says something else than what is recorded. So some change
-- something.
use Rattle.std.proofs.Common.{ℕ, zero, suc, ◌≡◌, ◌<◌, Bool, true, false, cond, List, [], ◌∷◌, length, Option, Some, None, ◌||◌, refl, sym, ap, ◌∙◌, subst, arith, true≢false}
use Rattle.std.specs.Prelude.{is_some}
use Rattle.std.specs.List.{Contains, find, slice_index_or}
use Rattle.std.specs.Str.{bytes_eq}
use Rattle.std.proofs.lemmas.Slice.Eq.{bytes_eq-Decides}
use Rattle.hg_base.proofs.Within.{equal_bytes}
use Rattle.hg_base.specs.Within.{is_above}
use Rattle.hg_entry.specs.Entry.{EntryData}
use Rattle.hg_entry.specs.Steps.{seen_clean}
use Rattle.hg_entry.specs.Table.{Table}
use Rattle.hg_mixed.specs.Edits.{ArePlacedAsBefore}
use Rattle.hg_nodes.specs.Edits.{IsSame}
use Rattle.hg_mixed.specs.Held.{Held, table}
use Rattle.hg_mtime.proofs.Tests.{noted_vouch}
use Rattle.hg_mtime.specs.Vouching.{vouches}
use Rattle.hg_session.proofs.KeptTexts.{placed_texts}
use Rattle.hg_session.specs.Kept.{AreNews, IsNews, IsSameBelow, KeepsLent}
use Rattle.hg_tree.specs.History.{History}
use Rattle.hg_tree.specs.Moment.{is_among}
use Rattle.hg_walk.proofs.Growing.{found}
use Rattle.hg_walk.specs.Applying.{AreKnown, IsBlank, LendsNotes}
use Rattle.hg_walk.specs.Notes.{CleanNote, DirNote, NotesData, applied, seen_at, with_clean, with_seen}
use Rattle.hg_walk.specs.Walking.{AreNeeded, AreNoted}

-- a needed note is news: behind it the entry vouches for the look that was noted, and before it didn't
pub needed_are_news : (t : Table) (old new : History) (notes : NotesData) → AreNeeded t notes → AreNoted old new notes → AreNews t notes
needed_are_news t old new notes needed noted = record {
  clean = news;
  seen = λ note among. absurd (let none : Contains [] note = subst (λ (l : List DirNote). Contains l note) needed.seen among in omega (arith, none.1));
  gone = λ dir among. absurd (let none : Contains [] dir = subst (λ (l : List (List ℕ)). Contains l dir) needed.gone among in omega (arith, none.1));
}
  where
    news : (note : CleanNote) → Contains notes.clean note → IsNews t note
    news note among =
        let need = needed.clean note among in
        let copied : Bool = is_some (t.sources note.path) in
        record {
          entry = need.entry;
          is = need.is;
          other = λ same.
              true≢false
              (sym (noted_vouch need.entry copied note.stat noted.boundary note.stamp need.marks need.kind (noted.stamp note among))
              ∙ ap (λ (e : EntryData). vouches e copied note.stat) same ∙ need.unvouched);
        }

-- what passes a test is found, or something before it
first_at : {A : Type 0} (test : A → Bool) (x : A) (xs : List A) (y : A) (t : Bool) → test x ≡ t → test y ≡ true → ((k : ℕ) → k < length xs → slice_index_or xs k y ≡ y → (z : A) × (find test xs ≡ Some z))
    → (k : ℕ) → k < suc (length xs) → slice_index_or (x ∷ xs) k y ≡ y → (z : A) × (cond t (Some x) (find test xs) ≡ Some z)
first_at test x xs y true so passes rest k below is = (x, refl)
first_at test x xs y false so passes rest zero below is = absurd (true≢false (sym passes ∙ ap test (sym is) ∙ so))
first_at test x xs y false so passes rest (suc k) below is = rest k (omega (arith, below)) is

first_one : {A : Type 0} (test : A → Bool) (xs : List A) (y : A) → test y ≡ true → (k : ℕ) → k < length xs → slice_index_or xs k y ≡ y → (z : A) × (find test xs ≡ Some z)
first_one test [] y passes k below is = absurd (omega (arith, below))
first_one test (x ∷ xs) y passes k below is = first_at test x xs y (test x) refl passes (first_one test xs y passes) k below is

or_true : (a b : Bool) → b ≡ true → (a || b) ≡ true
or_true true b is = refl
or_true false b is = is

-- what stands at a place of a list is among it
among_of : (path : List ℕ) (paths : List (List ℕ)) (k : ℕ) → k < length paths → slice_index_or paths k path ≡ path → is_among path paths ≡ true
among_of path [] k below is = absurd (omega (arith, below))
among_of path (first ∷ paths) zero below is = ap (λ (p : List ℕ). bytes_eq path p || is_among path paths) is ∙ ap (λ (b : Bool). b || is_among path paths) (equal_bytes path)
among_of path (first ∷ paths) (suc k) below is = or_true (bytes_eq path first) (is_among path paths) (among_of path paths k (omega (arith, below)) is)

module _ (t : Table) (notes : NotesData) (news : AreNews t notes) (dir : Option (List ℕ)) (same : IsSameBelow dir t (applied notes t)) where
  -- no note is of a path below the directory
  none_below : (note : CleanNote) → Contains notes.clean note → is_above dir note.path ≡ true → ⊥
  none_below note among above =
      let one = first_one (λ (n : CleanNote). bytes_eq n.path note.path) notes.clean note (equal_bytes note.path) among.0 among.1 among.2 in
      let at = found (λ (n : CleanNote). bytes_eq n.path note.path) notes.clean one.0 one.1 in
      let here : one.0.path ≡ note.path = (bytes_eq-Decides one.0.path note.path).0 at.0 in
      let own = news.clean one.0 at.1 in
      let has : t.entries note.path ≡ Some own.entry = ap t.entries (sym here) ∙ own.is in
      own.other (one_entry (seen_clean own.entry one.0.stat one.0.stamp) own.entry (
      ap (with_clean (Some one.0)) (sym has)
      ∙ ap (λ (n : Option CleanNote). with_clean n (t.entries note.path)) (sym one.1)
      ∙ same.entries note.path above
      ∙ has
      ))
    where
      one_entry : (a b : EntryData) → Some a ≡ Some b → a ≡ b
      one_entry a b is = cc is

  -- nor of a directory below it
  none_seen_below : (note : DirNote) → Contains notes.seen note → is_above dir note.dir ≡ true → ⊥
  none_seen_below note among above =
      let one = first_one (λ (n : DirNote). bytes_eq n.dir note.dir) notes.seen note (equal_bytes note.dir) among.0 among.1 among.2 in
      let at = found (λ (n : DirNote). bytes_eq n.dir note.dir) notes.seen one.0 one.1 in
      let here : one.0.dir ≡ note.dir = (bytes_eq-Decides one.0.dir note.dir).0 at.0 in
      news.seen one.0 at.1 (
      ap t.caches here
      ∙ sym (same.caches note.dir above)
      ∙ ap (λ (n : Option DirNote). with_seen n (is_among note.dir notes.gone) (t.caches note.dir)) one.1
      )

  none_gone_below : (path : List ℕ) → Contains notes.gone path → is_above dir path ≡ true → ⊥
  none_gone_below path among above = by_note (seen_at notes.seen path) refl
    where
      by_note : (n : Option DirNote) → seen_at notes.seen path ≡ n → ⊥
      by_note (Some note) is =
          let at = found (λ (n : DirNote). bytes_eq n.dir path) notes.seen note is in
          let here : note.dir ≡ path = (bytes_eq-Decides note.dir path).0 at.0 in
          none_seen_below note at.1 (ap (is_above dir) here ∙ above)
      by_note None is =
          news.gone path among (
          sym (same.caches path above)
          ∙ ap (λ (n : Option DirNote). with_seen n (is_among path notes.gone) (t.caches path)) is
          ∙ ap (λ (gone : Bool). with_seen None gone (t.caches path)) (among_of path notes.gone among.0 among.1 among.2)
          )

  known_below : AreKnown (is_above dir) notes t
  known_below = record {
    clean = λ note among above. absurd (none_below note among above);
    seen = λ note among above. absurd (none_seen_below note among above);
    gone = λ path among above. absurd (none_gone_below path among above);
  }

-- so each list below which nothing differs is lent still
pub notes_keep : (old new : Held) (notes : NotesData) → AreNews (table old) notes → IsSame (table new) (applied notes (table old)) → LendsNotes notes old new → ArePlacedAsBefore old new → KeepsLent old new
notes_keep old new notes news made lends placed = record {
  lists = λ dir same. lends.kept dir (known_below (table old) notes news dir (record {
    nodes = λ at above. sym (made.nodes at) ∙ same.nodes at above;
    entries = λ at above. sym (made.entries at) ∙ same.entries at above;
    sources = λ at above. sym (made.sources at) ∙ same.sources at above;
    caches = λ at above. sym (made.caches at) ∙ same.caches at above;
  }));
  texts = placed_texts old new placed;
}

-- nothing is in a list that has nothing
empty_list : {A : Type 0} (xs : List A) → ((x : A) → Contains xs x → ⊥) → xs ≡ []
empty_list [] none = refl
empty_list (x ∷ xs) none = absurd (none x (zero, omega arith, refl))

-- notes that change nothing are none
pub news_change : (t : Table) (notes : NotesData) → AreNews t notes → IsSame (applied notes t) t → IsBlank notes
news_change t notes news still =
    let same : IsSameBelow None t (applied notes t) = record {
      nodes = λ at above. still.nodes at;
      entries = λ at above. still.entries at;
      sources = λ at above. still.sources at;
      caches = λ at above. still.caches at;
    } in
    record {
      clean = empty_list notes.clean (λ note among. none_below t notes news None same note among refl);
      seen = empty_list notes.seen (λ note among. none_seen_below t notes news None same note among refl);
      gone = empty_list notes.gone (λ path among. none_gone_below t notes news None same path among refl);
    }
