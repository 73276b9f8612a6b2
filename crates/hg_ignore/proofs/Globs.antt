-- Which globs of a list stand in a path, where it is rid of globs that it has already.
use Rattle.std.proofs.Common.{◌≡◌, ℕ, Bool, true, false, not, ◌⊎◌, ◌↔◌, inl, inr, List, [], ◌∷◌, ◌++◌, IsTrue, chars, cond, refl, sym, subst, ◌∙◌}
use Rattle.std.specs.Bool.{Decides}
use Rattle.std.specs.Str.{bytes_eq}
use Rattle.std.proofs.lemmas.Bool.{both_ways}
use Rattle.std.proofs.lemmas.Slice.Eq.{bytes_eq-Decides}
use Rattle.hg_glob.specs.Part.{glob_of}
use Rattle.hg_glob.specs.Line.{Stands}
use Rattle.hg_glob.specs.Many.{SomeStands}
use Rattle.hg_glob.specs.declared.globs.GlobLine.{GlobLine}
use Rattle.hg_ignore.specs.Kept.{has}
use Rattle.hg_ignore.specs.declared.distinct.Seen.{Seen}

-- the line's glob stands in the path
abbrev LineStands : GlobLine → List ℕ → Type 0
LineStands line path = Stands false line.rooted (glob_of (chars line.glob)) (chars path)

some_or_last : (globs : List GlobLine) (line : GlobLine) (path : List ℕ) → SomeStands (globs ++ line ∷ []) path → SomeStands globs path ⊎ LineStands line path
some_or_last [] line path (inl s) = inr s
some_or_last [] line path (inr none) = absurd none
some_or_last (first ∷ globs) line path (inl s) = inl (inl s)
some_or_last (first ∷ globs) line path (inr s) = elim (some_or_last globs line path s) [ inl at ↦ inl (inr at) | inr at ↦ inr at ]

some_front : (globs : List GlobLine) (line : GlobLine) (path : List ℕ) → SomeStands globs path → SomeStands (globs ++ line ∷ []) path
some_front [] line path none = absurd none
some_front (first ∷ globs) line path (inl s) = inl s
some_front (first ∷ globs) line path (inr s) = inr (some_front globs line path s)

some_last : (globs : List GlobLine) (line : GlobLine) (path : List ℕ) → LineStands line path → SomeStands (globs ++ line ∷ []) path
some_last [] line path s = inl s
some_last (first ∷ globs) line path s = inr (some_last globs line path s)

-- of the globs so far those that are kept stand where all do, and what was seen is kept
pub record KeptOf (kept globs : List GlobLine) (seen : Seen) : Type 0 where
  pub same : (path : List ℕ) → SomeStands kept path ↔ SomeStands globs path
  pub known : (rooted : Bool) (text : List ℕ) → IsTrue (has seen rooted text) → (path : List ℕ) → Stands false rooted (glob_of (chars text)) (chars path) → SomeStands kept path

-- what is seen once a line was put
abbrev pub PutsLine : Seen → Seen → GlobLine → Type 0
PutsLine old new line = (rooted : Bool) (text : List ℕ) → IsTrue (has new rooted text) → IsTrue (has old rooted text) ⊎ ((rooted ≡ line.rooted) × (text ≡ line.glob))

put_stands : (line : GlobLine) (rooted : Bool) (text path : List ℕ) → (rooted ≡ line.rooted) × (text ≡ line.glob) → Stands false rooted (glob_of (chars text)) (chars path) → LineStands line path
put_stands line rooted text path (r, t) s =
    let P : Bool → Type 0 = λ v. Stands false v (glob_of (chars line.glob)) (chars path) in
    let Q : List ℕ → Type 0 = λ v. Stands false rooted (glob_of (chars v)) (chars path) in
    subst P r (subst Q t s)

-- a new line is kept
pub kept_more : (kept more globs : List GlobLine) (line : GlobLine) (old new : Seen) → more ≡ kept ++ line ∷ [] → PutsLine old new line → KeptOf kept globs old → KeptOf more (globs ++ line ∷ []) new
kept_more kept more globs line old new is puts so_far =
    let P : List GlobLine → Type 0 = λ v. KeptOf v (globs ++ line ∷ []) new in
    subst P (sym is) (record {
      same = λ path. (
        λ s. elim (some_or_last kept line path s) [ inl at ↦ some_front globs line path ((so_far.same path).0 at) | inr at ↦ some_last globs line path at ],
        λ s. elim (some_or_last globs line path s) [ inl at ↦ some_front kept line path ((so_far.same path).1 at) | inr at ↦ some_last kept line path at ],
      );
      known = λ rooted text there path s. elim (puts rooted text there) [
        | inl was ↦ some_front kept line path (so_far.known rooted text was path s)
        | inr is_line ↦ some_last kept line path (put_stands line rooted text path is_line s)
      ];
    })

-- and one that was seen isn't
pub kept_still : (kept globs : List GlobLine) (line : GlobLine) (old new : Seen) → IsTrue (has old line.rooted line.glob) → PutsLine old new line → KeptOf kept globs old → KeptOf kept (globs ++ line ∷ []) new
kept_still kept globs line old new was puts so_far = record {
  same = λ path. (
    λ s. some_front globs line path ((so_far.same path).0 s),
    λ s. elim (some_or_last globs line path s) [ inl at ↦ (so_far.same path).1 at | inr at ↦ so_far.known line.rooted line.glob was path at ],
  );
  known = λ rooted text there path s. elim (puts rooted text there) [
    | inl before ↦ so_far.known rooted text before path s
    | inr is_line ↦ so_far.known line.rooted line.glob was path (put_stands line rooted text path is_line s)
  ];
}

-- what isn't new was seen
pub was_seen : (is_new there : Bool) → is_new ≡ not there → is_new ≡ false → IsTrue there
was_seen is_new true is old = refl
was_seen is_new false is old = absurd (both_ways is_new old is)

equal_or : (b old : Bool) (text key q : List ℕ) → Decides b (key ≡ q) → key ≡ text → IsTrue (cond b true old) → IsTrue old ⊎ (q ≡ text)
equal_or true old text key q same is there = inr (sym (same.0 refl) ∙ is)
equal_or false old text key q same is there = inl there

-- what is in a set once a text was put is that text, or was there
pub text_put : (text key q : List ℕ) (new old : Bool) → key ≡ text → new ≡ cond (bytes_eq key q) true old → IsTrue new → IsTrue old ⊎ (q ≡ text)
text_put text key q new old is more there = equal_or (bytes_eq key q) old text key q (bytes_eq-Decides key q) is (sym more ∙ there)

-- what two steps keep in turn
pub also_where : (last kept globs : List GlobLine) → ((path : List ℕ) → SomeStands last path ↔ SomeStands kept path) → ((path : List ℕ) → SomeStands kept path ↔ SomeStands globs path) → (path : List ℕ) → SomeStands last path ↔ SomeStands globs path
also_where last kept globs second first path = (λ s. (first path).0 ((second path).0 s), λ s. (second path).1 ((first path).1 s))
