-- The rows of what was put say what the table does, and each node of the table has one.
use Rattle.std.proofs.Common.{◌≡◌, ℕ, ◌+◌, Bool, true, false, not, ◌&&◌, ◌||◌, cond, ◌⊎◌, inl, inr, List, [], ◌∷◌, ◌++◌, Option, Some, None, refl, sym, ap, subst, ◌∙◌}
use Rattle.std.specs.Prelude.{is_some}
use Rattle.std.specs.Option.{option_and_then}
use Rattle.std.specs.List.{AllByRecursion, list_any}
use Rattle.std.specs.Str.{bytes_eq}
use Rattle.std.proofs.lemmas.Bool.{both_ways, cases_Bool}
use Rattle.hg_base.specs.PathText.{has_slash, is_below, is_path, joined, parent_of}
use Rattle.hg_base.specs.Within.{is_within}
use Rattle.hg_base.proofs.Children.{below_through, path_through}
use Rattle.hg_base.proofs.Components.{parent_joined}
use Rattle.hg_base.proofs.Within.{equal_bytes, same_bytes, within_below, within_itself, within_split}
use Rattle.hg_docket.specs.Docket.{Contents}
use Rattle.hg_entry.specs.Flags as bits
use Rattle.hg_entry.specs.Flags.{has}
use Rattle.hg_entry.specs.Entry.{CacheData, EntryData, time_of, cache_of, entry_of, has_entry}
use Rattle.hg_entry.specs.declared.entry.Fields.{Fields}
use Rattle.hg_image.specs.Node.{fields_of}
use Rattle.hg_image.specs.Reading.{row_at, table_of}
use Rattle.hg_image.specs.Rows.{Row}
use Rattle.hg_mixed.specs.Children.{AreChildren, IsChild}
use Rattle.hg_nodes.specs.Children.{ChildData}
use Rattle.hg_nodes.specs.Edits.{IsFormed, IsSame}
use Rattle.hg_mixed.specs.Held.{Held, table}
use Rattle.hg_nodes.specs.Written.{fields_for}
use Rattle.hg_append.specs.declared.kept.Kept.{Kept}
use Rattle.hg_append.specs.Keeps.{Keeps}
use Rattle.hg_append.specs.Tree.{AreBelowIn, AreKids, IsTreeIn, Nothing, Node, Tree, heads, kept_of}
use Rattle.hg_append.specs.Layout.{behind_in, front_size_in}
use Rattle.hg_append.specs.Put.{AreSoundIn, IsWritable, nodes_in, nodes_unless}
use Rattle.hg_append.proofs.Node.{kept_is, lower_rows, row_in, rows_in_at, rows_unless}
use Rattle.hg_append.proofs.Walk.{has_by_entry}
use Rattle.hg_append.proofs.KeptIn.{AreKeptIn, IsRight}
use Rattle.hg_append.proofs.Snoc.{sound_behind_in, sound_under}

pub each_both : (P : Row → Type 0) (a b : List Row) → AllByRecursion P a → AllByRecursion P b → AllByRecursion P (a ++ b)
each_both P [] b p q = q
each_both P (r ∷ a) b p q = (p.0, each_both P a b p.1 q)

no_cache_at_entry : (f : Fields) → has_entry f.flags ≡ true → cache_of f ≡ None
no_cache_at_entry f h = ap (λ (t : Bool). cond (not t && has f.flags bits.has_mtime && has f.flags bits.directory && has f.flags bits.all_unknown_recorded) (Some (record { stamp = time_of f; full = false })) None) h

-- a row is found in rows in front and in rows behind
pub found_left : (a b : List Row) (p : List ℕ) → is_some (row_at a p) ≡ true → is_some (row_at (a ++ b) p) ≡ true
found_left [] b p h = absurd (cc)
found_left (r ∷ a) b p h = step (bytes_eq r.path p) h (found_left a b p)
  where
    step : (t : Bool) → is_some (cond t (Some r) (row_at a p)) ≡ true → (is_some (row_at a p) ≡ true → is_some (row_at (a ++ b) p) ≡ true) → is_some (cond t (Some r) (row_at (a ++ b) p)) ≡ true
    step true h more = refl
    step false h more = more h

pub found_right : (a b : List Row) (p : List ℕ) → is_some (row_at b p) ≡ true → is_some (row_at (a ++ b) p) ≡ true
found_right [] b p h = h
found_right (r ∷ a) b p h = step (bytes_eq r.path p) (found_right a b p h)
  where
    step : (t : Bool) → is_some (row_at (a ++ b) p) ≡ true → is_some (cond t (Some r) (row_at (a ++ b) p)) ≡ true
    step true more = refl
    step false more = more

pub found_here : (r : Row) (rows : List Row) (p : List ℕ) → r.path ≡ p → is_some (row_at (r ∷ rows) p) ≡ true
found_here r rows p e = ap (λ (t : Bool). is_some (cond t (Some r) (row_at rows p))) (ap (bytes_eq r.path) (sym e) ∙ equal_bytes r.path)

pub found_behind : (r : Row) (rows : List Row) (p : List ℕ) → is_some (row_at rows p) ≡ true → is_some (row_at (r ∷ rows) p) ≡ true
found_behind r rows p h = found_right (r ∷ []) rows p h

-- the row of a path is one of the rows, and of that path
pub row_found : (P : Row → Type 0) (rows : List Row) (p : List ℕ) (r : Row) → AllByRecursion P rows → row_at rows p ≡ Some r → P r × (r.path ≡ p)
row_found P [] p r all h = absurd (cc)
row_found P (x ∷ rows) p r all h = step (bytes_eq x.path p) refl h (row_found P rows p r all.1)
  where
    step : (t : Bool) → bytes_eq x.path p ≡ t → cond t (Some x) (row_at rows p) ≡ Some r → (row_at rows p ≡ Some r → P r × (r.path ≡ p)) → P r × (r.path ≡ p)
    step true is h more = let same : x ≡ r = cc in (subst P same all.0, sym (ap (λ (y : Row). y.path) same) ∙ same_bytes x.path p is)
    step false is h more = more h

module _ (held : Held) (formed : IsFormed (table held)) where
  right_one : (keeps : Keeps) (dir : Option (List ℕ)) (at place : ℕ) (child : ChildData) (under : Tree) → IsChild held dir child → IsWritable child
      → IsRight (table held) (row_in keeps at place child under)
  right_one keeps dir at place child under is sound = record {
    node = is.node;
    entry = sound.fields.entry ∙ is.entry;
    source = is.source;
    cache = by_entry child.entry refl;
  }
    where
      none_left : (o : Option CacheData) → (table held).caches child.path ≡ o → (is_some o ≡ true → ⊥) → o ≡ None
      none_left None e h = refl
      none_left (Some s) e h = absurd (h refl)

      by_entry : (o : Option EntryData) → child.entry ≡ o → cache_of (fields_for child.entry child.cache) ≡ (table held).caches child.path
      by_entry None e = sound.fields.cache e ∙ is.cache
      by_entry (Some entry) e =
          let no_cache : (table held).caches child.path ≡ None = none_left ((table held).caches child.path) refl
          (λ some. let none : (table held).entries child.path ≡ None = (formed.caches child.path some).1 in let here : (table held).entries child.path ≡ Some entry = sym is.entry ∙ e in absurd (cc (none, here))) in
          no_cache_at_entry (fields_for child.entry child.cache) (has_by_entry (fields_for child.entry child.cache) entry (sound.fields.entry ∙ e)) ∙ sym no_cache

  -- what was put beside what is kept in a file
  module _ (keeps : Keeps) (file : List ℕ) (kept_rows : List ℕ → List Row) (kept : AreKeptIn held keeps file kept_rows) where
    lower_right : (child : ChildData) (o : Option Kept) (own : List Row) → kept_of keeps child ≡ o → is_path child.path ≡ true → (o ≡ None → AllByRecursion (IsRight (table held)) own)
        → AllByRecursion (IsRight (table held)) (rows_unless o (kept_rows child.path) own)
    lower_right child None own e good more = more refl
    lower_right child (Some list) own e good more = (kept.lists child.path list good (kept_is child.has_kids (keeps.list child.path) list e)).right

    pub right_in : (dir : Option (List ℕ)) (at place : ℕ) (t : Tree) → AllByRecursion (IsChild held dir) (heads t) → AreBelowIn held keeps t → AreSoundIn keeps t
        → AllByRecursion (IsRight (table held)) (rows_in_at keeps kept_rows at place t)
    right_in dir at place Nothing are under_are sound = tt
    right_in dir at place (Node child under behind) are under_are sound =
        let own = rows_in_at keeps kept_rows at (at + front_size_in keeps under) under in
        let parts = under_are in (
          right_one keeps dir at place child under are.0 sound.0,
          each_both (IsRight (table held)) (lower_rows keeps kept_rows at child under) (rows_in_at keeps kept_rows (behind_in keeps at child under) (place + 44) behind)
              (lower_right child (kept_of keeps child) own refl sound.0.path
              (λ none.
              let kids : AreChildren held (Some child.path) (heads under) = subst (λ (o : Option Kept). AreKids held o child.path (heads under)) none parts.0 in
              let under_sound : AreSoundIn keeps under = subst (λ (o : Option Kept). AllByRecursion IsWritable (nodes_unless o (nodes_in keeps under))) none (sound_under keeps child under behind sound) in
              right_in (Some child.path) at (at + front_size_in keeps under) under kids.each parts.1.0 under_sound))
              (right_in dir (behind_in keeps at child under) (place + 44) behind are.1 parts.1.1 (sound_behind_in keeps child under behind sound)),
        )

    -- each node has a row
    reached_in : (at place : ℕ) (t : Tree) → AreBelowIn held keeps t → AreSoundIn keeps t → (c p : List ℕ) → list_any (λ child. bytes_eq c child.path) (heads t) ≡ true → is_within c p ≡ true → (table held).nodes p ≡ true
        → is_some (row_at (rows_in_at keeps kept_rows at place t) p) ≡ true
    reached_in at place Nothing under_are sound c p among within node = absurd (cc)
    reached_in at place (Node child under behind) under_are sound c p among within node =
        step
        (λ is_below_it. lower_has (kept_of keeps child) refl is_below_it (λ none next is_node parent way.
        let kids : AreChildren held (Some child.path) (heads under) = subst (λ (o : Option Kept). AreKids held o child.path (heads under)) none under_are.0 in
        let under_sound : AreSoundIn keeps under = subst (λ (o : Option Kept). AllByRecursion IsWritable (nodes_unless o (nodes_in keeps under))) none (sound_under keeps child under behind sound) in
        reached_in at (at + front_size_in keeps under) under under_are.1.0 under_sound next p (kids.all next is_node parent) way node))
        (λ later. reached_in (behind_in keeps at child under) (place + 44) behind under_are.1.1 (sound_behind_in keeps child under behind sound) c p later within node) (bytes_eq c child.path) refl among
      where
        head : Row
        head = row_in keeps at place child under

        own : List Row
        own = rows_in_at keeps kept_rows at (at + front_size_in keeps under) under

        lower : List Row
        lower = lower_rows keeps kept_rows at child under

        later : List Row
        later = rows_in_at keeps kept_rows (behind_in keeps at child under) (place + 44) behind

        Own : Type 0
        Own = (next : List ℕ) → (table held).nodes next ≡ true → parent_of next ≡ Some child.path → is_within next p ≡ true → is_some (row_at own p) ≡ true

        there : Own → (name : List ℕ) → has_slash name ≡ false → (p ≡ joined (Some child.path) name) ⊎ (is_below (joined (Some child.path) name) p ≡ true) → is_some (row_at own p) ≡ true
        there below_it name plain way =
            let next : List ℕ = joined (Some child.path) name in
            let in_way : is_within next p ≡ true = elim way [
              | inl e ↦ ap (is_within next) e ∙ within_itself next
              | inr below ↦ within_below next p below
            ] in
            let is_node : (table held).nodes next ≡ true = elim way [
              | inl e ↦ ap (table held).nodes (sym e) ∙ node
              | inr below ↦ formed.rooted next p below node
            ] in
            below_it next is_node (parent_joined (Some child.path) name plain) in_way

        lower_has : (o : Option Kept) → kept_of keeps child ≡ o → is_below child.path p ≡ true → (o ≡ None → Own) → is_some (row_at (rows_unless o (kept_rows child.path) own) p) ≡ true
        lower_has None e below more = let way = below_through child.path p below in there (more refl) way.0 way.1 way.2
        lower_has (Some list) e below more = (kept.lists child.path list sound.0.path (kept_is child.has_kids (keeps.list child.path) list e)).all p below node

        step : (is_below child.path p ≡ true → is_some (row_at lower p) ≡ true) → (list_any (λ child. bytes_eq c child.path) (heads behind) ≡ true → is_some (row_at later p) ≡ true) → (t : Bool) → bytes_eq c child.path ≡ t
            → (t || list_any (λ child. bytes_eq c child.path) (heads behind)) ≡ true → is_some (row_at (head ∷ (lower ++ later)) p) ≡ true
        step below_it behind_it true is among =
            let same : c ≡ child.path = same_bytes c child.path is in
            elim (within_split c p within) [
              | inl e ↦ found_here head (lower ++ later) p (sym same ∙ sym e)
              | inr below ↦ found_behind head (lower ++ later) p (found_left lower later p (below_it (ap (λ (x : List ℕ). is_below x p) (sym same) ∙ below)))
            ]
        step below_it behind_it false is among = found_behind head (lower ++ later) p (found_right lower later p (behind_it among))

    pub reached_all_in : (at place : ℕ) (t : Tree) → IsTreeIn held keeps None t → AreSoundIn keeps t → (p : List ℕ) → (table held).nodes p ≡ true
        → is_some (row_at (rows_in_at keeps kept_rows at place t) p) ≡ true
    reached_all_in at place t is sound p node =
        let way = path_through p in
        let in_way : is_within way.0 p ≡ true = elim way.2 [
          | inl e ↦ ap (is_within way.0) e ∙ within_itself way.0
          | inr below ↦ within_below way.0 p below
        ] in
        let is_node : (table held).nodes way.0 ≡ true = elim way.2 [
          | inl e ↦ ap (table held).nodes (sym e) ∙ node
          | inr below ↦ formed.rooted way.0 p below node
        ] in
        reached_in at place t is.below sound way.0 p (is.children.all way.0 is_node (parent_joined None way.0 way.1)) in_way node

  -- rows of all nodes are the table
  module _ (rows : List Row) (each : AllByRecursion (IsRight (table held)) rows) (all : (p : List ℕ) → (table held).nodes p ≡ true → is_some (row_at rows p) ≡ true) where
    found : (p : List ℕ) (r : Row) → row_at rows p ≡ Some r → IsRight (table held) r × (r.path ≡ p)
    found p r h = row_found (IsRight (table held)) rows p r each h

    missing : (p : List ℕ) → row_at rows p ≡ None → (table held).nodes p ≡ false
    missing p h = elim (cases_Bool ((table held).nodes p)) [
      | inl node ↦ let there : is_some (row_at rows p) ≡ true = all p node in let gone : is_some (row_at rows p) ≡ false = ap is_some h in absurd (both_ways (is_some (row_at rows p)) gone there)
      | inr none ↦ none
    ]

    nodes_same : (p : List ℕ) (o : Option Row) → row_at rows p ≡ o → is_some (row_at rows p) ≡ (table held).nodes p
    nodes_same p None h = ap is_some h ∙ sym (missing p h)
    nodes_same p (Some r) h = let f = found p r h in ap is_some h ∙ sym (sym (ap (table held).nodes f.1) ∙ f.0.node)

    entries_same : (p : List ℕ) (o : Option Row) → row_at rows p ≡ o → option_and_then (λ row. entry_of (fields_of row.rec)) (row_at rows p) ≡ (table held).entries p
    entries_same p None h = ap (option_and_then (λ row. entry_of (fields_of row.rec))) h ∙ sym (formed.entries p (missing p h))
    entries_same p (Some r) h = let f = found p r h in ap (option_and_then (λ row. entry_of (fields_of row.rec))) h ∙ f.0.entry ∙ ap (table held).entries f.1

    sources_same : (p : List ℕ) (o : Option Row) → row_at rows p ≡ o → option_and_then (λ row. row.source) (row_at rows p) ≡ (table held).sources p
    sources_same p None h = ap (option_and_then (λ row. row.source)) h ∙ sym (formed.sources p (formed.entries p (missing p h)))
    sources_same p (Some r) h = let f = found p r h in ap (option_and_then (λ row. row.source)) h ∙ f.0.source ∙ ap (table held).sources f.1

    no_cache : (p : List ℕ) → (table held).nodes p ≡ false → (o : Option CacheData) → (table held).caches p ≡ o → None ≡ (table held).caches p
    no_cache p none None e = sym e
    no_cache p none (Some s) e = absurd (both_ways ((table held).nodes p) none (formed.caches p (ap is_some e)).0)

    caches_same : (p : List ℕ) (o : Option Row) → row_at rows p ≡ o → option_and_then (λ row. cache_of (fields_of row.rec)) (row_at rows p) ≡ (table held).caches p
    caches_same p None h = ap (option_and_then (λ row. cache_of (fields_of row.rec))) h ∙ no_cache p (missing p h) ((table held).caches p) refl
    caches_same p (Some r) h = let f = found p r h in ap (option_and_then (λ row. cache_of (fields_of row.rec))) h ∙ f.0.cache ∙ ap (table held).caches f.1

    pub rows_nodes : (p : List ℕ) → is_some (row_at rows p) ≡ (table held).nodes p
    rows_nodes p = nodes_same p (row_at rows p) refl

    pub rows_same : (c : Contents) → c.p1 ≡ held.p1 → c.p2 ≡ held.p2 → c.hash ≡ held.hash → IsSame (table_of c rows) (table held)
    rows_same c p1 p2 hash = record {
      p1 = p1;
      p2 = p2;
      hash = hash;
      entries = λ p. entries_same p (row_at rows p) refl;
      sources = λ p. sources_same p (row_at rows p) refl;
      nodes = λ p. rows_nodes p;
      caches = λ p. caches_same p (row_at rows p) refl;
    }
