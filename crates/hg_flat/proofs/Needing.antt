-- Bytes that are read are needed: of one path, and of one path behind another.
use Rattle.std.proofs.Common.{ℕ, zero, suc, ◌≡◌, ◌⊎◌, false, List, [], ◌∷◌, ◌++◌, map, replicate, take, Option, Some, Ok, IsTrue, refl, sym, ap, ◌∙◌, subst, inl, inr, arith}
use Rattle.std.specs.List.{AllByRecursion, IsDistinct}
use Rattle.std.specs.Str.{bytes_eq}
use Rattle.std.proofs.lemmas.List.{append-nil, append_assoc, map-append}
use Rattle.hg_base.specs.declared.stat.Stat.{Stat}
use Rattle.hg_compare.specs.Alike.{contents_name}
use Rattle.hg_compare.specs.Same.{IsNeeded, Reads}
use Rattle.hg_compare.specs.Seen.{Compared}
use Rattle.hg_flat.specs.Asked.{AsksFor, AsksNothing}
use Rattle.hg_flat.specs.Course.{AsksPatterns, IsManifest, upto}
use Rattle.hg_flat.specs.Met.{Status}
use Rattle.hg_flat.specs.Needed.{AsksNeeded, IsNeededReading, NeedsBytes, NeedsIn, Reading, ReadsNeeded, ReadsPath, ReadsPaths, reads_in}
use Rattle.hg_flat.specs.Parent.{IsAsked, row_of}
use Rattle.hg_flat.proofs.Calls.{read_longer}
use Rattle.hg_flat.proofs.Manifests.{read_later, read_some, was_later, was_longer}
use Rattle.hg_manifest.specs.Load.{IsFrontOf, Was}
use Rattle.hg_manifest.specs.Plain.{plain_name}
use Rattle.hg_manifest.specs.Rows.{Rows}
use Rattle.hg_manifest.specs.declared.row.FileRow.{FileRow}
use Rattle.hg_shelf.specs.History as shelves
use Rattle.hg_shelf.specs.Reads.{size_of}
use Rattle.hg_tree.specs.History as trees
use Rattle.hg_tree.specs.Moment.{Moment, stat_at}
use Rattle.hg_tree.specs.declared.asked.Asked.{Asked}
use Rattle.hg_tree.specs.declared.asked.Asked.TheVariants as an_ask
use Rattle.hg_tree.proofs.Spans.{passes_trans}

-- ---- a comparison

-- what a comparison with a row needs
pub needs_row : {A : Type 0} (x y : A) (c : Compared) (found : Option FileRow) (row : FileRow) (before : Stat) → found ≡ Some row → c.name ≡ contents_name row.id.0 → (x ≡ y) ⊎ IsNeeded c row before
    → (x ≡ y) ⊎ NeedsIn c.shelf_old c.shelf_new found before
needs_row x y c found row before is same (inl still) = inl still
needs_row x y c found row before is same (inr needed) = inr (row, is, record { alike = needed.0; sized = subst (λ (name : List ℕ). Was c.shelf_old c.shelf_new name (λ file. size_of file ≡ Some before.size)) same needed.1 })

-- by the manifest that was read
pub needs_found : {A : Type 0} (x y : A) (s : Status) (later : trees.History) (old new : shelves.History) (rows : Rows) (path : List ℕ) (before : Stat) → shelves.Passes s.shelf_old old → IsManifest (upto s later new) rows
    → (x ≡ y) ⊎ NeedsIn old new (row_of rows path) before → (x ≡ y) ⊎ NeedsBytes (upto s later new) path before
needs_found x y s later old new rows path before first is (inl still) = inl still
needs_found x y s later old new rows path before first is (inr (row, has, file)) = inr (record {
  committed = (read_some (upto s later new) rows path row has is).0;
  rows = rows;
  read = (read_some (upto s later new) rows path row has is).1;
  row = row;
  is = has;
  file = record { alike = file.alike; sized = was_later s.shelf_old old new (contents_name row.id.0) (λ f. size_of f ≡ Some before.size) first file.sized };
})

-- ---- one path

pub reads_nothing : (s : Status) (copy : trees.History) (path : List ℕ) → s.tree_new.asked ≡ copy.asked → ReadsPath s copy path
reads_nothing s copy path none = record { pieces = 0; asked = none ∙ sym (append-nil copy.asked); needed = inl refl }

-- a path that is compared now, and whose bytes are needed
pub reads_compared : (s : Status) (copy later : trees.History) (new : shelves.History) (path : List ℕ) (before : Stat) → trees.Passes s.tree_old copy → trees.Passes copy later → (IsTrue copy.told → IsAsked s.asks (trees.now copy) path)
    → (IsTrue copy.told → stat_at (trees.now copy) path ≡ Some before) → Reads before.size path copy later → NeedsBytes (upto s later new) path before → ReadsPath (upto s later new) copy path
reads_compared s copy later new path before first second asked shown reads needs = record {
  pieces = reads.pieces;
  asked = reads.asked;
  needed = inr (record {
    before = before;
    shown = record {
      at = copy.last;
      from = λ told. first.past.later;
      to = λ told. second.past.later;
      so = λ told.
          subst (λ (m : Moment). IsAsked s.asks m path × (stat_at m path ≡ Some before)) (sym (second.past.stay copy.last (omega arith)))
          (asked (first.past.told ∙ told), shown (first.past.told ∙ told));
    };
    needs = needs;
    few = reads.few;
  });
}

-- by whether the working copy was asked at all
pub reads_either : (s : Status) (copy later : trees.History) (new : shelves.History) (path : List ℕ) (before : Stat) → trees.Passes s.tree_old copy → trees.Passes copy later → (IsTrue copy.told → IsAsked s.asks (trees.now copy) path)
    → (IsTrue copy.told → stat_at (trees.now copy) path ≡ Some before) → Reads before.size path copy later → {A : Type 0} (f : A → trees.History) (x y : A) → f x ≡ later → f y ≡ copy
    → (x ≡ y) ⊎ NeedsBytes (upto s later new) path before → ReadsPath (upto s later new) copy path
reads_either s copy later new path before first second asked shown reads f x y is_later is_copy (inl same) =
    reads_nothing (upto s later new) copy path (ap (λ (h : trees.History). h.asked) (sym is_later ∙ ap f same ∙ is_copy))
reads_either s copy later new path before first second asked shown reads f x y is_later is_copy (inr needs) = reads_compared s copy later new path before first second asked shown reads needs

-- behind calls that read nothing
pub reads_after : (s : Status) (copy mid : trees.History) (path : List ℕ) → AsksNothing copy mid → ReadsPath s mid path → ReadsPath s copy path
reads_after s copy mid path none reads = record {
  pieces = reads.pieces;
  asked = reads.asked ∙ ap (λ (l : List Asked). l ++ replicate reads.pieces (an_ask.Read path)) none;
  needed = reads.needed;
}

-- ---- one path behind another

reads_push : (readings : List Reading) (one : Reading) → reads_in (readings ++ one ∷ []) ≡ reads_in readings ++ replicate one.pieces (an_ask.Read one.path)
reads_push [] one = append-nil (replicate one.pieces (an_ask.Read one.path))
reads_push (first ∷ rest) one =
    ap (λ (l : List Asked). replicate first.pieces (an_ask.Read first.path) ++ l) (reads_push rest one)
    ∙ sym (append_assoc (replicate first.pieces (an_ask.Read first.path)) (reads_in rest) (replicate one.pieces (an_ask.Read one.path)))

all_push : (P : Reading → Type 0) (readings : List Reading) (one : Reading) → AllByRecursion P readings → P one → AllByRecursion P (readings ++ one ∷ [])
all_push P [] one all own = (own, tt)
all_push P (first ∷ rest) one all own = (all.0, all_push P rest one all.1 own)

all_weaker : (P Q : Reading → Type 0) → ((reading : Reading) → P reading → Q reading) → (readings : List Reading) → AllByRecursion P readings → AllByRecursion Q readings
all_weaker P Q weaker [] all = tt
all_weaker P Q weaker (first ∷ rest) all = (weaker first all.0, all_weaker P Q weaker rest all.1)

pub reads_empty : (s : Status) → s.tree_new.asked ≡ s.tree_old.asked → ReadsPaths s []
reads_empty s none = record { readings = []; of = refl; asked = none ∙ sym (append-nil s.tree_old.asked); each = tt }

module _ (s : Status) (copy later : trees.History) (files new : shelves.History) (second : trees.Passes copy later) (third : shelves.Passes s.shelf_old files) (fourth : shelves.Passes files new) where
  -- what was needed so far stays so
  needed_later : (reading : Reading) → IsNeededReading (upto s copy files) reading → IsNeededReading (upto s later new) reading
  needed_later reading (inl none) = inl none
  needed_later reading (inr needed) = inr (record {
    before = needed.before;
    shown = record {
      at = needed.shown.at;
      from = needed.shown.from;
      to = λ told. omega (arith, needed.shown.to told, second.past.later);
      so = λ told.
          subst (λ (m : Moment). IsAsked s.asks m reading.path × (stat_at m reading.path ≡ Some needed.before)) (sym (second.past.stay needed.shown.at (needed.shown.to told)))
          (needed.shown.so told);
    };
    needs = record {
      committed = needed.needs.committed;
      rows = needed.needs.rows;
      read = read_later s copy later files new (Ok needed.needs.rows) third fourth needed.needs.read;
      row = needed.needs.row;
      is = needed.needs.is;
      file = record {
        alike = needed.needs.file.alike;
        sized = was_longer s.shelf_old files new (contents_name needed.needs.row.id.0) (λ f. size_of f ≡ Some needed.before.size) third fourth needed.needs.file.sized;
      };
    };
    few = needed.few;
  })

  pub reads_next : (paths : List (List ℕ)) (path : List ℕ) → ReadsPaths (upto s copy files) paths → ReadsPath (upto s later new) copy path → ReadsPaths (upto s later new) (paths ++ path ∷ [])
  reads_next paths path reads one =
      let reading : Reading = record { path = path; pieces = one.pieces } in
      record {
        readings = reads.readings ++ reading ∷ [];
        of = map-append (λ (r : Reading). r.path) reads.readings (reading ∷ []) ∙ ap (λ (l : List (List ℕ)). l ++ path ∷ []) reads.of;
        asked =
            one.asked ∙ ap (λ (l : List Asked). l ++ replicate one.pieces (an_ask.Read path)) reads.asked
            ∙ append_assoc s.tree_old.asked (reads_in reads.readings) (replicate one.pieces (an_ask.Read path))
            ∙ ap (λ (l : List Asked). s.tree_old.asked ++ l) (sym (reads_push reads.readings reading));
        each =
            all_push (IsNeededReading (upto s later new)) reads.readings reading
            (all_weaker (IsNeededReading (upto s copy files)) (IsNeededReading (upto s later new)) needed_later reads.readings reads.each) one.needed;
      }

-- ---- each once

all_front : {A : Type 0} (f : A → List ℕ) (P : List ℕ → Type 0) (n : ℕ) (xs : List A) → AllByRecursion P (map f xs) → AllByRecursion P (map f (take n xs))
all_front f P zero xs all = tt
all_front f P (suc n) [] all = tt
all_front f P (suc n) (x ∷ xs) all = (all.0, all_front f P n xs all.1)

-- a front of what has no doubles has none
pub own_front : {A : Type 0} (f : A → List ℕ) (n : ℕ) (xs : List A) → IsDistinct bytes_eq (map f xs) → IsDistinct bytes_eq (map f (take n xs))
unfolding IsDistinct
own_front f zero xs own = tt
own_front f (suc n) [] own = tt
own_front f (suc n) (x ∷ xs) own = (all_front f (λ p. bytes_eq (f x) p ≡ false) n xs own.0, own_front f n xs own.1)

pub reads_once : (s : Status) (paths : List (List ℕ)) → IsDistinct bytes_eq paths → ReadsPaths s paths → ReadsNeeded s
reads_once s paths own reads = record { readings = reads.readings; asked = reads.asked; each = reads.each; once = subst (IsDistinct bytes_eq) (sym reads.of) own }

pub reads_no : (s : Status) → s.tree_new.asked ≡ s.tree_old.asked → ReadsNeeded s
unfolding IsDistinct
reads_no s none = record { readings = []; asked = none ∙ sym (append-nil s.tree_old.asked); each = tt; once = tt }

-- ---- the whole

module _ (s : Status) (old new : trees.History) (first : trees.Passes old s.tree_old) (second : trees.Passes s.tree_old s.tree_new) (third : trees.Passes s.tree_new new) where
  abbrev whole : Status
  whole = record s { tree_old = old; tree_new = new }

  needed_whole : (reading : Reading) → IsNeededReading s reading → IsNeededReading whole reading
  needed_whole reading (inl none) = inl none
  needed_whole reading (inr needed) = inr (record {
    before = needed.before;
    shown = record {
      at = needed.shown.at;
      from = λ told. omega (arith, first.past.later, needed.shown.from (first.past.told ∙ told));
      to = λ told. omega (arith, third.past.later, needed.shown.to (first.past.told ∙ told));
      so = λ told.
          subst (λ (m : Moment). IsAsked s.asks m reading.path × (stat_at m reading.path ≡ Some needed.before)) (sym (third.past.stay needed.shown.at (needed.shown.to (first.past.told ∙ told))))
          (needed.shown.so (first.past.told ∙ told));
    };
    needs = record {
      committed = needed.needs.committed;
      rows = needed.needs.rows;
      read = record {
        size = needed.needs.read.size;
        bytes = needed.needs.read.bytes;
        few = needed.needs.read.few;
        short = needed.needs.read.short;
        sized = needed.needs.read.sized;
        front = needed.needs.read.front;
        found = needed.needs.read.found;
      };
      row = needed.needs.row;
      is = needed.needs.is;
      file = needed.needs.file;
    };
    few = needed.few;
  })

  -- the patterns first, then the bytes, then listings
  pub asks_needed : (W : Option (List ℕ) → Type 0) → AsksPatterns s.wanted old s.tree_old → ReadsNeeded s → AsksFor W s.tree_new new → AsksNeeded whole
  asks_needed W (asks, are, is) reads lists = record {
    first = asks;
    patterns = read_longer s.wanted old s.tree_old new asks (passes_trans s.tree_old s.tree_new new second third).past are;
    readings = reads.readings;
    dirs = lists.dirs;
    asked = lists.asked ∙ ap (λ (l : List Asked). l ++ map an_ask.List lists.dirs) (reads.asked ∙ ap (λ (l : List Asked). l ++ reads_in reads.readings) is);
    each = all_weaker (IsNeededReading s) (IsNeededReading whole) needed_whole reads.readings reads.each;
    once = reads.once;
  }

-- ---- over other histories of the files below `.hg`

-- at which what was seen of them was seen too
module _ (s : Status) (start new : shelves.History) (moved : (name : List ℕ) (P : Option (List ℕ) → Type 0) → Was s.shelf_old s.shelf_new name P → Was start new name P) where
  abbrev over : Status
  over = record s { shelf_old = start; shelf_new = new }

  reading_moved : (reading : Reading) → IsNeededReading s reading → IsNeededReading over reading
  reading_moved reading (inl none) = inl none
  reading_moved reading (inr needed) = inr (record {
    before = needed.before;
    shown = record { at = needed.shown.at; from = needed.shown.from; to = needed.shown.to; so = needed.shown.so };
    needs = record {
      committed = needed.needs.committed;
      rows = needed.needs.rows;
      read = record {
        size = needed.needs.read.size;
        bytes = needed.needs.read.bytes;
        few = needed.needs.read.few;
        short = needed.needs.read.short;
        sized = moved (plain_name s.id.0) (λ file. size_of file ≡ Some needed.needs.read.size) needed.needs.read.sized;
        front = moved (plain_name s.id.0) (IsFrontOf needed.needs.read.size needed.needs.read.bytes) needed.needs.read.front;
        found = needed.needs.read.found;
      };
      row = needed.needs.row;
      is = needed.needs.is;
      file = record {
        alike = needed.needs.file.alike;
        sized = moved (contents_name needed.needs.row.id.0) (λ file. size_of file ≡ Some needed.before.size) needed.needs.file.sized;
      };
    };
    few = needed.few;
  })

  pub needed_moved : AsksNeeded s → AsksNeeded over
  needed_moved asks = record {
    first = asks.first;
    patterns = asks.patterns;
    readings = asks.readings;
    dirs = asks.dirs;
    asked = asks.asked;
    each = all_weaker (IsNeededReading s) (IsNeededReading over) reading_moved asks.readings asks.each;
    once = asks.once;
  }
