-- What a status has asked below `.hg` so far: nothing, or the whole manifest and contents that its rows name.
use Rattle.std.proofs.Common.{ℕ, ◌≡◌, ◌⊎◌, List, [], ◌∷◌, ◌++◌, length, take, Option, Some, None, Result, Ok, Err, refl, sym, ap, subst, ◌∙◌, inl, inr, arith}
use Rattle.std.specs.List.{AllByRecursion}
use Rattle.std.proofs.lemmas.List.{append-nil, append_assoc, take_all}
use Rattle.hg_base.specs.declared.id.Id20.{Id20}
use Rattle.hg_base.specs.declared.stat.Stat.{Stat}
use Rattle.hg_compare.specs.Alike.{contents_name}
use Rattle.hg_compare.specs.Same.{AsksShelf, IsPieceOf, pieces_from}
use Rattle.hg_compare.specs.Seen.{Compared}
use Rattle.hg_compare.specs.declared.fault.CompareFault.{CompareFault}
use Rattle.hg_compare.specs.declared.looked.Looked.{Looked}
use Rattle.hg_flat.specs.Course.{AsksWhole, HasAsked, IsManifest, upto}
use Rattle.hg_flat.specs.Met.{Status}
use Rattle.hg_flat.specs.Parent.{WasAsked, row_of}
use Rattle.hg_flat.specs.Stored.{AsksStore, IsContents, IsOfRow}
use Rattle.hg_flat.specs.declared.parent.Loaded.{Loaded}
use Rattle.hg_flat.proofs.Asking.{asked_later, asked_longer}
use Rattle.hg_flat.proofs.Manifests.{read_later, read_some, was_later, was_longer}
use Rattle.hg_compare.proofs.Asking.{pieces_are}
use Rattle.hg_listing.specs.declared.fault.StatusFault.{StatusFault}
use Rattle.hg_manifest.specs.Load.{AsksByFile, asks_of, file_at}
use Rattle.hg_manifest.specs.Plain.{plain_name}
use Rattle.hg_manifest.proofs.Loads.{was_now}
use Rattle.hg_manifest.specs.Rows.{Rows}
use Rattle.hg_manifest.specs.declared.row.FileRow.{FileRow}
use Rattle.hg_shelf.specs.Asks.{AsksOnly}
use Rattle.hg_shelf.specs.History as shelves
use Rattle.hg_shelf.specs.declared.asked.Asked.{Asked}
use Rattle.hg_shelf.specs.declared.asked.Asked.TheVariants as an_ask
use Rattle.hg_shelf.proofs.Asks.{each_append, only_none}
use Rattle.hg_tree.specs.History as trees
use Rattle.hg_tree.proofs.Histories.{extends_trans}

-- ---- a comparison with a row

each_weaker : (P Q : Asked → Type 0) → ((ask : Asked) → P ask → Q ask) → (asks : List Asked) → AllByRecursion P asks → AllByRecursion Q asks
each_weaker P Q weaker [] all = tt
each_weaker P Q weaker (ask ∷ asks) all = (weaker ask all.0, each_weaker P Q weaker asks all.1)

reads_of : (row : FileRow) (name : List ℕ) → name ≡ contents_name row.id.0 → (size n : ℕ) → AllByRecursion (IsContents (Some row)) (pieces_from size name 0 n)
reads_of row name same size n =
    each_weaker (IsPieceOf name) (IsContents (Some row)) (λ ask piece. (row, refl, inr (subst (λ (w : List ℕ). IsPieceOf w ask) same piece))) (pieces_from size name 0 n) (pieces_are size name 0 n)

-- it asks only for the row's contents
pub contents_same : (c : Compared) (row : FileRow) (before : Stat) (result : Result Looked CompareFault) → c.name ≡ contents_name row.id.0 → AsksShelf c row before result → AsksOnly (IsContents (Some row)) c.shelf_old c.shelf_new
contents_same c row before result same (inl other) = only_none (IsContents (Some row)) c.shelf_old c.shelf_new other.1
contents_same c row before result same (inr (alike, inl failed)) = only_none (IsContents (Some row)) c.shelf_old c.shelf_new failed.1
contents_same c row before result same (inr (alike, inr asks)) = record {
  more = an_ask.Size c.name ∷ pieces_from before.size c.name 0 asks.pieces;
  made = asks.asked;
  each = ((row, refl, inl (ap an_ask.Size same)), reads_of row c.name same before.size asks.pieces);
}

-- ---- in the course of a status

abbrev pub AsksLoad : Id20 → shelves.History → shelves.History → Result Loaded StatusFault → Type 0
AsksLoad id old new result = AsksByFile (plain_name id.0) (asks_of id) old new result

module _ (s : Status) (copy later : trees.History) (old new : shelves.History) (tree_first : trees.Extends s.tree_old copy) (tree_second : trees.Extends copy later) (first : shelves.Passes s.shelf_old old) (second : shelves.Passes old new) where
  -- what was asked for a row's contents stays so
  of_row_later : (ask : Asked) → IsOfRow (upto s copy old) ask → IsOfRow (upto s later new) ask
  of_row_later ask of = record {
    path = of.path;
    asked = asked_longer s.asks s.tree_old copy later of.path tree_first tree_second of.asked;
    rows = of.rows;
    read = read_later s copy later old new (Ok of.rows) first second of.read;
    contents = of.contents;
  }

  -- the contents of the row of a path that is compared
  of_path : (rows : Rows) (path : List ℕ) → WasAsked s.asks s.tree_old later path → IsManifest (upto s later new) rows → (ask : Asked) → IsContents (row_of rows path) ask → IsOfRow (upto s later new) ask
  of_path rows path asked is ask (row, has, names) = record {
    path = path;
    asked = asked;
    rows = rows;
    read = (read_some (upto s later new) rows path row has is).1;
    contents = (row, has, names);
  }

  -- more contents behind the manifest
  pub whole_more : (rows : Rows) (path : List ℕ) → WasAsked s.asks s.tree_old later path → IsManifest (upto s later new) rows → AsksWhole (upto s copy old) → AsksOnly (IsContents (row_of rows path)) old new → AsksWhole (upto s later new)
  whole_more rows path asked is whole only = record {
    file = whole.file;
    was = was_longer s.shelf_old old new (plain_name s.id.0) (λ f. f ≡ whole.file) first second whole.was;
    contents = whole.contents ++ only.more;
    asked = only.made ∙ ap (λ (l : List Asked). l ++ only.more) whole.asked ∙ append_assoc (s.shelf_old.asked ++ asks_of s.id whole.file) whole.contents only.more;
    needed = (path, asked);
    each =
        each_append (IsOfRow (upto s later new)) whole.contents only.more (each_weaker (IsOfRow (upto s copy old)) (IsOfRow (upto s later new)) of_row_later whole.contents whole.each)
        (each_weaker (IsContents (row_of rows path)) (IsOfRow (upto s later new)) (of_path rows path asked is) only.more only.each);
  }

  -- a tree that is looked at meanwhile
  pub has_later : new.asked ≡ old.asked → (loaded : Option Loaded) → HasAsked (upto s copy old) loaded → HasAsked (upto s later new) loaded
  has_later same None none = same ∙ none
  has_later same (Some loaded) whole = record {
    file = whole.file;
    was = was_longer s.shelf_old old new (plain_name s.id.0) (λ f. f ≡ whole.file) first second whole.was;
    contents = whole.contents;
    asked = same ∙ whole.asked;
    needed = (whole.needed.0, asked_longer s.asks s.tree_old copy later whole.needed.0 tree_first tree_second whole.needed.1);
    each = each_weaker (IsOfRow (upto s copy old)) (IsOfRow (upto s later new)) of_row_later whole.contents whole.each;
  }

-- the first contents, behind a manifest that was loaded just now
pub whole_first : (s : Status) (later : trees.History) (old mid new : shelves.History) (rows : Rows) (path : List ℕ) (id : Id20) (loaded : Loaded) → shelves.Passes s.shelf_old old → shelves.Passes old mid → shelves.Passes mid new
    → old.asked ≡ s.shelf_old.asked → id ≡ s.id → AsksLoad id old mid (Ok loaded) → WasAsked s.asks s.tree_old later path → IsManifest (upto s later new) rows → AsksOnly (IsContents (row_of rows path)) mid new
    → AsksWhole (upto s later new)
whole_first s later old mid new rows path id loaded first second third none same by asked is only =
    let load = subst (λ (i : Id20). AsksLoad i old mid (Ok loaded)) same by in
    record {
      file = load.file;
      was = was_later s.shelf_old old new (plain_name s.id.0) (λ f. f ≡ load.file) first (was_longer old mid new (plain_name s.id.0) (λ f. f ≡ load.file) second third load.was);
      contents = only.more;
      asked = only.made ∙ ap (λ (l : List Asked). l ++ only.more) (load.asks ∙ ap (λ (l : List Asked). l ++ asks_of s.id load.file) none);
      needed = (path, asked);
      each = each_weaker (IsContents (row_of rows path)) (IsOfRow (upto s later new)) (λ ask (row, has, names). record {
        path = path;
        asked = asked;
        rows = rows;
        read = (read_some (upto s later new) rows path row has is).1;
        contents = (row, has, names);
      }) only.more only.each;
    }

-- ---- at the end

pub store_whole : (s : Status) → AsksWhole s → AsksStore s
store_whole s whole = record {
  file = whole.file;
  was = whole.was;
  some = length (asks_of s.id whole.file);
  contents = whole.contents;
  asked = whole.asked ∙ ap (λ (l : List Asked). s.shelf_old.asked ++ l ++ whole.contents) (sym (take_all (length (asks_of s.id whole.file)) (asks_of s.id whole.file) (omega arith)));
  needed = inr whole.needed;
  whole = inr refl;
  each = whole.each;
}

pub store_none : (s : Status) → shelves.Passes s.shelf_old s.shelf_new → s.shelf_new.asked ≡ s.shelf_old.asked → AsksStore s
store_none s passes none = record {
  file = file_at s.shelf_new (plain_name s.id.0) s.shelf_new.last;
  was = was_now s.shelf_old s.shelf_new (plain_name s.id.0) passes;
  some = 0;
  contents = [];
  asked = none ∙ sym (append-nil s.shelf_old.asked) ∙ sym (append-nil (s.shelf_old.asked ++ []));
  needed = inl refl;
  whole = inl refl;
  each = tt;
}

pub store_of : (s : Status) (loaded : Option Loaded) → shelves.Passes s.shelf_old s.shelf_new → HasAsked s loaded → AsksStore s
store_of s None passes none = store_none s passes none
store_of s (Some loaded) passes whole = store_whole s whole

-- a load that failed
pub store_failed : (s : Status) (old : shelves.History) (path : List ℕ) (id : Id20) (fault : StatusFault) → shelves.Passes s.shelf_old old → old.asked ≡ s.shelf_old.asked → id ≡ s.id → AsksLoad id old s.shelf_new (Err fault)
    → WasAsked s.asks s.tree_old s.tree_new path → AsksStore s
store_failed s old path id fault first none same by asked =
    let load = subst (λ (i : Id20). AsksLoad i old s.shelf_new (Err fault)) same by in
    record {
      file = load.file;
      was = was_later s.shelf_old old s.shelf_new (plain_name s.id.0) (λ f. f ≡ load.file) first load.was;
      some = load.asks.some;
      contents = [];
      asked = load.asks.made ∙ ap (λ (l : List Asked). l ++ take load.asks.some (asks_of s.id load.file)) none ∙ sym (append-nil (s.shelf_old.asked ++ take load.asks.some (asks_of s.id load.file)));
      needed = inr (path, asked);
      whole = inl refl;
      each = tt;
    }

-- over a longer look at the tree
pub store_longer : (s : Status) (start later : trees.History) → trees.Extends start s.tree_old → trees.Extends s.tree_old s.tree_new → trees.Extends s.tree_new later → AsksStore s → AsksStore (record s { tree_old = start; tree_new = later })
store_longer s start later first second third store = record {
  file = store.file;
  was = store.was;
  some = store.some;
  contents = store.contents;
  asked = store.asked;
  needed = elim store.needed as (λ _. (store.some ≡ 0) ⊎ ((path : List ℕ) × WasAsked s.asks start later path)) [ inl none ↦ inl none | inr (path, was) ↦ inr (path, asked path was) ];
  whole = store.whole;
  each = each_weaker (IsOfRow s) (IsOfRow (record s { tree_old = start; tree_new = later })) (λ ask of. record {
    path = of.path;
    asked = asked of.path of.asked;
    rows = of.rows;
    read = record {
      size = of.read.size;
      bytes = of.read.bytes;
      few = of.read.few;
      short = of.read.short;
      sized = of.read.sized;
      front = of.read.front;
      found = of.read.found;
    };
    contents = of.contents;
  }) store.contents store.each;
}
  where
    asked : (path : List ℕ) → WasAsked s.asks s.tree_old s.tree_new path → WasAsked s.asks start later path
    asked path was = asked_longer s.asks start s.tree_new later path (extends_trans start s.tree_old s.tree_new first second) third (asked_later s.asks start s.tree_old s.tree_new path first was)
