-- What is asked for below `.hg` over a span of calls: nothing, or the whole manifest and contents that its rows name.
use Rattle.std.proofs.Common.{ℕ, ◌≡◌, List, [], ◌∷◌, ◌++◌, length, take, Option, Some, None, Result, Ok, Err, refl, sym, ap, subst, ◌∙◌, inl, inr, arith}
use Rattle.std.specs.Prelude.{IsTrue}
use Rattle.std.specs.List.{AllByRecursion}
use Rattle.std.proofs.lemmas.List.{append-nil, append_assoc, take_all}
use Rattle.hg_base.specs.declared.id.Id20.{Id20}
use Rattle.hg_base.specs.declared.stat.Stat.{Stat}
use Rattle.hg_compare.specs.Alike.{contents_name}
use Rattle.hg_compare.specs.Same.{AsksShelf, IsPieceOf, pieces_from}
use Rattle.hg_compare.specs.Seen.{Compared}
use Rattle.hg_compare.specs.declared.fault.CompareFault.{CompareFault}
use Rattle.hg_compare.specs.declared.looked.Looked.{Looked}
use Rattle.hg_compare.proofs.Asking.{pieces_are}
use Rattle.hg_manifest.specs.Load.{AsksByFile, asks_of, file_at}
use Rattle.hg_manifest.specs.Plain.{plain_name}
use Rattle.hg_manifest.proofs.Loads.{was_now}
use Rattle.hg_manifest.specs.Rows.{Rows}
use Rattle.hg_manifest.specs.declared.row.FileRow.{FileRow}
use Rattle.hg_ops.specs.Parent.{AsksStore, AsksWhole, HasAsked, IsContents, IsKeptManifest, IsManifest, IsOfRow, KeepsParent, Span, upto}
use Rattle.hg_ops.specs.Parents.{row_at}
use Rattle.hg_ops.specs.declared.parent.Loaded.{Loaded}
use Rattle.hg_ops.specs.declared.parent.Parent.{Parent}
use Rattle.hg_ops.specs.declared.refusal.OpFault.{OpFault}
use Rattle.hg_ops.proofs.ReadParent.{manifest_later, read_later, read_some, was_later, was_longer}
use Rattle.hg_shelf.specs.Asks.{AsksOnly}
use Rattle.hg_shelf.specs.History as shelves
use Rattle.hg_shelf.specs.declared.asked.Asked.{Asked}
use Rattle.hg_shelf.specs.declared.asked.Asked.TheVariants as an_ask
use Rattle.hg_shelf.proofs.Asks.{each_append, only_none}
use Rattle.hg_shelf.proofs.Histories as shelf

-- ---- a comparison with a row

each_weaker : (P Q : Asked → Type 0) → ((ask : Asked) → P ask → Q ask) → (asks : List Asked) → AllByRecursion P asks → AllByRecursion Q asks
each_weaker P Q weaker [] all = tt
each_weaker P Q weaker (ask ∷ asks) all = (weaker ask all.0, each_weaker P Q weaker asks all.1)

reads_of : (row : FileRow) (name : List ℕ) → name ≡ contents_name row.id.0 → (size n : ℕ) → AllByRecursion (IsContents (Some row)) (pieces_from size name 0 n)
reads_of row name same size n =
    each_weaker (IsPieceOf name) (IsContents (Some row)) (λ ask piece. (row, refl, inr (subst (λ (w : List ℕ). IsPieceOf w ask) same piece))) (pieces_from size name 0 n) (pieces_are size name 0 n)

-- it asks only for the row's contents
pub contents_same : (c : Compared) (row : FileRow) (before : Stat) (result : Result Looked CompareFault) → c.name ≡ contents_name row.id.0 → AsksShelf c row before result → AsksOnly (IsContents (Some row)) c.shelf_old c.shelf_new
contents_same c row before result same (inl other) = only_none (IsContents (Some row)) c.shelf_old c.shelf_new other.1
contents_same c row before result same (inr (alike, inl failed)) = only_none (IsContents (Some row)) c.shelf_old c.shelf_new failed.1
contents_same c row before result same (inr (alike, inr asks)) = record {
  more = an_ask.Size c.name ∷ pieces_from before.size c.name 0 asks.pieces;
  made = asks.asked;
  each = ((row, refl, inl (ap an_ask.Size same)), reads_of row c.name same before.size asks.pieces);
}

-- ---- over a span

abbrev pub AsksLoad : Id20 → shelves.History → shelves.History → Result Loaded OpFault → Type 0
AsksLoad id old new result = AsksByFile (plain_name id.0) (asks_of id) old new result

-- contents that a row of the manifest names
of_path : (s : Span) (rows : Rows) (path : List ℕ) → IsManifest s rows → (ask : Asked) → IsContents (row_at rows path) ask → IsOfRow s ask
of_path s rows path is ask (row, has, names) = record {
  path = path;
  rows = rows;
  read = read_some s rows path row has is;
  contents = (row, has, names);
}

module _ (s : Span) (old new : shelves.History) (first : shelves.Passes s.old old) (second : shelves.Passes old new) where
  of_row_later : (ask : Asked) → IsOfRow (upto s old) ask → IsOfRow (upto s new) ask
  of_row_later ask of = record {
    path = of.path;
    rows = of.rows;
    read = read_later s old new (Ok of.rows) first second of.read;
    contents = of.contents;
  }

  -- more contents behind the manifest
  pub whole_more : (rows : Rows) (path : List ℕ) → IsManifest (upto s new) rows → AsksWhole (upto s old) → AsksOnly (IsContents (row_at rows path)) old new → AsksWhole (upto s new)
  whole_more rows path is whole only = record {
    file = whole.file;
    was = was_longer s.old old new (plain_name s.id.0) (λ f. f ≡ whole.file) first second whole.was;
    contents = whole.contents ++ only.more;
    asked = only.made ∙ ap (λ (l : List Asked). l ++ only.more) whole.asked ∙ append_assoc (s.old.asked ++ asks_of s.id whole.file) whole.contents only.more;
    each =
        each_append (IsOfRow (upto s new)) whole.contents only.more (each_weaker (IsOfRow (upto s old)) (IsOfRow (upto s new)) of_row_later whole.contents whole.each)
        (each_weaker (IsContents (row_at rows path)) (IsOfRow (upto s new)) (of_path (upto s new) rows path is) only.more only.each);
  }

  has_later : new.asked ≡ old.asked → (loaded : Option Loaded) → HasAsked (upto s old) loaded → HasAsked (upto s new) loaded
  has_later same None none = same ∙ none
  has_later same (Some loaded) whole = record {
    file = whole.file;
    was = was_longer s.old old new (plain_name s.id.0) (λ f. f ≡ whole.file) first second whole.was;
    contents = whole.contents;
    asked = same ∙ whole.asked;
    each = each_weaker (IsOfRow (upto s old)) (IsOfRow (upto s new)) of_row_later whole.contents whole.each;
  }

  kept_later : (loaded : Option Loaded) → IsKeptManifest (upto s old) loaded → IsKeptManifest (upto s new) loaded
  kept_later None is = tt
  kept_later (Some loaded) is = manifest_later s old new loaded.manifest first second is

  -- a parent that isn't used meanwhile
  pub keeps_on : (parent : Parent) → new.asked ≡ old.asked → KeepsParent (upto s old) parent → KeepsParent (upto s new) parent
  keeps_on parent same keeps = record {
    passes = shelf.passes_trans s.old old new first second;
    same = keeps.same;
    read = kept_later parent.loaded keeps.read;
    asked = λ told. has_later same parent.loaded (keeps.asked told);
  }

-- with a manifest that is loaded
pub keeps_loaded : (s : Span) (old new : shelves.History) (parent : Parent) (loaded : Loaded) → shelves.Passes old new → KeepsParent (upto s old) parent → IsManifest (upto s new) loaded.manifest
    → (IsTrue s.old.told → AsksWhole (upto s new)) → KeepsParent (upto s new) (record { id = parent.id; loaded = Some loaded })
keeps_loaded s old new parent loaded second keeps is whole = record {
  passes = shelf.passes_trans s.old old new keeps.passes second;
  same = keeps.same;
  read = is;
  asked = whole;
}

-- the first contents, behind a manifest that was loaded just now
pub whole_first : (s : Span) (old mid new : shelves.History) (rows : Rows) (path : List ℕ) (id : Id20) (loaded : Loaded) → shelves.Passes s.old old → shelves.Passes old mid → shelves.Passes mid new → old.asked ≡ s.old.asked
    → id ≡ s.id → AsksLoad id old mid (Ok loaded) → IsManifest (upto s new) rows → AsksOnly (IsContents (row_at rows path)) mid new → AsksWhole (upto s new)
whole_first s old mid new rows path id loaded first second third none same by is only =
    let load = subst (λ (i : Id20). AsksLoad i old mid (Ok loaded)) same by in
    record {
      file = load.file;
      was = was_later s.old old new (plain_name s.id.0) (λ f. f ≡ load.file) first (was_longer old mid new (plain_name s.id.0) (λ f. f ≡ load.file) second third load.was);
      contents = only.more;
      asked = only.made ∙ ap (λ (l : List Asked). l ++ only.more) (load.asks ∙ ap (λ (l : List Asked). l ++ asks_of s.id load.file) none);
      each = each_weaker (IsContents (row_at rows path)) (IsOfRow (upto s new)) (of_path (upto s new) rows path is) only.more only.each;
    }

-- ---- at the end

pub store_whole : (s : Span) → AsksWhole s → AsksStore s
store_whole s whole = record {
  file = whole.file;
  was = whole.was;
  some = length (asks_of s.id whole.file);
  contents = whole.contents;
  asked = whole.asked ∙ ap (λ (l : List Asked). s.old.asked ++ l ++ whole.contents) (sym (take_all (length (asks_of s.id whole.file)) (asks_of s.id whole.file) (omega arith)));
  whole = inr refl;
  each = whole.each;
}

store_none : (s : Span) → shelves.Passes s.old s.new → s.new.asked ≡ s.old.asked → AsksStore s
store_none s passes none = record {
  file = file_at s.new (plain_name s.id.0) s.new.last;
  was = was_now s.old s.new (plain_name s.id.0) passes;
  some = 0;
  contents = [];
  asked = none ∙ sym (append-nil s.old.asked) ∙ sym (append-nil (s.old.asked ++ []));
  whole = inl refl;
  each = tt;
}

store_of : (s : Span) (loaded : Option Loaded) → shelves.Passes s.old s.new → HasAsked s loaded → AsksStore s
store_of s None passes none = store_none s passes none
store_of s (Some loaded) passes whole = store_whole s whole

-- what a parent that is kept has asked for
pub keeps_store : (s : Span) (parent : Parent) → KeepsParent s parent → IsTrue s.old.told → AsksStore s
keeps_store s parent keeps told = store_of s parent.loaded keeps.passes (keeps.asked told)

-- a load that failed
pub store_failed : (s : Span) (old : shelves.History) (id : Id20) (fault : OpFault) → shelves.Passes s.old old → old.asked ≡ s.old.asked → id ≡ s.id → AsksLoad id old s.new (Err fault) → AsksStore s
store_failed s old id fault first none same by =
    let load = subst (λ (i : Id20). AsksLoad i old s.new (Err fault)) same by in
    record {
      file = load.file;
      was = was_later s.old old s.new (plain_name s.id.0) (λ f. f ≡ load.file) first load.was;
      some = load.asks.some;
      contents = [];
      asked = load.asks.made ∙ ap (λ (l : List Asked). l ++ take load.asks.some (asks_of s.id load.file)) none ∙ sym (append-nil (s.old.asked ++ take load.asks.some (asks_of s.id load.file)));
      whole = inl refl;
      each = tt;
    }
