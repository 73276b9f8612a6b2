-- The steps of a listing, for the paths that nobody touches meanwhile, in the words of the moment at its start.
use Rattle.std.proofs.Common.{ℕ, ◌≡◌, ◌+◌, ◌<◌, ◌≤◌, Bool, true, false, List, length, take, get_or, Option, Some, None, is_some, option_map, IsTrue, refl, sym, ap, ◌∙◌, subst, inl, inr, ◌⊎◌, arith, ◌++◌}
use Rattle.std.proofs.lemmas.Bool.{and_parts}
use Rattle.std.proofs.lemmas.List.{append-nil}
use Rattle.hg_base.specs.declared.stat.Stat.{Stat}
use Rattle.hg_base.specs.declared.stat.Kind.{Kind}
use Rattle.hg_base.specs.declared.stat.Kind.TheVariants as a_kind
use Rattle.hg_base.specs.declared.time.Time.{Time}
use Rattle.hg_base.specs.PathText.{is_below, joined}
use Rattle.hg_base.proofs.Paths.{component_plain}
use Rattle.hg_tree.specs.Moment.{AreNames, IsFormed, Moment, is_dir, is_dir_thing, kind_of, stat_at, stat_of}
use Rattle.hg_tree.specs.Moment as a_moment
use Rattle.hg_tree.specs.History.{AreFormed, Extends, History, now}
use Rattle.hg_tree.specs.Still.{AreAlike, Untouched, kind_at}
use Rattle.hg_tree.specs.declared.thing.Placed.{Placed}
use Rattle.hg_tree.specs.declared.thing.Thing.{Thing}
use Rattle.hg_tree.specs.declared.thing.Thing.TheVariants as a_thing
use Rattle.hg_tree.proofs.Histories.{extends_same, extends_trans}
use Rattle.hg_tree.proofs.Stillness.{alike_at, alike_between, same_kind, untouched_first, untouched_second}
use Rattle.hg_ignore.specs.State.{Ignored, Piece}
use Rattle.hg_compare.specs.declared.letter.Letter.{Letter}
use Rattle.hg_listing.specs.Full.{wants}
use Rattle.hg_flat.specs.Kept.{Kept}
use Rattle.hg_flat.specs.Listing.{Gives, GivesLetter, HoldsFor, IsUnknownAmong, IsUnknownFrom, IsUnknownIn, ListsUnknown, PutsUntracked, is_from, rows_if, shows_dir, untracked_row}
use Rattle.hg_flat.specs.Passed.{AreKnown, AreServed, Known, ListsFormed, ListsSince, WasDir, WasFormed, WasKind, WasNoDir, WasServed, nothing_known}
use Rattle.hg_listing.specs.declared.row.Row.{Row}
use Rattle.hg_listing.specs.declared.row.Wanted.{Wanted}
use Rattle.hg_flat.proofs.Alike.{alike_back, alike_on, among_moved, dir_alike, dir_by, dir_seen, file_by, file_seen, from_moved, in_moved}
use Rattle.hg_flat.proofs.Ignoring.{none_left, one_letter}
use Rattle.hg_flat.proofs.Unknowns.{among_more, backward, forward, from_cases, from_in, from_same, here_from, in_from, inside_joined, lists_moved, lists_none, lists_one, nested_in, no_dir_in, not_dir, nothing_from, only_here}

-- ---- what was seen at a path

stat_thing : (t : Thing) (mtime : Time) → (stat_of t mtime).kind ≡ kind_of t
stat_thing (a_thing.File exec bytes) mtime = refl
stat_thing (a_thing.Link target) mtime = refl
stat_thing a_thing.Dir mtime = refl
stat_thing a_thing.Other mtime = refl

stat_kind : (o : Option Placed) → option_map (λ (stat : Stat). stat.kind) (option_map (λ placed. stat_of placed.thing placed.mtime) o) ≡ option_map (λ placed. kind_of placed.thing) o
stat_kind None = refl
stat_kind (Some placed) = ap Some (stat_thing placed.thing placed.mtime)

-- by a stat
pub was_shown : (old new : History) → Extends old new → (start : ℕ) → start ≤ old.last → (path : List ℕ) (found : Option Stat) (kind : Option Kind) → kind ≡ option_map (λ stat. stat.kind) found → found ≡ stat_at (now new) path → WasKind new start path kind
was_shown old new past start begun path found kind same is = record {
  moment = new.last;
  begun = omega (arith, begun, past.later);
  past = omega arith;
  is = same ∙ ap (option_map (λ (stat : Stat). stat.kind)) is ∙ stat_kind ((now new).things path);
}

dir_shown : (found : Option Stat) → dir_by (option_map (λ stat. stat.kind) found) ≡ shows_dir found
dir_shown None = refl
dir_shown (Some stat) = refl

-- a stat that shows no directory
pub seen_none : (old new : History) → Extends old new → (path at : List ℕ) → at ≡ path → (found : Option Stat) → found ≡ stat_at (now new) at → shows_dir found ≡ false → WasNoDir new old.last path
seen_none old new past path at same found is none =
    let kind : Option Kind = option_map (λ (stat : Stat). stat.kind) found in
    let was : WasKind new old.last path kind = was_shown old new past old.last (omega arith) path found kind refl (is ∙ ap (stat_at (now new)) same) in record {
      moment = was.moment;
      begun = was.begun;
      past = was.past;
      none = dir_seen (new.at was.moment) path kind (sym was.is) ∙ dir_shown found ∙ none;
    }

thing_dir : (t : Thing) → is_dir_thing t ≡ true → a_kind.Dir ≡ kind_of t
thing_dir (a_thing.File exec bytes) h = absurd (cc (h))
thing_dir (a_thing.Link target) h = absurd (cc (h))
thing_dir a_thing.Dir h = refl
thing_dir a_thing.Other h = absurd (cc (h))

kind_dir : (o : Option Placed) → is_dir o ≡ true → Some a_kind.Dir ≡ option_map (λ placed. kind_of placed.thing) o
kind_dir None h = absurd (cc (h))
kind_dir (Some placed) h = ap Some (thing_dir placed.thing h)

-- by a look before
pub was_entered : (known : Known) (h : History) (start : ℕ) → AreKnown known h start → IsTrue h.told → (path text : List ℕ) → text ≡ path → known.dir text ≡ true → WasKind h start path (Some a_kind.Dir)
was_entered known h start are told path text same is =
    let was : WasDir h start path = are.dirs told path (ap known.dir (sym same) ∙ is) in
    record { moment = was.moment; begun = was.begun; past = was.past; is = kind_dir ((h.at was.moment).things path) was.is }

-- a file or a link is one by its kind
pub file_kind : (kind : Option Kind) (k : Kind) → kind ≡ Some k → (k ≡ a_kind.File) ⊎ (k ≡ a_kind.Link) → file_by kind ≡ true
file_kind kind k is (inl file) = ap file_by (is ∙ ap Some file)
file_kind kind k is (inr link) = ap file_by (is ∙ ap Some link)

-- ---- paths that nobody touches

module _ (old mid new : History) (first : Extends old mid) (second : Extends mid new) where
  abbrev Whole : List ℕ → Type 0
  Whole = Untouched new old.last

  pub first_part : (p : List ℕ) → Whole p → Untouched mid old.last p
  first_part p is = untouched_first mid new old.last p second first.later is

  pub second_part : (p : List ℕ) → Whole p → Untouched new mid.last p
  second_part p is = untouched_second new old.last mid.last p first.later second.later is

  pub alike_then : (p : List ℕ) → Whole p → AreAlike (now old) (now mid) p
  alike_then p is = alike_back (now mid) (now old) p (alike_between old mid new p first second is)

  pub alike_now : (p : List ℕ) → Whole p → AreAlike (now mid) (now old) p
  alike_now p is = alike_between old mid new p first second is

  pub told_then : (p : List ℕ) → Whole p → IsTrue old.told
  told_then p is = sym (second.told ∙ first.told) ∙ is.told

-- ---- since a moment before

-- what nobody touches since a moment nobody touches since a later one
pub untouched_since : (old new : History) (start : ℕ) → start ≤ old.last → Extends old new → (p : List ℕ) → Untouched new start p → Untouched new old.last p
untouched_since old new start begun past p is = untouched_second new start old.last p begun past.later is

-- a listing of what nobody touches is one since any moment before, where nothing was passed over
pub lists_since : (kept : Kept) (known : Known) (L : List ℕ → Letter → Type 0) (P : List ℕ → Type 0) (old new : History) → Extends old new → (a b : List Row) → ListsUnknown kept L (Untouched new old.last) P a b → ListsSince kept known L old new P a b
lists_since kept known L P old new past a b lists start are serve =
    lists_moved kept L (Untouched new old.last) (Untouched new start) P P a b (untouched_since old new start are.begun past) (λ p meets u. u) (λ p meets u. u) lists

-- what is known stays so
no_dir_later : (old new : History) (start : ℕ) (path : List ℕ) → Extends old new → WasNoDir old start path → WasNoDir new start path
no_dir_later old new start path past was = record {
  moment = was.moment;
  begun = was.begun;
  past = omega (arith, was.past, past.later);
  none = ap (λ (m : Moment). is_dir (m.things path)) (past.stay was.moment was.past) ∙ was.none;
}

dir_later : (old new : History) (start : ℕ) (path : List ℕ) → Extends old new → WasDir old start path → WasDir new start path
dir_later old new start path past was = record {
  moment = was.moment;
  begun = was.begun;
  past = omega (arith, was.past, past.later);
  is = ap (λ (m : Moment). is_dir (m.things path)) (past.stay was.moment was.past) ∙ was.is;
}

pub known_later : (known : Known) (old new : History) (start : ℕ) → Extends old new → AreKnown known old start → AreKnown known new start
known_later known old new start past are = record {
  begun = omega (arith, are.begun, past.later);
  none = λ told path is. no_dir_later old new start path past (are.none (sym past.told ∙ told) path is);
  dirs = λ told path is. dir_later old new start path past (are.dirs (sym past.told ∙ told) path is);
}

pub served_later : (known : Known) (L : List ℕ → Letter → Type 0) (old new : History) (start : ℕ) → Extends old new → AreServed known L old start → AreServed known L new start
served_later known L old new start past serve told dir is =
    let was : WasServed known L old start dir = serve (sym past.told ∙ told) dir is in record {
      moment = was.moment;
      begun = was.begun;
      past = omega (arith, was.past, past.later);
      names = λ name component stands.
          was.names name component (ap (λ (m : Moment). is_some (m.things (joined (Some dir) name))) (sym (past.stay was.moment was.past)) ∙ stands);
    }

pub formed_later : (old new : History) (start : ℕ) → Extends old new → WasFormed old start → WasFormed new start
formed_later old new start past was = record {
  moment = was.moment;
  begun = was.begun;
  past = omega (arith, was.past, past.later);
  formed = subst IsFormed (sym (past.stay was.moment was.past)) was.formed;
}

-- where nothing is known it was so since any moment
pub known_none : (h : History) (start : ℕ) → start ≤ h.last → AreKnown nothing_known h start
known_none h start begun = record { begun = begun; none = λ told path is. absurd (cc (is)); dirs = λ told path is. absurd (cc (is)) }

pub served_none : (L : List ℕ → Letter → Type 0) (h : History) (start : ℕ) → AreServed nothing_known L h start
served_none L h start told dir is = absurd (cc (is))

-- ---- a path that was passed

-- an untouched path is alike now and at a moment that was well-formed
pub alike_since : (old : History) (start : ℕ) (formed : WasFormed old start) → start ≤ old.last → (p : List ℕ) → Untouched old start p → AreAlike (now old) (old.at formed.moment) p
alike_since old start formed begun p is =
    alike_on (now old) (old.at start) (old.at formed.moment) p (alike_at old start old.last p begun (omega arith) is)
    (alike_back (old.at formed.moment) (old.at start) p (alike_at old start formed.moment p formed.begun formed.past is))

module _ (kept : Kept) (old : History) (start : ℕ) (path : List ℕ) (is_kept : kept path ≡ true) (was : WasNoDir old start path) (formed : WasFormed old start) (begun : start ≤ old.last) where
  -- no directory stood there at the moment that was well-formed
  none_then : (p : List ℕ) → Untouched old start p → is_below path p ≡ true → is_dir ((old.at formed.moment).things path) ≡ false
  none_then p is below =
      dir_alike (old.at formed.moment) (old.at was.moment) path
      (is.above path below formed.moment formed.begun formed.past ∙ sym (is.above path below was.moment was.begun was.past))
      ∙ was.none

  not_here : (p : List ℕ) → p ≡ path → IsUnknownFrom kept (now old) path p → ⊥
  not_here p at u = let has = ap kept at in absurd (cc (u.untracked.1, has, is_kept))

  -- nothing without an entry is from there
  nothing_passed : (p : List ℕ) → Untouched old start p → IsUnknownFrom kept (now old) path p → ⊥
  nothing_passed p is u =
      elim (from_cases path p u.inside) [
        | inl same ↦ not_here p (sym same) u
        | inr below ↦
            not_here p
            (only_here kept (old.at formed.moment) formed.formed path p (none_then p is below) (from_moved kept (now old) (old.at formed.moment) p (alike_since old start formed begun p is) path u))
            u
      ]

pub look_passed : (kept : Kept) (known : Known) (wanted : Wanted) (state : List Piece) (old : History) (path text : List ℕ) (rows : List Row) → text ≡ path → kept text ≡ true → known.none text ≡ true
    → ListsFormed kept known (Gives wanted state) old old (IsUnknownFrom kept (now old) path) rows rows
look_passed kept known wanted state old path text rows same is_kept is_passed start are serve formed =
    lists_none kept (Gives wanted state) (Untouched old start) (IsUnknownFrom kept (now old) path) rows
    (λ p l is u gives.
    nothing_passed kept old start path (ap kept (sym same) ∙ is_kept) (are.none is.told path (ap known.none (sym same) ∙ is_passed)) (formed is.told) are.begun p is u)

-- ---- the rows of what stands at a path, whose kind was seen at a moment

-- a path is alike now and at a well-formed moment, at which this kind stood at a path from which it is
record Found (kind : Option Kind) (old : History) (path p : List ℕ) : Type 0 where
  pub moment : Moment
  pub formed : IsFormed moment
  pub alike : AreAlike (now old) moment p
  pub is : is_from (Some path) p ≡ true → kind_at moment path ≡ kind

-- what stands at a path from which an untouched one is keeps its kind
pub kind_stays : (h : History) (start : ℕ) (path p : List ℕ) → is_from (Some path) p ≡ true → Untouched h start p → (k : ℕ) → start ≤ k → k ≤ h.last → kind_at (h.at k) path ≡ kind_at (h.at start) path
kind_stays h start path p from is k begun upto =
    elim (from_cases path p from) [
      | inl same ↦
          subst (λ (q : List ℕ). kind_at (h.at k) q ≡ kind_at (h.at start) q) (sym same)
          (same_kind (h.at k) (h.at start) p (is.own.seen k begun upto))
      | inr below ↦ is.above path below k begun upto
    ]

module _ (kept : Kept) (wanted : Wanted) (state : List Piece) (old mid new : History) (first : Extends old mid) (second : Extends mid new) (start : ℕ) (begun : start ≤ old.last) (path text : List ℕ) (same : text ≡ path) (kind : Option Kind)
    (was : IsTrue old.told → WasKind mid start text kind) (formed : IsTrue old.told → WasFormed old start) where
  abbrev Own : List ℕ → Type 0
  Own = Untouched new start

  abbrev From : List ℕ → Type 0
  From = IsUnknownFrom kept (now old) path

  past : Extends old new
  past = extends_trans old mid new first second

  found_by : (p : List ℕ) → Own p → WasFormed old start → WasKind mid start path kind → Found kind old path p
  found_by p is f w = record {
    moment = old.at f.moment;
    formed = f.formed;
    alike = alike_since old start f begun p (untouched_first old new start p past begun is);
    is = λ from.
        ap (λ (m : Moment). kind_at m path) (sym (past.stay f.moment f.past))
        ∙ kind_stays new start path p from is f.moment f.begun (omega (arith, f.past, past.later))
        ∙ sym (kind_stays new start path p from is w.moment w.begun (omega (arith, w.past, second.later)))
        ∙ ap (λ (m : Moment). kind_at m path) (second.stay w.moment w.past) ∙ sym w.is;
  }

  found : (p : List ℕ) → Own p → Found kind old path p
  found p is =
      let told : IsTrue old.told = sym past.told ∙ is.told in
      found_by p is (formed told) (subst (λ (q : List ℕ). WasKind mid start q kind) same (was told))

  -- what an untouched path says now it says at that moment too
  found_then : (p : List ℕ) (f : Found kind old path p) → From p → IsUnknownFrom kept f.moment path p
  found_then p f u = from_moved kept (now old) f.moment p f.alike path u

  -- where neither a directory nor a file nor a link stands
  pub look_nothing : (rows : List Row) → dir_by kind ≡ false → file_by kind ≡ false → ListsUnknown kept (Gives wanted state) Own From rows rows
  look_nothing rows no_dir no_file =
      lists_none kept (Gives wanted state) Own From rows
      (λ p l is u gives.
      let f : Found kind old path p = found p is in
      nothing_from kept f.moment f.formed path p (dir_seen f.moment path kind (f.is u.inside) ∙ no_dir) (file_seen f.moment path kind (f.is u.inside) ∙ no_file) (found_then p f u))

  -- where a file or a link stands, nothing else is from there
  only_file : file_by kind ≡ true → (p : List ℕ) → Own p → From p → p ≡ path
  only_file file p is u =
      let f : Found kind old path p = found p is in
      only_here kept f.moment f.formed path p (not_dir (f.moment.things path) (file_seen f.moment path kind (f.is u.inside) ∙ file)) (found_then p f u)

  put_by : (a b : List Row) (letter : Letter) (asks : Bool) → wants wanted letter ≡ asks → kept path ≡ false → file_by kind ≡ true → GivesLetter state path letter
      → b ≡ a ++ rows_if asks (untracked_row letter path) → ListsUnknown kept (Gives wanted state) Own From a b
  put_by a b letter true asks is file given put =
      lists_one kept (Gives wanted state) Own From a b path letter put is (asks, given)
      (λ l gives. one_letter state path l letter gives.1 given)
      (λ meets.
      let f : Found kind old path path = found path meets in
      from_moved kept f.moment (now old) path (alike_back (now old) f.moment path f.alike) path
      (here_from kept f.moment f.formed path (file_seen f.moment path kind (f.is (from_same path path refl)) ∙ file) is))
      (only_file file)
  put_by a b letter false asks is file given put =
      subst (λ (n : List Row). ListsUnknown kept (Gives wanted state) Own From a n) (sym (put ∙ append-nil a))
      (lists_none kept (Gives wanted state) Own From a
      (λ p l meets u gives.
      let at : p ≡ path = only_file file p meets u in
      let one : l ≡ letter = one_letter state path l letter (subst (λ (q : List ℕ). GivesLetter state q l) at gives.1) given in
      absurd (cc (asks, sym (ap (wants wanted) one) ∙ gives.0))))

  file_rows : (a b : List Row) (has : Bool) → kept path ≡ has → file_by kind ≡ true → PutsUntracked has wanted state path a b → ListsUnknown kept (Gives wanted state) Own From a b
  file_rows a b false is file puts = put_by a b puts.letter (wants wanted puts.letter) refl is file puts.given puts.put
  file_rows a b true is file rows =
      subst (λ (n : List Row). ListsUnknown kept (Gives wanted state) Own From a n) (sym rows)
      (lists_none kept (Gives wanted state) Own From a
      (λ p l meets u gives. let at = ap kept (only_file file p meets u) in absurd (cc (u.untracked.1, at, is))))

  -- a file or link has a row exactly where it has no entry and its letter is wanted
  pub look_file : (a b : List Row) → file_by kind ≡ true → PutsUntracked (kept path) wanted state path a b → ListsUnknown kept (Gives wanted state) Own From a b
  look_file a b file rows = file_rows a b (kept path) refl file rows

  -- a directory has the rows of what stands in it
  pub look_dir : (a b : List Row) (again : List ℕ) → dir_by kind ≡ true → again ≡ path → ListsUnknown kept (Gives wanted state) Own (IsUnknownIn kept (now mid) (Some again)) a b → ListsUnknown kept (Gives wanted state) Own From a b
  look_dir a b again dir at lists =
      lists_moved kept (Gives wanted state) Own Own (IsUnknownIn kept (now mid) (Some path)) From a b
      (λ p is. is)
      (λ p is u.
      let f : Found kind old path p = found p is in
      from_moved kept f.moment (now old) p (alike_back (now old) f.moment p f.alike) path
      (from_in kept f.moment f.formed path p
      (in_moved kept (now old) f.moment p f.alike (Some path) (in_moved kept (now mid) (now old) p (alike_now old mid new first second p (own p is)) (Some path) u))))
      (λ p is u.
      let f : Found kind old path p = found p is in
      in_moved kept (now old) (now mid) p (alike_then old mid new first second p (own p is)) (Some path)
      (in_moved kept f.moment (now old) p (alike_back (now old) f.moment p f.alike) (Some path)
      (in_from kept f.moment f.formed path p (dir_seen f.moment path kind (f.is u.inside) ∙ dir) (found_then p f u))))
      (subst (λ (t : List ℕ). ListsUnknown kept (Gives wanted state) Own (IsUnknownIn kept (now mid) (Some t)) a b) at lists)
    where
      own : (p : List ℕ) → Own p → Untouched new old.last p
      own p is = untouched_since old new start begun past p is

-- of a directory that is ignored nothing is wanted where I isn't
pub look_left : (kept : Kept) (known : Known) (wanted : Wanted) (state : List Piece) (old new : History) (path : List ℕ) (rows : List Row) → wanted.i ≡ false → Ignored state path
    → ListsFormed kept known (Gives wanted state) old new (IsUnknownFrom kept (now old) path) rows rows
look_left kept known wanted state old new path rows unwanted ignored start are serve formed =
    lists_none kept (Gives wanted state) (Untouched new start) (IsUnknownFrom kept (now old) path) rows
    (λ p l is u gives. none_left wanted state path p l unwanted ignored u.inside gives)

-- ---- the rows of what stands in a directory

-- what was listed: at the end of it each moment is well formed, and these were the names
pub record Named (mid : History) (dir : Option (List ℕ)) (names : Option (List (List ℕ))) : Type 0 where
  pub formed : AreFormed mid
  pub listed : a_moment.Lists dir names (now mid)

pub these_names : (dir : Option (List ℕ)) (names : Option (List (List ℕ))) (these text : List (List ℕ)) (m : Moment) → names ≡ Some these → text ≡ these → a_moment.Lists dir names m → AreNames m dir text
these_names dir names these text m some same listed =
    subst (λ (l : List (List ℕ)). AreNames m dir l) (sym same) (subst (λ (n : Option (List (List ℕ))). a_moment.Lists dir n m) some listed).1

formed_at : (mid : History) (dir : Option (List ℕ)) (names : Option (List (List ℕ))) → Named mid dir names → IsFormed (now mid)
formed_at mid dir names named = named.formed.each mid.last (omega arith)

pub visit_none : (kept : Kept) (wanted : Wanted) (state : List Piece) (old mid : History) → Extends old mid → (dir : Option (List ℕ)) (names : Option (List (List ℕ))) → (IsTrue old.told → Named mid dir names) → (rows : List Row) → names ≡ None
    → ListsUnknown kept (Gives wanted state) (Untouched mid old.last) (IsUnknownIn kept (now old) dir) rows rows
visit_none kept wanted state old mid first dir names named rows none =
    lists_none kept (Gives wanted state) (Untouched mid old.last) (IsUnknownIn kept (now old) dir) rows
    (λ p l is u gives.
    let n : Named mid dir names = named (told_then old mid mid first (extends_same mid) p is) in
    no_dir_in kept (now mid) (formed_at mid dir names n) dir p (subst (λ (l : Option (List (List ℕ))). a_moment.Lists dir l (now mid)) none n.listed)
    (in_moved kept (now old) (now mid) p (alike_then old mid mid first (extends_same mid) p is) dir u))

pub visit_nested : (kept : Kept) (wanted : Wanted) (state : List Piece) (old mid new : History) → Extends old mid → Extends mid new → (dir : Option (List ℕ)) (names : Option (List (List ℕ))) → (IsTrue old.told → Named mid dir names)
    → (these text : List (List ℕ)) (found : Bool) (rows : List Row) → names ≡ Some these → text ≡ these → (AreNames (now mid) dir text → HoldsFor (Untouched new mid.last) (now mid) dir found) → found ≡ true
    → ListsUnknown kept (Gives wanted state) (Untouched new old.last) (IsUnknownIn kept (now old) dir) rows rows
visit_nested kept wanted state old mid new first second dir names named these text found rows some same holds is_true =
    lists_none kept (Gives wanted state) (Untouched new old.last) (IsUnknownIn kept (now old) dir) rows
    (λ p l is u gives.
    let n : Named mid dir names = named (told_then old mid new first second p is) in
    let then : IsUnknownIn kept (now mid) dir p = in_moved kept (now old) (now mid) p (alike_then old mid new first second p is) dir u in
    nested_in kept (now mid) (formed_at mid dir names n) dir p
    (sym (holds (these_names dir names these text (now mid) some same n.listed) p (second_part old mid new first second p is) then.inside) ∙ is_true) then)

pub visit_rest : (kept : Kept) (known : Known) (wanted : Wanted) (state : List Piece) (old mid later new : History) → Extends old mid → Extends mid later → Extends later new → (dir : Option (List ℕ)) (names : Option (List (List ℕ))) → (IsTrue old.told → Named mid dir names)
    → (these text again : List (List ℕ)) (found : Bool) (a b : List Row) → names ≡ Some these → text ≡ these → again ≡ these
    → (AreNames (now mid) dir text → HoldsFor (Untouched later mid.last) (now mid) dir found) → found ≡ false
    → ListsFormed kept known (Gives wanted state) later new (IsUnknownAmong kept (now later) dir again) a b → ListsSince kept known (Gives wanted state) old new (IsUnknownIn kept (now old) dir) a b
visit_rest kept known wanted state old mid later new first second third dir names named these text again found a b some same too holds is_false lists start are serve =
    lists_moved kept (Gives wanted state) (Untouched new start) (Untouched new start) (IsUnknownAmong kept (now later) dir again) (IsUnknownIn kept (now old) dir) a b
    (λ p is. is)
    (λ p is (name, among, u).
    let n : Named mid dir names = named (told p is) in
    let at : IsUnknownFrom kept (now mid) (joined dir name) p =
    from_moved kept (now old) (now mid) p (alike_then old mid new first rest p (own p is)) (joined dir name)
    (from_moved kept (now later) (now old) p (alike_now old later new past third p (own p is)) (joined dir name) u) in
    in_moved kept (now mid) (now old) p (alike_now old mid new first rest p (own p is)) dir
    (forward kept (now mid) (formed_at mid dir names n) dir name p
    (component_plain name (and_parts _ _ ((these_names dir names these again (now mid) some too n.listed).stand name among)).0)
    (sym (holds (these_names dir names these text (now mid) some same n.listed) p (middle p is) (inside_joined dir name p at.inside)) ∙ is_false) at))
    (λ p is u.
    let n : Named mid dir names = named (told p is) in
    let at : IsUnknownIn kept (now mid) dir p = in_moved kept (now old) (now mid) p (alike_then old mid new first rest p (own p is)) dir u in
    among_moved kept (now old) (now later) p (alike_then old later new past third p (own p is)) dir again
    (among_moved kept (now mid) (now old) p (alike_now old mid new first rest p (own p is)) dir again
    (backward kept (now mid) (formed_at mid dir names n) dir again p (these_names dir names these again (now mid) some too n.listed) at)))
    (lists start (known_later known old later start past are) (served_later known (Gives wanted state) old later start past serve) (λ is. formed_later mid later start second (listed_formed (named (sym past.told ∙ is)))))
  where
    past : Extends old later
    past = extends_trans old mid later first second

    rest : Extends mid new
    rest = extends_trans mid later new second third

    own : (p : List ℕ) → Untouched new start p → Untouched new old.last p
    own p is = untouched_since old new start are.begun (extends_trans old mid new first rest) p is

    told : (p : List ℕ) → Untouched new start p → IsTrue old.told
    told p is = told_then old mid new first rest p (own p is)

    middle : (p : List ℕ) → Untouched new start p → Untouched later mid.last p
    middle p is = second_part old mid later first second p (first_part old later new past third p (own p is))

    listed_formed : Named mid dir names → WasFormed mid start
    listed_formed n = record { moment = mid.last; begun = omega (arith, are.begun, first.later); past = omega arith; formed = formed_at mid dir names n }

pub each_more : (kept : Kept) (known : Known) (wanted : Wanted) (state : List Piece) (old mid new : History) → Extends old mid → Extends mid new → (dir : Option (List ℕ)) (names : List (List ℕ)) (i : ℕ) (name text path : List ℕ) (a b c : List Row)
    → i < length names → name ≡ get_or names i name → text ≡ name → path ≡ joined dir text
    → ListsFormed kept known (Gives wanted state) old mid (IsUnknownAmong kept (now old) dir (take i names)) a b → ListsFormed kept known (Gives wanted state) mid new (IsUnknownFrom kept (now mid) path) b c
    → ListsFormed kept known (Gives wanted state) old new (IsUnknownAmong kept (now old) dir (take (i + 1) names)) a c
each_more kept known wanted state old mid new first second dir names i name text path a b c below is same at before one start are serve formed =
    among_more kept (Gives wanted state) (Untouched new start) (now old) dir names i name a b c below (sym is)
    (lists_moved kept (Gives wanted state) (Untouched mid start) (Untouched new start) (IsUnknownAmong kept (now old) dir (take i names)) (IsUnknownAmong kept (now old) dir (take i names)) a b
    (λ p meets. untouched_first mid new start p second (omega (arith, are.begun, first.later)) meets) (λ p meets u. u) (λ p meets u. u) (before start are serve formed))
    (lists_moved kept (Gives wanted state) (Untouched new start) (Untouched new start) (IsUnknownFrom kept (now mid) (joined dir name)) (IsUnknownFrom kept (now old) (joined dir name)) b c
    (λ p meets. meets)
    (λ p meets u. from_moved kept (now mid) (now old) p (alike_now old mid new first second p (own p meets)) (joined dir name) u)
    (λ p meets u. from_moved kept (now old) (now mid) p (alike_then old mid new first second p (own p meets)) (joined dir name) u)
    (subst (λ (q : List ℕ). ListsUnknown kept (Gives wanted state) (Untouched new start) (IsUnknownFrom kept (now mid) q) b c) (at ∙ ap (joined dir) same)
    (one start (known_later known old mid start first are) (served_later known (Gives wanted state) old mid start first serve) (λ told. formed_later old mid start first (formed (sym first.told ∙ told))))))
  where
    own : (p : List ℕ) → Untouched new start p → Untouched new old.last p
    own p is = untouched_since old new start are.begun (extends_trans old mid new first second) p is

-- ---- over the whole span

-- what was listed behind a span is so over the whole, for paths that nobody touches over it; what is known may have been so since a moment of the span
pub lists_later : (old mid new : History) → Extends old mid → Extends mid new → (start : ℕ) → old.last ≤ start → start ≤ mid.last → (kept : Kept) (L : List ℕ → Letter → Type 0) (S : List ℕ → Type 0)
    → ((p : List ℕ) → S p → Untouched new old.last p) → (a b : List Row)
    → ListsUnknown kept L (Untouched new start) (IsUnknownIn kept (now mid) None) a b → ListsUnknown kept L S (IsUnknownIn kept (now old) None) a b
lists_later old mid new first second start from upto kept L S own a b lists =
    lists_moved kept L (Untouched new start) S (IsUnknownIn kept (now mid) None) (IsUnknownIn kept (now old) None) a b
    (λ p meets. untouched_second new old.last start p from (omega (arith, upto, second.later)) (own p meets))
    (λ p meets u. in_moved kept (now mid) (now old) p (alike_now old mid new first second p (own p meets)) None u)
    (λ p meets u. in_moved kept (now old) (now mid) p (alike_then old mid new first second p (own p meets)) None u)
    lists
