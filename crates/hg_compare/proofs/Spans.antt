-- What was seen in a part of a call was seen in the call.
use Rattle.std.proofs.Common.{◌≡◌, ℕ, List, Option, None, sym, ap, ◌∙◌, subst, arith}
use Rattle.hg_shelf.specs.History as shelf
use Rattle.hg_tree.specs.History as tree
use Rattle.hg_tree.specs.Moment.{Moment, bytes_at}
use Rattle.hg_base.specs.declared.id.Id20.{Id20}
use Rattle.hg_compare.specs.Pieces.{EndsBy, Meets}
use Rattle.hg_compare.specs.declared.fault.CompareFault.{CompareFault}
use Rattle.hg_compare.specs.declared.fault.CompareFault.TheVariants as a_fault
use Rattle.hg_compare.specs.declared.looked.Looked.{Looked}
use Rattle.hg_compare.specs.declared.looked.Looked.TheVariants as a_look
use Rattle.hg_compare.specs.Seen.{Compared, HasByte, HasPiece, Holds, SeesNothing, SeesOther, SeesPiece, SeesSame, Shows}

-- a call
abbrev pub call_of : (path name : List ℕ) (tree_old tree_new : tree.History) (shelf_old shelf_new : shelf.History) → Compared
call_of path name tree_old tree_new shelf_old shelf_new =
    record { path = path; name = name; tree_old = tree_old; tree_new = tree_new; shelf_old = shelf_old; shelf_new = shelf_new }

-- a call in two parts
pub record Parts : Type 0 where
  pub whole : Compared
  pub tree_mid : tree.History
  pub shelf_mid : shelf.History
  pub tree_first : tree.Passes whole.tree_old tree_mid
  pub tree_second : tree.Passes tree_mid whole.tree_new
  pub shelf_first : shelf.Passes whole.shelf_old shelf_mid
  pub shelf_second : shelf.Passes shelf_mid whole.shelf_new

abbrev pub first_of : Parts → Compared
first_of p = record { path = p.whole.path; name = p.whole.name; tree_old = p.whole.tree_old; tree_new = p.tree_mid; shelf_old = p.whole.shelf_old; shelf_new = p.shelf_mid }

abbrev pub second_of : Parts → Compared
second_of p = record { path = p.whole.path; name = p.whole.name; tree_old = p.tree_mid; tree_new = p.whole.tree_new; shelf_old = p.shelf_mid; shelf_new = p.whole.shelf_new }

pub shown_first : (p : Parts) (P : Moment → Type 0) → Shows (first_of p) P → Shows p.whole P
shown_first p P is = record {
  at = is.at;
  during = λ told. let during = is.during told in record { from = during.from; to = omega (arith, during.to, p.tree_second.past.later) };
  so = λ told. subst P (sym (p.tree_second.past.stay is.at (is.during told).to)) (is.so told);
}

pub shown_second : (p : Parts) (P : Moment → Type 0) → Shows (second_of p) P → Shows p.whole P
shown_second p P is = record {
  at = is.at;
  during = λ told. let during = is.during (p.tree_first.past.told ∙ told) in record { from = omega (arith, p.tree_first.past.later, during.from); to = during.to };
  so = λ told. is.so (p.tree_first.past.told ∙ told);
}

pub held_first : (p : Parts) (P : Option (List ℕ) → Type 0) → Holds (first_of p) P → Holds p.whole P
held_first p P is = record {
  at = is.at;
  during = λ told. let during = is.during told in record { from = during.from; to = omega (arith, during.to, p.shelf_second.past.later) };
  so = λ told. subst P (sym (ap (λ (f : shelf.Files). f p.whole.name) (p.shelf_second.past.stay is.at (is.during told).to).shown)) (is.so told);
}

pub held_second : (p : Parts) (P : Option (List ℕ) → Type 0) → Holds (second_of p) P → Holds p.whole P
held_second p P is = record {
  at = is.at;
  during = λ told. let during = is.during (p.shelf_first.past.told ∙ told) in record { from = omega (arith, p.shelf_first.past.later, during.from); to = during.to };
  so = λ told. is.so (p.shelf_first.past.told ∙ told);
}

pub bytes_first : (p : Parts) (size : ℕ) → SeesSame (first_of p) size → SeesSame p.whole size
bytes_first p size same k below =
    let one = same k below in record {
      byte = one.byte;
      mine = shown_first p (λ moment. HasByte k one.byte (bytes_at moment p.whole.path)) one.mine;
      theirs = held_first p (HasByte k one.byte) one.theirs;
    }

pub bytes_second : (p : Parts) (size : ℕ) → SeesSame (second_of p) size → SeesSame p.whole size
bytes_second p size same k below =
    let one = same k below in record {
      byte = one.byte;
      mine = shown_second p (λ moment. HasByte k one.byte (bytes_at moment p.whole.path)) one.mine;
      theirs = held_second p (HasByte k one.byte) one.theirs;
    }

pub meets_second : (p : Parts) (id : Id20) (fault : CompareFault) → Meets (second_of p) id fault → Meets p.whole id fault
meets_second p id (a_fault.NoContents gone) met = (met.0, held_second p (λ file. file ≡ None) met.1)
meets_second p id a_fault.TreeFailed met = tt
meets_second p id a_fault.ShelfFailed met = tt

pub piece_second : (p : Parts) (place width : ℕ) (mine theirs : List ℕ) → SeesPiece (second_of p) place width mine theirs → SeesPiece p.whole place width mine theirs
piece_second p place width mine theirs pieces = record {
  mine_was = shown_second p (λ moment. HasPiece place width mine (bytes_at moment p.whole.path)) pieces.mine_was;
  theirs_was = held_second p (HasPiece place width theirs) pieces.theirs_was;
}

pub other_second : (p : Parts) → SeesOther (second_of p) → SeesOther p.whole
other_second p other = record {
  place = other.place;
  width = other.width;
  mine = other.mine;
  theirs = other.theirs;
  pieces = piece_second p other.place other.width other.mine other.theirs other.pieces;
  differ = other.differ;
}

pub nothing_second : (p : Parts) → SeesNothing (second_of p) → SeesNothing p.whole
nothing_second p none = shown_second p (λ moment. bytes_at moment p.whole.path ≡ None) none

abbrev pub parts_of : (path name : List ℕ) (tree_old tree_mid tree_new : tree.History) (shelf_old shelf_mid shelf_new : shelf.History) → tree.Passes tree_old tree_mid → tree.Passes tree_mid tree_new → shelf.Passes shelf_old shelf_mid
    → shelf.Passes shelf_mid shelf_new → Parts
parts_of path name tree_old tree_mid tree_new shelf_old shelf_mid shelf_new tree_first tree_second shelf_first shelf_second = record {
  whole = record { path = path; name = name; tree_old = tree_old; tree_new = tree_new; shelf_old = shelf_old; shelf_new = shelf_new };
  tree_mid = tree_mid;
  shelf_mid = shelf_mid;
  tree_first = tree_first;
  tree_second = tree_second;
  shelf_first = shelf_first;
  shelf_second = shelf_second;
}

pub ends_second : (p : Parts) (looked : Looked) → EndsBy (second_of p) looked → EndsBy p.whole looked
ends_second p (a_look.Same settled) is = is
ends_second p a_look.Differs is = other_second p is
ends_second p a_look.Gone is = nothing_second p is
