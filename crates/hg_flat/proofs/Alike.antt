-- What a listing says of a path is the same at two moments at which the path is alike.
use Rattle.std.proofs.Common.{ℕ, ◌≡◌, Bool, false, List, Option, Some, None, option_map, refl, sym, ap, ◌∙◌}
use Rattle.hg_base.specs.PathText.{joined}
use Rattle.hg_base.specs.declared.stat.Kind.{Kind}
use Rattle.hg_tree.specs.declared.thing.Placed.{Placed}
use Rattle.hg_tree.specs.declared.thing.Thing.{Thing}
use Rattle.hg_tree.specs.declared.thing.Thing.TheVariants as a_thing
use Rattle.hg_tree.specs.Moment.{Moment, is_dir, is_dir_thing, kind_of}
use Rattle.hg_tree.specs.Still.{AreAlike, hg_in, kind_at}
use Rattle.hg_tree.proofs.Stillness.{same_kind}
use Rattle.hg_compare.specs.Tracked.{is_file_or_link, is_file_or_link_thing}
use Rattle.hg_flat.specs.Kept.{Kept}
use Rattle.hg_flat.specs.Listing.{IsUnknownAmong, IsUnknownFrom, IsUnknownIn, IsUntracked, IsVisibleFrom, is_dir_kind, is_file_or_link_kind}

-- ---- what follows from the kind

abbrev pub dir_by : Option Kind → Bool
dir_by None = false
dir_by (Some kind) = is_dir_kind kind

abbrev pub file_by : Option Kind → Bool
file_by None = false
file_by (Some kind) = is_file_or_link_kind kind

dir_thing : (t : Thing) → is_dir_kind (kind_of t) ≡ is_dir_thing t
dir_thing (a_thing.File exec bytes) = refl
dir_thing (a_thing.Link target) = refl
dir_thing a_thing.Dir = refl
dir_thing a_thing.Other = refl

file_thing : (t : Thing) → is_file_or_link_kind (kind_of t) ≡ is_file_or_link_thing t
file_thing (a_thing.File exec bytes) = refl
file_thing (a_thing.Link target) = refl
file_thing a_thing.Dir = refl
file_thing a_thing.Other = refl

dir_is : (o : Option Placed) → dir_by (option_map (λ placed. kind_of placed.thing) o) ≡ is_dir o
dir_is None = refl
dir_is (Some placed) = dir_thing placed.thing

file_is : (o : Option Placed) → file_by (option_map (λ placed. kind_of placed.thing) o) ≡ is_file_or_link o
file_is None = refl
file_is (Some placed) = file_thing placed.thing

pub dir_alike : (m n : Moment) (path : List ℕ) → kind_at m path ≡ kind_at n path → is_dir (m.things path) ≡ is_dir (n.things path)
dir_alike m n path same = sym (dir_is (m.things path)) ∙ ap dir_by same ∙ dir_is (n.things path)

pub file_alike : (m n : Moment) (path : List ℕ) → kind_at m path ≡ kind_at n path → is_file_or_link (m.things path) ≡ is_file_or_link (n.things path)
file_alike m n path same = sym (file_is (m.things path)) ∙ ap file_by same ∙ file_is (n.things path)

-- what stands at a path by the kind that was seen there
pub dir_seen : (m : Moment) (path : List ℕ) (kind : Option Kind) → kind_at m path ≡ kind → is_dir (m.things path) ≡ dir_by kind
dir_seen m path kind is = sym (dir_is (m.things path)) ∙ ap dir_by is

pub file_seen : (m : Moment) (path : List ℕ) (kind : Option Kind) → kind_at m path ≡ kind → is_file_or_link (m.things path) ≡ file_by kind
file_seen m path kind is = sym (file_is (m.things path)) ∙ ap file_by is

-- ---- a path that is alike

pub alike_back : (m n : Moment) (path : List ℕ) → AreAlike m n path → AreAlike n m path
alike_back m n path alike = record {
  seen = sym alike.seen;
  exec = sym alike.exec;
  above = λ dir below. sym (alike.above dir below);
  hg = λ dir below. sym (alike.hg dir below);
}

pub alike_on : (m n o : Moment) (path : List ℕ) → AreAlike m n path → AreAlike n o path → AreAlike m o path
alike_on m n o path first second = record {
  seen = first.seen ∙ second.seen;
  exec = first.exec ∙ second.exec;
  above = λ dir below. first.above dir below ∙ second.above dir below;
  hg = λ dir below. first.hg dir below ∙ second.hg dir below;
}

module _ (kept : Kept) (m n : Moment) (path : List ℕ) (alike : AreAlike m n path) where
  untracked_moved : IsUntracked kept m path → IsUntracked kept n path
  untracked_moved u = (sym (file_alike m n path (same_kind m n path alike.seen)) ∙ u.0, u.1)

  visible_moved : (dir : Option (List ℕ)) → IsVisibleFrom m dir path → IsVisibleFrom n dir path
  visible_moved dir visible d from below = sym (dir_alike m n (hg_in d) (alike.hg d below)) ∙ visible d from below

  pub from_moved : (from : List ℕ) → IsUnknownFrom kept m from path → IsUnknownFrom kept n from path
  from_moved from u = record { inside = u.inside; untracked = untracked_moved u.untracked; visible = visible_moved (Some from) u.visible }

  pub in_moved : (dir : Option (List ℕ)) → IsUnknownIn kept m dir path → IsUnknownIn kept n dir path
  in_moved dir u = record { inside = u.inside; untracked = untracked_moved u.untracked; visible = visible_moved dir u.visible }

  pub among_moved : (dir : Option (List ℕ)) (names : List (List ℕ)) → IsUnknownAmong kept m dir names path → IsUnknownAmong kept n dir names path
  among_moved dir names (name, among, u) = (name, among, from_moved (joined dir name) u)
