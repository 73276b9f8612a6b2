-- What a listing asks the tree: each directory once, and where nothing changes only those that are visible.
use Rattle.std.proofs.Common.{ℕ, zero, suc, ◌≡◌, ◌+◌, ◌<◌, Bool, true, false, List, [], ◌∷◌, ◌++◌, length, map, take, drop, replicate, get_or, Option, Some, None, refl, sym, ap, ◌∙◌, subst, inl, inr, ◌⊎◌, arith}
use Rattle.std.specs.List.{AllByRecursion, Contains, IsDistinct}
use Rattle.std.specs.Str.{bytes_eq}
use Rattle.std.proofs.lemmas.Bool.{cases_Bool, or_cases, or_left, or_right}
use Rattle.std.proofs.lemmas.List.{append-nil, append_assoc, map-append, take-append-drop}
use Rattle.std.proofs.lemmas.List.Elements.{Contains-append_cases, Contains-append_left, Contains-append_right, Contains-push, Contains-push_cases}
use Rattle.std.proofs.lemmas.List.Folds.{list_any-append, list_any_more}
use Rattle.std.proofs.lemmas.Slice.Eq.{bytes_eq-Decides}
use Rattle.hg_base.specs.declared.stat.Kind.{Kind}
use Rattle.hg_base.specs.declared.stat.Kind.TheVariants as a_kind
use Rattle.hg_base.specs.PathText.{has_slash, is_below, is_same_dir, joined}
use Rattle.hg_base.proofs.Below.{below_compared, below_itself, below_joined, below_name, below_of_joined}
use Rattle.hg_base.proofs.Components.{joined_same}
use Rattle.hg_base.proofs.Paths.{component_plain}
use Rattle.hg_tree.specs.History.{Asks, Extends, History, IsOurs, Passes, now}
use Rattle.hg_tree.specs.Moment.{AreFit, Moment, is_among, is_dir}
use Rattle.hg_tree.specs.declared.asked.Asked.{Asked}
use Rattle.hg_tree.specs.declared.asked.Asked.TheVariants as an_ask
use Rattle.hg_tree.specs.Still.{Untouched, hg_in, kind_at}
use Rattle.hg_tree.proofs.Spans.{now_same, ours_first, ours_second, ours_unstepped, passes_trans}
use Rattle.hg_tree.proofs.Stillness.{ours_untouched}
use Rattle.hg_compare.specs.Same.{Reads}
use Rattle.hg_flat.specs.Asked.{AsksFor, AsksNothing, AsksReads, IsDirAmong, IsDirBelow, IsDirFrom, IsDirIn}
use Rattle.hg_flat.specs.Listing.{HoldsFor, IsVisibleFrom, holds_repository, is_from, is_inside}
use Rattle.hg_flat.specs.Passed.{Known, WasDir, WasKind, WasNoDir}
use Rattle.hg_flat.specs.Serving.{IsDirWithin}
use Rattle.hg_flat.proofs.Alike.{dir_seen}
use Rattle.hg_flat.proofs.Among.{fit_of}
use Rattle.hg_flat.proofs.Unknowns.{apart_up, back, from_below, from_cases, from_same, inside_joined, same_of, visible_up}

-- ---- asks behind one another

pub asks_nothing : (answered : Bool) (old new : History) → Asks answered [] old new → AsksNothing old new
asks_nothing answered old new (inl is) = is ∙ append-nil old.asked
asks_nothing answered old new (inr both) = both.1

pub asks_none : (W : Option (List ℕ) → Type 0) (old new : History) → AsksNothing old new → AsksFor W old new
unfolding IsDistinct
asks_none W old new none = record {
  dirs = [];
  asked = none ∙ sym (append-nil old.asked);
  once = tt;
  within = λ dir (k, below, is). absurd (omega (arith, below));
}

-- a listing that was noted, or that failed and found no memory to be
pub asks_one : (answered : Bool) (dir : Option (List ℕ)) (old new : History) → Asks answered (an_ask.List dir ∷ []) old new → AsksFor (λ asked. asked ≡ dir) old new
unfolding IsDistinct
asks_one answered dir old new (inl is) = record {
  dirs = dir ∷ [];
  asked = is;
  once = (tt, tt);
  within = λ asked has. elim (Contains-push_cases [] dir asked has) [ inl (k, below, is) ↦ absurd (omega (arith, below)) | inr same ↦ sym same ];
}
asks_one answered dir old new (inr both) = asks_none (λ asked. asked ≡ dir) old new both.1

pub asks_weaker : (W V : Option (List ℕ) → Type 0) (old new : History) → ((dir : Option (List ℕ)) → W dir → V dir) → AsksFor W old new → AsksFor V old new
asks_weaker W V old new weaker asks = record { dirs = asks.dirs; asked = asks.asked; once = asks.once; within = λ dir has. weaker dir (asks.within dir has) }

none_same : (dir : Option (List ℕ)) (ys : List (Option (List ℕ))) → ((y : Option (List ℕ)) → Contains ys y → is_same_dir dir y ≡ false) → AllByRecursion (λ y. is_same_dir dir y ≡ false) ys
none_same dir [] apart = tt
none_same dir (y ∷ ys) apart =
    (apart y (Contains-append_left (y ∷ []) ys y (Contains-push [] y)), none_same dir ys (λ other has. apart other (Contains-append_right (y ∷ []) ys other has)))

all_append : (P : Option (List ℕ) → Type 0) (xs ys : List (Option (List ℕ))) → AllByRecursion P xs → AllByRecursion P ys → AllByRecursion P (xs ++ ys)
all_append P [] ys first second = second
all_append P (x ∷ xs) ys first second = (first.0, all_append P xs ys first.1 second)

distinct_append : (xs ys : List (Option (List ℕ))) → IsDistinct is_same_dir xs → IsDistinct is_same_dir ys → ((x y : Option (List ℕ)) → Contains xs x → Contains ys y → is_same_dir x y ≡ false) → IsDistinct is_same_dir (xs ++ ys)
unfolding IsDistinct
distinct_append [] ys first second apart = second
distinct_append (x ∷ xs) ys first second apart = (
  all_append (λ y. is_same_dir x y ≡ false) xs ys first.0 (none_same x ys (λ y has. apart x y (Contains-append_left (x ∷ []) xs x (Contains-push [] x)) has)),
  distinct_append xs ys first.1 second (λ a b left right. apart a b (Contains-append_right (x ∷ []) xs a left) right),
)

pub asks_trans : (W V : Option (List ℕ) → Type 0) (a b c : History) → ((x y : Option (List ℕ)) → W x → V y → is_same_dir x y ≡ false) → AsksFor W a b → AsksFor V b c → AsksFor (λ dir. W dir ⊎ V dir) a c
asks_trans W V a b c apart first second = record {
  dirs = first.dirs ++ second.dirs;
  asked =
      second.asked ∙ ap (λ (l : List Asked). l ++ map an_ask.List second.dirs) first.asked ∙ append_assoc a.asked (map an_ask.List first.dirs) (map an_ask.List second.dirs)
      ∙ ap (λ (l : List Asked). a.asked ++ l) (sym (map-append an_ask.List first.dirs second.dirs));
  once = distinct_append first.dirs second.dirs first.once second.once (λ x y left right. apart x y (first.within x left) (second.within y right));
  within = λ dir has.
      elim (Contains-append_cases first.dirs second.dirs dir has) [ inl left ↦ inl (first.within dir left) | inr right ↦ inr (second.within dir right) ];
}

-- nothing was asked before, or behind
pub asks_then : (W : Option (List ℕ) → Type 0) (a b c : History) → AsksNothing a b → AsksFor W b c → AsksFor W a c
asks_then W a b c none asks =
    record { dirs = asks.dirs; asked = asks.asked ∙ ap (λ (l : List Asked). l ++ map an_ask.List asks.dirs) none; once = asks.once; within = asks.within }

pub asks_before : (W : Option (List ℕ) → Type 0) (a b c : History) → AsksFor W a b → AsksNothing b c → AsksFor W a c
asks_before W a b c asks none = record { dirs = asks.dirs; asked = none ∙ asks.asked; once = asks.once; within = asks.within }

-- ---- a path, and what stands below it

dir_longer : (mid new : History) → Extends mid new → (start : ℕ) (path : List ℕ) → WasDir mid start path → WasDir new start path
dir_longer mid new second start path was = record {
  moment = was.moment;
  begun = was.begun;
  past = omega (arith, was.past, second.later);
  is = ap (λ (m : Moment). is_dir (m.things path)) (second.stay was.moment was.past) ∙ was.is;
}

pub none_longer : (mid new : History) → Extends mid new → (start : ℕ) (path : List ℕ) → WasNoDir mid start path → WasNoDir new start path
none_longer mid new second start path was = record {
  moment = was.moment;
  begun = was.begun;
  past = omega (arith, was.past, second.later);
  none = ap (λ (m : Moment). is_dir (m.things path)) (second.stay was.moment was.past) ∙ was.none;
}

-- what is asked over a span is so over a longer one
pub from_longer : (E : List ℕ → Type 0) (since mid new : History) → Extends mid new → (from : List ℕ) (dir : Option (List ℕ)) → IsDirFrom E since mid from dir → IsDirFrom E since new from dir
from_longer E since mid new second from dir d = record {
  path = d.path;
  is = d.is;
  entered = d.entered;
  inside = d.inside;
  was = dir_longer mid new second since.last d.path d.was;
  apart = λ e from_there below. none_longer mid new second since.last (hg_in e) (d.apart e from_there below);
  stands = λ ours. d.stands (ours_first since mid new second ours);
  visible = λ ours. d.visible (ours_first since mid new second ours);
}

-- no directory is between a path and itself
never_between : (path d : List ℕ) → is_from (Some path) d ≡ true → is_below d path ≡ true → ⊥
never_between path d from below =
    elim (from_cases path d from) [
      | inl same ↦ back path d (subst (λ (q : List ℕ). is_below q d ≡ true) (sym same) (subst (λ (q : List ℕ). is_below d q ≡ true) same below)) below
      | inr under ↦ back path d under below
    ]

itself_visible : (moment : Moment) (path : List ℕ) → IsVisibleFrom moment (Some path) path
itself_visible moment path d from below = absurd (never_between path d from below)

-- a directory stood where one was seen
dir_there : (mid new : History) → Extends mid new → (start : ℕ) (path : List ℕ) → WasKind mid start path (Some a_kind.Dir) → WasDir new start path
dir_there mid new second start path was =
    dir_longer mid new second start path
    (record { moment = was.moment; begun = was.begun; past = was.past; is = dir_seen (mid.at was.moment) path (Some a_kind.Dir) (sym was.is) })

-- where nobody else steps since then, what was seen at a path since then is there still
seen_then : (since mid : History) → Passes since mid → (path : List ℕ) → WasKind mid since.last path (Some a_kind.Dir) → IsOurs since mid → is_dir ((now since).things path) ≡ true
seen_then since mid past path was ours =
    let none : mid.last ≡ since.last = ours_unstepped since mid past ours in
    let at : was.moment ≡ since.last = omega (arith, was.begun, was.past, none) in
    dir_seen (now since) path (Some a_kind.Dir)
    (ap (λ (m : Moment). kind_at m path) (sym (ap mid.at at ∙ past.past.stay since.last (omega arith))) ∙ sym was.is)

-- a directory that was seen at a path
pub look_asks : (known : Known) (E : List ℕ → Type 0) (since old mid new : History) → Passes since old → Passes old mid → Extends mid new → (path : List ℕ) (kind : Option Kind) → kind ≡ Some a_kind.Dir → WasKind mid since.last path kind
    → (known.served path ≡ false → E path) → AsksNothing old mid → AsksFor (IsDirWithin known E since new path) mid new → AsksFor (IsDirFrom E since new path) old new
look_asks known E since old mid new before first second path kind is was here none asks =
    asks_then (IsDirFrom E since new path) old mid new none
    (asks_weaker (IsDirWithin known E since new path) (IsDirFrom E since new path) mid new
    (λ dir.
    elim [
      | inl at ↦ record {
        path = path;
        is = at.0;
        entered = here at.1;
        inside = from_same path path refl;
        was = dir_there mid new second since.last path seen;
        apart = λ d from_there below. absurd (never_between path d from_there below);
        stands = λ ours. seen_then since mid (passes_trans since old mid before first) path seen (ours_first since mid new second ours);
        visible = λ ours. itself_visible (now since) path;
      }
      | inr below ↦ in_path dir below
    ])
    asks)
  where
    seen : WasKind mid since.last path (Some a_kind.Dir)
    seen = subst (WasKind mid since.last path) is was

    in_path : (dir : Option (List ℕ)) → IsDirBelow E since new (Some path) dir → IsDirFrom E since new path dir
    in_path dir d =
        record { path = d.path; is = d.is; entered = d.entered; inside = from_below path d.path d.inside; was = d.was; apart = d.apart; stands = d.stands; visible = d.visible }

-- ---- the names one by one

-- a path is from one name of a directory at most
joined_apart : (dir : Option (List ℕ)) (a b : List ℕ) → has_slash b ≡ false → is_below (joined dir a) (joined dir b) ≡ true → ⊥
joined_apart None a b plain below = let not = below_name a b plain in absurd (cc (not, below))
joined_apart (Some dir) a b plain below =
    elim (below_of_joined (joined (Some dir) a) dir b plain below) [
      | inl same ↦ let never = below_itself dir in absurd (cc (never, subst (λ (q : List ℕ). is_below dir q ≡ true) same (below_joined dir a)))
      | inr higher ↦ back dir (joined (Some dir) a) (below_joined dir a) higher
    ]

pub one_from : (dir : Option (List ℕ)) (a b path : List ℕ) → has_slash a ≡ false → has_slash b ≡ false → is_from (Some (joined dir a)) path ≡ true → is_from (Some (joined dir b)) path ≡ true → joined dir a ≡ joined dir b
one_from dir a b path plain_a plain_b from_a from_b =
    elim (from_cases (joined dir a) path from_a) [
      | inl is_a ↦
          elim (from_cases (joined dir b) path from_b) [
            | inl is_b ↦ is_a ∙ sym is_b
            | inr under_b ↦ absurd (joined_apart dir b a plain_a (subst (λ (q : List ℕ). is_below (joined dir b) q ≡ true) (sym is_a) under_b))
          ]
      | inr under_a ↦
          elim (from_cases (joined dir b) path from_b) [
            | inl is_b ↦ absurd (joined_apart dir a b plain_b (subst (λ (q : List ℕ). is_below (joined dir a) q ≡ true) (sym is_b) under_a))
            | inr under_b ↦
                elim (below_compared (joined dir a) (joined dir b) path under_a under_b) [
                  | inl same ↦ same
                  | inr compared ↦ elim compared [ inl above ↦ absurd (joined_apart dir a b plain_b above) | inr deeper ↦ absurd (joined_apart dir b a plain_a deeper) ]
                ]
          ]
    ]

all_at : (P : List ℕ → Type 0) (xs : List (List ℕ)) (i : ℕ) (d : List ℕ) → AllByRecursion P xs → i < length xs → P (get_or xs i d)
all_at P [] i d all below = absurd (omega (arith, below))
all_at P (x ∷ xs) zero d all below = all.0
all_at P (x ∷ xs) (suc i) d all below = all_at P xs i d all.1 (omega (arith, below))

pub distinct_take : (xs : List (List ℕ)) (i : ℕ) (d : List ℕ) → IsDistinct bytes_eq xs → i < length xs → is_among (get_or xs i d) (take i xs) ≡ true → ⊥
unfolding IsDistinct
distinct_take [] i d own below among = absurd (omega (arith, below))
distinct_take (x ∷ xs) zero d own below among = absurd (cc (among))
distinct_take (x ∷ xs) (suc i) d own below among =
    elim (or_cases (bytes_eq (get_or xs i d) x) (is_among (get_or xs i d) (take i xs)) among) [
      | inl same ↦
          let never : bytes_eq x (get_or xs i d) ≡ false = all_at (λ y. bytes_eq x y ≡ false) xs i d own.0 (omega (arith, below)) in
          let is : bytes_eq x (get_or xs i d) ≡ true = (bytes_eq-Decides x (get_or xs i d)).1 (sym (same_of (get_or xs i d) x same)) in absurd (cc (never, is))
      | inr later ↦ distinct_take xs i d own.1 (omega (arith, below)) later
    ]

pub among_take : (name : List ℕ) (names : List (List ℕ)) (i : ℕ) → is_among name (take i names) ≡ true → is_among name names ≡ true
among_take name names i among =
    ap (is_among name) (sym (take-append-drop i names)) ∙ list_any-append (bytes_eq name) (take i names) (drop i names) ∙ or_left (is_among name (take i names)) (is_among name (drop i names)) among

-- what was asked for the first names was asked for the names
pub each_asks : (E : List ℕ → Type 0) (since old new : History) (dir : Option (List ℕ)) (names : List (List ℕ)) (i : ℕ) → AsksFor (IsDirAmong E since new dir (take i names)) old new → AsksFor (IsDirAmong E since new dir names) old new
each_asks E since old new dir names i asks =
    asks_weaker (IsDirAmong E since new dir (take i names)) (IsDirAmong E since new dir names) old new (λ asked (name, among, from). (name, among_take name names i among, from)) asks

plain_of : (dir : Option (List ℕ)) (names : List (List ℕ)) (name : List ℕ) → AreFit dir names → is_among name names ≡ true → has_slash name ≡ false
plain_of dir names name fit among = component_plain name (fit_of dir names name fit among).component

among_here : (name : List ℕ) (names : List (List ℕ)) (i : ℕ) → i < length names → name ≡ get_or names i name → is_among name (take (i + 1) names) ≡ true
among_here name names i below is =
    list_any_more (bytes_eq name) names i name below ∙ or_right _ _ ((bytes_eq-Decides name (get_or names i name)).1 is)

among_before : (name : List ℕ) (names : List (List ℕ)) (i : ℕ) (d : List ℕ) → i < length names → is_among name (take i names) ≡ true → is_among name (take (i + 1) names) ≡ true
among_before name names i d below among = list_any_more (bytes_eq name) names i d below ∙ or_left _ _ among

apart_names : (E : List ℕ → Type 0) (since mid new : History) (dir : Option (List ℕ)) (names : List (List ℕ)) (i : ℕ) (name : List ℕ) → AreFit dir names → i < length names → name ≡ get_or names i name
    → (x y : Option (List ℕ)) → IsDirAmong E since mid dir (take i names) x → IsDirFrom E since new (joined dir name) y → is_same_dir x y ≡ false
apart_names E since mid new dir names i name fit below is x y (other, among, f) g =
    rw (f.is, g.is) (elim (cases_Bool (bytes_eq f.path g.path)) [
      | inl same ↦ absurd (clash (same_of f.path g.path same))
      | inr apart ↦ apart
    ])
  where
    here : is_among name names ≡ true
    here = among_take name names (i + 1) (among_here name names i below is)

    clash : f.path ≡ g.path → ⊥
    clash same =
        let plain_other : has_slash other ≡ false = plain_of dir names other fit (among_take other names i among) in
        let plain : has_slash name ≡ false = plain_of dir names name fit here in
        let joins : joined dir other ≡ joined dir name =
        one_from dir other name g.path plain_other plain (subst (λ (p : List ℕ). is_from (Some (joined dir other)) p ≡ true) same f.inside) g.inside in
        let one : other ≡ get_or names i name = (joined_same dir other dir name plain_other plain joins).1 ∙ is in
        distinct_take names i name fit.distinct below (subst (λ (n : List ℕ). is_among n (take i names) ≡ true) one among)

-- a name of a directory that fits has no slash
pub plain_at : (dir : Option (List ℕ)) (names : List (List ℕ)) (i : ℕ) (name text : List ℕ) → AreFit dir names → i < length names → name ≡ get_or names i name → text ≡ name → has_slash text ≡ false
plain_at dir names i name text fit below is same =
    subst (λ (t : List ℕ). has_slash t ≡ false) (sym same) (plain_of dir names name fit (among_take name names (i + 1) (among_here name names i below is)))

-- one name more
pub each_more_asks : (E : List ℕ → Type 0) (since old mid new : History) → Extends mid new → (dir : Option (List ℕ)) (names : List (List ℕ)) (i : ℕ) (name text path : List ℕ) → AreFit dir names → i < length names
    → name ≡ get_or names i name → text ≡ name → path ≡ joined dir text
    → AsksFor (IsDirAmong E since mid dir (take i names)) old mid → AsksFor (IsDirFrom E since new path) mid new → AsksFor (IsDirAmong E since new dir (take (i + 1) names)) old new
each_more_asks E since old mid new second dir names i name text path fit below is same at before one =
    asks_weaker (λ asked. IsDirAmong E since mid dir (take i names) asked ⊎ IsDirFrom E since new (joined dir name) asked) (IsDirAmong E since new dir (take (i + 1) names)) old new
    (λ asked.
    elim [
      | inl (other, among, f) ↦ (other, among_before other names i name below among, from_longer E since mid new second (joined dir other) asked f)
      | inr f ↦ (name, among_here name names i below is, f)
    ])
    (asks_trans (IsDirAmong E since mid dir (take i names)) (IsDirFrom E since new (joined dir name)) old mid new (apart_names E since mid new dir names i name fit below is) before
    (subst (λ (p : List ℕ). AsksFor (IsDirFrom E since new p) mid new) (at ∙ ap (joined dir) same) one))

-- ---- a directory, and what stands in it

pub dir_asks : (E : List ℕ → Type 0) (since old new : History) (dir : Option (List ℕ)) → AsksFor (λ asked. asked ≡ dir) old new → AsksFor (IsDirIn E since new dir) old new
dir_asks E since old new dir asks = asks_weaker (λ asked. asked ≡ dir) (IsDirIn E since new dir) old new (λ asked is. inl is) asks

-- the directory alone over a longer span, in which nothing more is asked
pub dir_asks_on : (E : List ℕ → Type 0) (since old mid new : History) (dir : Option (List ℕ)) → AsksFor (λ asked. asked ≡ dir) old mid → AsksNothing mid new → AsksFor (IsDirIn E since new dir) old new
dir_asks_on E since old mid new dir asks none = dir_asks E since old new dir (asks_before (λ asked. asked ≡ dir) old mid new asks none)

not_inside : (dir : Option (List ℕ)) (path : List ℕ) → is_inside dir path ≡ true → is_same_dir dir (Some path) ≡ false
not_inside None path inside = refl
not_inside (Some dir) path inside =
    elim (cases_Bool (bytes_eq dir path)) [
      | inl same ↦
          let never = below_itself dir in absurd (cc (never, subst (λ (q : List ℕ). is_below dir q ≡ true) (sym (same_of dir path same)) inside))
      | inr apart ↦ apart
    ]

pub visit_asks : (E : List ℕ → Type 0) (since old mid later new : History) → Passes since old → Passes old mid → Passes mid later → Extends later new → (dir : Option (List ℕ)) (names again : List (List ℕ)) (holds : Bool) → AreFit dir names → again ≡ names
    → HoldsFor (Untouched later mid.last) (now mid) dir holds → holds ≡ false → ((d : List ℕ) → dir ≡ Some d → WasNoDir later mid.last (hg_in d))
    → AsksFor (λ asked. asked ≡ dir) old mid → AsksNothing mid later → AsksFor (IsDirAmong E since new dir again) later new → AsksFor (IsDirIn E since new dir) old new
visit_asks E since old mid later new before first second third dir names again holds fit same found never apart_here own none asks =
    asks_weaker (λ asked. (asked ≡ dir) ⊎ IsDirAmong E since new dir names asked) (IsDirIn E since new dir) old new
    (λ asked. elim [ inl is ↦ inl is | inr (name, among, f) ↦ inr (in_dir asked name among f) ])
    (asks_trans (λ asked. asked ≡ dir) (IsDirAmong E since new dir names) old later new apart (asks_before (λ asked. asked ≡ dir) old mid later own none)
    (subst (λ (l : List (List ℕ)). AsksFor (IsDirAmong E since new dir l) later new) same asks))
  where
    past : Passes since mid
    past = passes_trans since old mid before first

    no_repository : (path : List ℕ) → is_inside dir path ≡ true → IsOurs since new → holds_repository (now since) dir ≡ false
    no_repository path inside ours =
        let start : IsOurs since later = ours_first since later new third ours in
        let within : IsOurs mid later = ours_second since mid later past.past start in
        ap (λ (m : Moment). holds_repository m dir) (sym (now_same since mid past (ours_first since mid later second.past start)))
        ∙ sym (found path (ours_untouched mid later second within path) inside) ∙ never

    own_none : (d : List ℕ) → dir ≡ Some d → WasNoDir new since.last (hg_in d)
    own_none d is =
        let was = none_longer later new third mid.last (hg_in d) (apart_here d is) in record { moment = was.moment; begun = omega (arith, past.past.later, was.begun); past = was.past; none = was.none }

    in_dir : (asked : Option (List ℕ)) (name : List ℕ) → is_among name names ≡ true → IsDirFrom E since new (joined dir name) asked → IsDirBelow E since new dir asked
    in_dir asked name among f =
        let inside : is_inside dir f.path ≡ true = inside_joined dir name f.path f.inside in record {
          path = f.path;
          is = f.is;
          entered = f.entered;
          inside = inside;
          was = f.was;
          apart = apart_up (λ d. WasNoDir new since.last (hg_in d)) dir name f.path (plain_of dir names name fit among) own_none f.inside f.apart;
          stands = f.stands;
          visible = λ ours. visible_up (now since) dir name f.path (plain_of dir names name fit among) (no_repository f.path inside ours) f.inside (f.visible ours);
        }

    apart : (x y : Option (List ℕ)) → x ≡ dir → IsDirAmong E since new dir names y → is_same_dir x y ≡ false
    apart x y is (name, among, f) = rw (is, f.is) (not_inside dir f.path (inside_joined dir name f.path f.inside))

-- ---- paths that are read

pub reads_none : (C : List ℕ → Type 0) (old new : History) → AsksNothing old new → AsksReads C old new
reads_none C old new none = record { paths = []; asked = none ∙ sym (append-nil old.asked); compared = λ path (k, below, is). absurd (omega (arith, below)) }

reads_map : (n : ℕ) (path : List ℕ) → map an_ask.Read (replicate n path) ≡ replicate n (an_ask.Read path)
reads_map zero path = refl
reads_map (suc n) path = ap (λ (l : List Asked). an_ask.Read path ∷ l) (reads_map n path)

reads_same : (n : ℕ) (path other : List ℕ) → Contains (replicate n path) other → other ≡ path
reads_same zero path other (k, below, is) = absurd (omega (arith, below))
reads_same (suc n) path other has =
    elim (Contains-append_cases (path ∷ []) (replicate n path) other has) [
      | inl one ↦ elim (Contains-push_cases [] path other one) [ inl (k, below, is) ↦ absurd (omega (arith, below)) | inr same ↦ sym same ]
      | inr later ↦ reads_same n path other later
    ]

-- one path that is read piece by piece
pub reads_pieces : (C : List ℕ → Type 0) (size : ℕ) (path : List ℕ) (old new : History) → C path → Reads size path old new → AsksReads C old new
reads_pieces C size path old new compared reads = record {
  paths = replicate reads.pieces path;
  asked = reads.asked ∙ ap (λ (l : List Asked). old.asked ++ l) (sym (reads_map reads.pieces path));
  compared = λ other has. subst C (sym (reads_same reads.pieces path other has)) compared;
}

pub reads_weaker : (C D : List ℕ → Type 0) (old new : History) → ((path : List ℕ) → C path → D path) → AsksReads C old new → AsksReads D old new
reads_weaker C D old new weaker reads = record { paths = reads.paths; asked = reads.asked; compared = λ path has. weaker path (reads.compared path has) }

pub reads_trans : (C : List ℕ → Type 0) (a b c : History) → AsksReads C a b → AsksReads C b c → AsksReads C a c
reads_trans C a b c first second = record {
  paths = first.paths ++ second.paths;
  asked =
      second.asked ∙ ap (λ (l : List Asked). l ++ map an_ask.Read second.paths) first.asked ∙ append_assoc a.asked (map an_ask.Read first.paths) (map an_ask.Read second.paths)
      ∙ ap (λ (l : List Asked). a.asked ++ l) (sym (map-append an_ask.Read first.paths second.paths));
  compared = λ path has.
      elim (Contains-append_cases first.paths second.paths path has) [ inl left ↦ first.compared path left | inr right ↦ second.compared path right ];
}
