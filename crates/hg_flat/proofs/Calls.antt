-- What a whole status asks the tree: first the patterns, then what is compared, and then what is listed.
use Rattle.std.proofs.Common.{ℕ, ◌≡◌, Bool, true, false, cond, List, [], ◌++◌, map, append-nil, Option, Some, None, refl, sym, ap, ◌∙◌, subst, inl, inr, arith}
use Rattle.std.specs.Prelude.{IsTrue}
use Rattle.hg_ignore.specs.Patterns.{IsGiven, reads_at}
use Rattle.hg_ignore.specs.Source.{AsksOnce, FileDuring, has_file, the_read}
use Rattle.hg_ignore.specs.State.{Ignore, Ignored, Piece}
use Rattle.hg_tree.specs.History.{Extends, History, IsOurs, Passes, now}
use Rattle.hg_tree.specs.Moment.{Moment}
use Rattle.hg_tree.specs.declared.asked.Asked.{Asked}
use Rattle.hg_tree.specs.declared.asked.Asked.TheVariants as an_ask
use Rattle.hg_tree.proofs.Histories.{extends_same, extends_trans}
use Rattle.hg_tree.proofs.Spans.{ours_first, passes_trans}
use Rattle.hg_flat.specs.Asked.{AsksAll, AsksBehind, AsksFor, AsksReads, Holding, IsAskedDir, IsDirIn, IsListedDir, IsPatternsRead, IsTaken, IsUnheld, IsUnheldThen, IsVisibleDir, WasTaken, WasUnheld, WasVisible, nothing_holds, pattern_reads}
use Rattle.hg_flat.specs.Course.{AsksPatterns}
use Rattle.hg_flat.specs.Passed.{Known}
use Rattle.hg_flat.specs.Parent.{Asking, WasAsked}
use Rattle.hg_flat.specs.Patterns.{needs_patterns}
use Rattle.hg_listing.specs.declared.row.Wanted.{Wanted}
use Rattle.hg_flat.proofs.Asking.{asked_later, asked_longer}
use Rattle.hg_flat.proofs.Asks.{asks_none, reads_none}

-- ---- the patterns

during_longer : (a b c : History) → Extends b c → FileDuring a b → FileDuring a c
during_longer a b c second (k, from, to, has) = (k, from, omega (arith, to, second.later), ap has_file (second.stay k to) ∙ has)

pub read_longer : (wanted : Wanted) (a b c : History) (first : List Asked) → Extends b c → IsPatternsRead wanted a b first → IsPatternsRead wanted a c first
read_longer wanted a b c first second (inl none) = inl none
read_longer wanted a b c first second (inr (needed, (during, is))) = inr (needed, (during_longer a b c second during, is))

-- one read of the file is
pub asks_read : (wanted : Wanted) (old new : History) → needs_patterns wanted ≡ true → AsksOnce old new → AsksPatterns wanted old new
asks_read wanted old new needed (inl none) = ([], inl refl, none ∙ sym (append-nil old.asked))
asks_read wanted old new needed (inr (during, is)) = (the_read, inr (needed, (during, refl)), is)

pub own_needed : (wanted : Wanted) (old new : History) → needs_patterns wanted ≡ true → new.asked ≡ old.asked ++ reads_at (now old) → new.asked ≡ old.asked ++ pattern_reads wanted (now old)
own_needed wanted old new needed is = is ∙ sym (ap (λ (b : Bool). old.asked ++ cond b (reads_at (now old)) []) needed)

-- nothing is asked where no patterns are needed
pub asks_unneeded : (wanted : Wanted) (h : History) → AsksPatterns wanted h h
asks_unneeded wanted h = ([], inl refl, sym (append-nil h.asked))

pub own_unneeded : (wanted : Wanted) (h : History) → needs_patterns wanted ≡ false → h.asked ≡ h.asked ++ pattern_reads wanted (now h)
own_unneeded wanted h none = sym (ap (λ (b : Bool). h.asked ++ cond b (reads_at (now h)) []) none ∙ append-nil h.asked)

-- ---- all calls

behind : (first : List Asked) (asks : Asking) (V W : Option (List ℕ) → Type 0) (a b c d : History) → Extends a b → Extends b c → Extends c d → b.asked ≡ a.asked ++ first → AsksReads (WasAsked asks b c) b c
    → AsksFor V c d → ((dir : Option (List ℕ)) → V dir → W dir) → AsksBehind first asks W a d
behind first asks V W a b c d first_past second_past third_past is reads lists weaker = record {
  paths = reads.paths;
  dirs = lists.dirs;
  asked = lists.asked ∙ ap (λ (l : List Asked). l ++ map an_ask.List lists.dirs) (reads.asked ∙ ap (λ (l : List Asked). l ++ map an_ask.Read reads.paths) is);
  compared = λ path has. asked_longer asks a c d path (extends_trans a b c first_past second_past) third_past (asked_later asks a b c path first_past (reads.compared path has));
  once = lists.once;
  within = λ dir has. weaker dir (lists.within dir has);
}

visible_in : (E : List ℕ → Type 0) (old new : History) (dir : Option (List ℕ)) → IsDirIn E old new None dir → IsOurs old new → IsVisibleDir (now old) dir
visible_in E old new dir (inl is) ours = subst (IsVisibleDir (now old)) (sym is) tt
visible_in E old new dir (inr d) ours = subst (IsVisibleDir (now old)) (sym d.is) (d.stands ours, λ above under. d.visible ours above refl under)

-- a directory that is gone into isn't ignored, or I is wanted
taken_in : (known : Known) (wanted : Wanted) (state : List Piece) (old new : History) (moment : Moment) (dir : Option (List ℕ)) → IsDirIn (IsAskedDir known wanted state) old new None dir → state ≡ Ignore moment → wanted.i ≡ false → IsTaken moment dir
taken_in known wanted state old new moment dir (inl is) at unwanted = subst (IsTaken moment) (sym is) tt
taken_in known wanted state old new moment dir (inr d) at unwanted =
    subst (IsTaken moment) (sym d.is) (subst (λ (s : List Piece). Ignored s d.path → ⊥) at (d.entered.0 unwanted))

-- so it was at moments of the call
was_visible_in : (E : List ℕ → Type 0) (old new : History) (dir : Option (List ℕ)) → IsDirIn E old new None dir → WasVisible new old.last dir
was_visible_in E old new dir (inl is) = subst (WasVisible new old.last) (sym is) tt
was_visible_in E old new dir (inr d) = subst (WasVisible new old.last) (sym d.is) (d.was, λ above under. d.apart above refl under)

was_taken_in : (known : Known) (wanted : Wanted) (state : List Piece) (old new : History) (dir : Option (List ℕ)) → (IsTrue old.told → IsGiven old new state) → IsDirIn (IsAskedDir known wanted state) old new None dir → wanted.i ≡ false → WasTaken old new dir
was_taken_in known wanted state old new dir given (inl is) unwanted = subst (WasTaken old new) (sym is) tt
was_taken_in known wanted state old new dir given (inr d) unwanted = subst (WasTaken old new) (sym d.is) (record { state = state; given = given; passed = d.entered.0 unwanted })

-- a directory whose nodes don't serve as its names was unheld at a moment of the call, and, where nobody else steps, is so at the start
pub record AreUnheld (holds : Holding) (known : Known) (old new : History) : Type 0 where
  pub was : (dir : List ℕ) → known.served dir ≡ false → IsUnheld holds old new dir
  pub own : IsOurs old new → (dir : List ℕ) → known.served dir ≡ false → IsUnheldThen holds (now old) (Some dir)

unheld_in : (holds : Holding) (known : Known) (wanted : Wanted) (state : List Piece) (old new : History) (dir : Option (List ℕ)) → AreUnheld holds known old new → IsDirIn (IsAskedDir known wanted state) old new None dir → WasUnheld holds old new dir
unheld_in holds known wanted state old new dir are (inl is) = subst (WasUnheld holds old new) (sym is) tt
unheld_in holds known wanted state old new dir are (inr d) = subst (WasUnheld holds old new) (sym d.is) (are.was d.path d.entered.1)

own_unheld_in : (holds : Holding) (known : Known) (wanted : Wanted) (state : List Piece) (old new : History) (dir : Option (List ℕ)) → AreUnheld holds known old new → IsDirIn (IsAskedDir known wanted state) old new None dir → IsOurs old new
    → IsUnheldThen holds (now old) dir
own_unheld_in holds known wanted state old new dir are (inl is) ours = subst (IsUnheldThen holds (now old)) (sym is) tt
own_unheld_in holds known wanted state old new dir are (inr d) ours = subst (IsUnheldThen holds (now old)) (sym d.is) (are.own ours d.path d.entered.1)

-- nothing holds for any
pub unheld_none : (known : Known) (state : List Piece) (old new : History) → Extends old new → (IsTrue old.told → IsGiven old new state) → AreUnheld nothing_holds known old new
unheld_none known state old new past given = record {
  was = λ dir none. record { state = state; given = given; at = old.last; from = omega arith; upto = past.later; none = λ holds. holds };
  own = λ ours dir none holds. holds;
}

module _ (holds : Holding) (known : Known) (wanted : Wanted) (asks : Asking) (state : List Piece) (old mid later new : History) (first : Passes old mid) (second : Passes mid later) (third : Passes later new)
    (still : IsOurs old mid → needs_patterns wanted ≡ true → state ≡ Ignore (now old)) (given : needs_patterns wanted ≡ true → IsTrue old.told → IsGiven old new state) (unheld : needs_patterns wanted ≡ true → AreUnheld holds known old new) where
  -- what the listing goes into
  abbrev Entered : Option (List ℕ) → Type 0
  Entered dir = (needs_patterns wanted ≡ true) × IsDirIn (IsAskedDir known wanted state) old new None dir

  listed : (dir : Option (List ℕ)) → Entered dir → IsListedDir holds wanted old new dir
  listed dir (needed, within) = record {
    needed = needed;
    was = was_visible_in (IsAskedDir known wanted state) old new dir within;
    entered = λ unwanted. was_taken_in known wanted state old new dir (given needed) within unwanted;
    unheld = unheld_in holds known wanted state old new dir (unheld needed) within;
    own = λ ours. (
      visible_in (IsAskedDir known wanted state) old new dir within ours,
      λ unwanted. taken_in known wanted state old new (now old) dir within (still (ours_first old mid new (passes_trans mid later new second third).past ours) needed) unwanted,
    );
    own_unheld = λ ours. own_unheld_in holds known wanted state old new dir (unheld needed) within ours;
  }

  pub all_asks : AsksPatterns wanted old mid → AsksReads (WasAsked asks mid later) mid later → AsksFor Entered later new → AsksAll wanted asks (IsListedDir holds wanted old new) old new
  all_asks (first_asks, are, is) reads lists = (
    first_asks,
    read_longer wanted old mid new first_asks (passes_trans mid later new second third).past are,
    behind first_asks asks Entered (IsListedDir holds wanted old new) old mid later new first.past second.past third.past is reads lists listed,
  )

  pub own_asks : mid.asked ≡ old.asked ++ pattern_reads wanted (now old) → AsksReads (WasAsked asks mid later) mid later → AsksFor Entered later new → AsksBehind (pattern_reads wanted (now old)) asks (IsListedDir holds wanted old new) old new
  own_asks is reads lists = behind (pattern_reads wanted (now old)) asks Entered (IsListedDir holds wanted old new) old mid later new first.past second.past third.past is reads lists listed

-- a status that stops behind the patterns
pub asks_first : (holds : Holding) (wanted : Wanted) (asks : Asking) (old new : History) → Extends old new → AsksPatterns wanted old new → AsksAll wanted asks (IsListedDir holds wanted old new) old new
asks_first holds wanted asks old new past (first, are, is) = (
  first,
  are,
  behind first asks (IsListedDir holds wanted old new) (IsListedDir holds wanted old new) old new new new past (extends_same new) (extends_same new) is (reads_none (WasAsked asks new new) new new refl) (asks_none (IsListedDir holds wanted old new) new new refl) (λ dir within. within),
)

-- one that stops among the tracked paths
pub asks_second : (holds : Holding) (wanted : Wanted) (asks : Asking) (old mid new : History) → Extends old mid → Extends mid new → AsksPatterns wanted old mid → AsksReads (WasAsked asks mid new) mid new → AsksAll wanted asks (IsListedDir holds wanted old new) old new
asks_second holds wanted asks old mid new past second (first, are, is) reads = (
  first,
  read_longer wanted old mid new first second are,
  behind first asks (IsListedDir holds wanted old new) (IsListedDir holds wanted old new) old mid new new past second (extends_same new) is reads (asks_none (IsListedDir holds wanted old new) new new refl) (λ dir within. within),
)
