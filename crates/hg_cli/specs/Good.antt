-- What keeps records good over lists of calls of the program, scripts included.
use Rattle.std.specs.Prelude.{ℕ, ◌≡◌, ◌≤◌, List, Option, None, Ok}
use Rattle.hg_base.specs.Runs.{RunsEach}
use Rattle.hg_cli.specs.Calls.{Calls, Given, devices}
use Rattle.hg_cli.specs.Run.{IsRun}
use Rattle.hg_cli.specs.Said.{plainly, Said}
use Rattle.hg_cli.specs.Seen.{Seen, Views, seen, shelf_course}
use Rattle.hg_ignore.specs.Patterns.{Apart}
use Rattle.hg_report.specs.declared.fault.Fault.{Fault}
use Rattle.hg_session.specs.Good.{IsFair, IsGoodGround, LeavesGood}
use Rattle.hg_session.specs.Listed.{IsOwn}
use Rattle.hg_session.specs.Put.{Puts}
use Rattle.hg_session.specs.Status.{IsFullText}
use Rattle.hg_shelf.specs.History as shelf
use Rattle.hg_shelf.specs.History.{Files}
use Rattle.hg_shelf.specs.Images.{last_scene, scene}
use Rattle.hg_tree.specs.History as tree
use Rattle.hg_words.specs.Command.{command_of}
use Rattle.hg_words.specs.declared.given.Command.{Command}
use Rattle.hg_words.specs.declared.given.Command.TheVariants as a_command

-- a shelf between two calls, with what the working copy was behind the call before
abbrev pub Between : Type 0 → Type 0
Between S = S × tree.History

-- what is seen of a call between two shelves
abbrev pub seen_of : {T S G O E : Type 0} → Views T S G O E → Given T G O E → S → S → Seen
seen_of views call old new = seen views (devices call.old old) (devices call.new new)

-- a call leads from one shelf to another, and what it needs of others is kept. They may have changed the working copy since the call before
pub record CallsFairly {T S G O E : Type 0} (views : Views T S G O E) (call : Given T G O E) (old new : Between S) : Type 0 where
  pub does : Calls (plainly (seen views)) call old.0 new.0
  pub since : tree.Extends old.1 (views.tree call.old.tree)
  pub behind : new.1 ≡ views.tree call.new.tree
  pub fair : IsFair (views.tree call.new.tree) (seen_of views call old.0 new.0).looked (seen_of views call old.0 new.0).saved

-- a shelf may be called upon: at its last moment whatever a crash leaves is good by what the working copy was then, no docket of it is ahead of the one that
-- stands, and the data file that this one names is there
abbrev pub IsGoodShelf : {T S G O E : Type 0} → Views T S G O E → Between S → Type 0
IsGoodShelf views now = IsGoodGround now.1 (last_scene (shelf_course views now.0))

-- a shelf is begun anew after a crash: its reads show what the crash left, and another crash would leave nothing else
pub record IsBegunUpon {T S G O E : Type 0} (views : Views T S G O E) (left : Files) (shelf : S) : Type 0 where
  pub shown : (last_scene (shelf_course views shelf)).files ≡ left
  pub alone : (c : Files) → (last_scene (shelf_course views shelf)).leaves c → c ≡ left

-- at each moment of a call whatever a crash leaves is good by what the working copy is at the call's end, and a shelf that is begun anew upon it may be called upon
abbrev pub CallsGood : {T S G O E : Type 0} → Views T S G O E → Given T G O E → Between S → Between S → Type 0
CallsGood {S = S} views call old new =
    (k : ℕ) → (shelf_course views old.0).history.last ≤ k → k ≤ (shelf_course views new.0).history.last → LeavesGood new.1 (scene (shelf_course views new.0) k)
    × ((left : Files) → (scene (shelf_course views new.0) k).leaves left → (shelf : S) → IsBegunUpon views left shelf → IsGoodShelf views (shelf, new.1))

-- so it is in every list of calls, each with what it needs of others, from a shelf that may be called upon; and the last one is such a one
abbrev pub EachCallIsGood : {T S G O E : Type 0} → Views T S G O E → Type 0
EachCallIsGood {T = T} {S = S} {G = G} {O = O} {E = E} views =
    (calls : List (Given T G O E)) (first last : Between S) → IsGoodShelf views first → RunsEach (CallsFairly views) calls first last
    → RunsEach (CallsGood views) calls first last × IsGoodShelf views last

-- ---- what a status prints

-- a status without a fault printed exactly the text of the full listing of what stood there at its start
abbrev pub PrintsFull : Command → Seen → Option Fault → Type 0
PrintsFull (a_command.Status flags) part fault =
    fault ≡ None → Puts (IsFullText flags (shelf.now part.looked.shelf.old).files (tree.now part.looked.tree.old)) part.out
PrintsFull command part fault = Unit {0}

-- as it was run, and that each status printed so
abbrev pub truly : {D : Type 0} → (D → D → Seen) → Said D
truly seen = record {
  Rests = (plainly seen).Rests;
  Runs = λ words old new code fault. IsRun words (seen old new) code fault × ((command : Command) → command_of words ≡ Ok command → PrintsFull command (seen old new) fault);
  Stops = (plainly seen).Stops;
}

-- a call during which nobody else makes a step, and no two states of ignore patterns share a hash: each status of it, in a script too, prints the full listing
abbrev pub CallsTruly : {T S G O E : Type 0} → Views T S G O E → Given T G O E → Between S → Between S → Type 0
CallsTruly views call old new =
    IsOwn (seen_of views call old.0 new.0).looked → Apart (views.tree call.new.tree) → Calls (truly (seen views)) call old.0 new.0

-- so it is in every list of calls, with what others do between them, from a shelf that may be called upon, which may be what a crash left
abbrev pub EachStatusIsFull : {T S G O E : Type 0} → Views T S G O E → Type 0
EachStatusIsFull {T = T} {S = S} {G = G} {O = O} {E = E} views =
    (calls : List (Given T G O E)) (first last : Between S) → IsGoodShelf views first → RunsEach (CallsFairly views) calls first last → RunsEach (CallsTruly views) calls first last
