-- What the line of a script does where it has no words, or where there is no memory for them.
use Rattle.std.proofs.Common.{◌≡◌, ℕ, ◌<◌, Bool, true, false, cond, List, [], ◌∷◌, length, Option, Some, None, Ok, Err, refl, sym, ap, ◌∙◌, subst, arith, eqb, inl, inr}
use Rattle.std.specs.Prelude.{IfSome, MatchBool, is_some, ◌⊎◌}
use Rattle.std.specs.List.{slice_get, slice_split}
use Rattle.std.specs.Str.{bytes_eq}
use Rattle.std.proofs.lemmas.Bool.{eq-eqb, ne_eqb}
use Rattle.std.proofs.lemmas.List.Splits.{length-slice_split}
use Rattle.hg_cli.specs.Load.{StopsLoad}
use Rattle.hg_cli.specs.Kinds.{Kind, Serves, ServesWords, a_script, kind_in, kind_of, one_command}
use Rattle.hg_cli.specs.Run.{Carries, IsRun, IsStopped, call_of}
use Rattle.hg_cli.specs.Said.{plainly}
use Rattle.hg_cli.specs.Script.{ServesLine, ServesTurn, of_line, script_name}
use Rattle.hg_cli.specs.Seen.{Seen}
use Rattle.hg_lines.specs.Script.{words_of}
use Rattle.hg_report.specs.declared.fault.Fault.{Fault}
use Rattle.hg_report.specs.declared.fault.Fault.TheVariants as a_fault
use Rattle.hg_lines.specs.declared.fault.LineFault.{LineFault}
use Rattle.hg_lines.specs.declared.fault.LineFault.TheVariants as a_line
use Rattle.hg_session.specs.Answered.{IsAnswered}
use Rattle.hg_session.specs.Call.{Sink}
use Rattle.hg_session.specs.Cause.{CommandCause}
use Rattle.hg_session.specs.Put.{IsFaultOrMemory, Tells}
use Rattle.hg_lines.proofs.Turning.{fails_with}
use Rattle.hg_report.specs.Cause as cause
use Rattle.hg_words.specs.Command.{command_of}
use Rattle.hg_words.specs.declared.fault.WordsFault.{WordsFault}
use Rattle.hg_words.specs.declared.fault.WordsFault.TheVariants as a_words
use Rattle.hg_words.specs.declared.given.Command.{Command}
use Rattle.hg_words.specs.declared.given.Command.TheVariants as a_command

-- a fault or want of memory is a fault
pub some_fault : (answered : Option Fault) (fault : Fault) → IsFaultOrMemory answered fault → is_some answered ≡ true
some_fault answered fault (inl is) = ap is_some is
some_fault answered fault (inr is) = ap is_some is

out_of_memory : (answered : Option Fault) → IsFaultOrMemory answered a_fault.OutOfMemory → answered ≡ Some a_fault.OutOfMemory
out_of_memory answered (inl is) = is
out_of_memory answered (inr is) = is

-- a command other than the one that runs a script is one by itself
one_alone : (given : Command) → (given ≡ a_command.DebugScript → ⊥) → one_command ≡ kind_in (Ok given)
one_alone (a_command.Status flags) other = refl
one_alone (a_command.Add files) other = refl
one_alone (a_command.Forget files) other = refl
one_alone (a_command.Remove after files) other = refl
one_alone (a_command.Copy source target) other = refl
one_alone (a_command.SetParents first second) other = refl
one_alone a_command.DebugDirstate other = refl
one_alone a_command.DebugScript other = absurd (other refl)
one_alone (a_command.DebugLoad n) other = refl

-- ---- a failing input

pub not_input : (answered : Option Fault) (met : Fault) → IsFaultOrMemory answered met → (met ≡ a_fault.InFailed → ⊥) → answered ≡ Some a_fault.InFailed → ⊥
not_input answered met (inl is) other failed =
    let both : Some met ≡ Some a_fault.InFailed = sym is ∙ failed in
    other (cc both)
not_input answered met (inr is) other failed =
    let both : Some a_fault.OutOfMemory ≡ Some a_fault.InFailed = sym is ∙ failed in
    cc both

words_other : (met : WordsFault) → cause.of_words met ≡ a_fault.InFailed → ⊥
words_other a_words.OutOfMemory is = cc is
words_other a_words.NoCommand is = cc is
words_other a_words.UnknownCommand is = cc is
words_other a_words.Usage is = cc is
words_other (a_words.BadNode word) is = cc is

-- nothing that a load meets is a failing input
load_other : (dirs : ℕ) (out : Sink) → StopsLoad dirs out a_fault.InFailed → ⊥
load_other dirs out (inl memory) = cc memory.0
load_other dirs out (inr printing) = elim printing.0 [ inl e ↦ cc e | inr e ↦ cc e ]

answered_own : (command : Command) (part : Seen) (code : ℕ) (fault : Option Fault) → IsAnswered (call_of command part) code fault → fault ≡ Some a_fault.InFailed → ⊥
answered_own command part code fault answered failed = subst (λ (f : Option Fault). IfSome f (CommandCause (call_of command part))) failed answered.cause

carried_own : (command : Command) (part : Seen) (code : ℕ) (fault : Option Fault) → Carries command part code fault
    → fault ≡ Some a_fault.InFailed → ⊥
carried_own (a_command.Status flags) part code fault answered = answered_own (a_command.Status flags) part code fault answered
carried_own (a_command.Add files) part code fault answered = answered_own (a_command.Add files) part code fault answered
carried_own (a_command.Forget files) part code fault answered = answered_own (a_command.Forget files) part code fault answered
carried_own (a_command.Remove after files) part code fault answered = answered_own (a_command.Remove after files) part code fault answered
carried_own (a_command.Copy source target) part code fault answered = answered_own (a_command.Copy source target) part code fault answered
carried_own (a_command.SetParents p1 p2) part code fault answered = answered_own (a_command.SetParents p1 p2) part code fault answered
carried_own a_command.DebugDirstate part code fault answered = answered_own a_command.DebugDirstate part code fault answered
carried_own a_command.DebugScript part code fault answered = answered_own a_command.DebugScript part code fault answered
carried_own (a_command.DebugLoad n) part code fault loaded = λ failed.
    let left = subst (λ (f : Option Fault). IfSome f (λ g. (code ≡ 255) × StopsLoad n part.out g × Tells part.err g)) failed loaded.loads.left in
    load_other n part.out left.1

-- no words of a command meet it
pub words_own : (words : List (List ℕ)) (part : Seen) (code : ℕ) (fault : Option Fault) → IsRun words part code fault → fault ≡ Some a_fault.InFailed → ⊥
words_own words part code fault (inl (command, is, carried)) failed = carried_own command part code fault carried failed
words_own words part code fault (inr unread) failed = not_input fault (cause.of_words unread.met) unread.undone.answered (words_other unread.met) failed

line_by : (is : Bool) (number : ℕ) (words : List (List ℕ)) (part : Seen) (code : ℕ) (fault : Option Fault)
    → MatchBool is (IsStopped (a_fault.ScriptNested number) part code fault) (IsRun words part code fault) → fault ≡ Some a_fault.InFailed → ⊥
line_by true number words part code fault stopped failed = not_input fault (a_fault.ScriptNested number) stopped.answered (λ is. cc is) failed
line_by false number words part code fault run failed = words_own words part code fault run failed

-- no line meets it
pub line_own : {D : Type 0} (seen : D → D → Seen) (number : ℕ) (words : List (List ℕ)) (old new : D) (code : ℕ) (fault : Option Fault) → ServesLine (plainly seen) number words old new code fault → fault ≡ Some a_fault.InFailed → ⊥
line_own seen number [] old new code fault does failed =
    let both : None ≡ Some a_fault.InFailed = sym does.2 ∙ failed in
    cc both
line_own seen number (name ∷ words) old new code fault does failed = line_by (bytes_eq name script_name) number (name ∷ words) (seen old new) code fault does failed

-- the reading meets it where the source failed
pub input_failed : {P : Type 0} (met : LineFault) (answered : Option Fault) → IsFaultOrMemory answered (of_line met) → (met ≡ a_line.Failed → P) → answered ≡ Some a_fault.InFailed → P
input_failed a_line.OutOfMemory answered is so failed = absurd (not_input answered a_fault.OutOfMemory is (λ e. cc e) failed)
input_failed a_line.Failed answered is so failed = so refl
input_failed (a_line.Line n) answered is so failed = absurd (not_input answered (a_fault.ScriptLine n) is (λ e. cc e) failed)
input_failed (a_line.Text n) answered is so failed = absurd (not_input answered (a_fault.ScriptText n) is (λ e. cc e) failed)
input_failed (a_line.TooLarge size) answered is so failed = absurd (not_input answered (a_fault.ScriptTooLarge size) is (λ e. cc e) failed)

-- where it didn't fail its count stayed, and else the answer says that it did
pub input_stayed : (met : LineFault) (answered : Option Fault) (before mid now : ℕ) → IsFaultOrMemory answered (of_line met) → (met ≡ a_line.Failed) ⊎ (now ≡ mid) → mid ≡ before
    → (now ≡ before) ⊎ IsFaultOrMemory answered a_fault.InFailed
input_stayed met answered before mid now is (inl failed) so = inr (subst (λ (m : LineFault). IsFaultOrMemory answered (of_line m)) failed is)
input_stayed met answered before mid now is (inr stayed) so = inl (stayed ∙ so)

-- so it stayed where nothing is answered
pub input_quiet : {P : Type 0} (answered : Option Fault) → P ⊎ IsFaultOrMemory answered a_fault.InFailed → answered ≡ None → P
input_quiet answered (inl stayed) none = stayed
input_quiet answered (inr failed) none =
    let both : true ≡ false = sym (some_fault answered a_fault.InFailed failed) ∙ ap is_some none in
    absurd (cc both)

-- a line's turn, by its number and its text
pub does_line : {D : Type 0} (seen : D → D → Seen) (n number : ℕ) (text line : List ℕ) (old new : D) (code : ℕ) (fault : Option Fault) → n ≡ number → text ≡ line → ServesLine (plainly seen) n (words_of text) old new code fault
    → ServesLine (plainly seen) number (words_of line) old new code fault
does_line seen n number text line old new code fault numbered same does =
    subst (λ (t : List ℕ). ServesLine (plainly seen) number (words_of t) old new code fault) same (subst (λ (m : ℕ). ServesLine (plainly seen) m (words_of text) old new code fault) numbered does)

module _ {D : Type 0} (seen : D → D → Seen) (number : ℕ) where
  pub no_words : (line : List ℕ) (d : D) → length line ≡ 0 → ServesLine (plainly seen) number (words_of line) d d 0 None
  no_words line d none =
      subst (λ (words : List (List ℕ)). ServesLine (plainly seen) number words d d 0 None) (sym (ap (λ (t : Bool). cond t [] (slice_split (λ b. eqb b 32) line)) (eq-eqb (length line) 0 none))) (refl, refl, refl)

  by_other : (is : Bool) (words : List (List ℕ)) (part : Seen) (code : ℕ) (fault : Option Fault) → is ≡ false → IsRun words part code fault
      → MatchBool is (IsStopped (a_fault.ScriptNested number) part code fault) (IsRun words part code fault)
  by_other true words part code fault other run = absurd (cc other)
  by_other false words part code fault other run = run

  -- words whose first isn't the name of a script
  pub run_so : (words : List (List ℕ)) (first : List ℕ) (old new : D) (code : ℕ) (fault : Option Fault) → slice_get words 0 ≡ Some first → bytes_eq first script_name ≡ false
      → IsRun words (seen old new) code fault → ServesLine (plainly seen) number words old new code fault
  run_so [] first old new code fault is other run = absurd (cc is)
  run_so (name ∷ words) first old new code fault is other run =
      let same : name ≡ first = cc is in
      by_other (bytes_eq name script_name) (name ∷ words) (seen old new) code fault (ap (λ (n : List ℕ). bytes_eq n script_name) same ∙ other) run

  by_name : (is : Bool) (words : List (List ℕ)) (part : Seen) (code : ℕ) (fault : Option Fault) → IsStopped a_fault.OutOfMemory part code fault
      → MatchBool is (IsStopped (a_fault.ScriptNested number) part code fault) (IsRun words part code fault)
  by_name true words part code fault stopped = record { answered = inr (out_of_memory fault stopped.answered); told = stopped.told; idle = stopped.idle; status = stopped.status }
  by_name false words part code fault stopped =
      inr (record { met = a_words.OutOfMemory; why = inl refl; undone = stopped })

  of_words : (words : List (List ℕ)) (old new : D) (code : ℕ) (fault : Option Fault) → 0 < length words → IsStopped a_fault.OutOfMemory (seen old new) code fault → ServesLine (plainly seen) number words old new code fault
  of_words [] old new code fault some stopped = absurd (omega (arith, some))
  of_words (name ∷ words) old new code fault some stopped = by_name (bytes_eq name script_name) (name ∷ words) (seen old new) code fault stopped

  -- no memory for the words of a line
  pub no_memory : (line : List ℕ) (old new : D) (code : ℕ) (fault : Option Fault) → (length line ≡ 0 → ⊥) → IsStopped a_fault.OutOfMemory (seen old new) code fault → ServesLine (plainly seen) number (words_of line) old new code fault
  no_memory line old new code fault some stopped =
      subst (λ (words : List (List ℕ)). ServesLine (plainly seen) number words old new code fault) (sym (ap (λ (t : Bool). cond t [] (slice_split (λ b. eqb b 32) line)) (ne_eqb (length line) 0 some)))
      (of_words (slice_split (λ b. eqb b 32) line) old new code fault (omega (arith, length-slice_split (λ b. eqb b 32) line)) stopped)

module _ {D : Type 0} (seen : D → D → Seen) (words : List (List ℕ)) (from to : Option (List ℕ)) (old new : D) (code : ℕ) (fault : Option Fault) where
  -- words that weren't read
  unread_by : (kind : Kind) (met : WordsFault) → kind_of words ≡ kind → (met ≡ a_words.OutOfMemory) ⊎ (command_of words ≡ Err met) → IsStopped (cause.of_words met) (seen old new) code fault
      → Serves (plainly seen) kind words from to old new code fault
  unread_by one_command met is why stopped = inr (record { met = met; why = why; undone = stopped })
  unread_by a_script met is (inl memory) stopped =
      let so : IsStopped a_fault.OutOfMemory (seen old new) code fault = subst (λ (m : WordsFault). IsStopped (cause.of_words m) (seen old new) code fault) memory stopped in
      fails_with (ServesTurn (plainly seen)) from old new code to fault (some_fault fault a_fault.OutOfMemory so.answered) so
  unread_by a_script met is (inr none) stopped =
      let both : one_command ≡ a_script = sym (ap kind_in none) ∙ is in
      absurd (cc both)

  pub unread : (met : WordsFault) → (met ≡ a_words.OutOfMemory) ⊎ (command_of words ≡ Err met) → IsStopped (cause.of_words met) (seen old new) code fault → ServesWords (plainly seen) words from to old new code fault
  unread met why stopped = unread_by (kind_of words) met refl why stopped

  -- words that are a command, and no script
  pub carried : (given : Command) → command_of words ≡ Ok given → (given ≡ a_command.DebugScript → ⊥) → Carries given (seen old new) code fault → ServesWords (plainly seen) words from to old new code fault
  carried given is other done =
      let run : IsRun words (seen old new) code fault = inl (given, is, done) in
      subst (λ (kind : Kind). Serves (plainly seen) kind words from to old new code fault) (one_alone given other ∙ sym (ap kind_in is)) run

  -- no command that was carried out meets a failing input
  pub carried_other : (given : Command) → Carries given (seen old new) code fault → fault ≡ Some a_fault.InFailed → ⊥
  carried_other given done failed = carried_own given (seen old new) code fault done failed
