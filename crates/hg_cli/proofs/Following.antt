-- What is said of a call in one way is so in another, where each of its parts hands a premise back and keeps what was kept.
use Rattle.std.proofs.Common.{ℕ, Bool, true, false, List, [], ◌∷◌, Option, Some, None, sym, subst}
use Rattle.std.specs.Prelude.{max, MatchBool}
use Rattle.std.specs.Str.{bytes_eq}
use Rattle.hg_base.specs.Runs.{Runs, RunsAll}
use Rattle.hg_cli.specs.Kinds.{Kind, Serves, one_command, a_script}
use Rattle.hg_cli.specs.Said.{Said}
use Rattle.hg_cli.specs.Script.{ServesLine, ServesTurn, of_line, script_name}
use Rattle.hg_lines.specs.Script.{words_of}
use Rattle.hg_lines.specs.Turns.{Line, Refused, RunsScript, Turn}
use Rattle.hg_report.specs.declared.fault.Fault.{Fault}
use Rattle.hg_report.specs.declared.fault.Fault.TheVariants as a_fault

module _ {D : Type 0} (Premise Kept : D → Type 0) where
  -- one way of saying a part follows from another
  pub record Follows {F : Type 0} (Does Says : D → D → ℕ → Option F → Type 0) : Type 0 where
    pub back : (old new : D) (code : ℕ) (fault : Option F) → Does old new code fault → Premise new → Premise old
    pub each : (old new : D) (code : ℕ) (fault : Option F) → Does old new code fault → Premise new → Kept old → Says old new code fault × Kept new

  -- ---- a list that ends at its first fault

  module _ {C F : Type 0} (Does Says : C → D → D → ℕ → Option F → Type 0) (follows : (call : C) → Follows (Does call) (Says call)) where
    held : (calls : List C) (old new : D) (was code : ℕ) → RunsAll Does calls old new was code → Premise new → Premise old
    held [] old new was code runs premise = subst Premise runs.0 premise
    held (call ∷ calls) old new was code runs premise =
        (follows call).back old runs.0 runs.1 None runs.2 (held calls runs.0 new (max was runs.1) code runs.3 premise)

    all_say : (calls : List C) (old new : D) (was code : ℕ) → RunsAll Does calls old new was code → Premise new → Kept old → RunsAll Says calls old new was code × Kept new
    all_say [] old new was code runs premise kept = (runs, subst Kept (sym runs.0) kept)
    all_say (call ∷ calls) old new was code runs premise kept =
        let one = (follows call).each old runs.0 runs.1 None runs.2 (held calls runs.0 new (max was runs.1) code runs.3 premise) kept in
        let rest = all_say calls runs.0 new (max was runs.1) code runs.3 premise one.1 in
        ((runs.0, runs.1, one.0, rest.0), rest.1)

    held_by : (all : List C) (old new : D) (code : ℕ) (fault : Option F) → Runs Does all old new code fault → Premise new → Premise old
    held_by all old new code None runs premise = held all old new 0 code runs premise
    held_by all old new code (Some fault) runs premise =
        held runs.earlier old runs.mid 0 runs.status runs.before ((follows runs.one).back runs.mid new code (Some fault) runs.met premise)

    say_by : (all : List C) (old new : D) (code : ℕ) (fault : Option F) → Runs Does all old new code fault → Premise new → Kept old → Runs Says all old new code fault × Kept new
    say_by all old new code None runs premise kept = all_say all old new 0 code runs premise kept
    say_by all old new code (Some fault) runs premise kept =
        let before = (follows runs.one).back runs.mid new code (Some fault) runs.met premise in
        let first = all_say runs.earlier old runs.mid 0 runs.status runs.before before kept in
        let last = (follows runs.one).each runs.mid new code (Some fault) runs.met premise first.1 in (
          record { earlier = runs.earlier; one = runs.one; later = runs.later; whole = runs.whole; mid = runs.mid; status = runs.status; before = first.0; met = last.0 },
          last.1,
        )

    pub runs_follow : (all : List C) → Follows (Runs Does all) (Runs Says all)
    runs_follow all = record { back = held_by all; each = say_by all }

  -- ---- a call of each kind

  -- each part follows
  pub record PartsFollow (does says : Said D) : Type 0 where
    pub rests : Follows does.Rests says.Rests
    pub runs : (words : List (List ℕ)) → Follows (does.Runs words) (says.Runs words)
    pub stops : (met : Fault) → Follows (does.Stops met) (says.Stops met)

  -- and so does the whole
  module _ (does says : Said D) (follow : PartsFollow does says) where
    by_name : (is : Bool) (met : Fault) (words : List (List ℕ))
        → Follows (λ old new code fault. MatchBool is (does.Stops met old new code fault) (does.Runs words old new code fault)) (λ old new code fault. MatchBool is (says.Stops met old new code fault) (says.Runs words old new code fault))
    by_name true met words = follow.stops met
    by_name false met words = follow.runs words

    line_follows : (number : ℕ) (words : List (List ℕ)) → Follows (ServesLine does number words) (ServesLine says number words)
    line_follows number [] = follow.rests
    line_follows number (name ∷ words) = by_name (bytes_eq name script_name) (a_fault.ScriptNested number) (name ∷ words)

    turn_follows : (turn : Turn) → Follows (ServesTurn does turn) (ServesTurn says turn)
    turn_follows (Line number line) = line_follows number (words_of line)
    turn_follows (Refused met) = follow.stops (of_line met)

    script_follows : (from to : Option (List ℕ)) → Follows (RunsScript (ServesTurn does) from to) (RunsScript (ServesTurn says) from to)
    script_follows from to = record {
      back = λ old new code fault ran. (runs_follow (ServesTurn does) (ServesTurn says) turn_follows ran.turns).back old new code fault ran.runs;
      each = λ old new code fault ran premise kept.
          let said = (runs_follow (ServesTurn does) (ServesTurn says) turn_follows ran.turns).each old new code fault ran.runs premise kept in
          (record { turns = ran.turns; runs = said.0; fit = ran.fit; told = ran.told; end = ran.end }, said.1);
    }

    pub call_follows : (kind : Kind) (words : List (List ℕ)) (from to : Option (List ℕ)) → Follows (Serves does kind words from to) (Serves says kind words from to)
    call_follows one_command words from to = follow.runs words
    call_follows a_script words from to = script_follows from to
