-- How a command ends that only looks, from what it did and what is told behind it.
use Rattle.std.proofs.Common.{ℕ, ◌≡◌, true, false, List, Option, Some, None, Result, Ok, Err, IfSome, OnOk, refl, sym, ap, ◌∙◌, subst, inl, inr, true≢false}
use Rattle.std.specs.Option.{MatchOption}
use Rattle.hg_report.specs.Fault.{has_line}
use Rattle.hg_report.specs.declared.fault.Fault.{Fault}
use Rattle.hg_report.specs.declared.fault.Fault.TheVariants as a_fault
use Rattle.hg_base.specs.Fault.{Rose}
use Rattle.hg_stream.specs.Stream.{GrownByFront}
use Rattle.hg_session.specs.Call.{Looked, Sink}
use Rattle.hg_session.specs.Look.{IsCalm, LeavesAt, LeftBySaving, Look, Concludes, Order, Stage, at_first, at_printing, at_saving, at_telling, saves_first, saves_last}
use Rattle.hg_session.specs.Looking.{EndsAs, IsUntold, fault_in, Shows}
use Rattle.hg_session.specs.Put.{IsFaultOrMemory, IsSilent, Puts, PutsFront, PutsThen, Tells, TellsLine}
use Rattle.hg_session.specs.Told.{IsText, errors_of}

pub not_without : {Q : Type 0} (answered : Option Fault) (fault : Fault) → IsFaultOrMemory answered fault → answered ≡ None → Q
not_without answered fault (inl same) none = absurd (cc (same, none))
not_without answered fault (inr memory) none = absurd (cc (memory, none))

-- the status of a fault that was told
pub status_failed : (code : ℕ) (fault : Fault) (answered : Option Fault) → IsFaultOrMemory answered fault → code ≡ 255 → MatchOption answered (code ≡ 0) (λ f. code ≡ 255)
status_failed code fault answered (inl same) is = subst (λ (f : Option Fault). MatchOption f (code ≡ 0) (λ f. code ≡ 255)) (sym same) is
status_failed code fault answered (inr memory) is = subst (λ (f : Option Fault). MatchOption f (code ≡ 0) (λ f. code ≡ 255)) (sym memory) is

-- a fault with a line isn't that of the error stream
told_apart : {Q : Type 0} (fault : Fault) → has_line fault ≡ true → fault ≡ a_fault.ErrFailed → Q
told_apart fault told is = absurd (true≢false (sym told ∙ ap has_line is))

module _ (mid tail : Sink) (bytes : tail.old ≡ mid.new) (count : tail.before ≡ mid.after) where
  -- the error stream from before what was done to behind the line of a fault
  abbrev pub joined : Sink
  joined = record { old = mid.old; new = tail.new; before = mid.before; after = tail.after }

  puts_joined : (Is : List ℕ → Type 0) → IsSilent tail → Puts Is mid → Puts Is joined
  puts_joined Is silent puts = record { text = puts.text; is = puts.is; put = silent.bytes ∙ bytes ∙ puts.put; calm = silent.count ∙ count ∙ puts.calm }

  front_joined : (Is : List ℕ → Type 0) → IsSilent tail → PutsFront Is mid → PutsFront Is joined
  front_joined Is silent puts = record {
    text = puts.text;
    is = puts.is;
    put = subst (λ (new : Option (List ℕ)). GrownByFront mid.old new puts.text) (sym (silent.bytes ∙ bytes)) puts.put;
    failed = subst (λ (n : ℕ). Rose mid.before n) (sym (silent.count ∙ count)) puts.failed;
  }

  told_joined : (Is : List ℕ → Type 0) (fault told : Fault) → Tells tail told → PutsThen Is (λ rest. IsUntold rest fault) mid → PutsThen Is (λ rest. Tells rest told) joined
  told_joined Is fault told line behind = record {
    text = behind.text;
    is = behind.is;
    mid = behind.mid;
    put = behind.put;
    rest = rest_joined behind.mid behind.rest.silent;
  }
    where
      rest_joined : (from : Option (List ℕ)) → IsSilent (record mid { old = from }) → Tells (record joined { old = from }) told
      rest_joined from silent =
          subst (λ (old : Option (List ℕ)). TellsLine old tail.new mid.before tail.after told) (bytes ∙ silent.bytes)
          (subst (λ (n : ℕ). TellsLine tail.old tail.new n tail.after told) (count ∙ silent.count) line)

  line_joined : (fault : Fault) → IsSilent mid → Tells tail fault → Tells joined fault
  line_joined fault silent told =
      subst (λ (old : Option (List ℕ)). TellsLine old tail.new mid.before tail.after fault) (bytes ∙ silent.bytes)
      (subst (λ (n : ℕ). TellsLine tail.old tail.new n tail.after fault) (count ∙ silent.count) told)

  module _ (look : Look) (out : Sink) (memory : (fault : Fault) → look.Before fault → look.Before a_fault.OutOfMemory) (saving : (fault : Fault) → look.Saving fault → look.Saving a_fault.OutOfMemory) where
    abbrev Left : Fault → Type 0
    Left fault = (stage : Stage) × LeavesAt look out joined Tells stage fault

    -- behind a saving that failed
    saving_told : (order : Order) (fault told : Fault) → Tells tail told → LeftBySaving order look out mid IsUntold fault → LeftBySaving order look out joined Tells told
    saving_told saves_first fault told line (silent, untold) = (silent, line_joined told untold.silent line)
    saving_told saves_last fault told line (ready, all) =
        (ready, record { said = all.said; says = all.says; printed = all.printed; behind = told_joined (IsText (errors_of all.said)) fault told line all.behind })

    saving_untold : {Q : Type 0} (order : Order) (fault : Fault) → has_line fault ≡ false → LeftBySaving order look out mid IsUntold fault → Q
    saving_untold saves_first fault none (silent, untold) = absurd (true≢false (sym untold.told ∙ none))
    saving_untold saves_last fault none (ready, all) = absurd (true≢false (sym all.behind.rest.told ∙ none))

    -- the fault that was met, with its line or without one
    left_told : (fault : Fault) → has_line fault ≡ true → Tells tail fault → (stage : Stage) × LeavesAt look out mid IsUntold stage fault → Left fault
    left_told fault has line (at_first, (is, silent, untold)) = (at_first, (is, silent, line_joined fault untold.silent line))
    left_told fault has line (at_printing, (printing, ready, front, kind, untold)) = (at_printing, (printing, ready, front, kind, line_joined fault untold.silent line))
    left_told fault has line (at_telling, (telling, ready, all, is)) = told_apart fault has is
    left_told fault has line (at_saving, (is, left)) = (at_saving, (is, saving_told look.order fault fault line left))

    -- or want of memory for its line
    left_memory : (fault : Fault) → has_line fault ≡ true → Tells tail a_fault.OutOfMemory → (stage : Stage) × LeavesAt look out mid IsUntold stage fault → Left a_fault.OutOfMemory
    left_memory fault has line (at_first, (is, silent, untold)) = (at_first, (memory fault is, silent, line_joined a_fault.OutOfMemory untold.silent line))
    left_memory fault has line (at_printing, (printing, ready, front, kind, untold)) = (at_printing, (printing, ready, front, inr refl, line_joined a_fault.OutOfMemory untold.silent line))
    left_memory fault has line (at_telling, (telling, ready, all, is)) = told_apart fault has is
    left_memory fault has line (at_saving, (is, left)) = (at_saving, (saving fault is, saving_told look.order fault a_fault.OutOfMemory line left))

    left_untold : (fault : Fault) → has_line fault ≡ false → IsSilent tail → (stage : Stage) × LeavesAt look out mid IsUntold stage fault → Left fault
    left_untold fault none silent (at_first, (is, quiet, untold)) = absurd (true≢false (sym untold.told ∙ none))
    left_untold fault none silent (at_printing, (printing, ready, front, kind, untold)) = absurd (true≢false (sym untold.told ∙ none))
    left_untold fault none silent (at_telling, (telling, ready, all, is)) =
        (at_telling, (telling, ready, record { said = all.said; says = all.says; printed = all.printed; behind = front_joined (IsText (errors_of all.said)) silent all.behind }, is))
    left_untold fault none silent (at_saving, (is, left)) = saving_untold look.order fault none left

    looks_err : (fault answered : Fault) → Left answered → Concludes look out joined (Some answered)
    looks_err fault answered left = record { done = λ none. absurd (cc none); left = left }

    answered_as : (fault : Fault) (answered : Option Fault) → has_line fault ≡ true → IsFaultOrMemory answered fault → IfSome answered (Tells tail)
        → (stage : Stage) × LeavesAt look out mid IsUntold stage fault → Concludes look out joined answered
    answered_as fault None has is line left = not_without None fault is refl
    answered_as fault (Some answered) has (inl same) line left =
        let is : answered ≡ fault = cc same in
        subst (λ (f : Fault). Tells tail f → Concludes look out joined (Some f)) (sym is) (λ told. looks_err fault fault (left_told fault has told left)) line
    answered_as fault (Some answered) has (inr none) line left =
        let is : answered ≡ a_fault.OutOfMemory = cc none in
        subst (λ (f : Fault). Tells tail f → Concludes look out joined (Some f)) (sym is) (λ told. looks_err fault a_fault.OutOfMemory (left_memory fault has told left)) line

    pub looks_by : (done : Result Unit Fault) (code : ℕ) (fault : Option Fault) → Shows look out mid done → EndsAs tail done code fault → Concludes look out joined fault
    looks_by (Ok u) code fault shows ends = subst (λ (f : Option Fault). Concludes look out joined f) (sym ends.well.0) (record {
      done = λ none. record {
        ready = shows.done.ready;
        said = shows.done.said;
        says = shows.done.says;
        printed = shows.done.printed;
        told = puts_joined (IsText (errors_of shows.done.said)) ends.well.1 shows.done.told;
      };
      left = tt;
    })
    looks_by (Err met) code fault shows ends = elim ends.ill [
      | inl (has, is, line) ↦ answered_as met fault has is line shows.left
      | inr (none, is, silent) ↦ subst (λ (f : Option Fault). Concludes look out joined f) (sym is) (looks_err met met (left_untold met none silent shows.left))
    ]

  -- without a fault there was none before the line of one would be told
  pub from_well : (P : Type 0) (done : Result Unit Fault) (code : ℕ) (fault : Option Fault) → EndsAs tail done code fault → OnOk done P → fault ≡ None → P
  from_well P (Ok u) code fault ends has none = has
  from_well P (Err met) code fault ends has none = elim ends.ill [
    | inl (told, is, line) ↦ not_without fault met is none
    | inr (other, is, silent) ↦ absurd (cc (is, none))
  ]

  pub calm_by : (looked : Looked) (out : Sink) (done : Result Unit Fault) (code : ℕ) (fault : Option Fault) → EndsAs tail done code fault → OnOk done (IsCalm looked out mid) → fault ≡ None
      → IsCalm looked out joined
  calm_by looked out (Ok u) code fault ends c none =
      record { tree = c.tree; shelf = c.shelf; regexps = c.regexps; out = c.out; err = ends.well.1.count ∙ count ∙ c.err }
  calm_by looked out (Err met) code fault ends c none = from_well (IsCalm looked out joined) (Err met) code fault ends tt none

  -- the fault that is answered is the one that was met, or want of memory for its line
  pub answer_is : (P : Option Fault → Type 0) → ((fault : Fault) → P (Some fault) → P (Some a_fault.OutOfMemory)) → (done : Result Unit Fault) (code : ℕ) (fault : Option Fault) → EndsAs tail done code fault
      → P (fault_in done) → P fault
  answer_is P memory (Ok u) code fault ends has = subst P (sym ends.well.0) has
  answer_is P memory (Err met) code fault ends has = elim ends.ill [
    | inl (told, inl same, line) ↦ subst P (sym same) has
    | inl (told, inr none, line) ↦ subst P (sym none) (memory met has)
    | inr (none, same, silent) ↦ subst P (sym same) has
  ]
