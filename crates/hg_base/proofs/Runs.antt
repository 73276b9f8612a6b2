-- Lists of calls: one call more, and what each call keeps.
use Rattle.std.proofs.Common.{ℕ, ◌≡◌, List, [], ◌∷◌, ◌++◌, Option, Some, None, refl, sym, subst, ap, ◌∙◌}
use Rattle.std.specs.Prelude.{max}
use Rattle.hg_base.specs.Runs.{Runs, RunsAll, RunsEach, RunsTo}

module _ {C D F : Type 0} (Does : C → D → D → ℕ → Option F → Type 0) where
  -- no call at all
  pub no_call : (d : D) (was : ℕ) → RunsAll Does [] d d was was
  no_call d was = (refl, refl)

  -- one call more behind a chain
  pub goes_on : (calls : List C) (call : C) (old mid new : D) (was code status : ℕ) → RunsAll Does calls old mid was code → Does call mid new status None
      → RunsAll Does (calls ++ call ∷ []) old new was (max code status)
  goes_on [] call old mid new was code status runs does =
      subst (λ (d : D). (m : D) × (n : ℕ) × Does call d m n None × ((new ≡ m) × (max code status ≡ max was n))) runs.0
      (new, status, does, (refl, ap (λ (n : ℕ). max n status) runs.1))
  goes_on (one ∷ calls) call old mid new was code status runs does =
      (runs.0, runs.1, runs.2, goes_on calls call runs.0 mid new (max was runs.1) code status runs.3 does)

  -- a call that meets a fault behind a chain
  pub stops_at : (calls later : List C) (call : C) (old mid new : D) (status code : ℕ) (fault : F) → RunsAll Does calls old mid 0 status → Does call mid new code (Some fault)
      → RunsTo Does (calls ++ call ∷ later) old new code fault
  stops_at calls later call old mid new status code fault runs does =
      record { earlier = calls; one = call; later = later; whole = refl; mid = mid; status = status; before = runs; met = does }

  module _ (Premise Kept : D → Type 0)
      (back : (call : C) (old new : D) (status : ℕ) (fault : Option F) → Does call old new status fault → Premise new → Premise old)
      (each : (call : C) (old new : D) (status : ℕ) (fault : Option F) → Does call old new status fault → Premise new → Kept old → Kept new) where
    -- a premise that holds at the end of a chain held at its start, where each call takes it back
    pub held_before : (calls : List C) (old new : D) (was code : ℕ) → RunsAll Does calls old new was code → Premise new → Premise old
    held_before [] old new was code runs premise = subst Premise runs.0 premise
    held_before (call ∷ calls) old new was code runs premise =
        back call old runs.0 runs.1 None runs.2 (held_before calls runs.0 new (max was runs.1) code runs.3 premise)

    -- what each call keeps, all keep
    pub keeps : (calls : List C) (old new : D) (was code : ℕ) → RunsAll Does calls old new was code → Premise new → Kept old → Kept new
    keeps [] old new was code runs premise kept = subst Kept (sym runs.0) kept
    keeps (call ∷ calls) old new was code runs premise kept =
        keeps calls runs.0 new (max was runs.1) code runs.3 premise
        (each call old runs.0 runs.1 None runs.2 (held_before calls runs.0 new (max was runs.1) code runs.3 premise) kept)

    -- also where the last one meets a fault
    pub keeps_to : (all : List C) (old new : D) (code : ℕ) (fault : F) → RunsTo Does all old new code fault → Premise new → Kept old → Kept new
    keeps_to all old new code fault runs premise kept =
        let before = back runs.one runs.mid new code (Some fault) runs.met premise in
        each runs.one runs.mid new code (Some fault) runs.met premise (keeps runs.earlier old runs.mid 0 runs.status runs.before before kept)

    pub keeps_all : (all : List C) (old new : D) (code : ℕ) (fault : Option F) → Runs Does all old new code fault → Premise new → Kept old → Kept new
    keeps_all all old new code None runs premise kept = keeps all old new 0 code runs premise kept
    keeps_all all old new code (Some fault) runs premise kept = keeps_to all old new code fault runs premise kept

-- what holds of each call of a list that keeps it, whatever the calls answer
module _ {C D : Type 0} (Does Says : C → D → D → Type 0) (Premise Kept : D → Type 0)
    (back : (call : C) (old new : D) → Does call old new → Premise new → Premise old)
    (each : (call : C) (old new : D) → Does call old new → Premise new → Kept old → Says call old new × Kept new) where
  pub held_before_each : (calls : List C) (old new : D) → RunsEach Does calls old new → Premise new → Premise old
  held_before_each [] old new runs premise = subst Premise runs premise
  held_before_each (call ∷ calls) old new runs premise =
      back call old runs.0 runs.1 (held_before_each calls runs.0 new runs.2 premise)

  pub says_each : (calls : List C) (old new : D) → RunsEach Does calls old new → Premise new → Kept old → RunsEach Says calls old new × Kept new
  says_each [] old new runs premise kept = (runs, subst Kept (sym runs) kept)
  says_each (call ∷ calls) old new runs premise kept =
      let one = each call old runs.0 runs.1 (held_before_each calls runs.0 new runs.2 premise) kept in
      let rest = says_each calls runs.0 new runs.2 premise one.1 in
      ((runs.0, one.0, rest.0), rest.1)
