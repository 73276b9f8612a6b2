-- A script as a list of turns that are made one after another: a line each, and behind them what ended its reading too early.
use Rattle.std.specs.Prelude.{ℕ, ◌≡◌, ◌+◌, ◌⊎◌, List, [], ◌∷◌, ◌++◌, Option, Some, None, IfSome}
use Rattle.hg_base.specs.Runs.{Runs}
use Rattle.hg_lines.specs.Script.{IsLine, Script, script_of}
use Rattle.hg_lines.specs.declared.fault.LineFault.{LineFault}
use Rattle.hg_lines.specs.declared.fault.LineFault.TheVariants as a_fault

-- a line with its number, or a fault that is met in place of the next one
pub data Turn : Type 0 where
  Line : ℕ → List ℕ → Turn
  Refused : LineFault → Turn

-- lines from a number on
abbrev pub numbered : ℕ → List (List ℕ) → List Turn
numbered number [] = []
numbered number (line ∷ lines) = Line number line ∷ numbered (number + 1) lines

-- what ends a script
abbrev pub ending : Option LineFault → List Turn
ending None = []
ending (Some fault) = Refused fault ∷ []

-- the turns of a script whose first line has this number, and those of a whole text
abbrev pub turns_from : ℕ → Script → List Turn
turns_from number script = numbered number script.lines ++ ending script.fault

abbrev pub turns_of : List ℕ → List Turn
turns_of text = turns_from 1 (script_of text)

-- a list begins with these turns
abbrev pub IsFront : List Turn → List Turn → Type 0
IsFront all front = (rest : List Turn) × (all ≡ front ++ rest)

-- want of memory or a failing source ended the reading
abbrev pub IsCutOff : LineFault → Type 0
IsCutOff fault = (fault ≡ a_fault.OutOfMemory) ⊎ (fault ≡ a_fault.Failed)

-- the turns that were made of all those of a text: all of them where no fault was met; else its first ones, behind which the reading may have been cut off
abbrev pub AreOf : {F : Type 0} → List Turn → List Turn → Option F → Type 0
AreOf all turns None = turns ≡ all
AreOf all turns (Some fault) = IsFront all turns ⊎ ((front : List Turn) × (met : LineFault) × IsFront all front × IsCutOff met × (turns ≡ front ++ Refused met ∷ []))

-- a fault of the line of this number
abbrev pub IsRefusal : ℕ → LineFault → Type 0
IsRefusal number (a_fault.Line n) = n ≡ number
IsRefusal number (a_fault.Text n) = n ≡ number
IsRefusal number (a_fault.TooLarge size) = size ≡ 67108865
IsRefusal number fault = Unit {0}

-- turns as they are over any source: lines in their order, each in UTF-8 and not too long, and a fault only at the end
abbrev pub AreFit : ℕ → List Turn → Type 0
AreFit number [] = Unit {0}
AreFit number (Line n line ∷ turns) = (n ≡ number) × IsLine line × AreFit (number + 1) turns
AreFit number (Refused fault ∷ turns) = IsRefusal number fault × (turns ≡ [])

-- a script was read from a source and run, with what each of its turns does: the turns were made one after another up to the first fault, and where the
-- source tells its bytes they are those of its text, which was read to its end where there is no fault
pub record RunsScript {D F : Type 0} (Does : Turn → D → D → ℕ → Option F → Type 0) (from to : Option (List ℕ)) (old new : D) (code : ℕ) (fault : Option F) : Type 0 where
  pub turns : List Turn
  pub runs : Runs Does turns old new code fault
  pub fit : AreFit 1 turns
  pub told : IfSome from (λ text. AreOf (turns_of text) turns fault)
  pub end : fault ≡ None → IfSome to (λ left. left ≡ [])
