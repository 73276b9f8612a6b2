-- What the opening of a file comes to.
use Rattle.std.specs.Prelude.{ℕ, ◌≡◌, List, [], ◌∷◌, ◌++◌, Option, Some, None}
use Rattle.hg_tree.specs.History.{History}
use Rattle.hg_include.specs.declared.fault.IncludeFault.{IncludeFault}
use Rattle.hg_include.specs.declared.fault.IncludeFault.TheVariants as a_fault
use Rattle.hg_include.specs.declared.look.Given.{Given}
use Rattle.hg_include.specs.declared.look.Given.TheVariants as given
use Rattle.hg_include.specs.declared.name.Target.{Target}
use Rattle.hg_include.specs.declared.opening.Opened.{Opened}
use Rattle.hg_include.specs.Answer.{Read}
use Rattle.hg_include.specs.Asking.{Fails, Gives}
use Rattle.hg_include.specs.Line.{lines_of}

-- a file of that text was put last
pub record Keeps (target : Target) (text : List ℕ) (before after : Read) (opened : Opened) : Type 0 where
  pub same : opened.target ≡ target
  pub lines : opened.lines.items ≡ lines_of text
  pub put : after ≡ record before { pieces = before.pieces ++ record { file = target.file; base = target.base; text = text } ∷ [] }

-- a file that is missing changes nothing; one that is there was put last
abbrev pub IsMade : Target → Read → Read → Given → Option Opened → Type 0
IsMade target before after given.Missing None = after ≡ before
IsMade target before after (given.There text) (Some opened) = Keeps target text before after opened
IsMade target before after look opened = ⊥

pub record Opens (most : ℕ) (target : Target) (old new : History) (before after : Read) (opened : Option Opened) : Type 0 where
  pub given : Given
  pub gives : Gives most target.file old new given
  pub made : IsMade target before after given opened

-- why a file isn't opened: what is there is refused; or the look wasn't answered
abbrev pub FailsToOpen : ℕ → Target → History → History → IncludeFault → Type 0
FailsToOpen most target old new (a_fault.Bad file what) = (file ≡ target.file) × Gives most target.file old new (given.Refused what)
FailsToOpen most target old new a_fault.OutOfMemory = Fails most target.file old new
FailsToOpen most target old new a_fault.Failed = Fails most target.file old new
