-- What was put into a sink, and what is told of a fault.
use Rattle.std.specs.Prelude.{ℕ, ◌≡◌, ◌⊎◌, Bool, true, false, List, Option, Some, IfSome}
use Rattle.hg_base.specs.Fault.{Rose}
use Rattle.hg_report.specs.Fault.{line_of}
use Rattle.hg_report.specs.declared.fault.Fault.{Fault}
use Rattle.hg_report.specs.declared.fault.Fault.TheVariants as a_fault
use Rattle.hg_session.specs.Call.{Fails, Sink}
use Rattle.hg_stream.specs.Stream.{Grown, GrownByFront}

-- a text was put, and the sink never failed
pub record Puts (IsText : List ℕ → Type 0) (sink : Sink) : Type 0 where
  pub text : List ℕ
  pub is : IsText text
  pub put : Grown sink.old sink.new text
  pub calm : sink.after ≡ sink.before

-- a front of one was, and the sink failed
pub record PutsFront (IsText : List ℕ → Type 0) (sink : Sink) : Type 0 where
  pub text : List ℕ
  pub is : IsText text
  pub put : GrownByFront sink.old sink.new text
  pub failed : Fails sink

-- a text was, and this is so of what was put behind it
pub record PutsThen (IsText : List ℕ → Type 0) (Rest : Sink → Type 0) (sink : Sink) : Type 0 where
  pub text : List ℕ
  pub is : IsText text
  pub mid : Option (List ℕ)
  pub put : Grown sink.old mid text
  pub rest : Rest (record sink { old = mid })

-- nothing was, or some front of one
abbrev pub LeavesFront : (List ℕ → Type 0) → Sink → Type 0
LeavesFront IsText sink = (sink.new ≡ sink.old) ⊎ ((text : List ℕ) × IsText text × GrownByFront sink.old sink.new text)

-- nothing was
pub record IsSilent (sink : Sink) : Type 0 where
  pub bytes : sink.new ≡ sink.old
  pub count : sink.after ≡ sink.before

-- a line was put or, where the stream failed, a front of it
abbrev pub IsTold : Option (List ℕ) → Option (List ℕ) → ℕ → ℕ → List ℕ → Type 0
IsTold old new before after line = Grown old new line ⊎ (GrownByFront old new line × Rose before after)

-- the line of a fault was
abbrev pub TellsLine : Option (List ℕ) → Option (List ℕ) → ℕ → ℕ → Fault → Type 0
TellsLine old new before after fault = IsTold old new before after (line_of fault)

-- the same of a sink
abbrev pub Tells : Sink → Fault → Type 0
Tells err fault = TellsLine err.old err.new err.before err.after fault

-- a fault of a stream that was written to
abbrev pub is_stream : Fault → Bool
is_stream a_fault.OutFailed = true
is_stream a_fault.ErrFailed = true
is_stream fault = false

-- where a stream failed, this holds
abbrev pub OnStream : Option Fault → Type 0 → Type 0
OnStream fault Is = IfSome fault (λ f. is_stream f ≡ true → Is)

-- the fault answered is the one that was met, or want of memory for its text
abbrev pub IsFaultOrMemory : Option Fault → Fault → Type 0
IsFaultOrMemory answered fault = (answered ≡ Some fault) ⊎ (answered ≡ Some a_fault.OutOfMemory)
