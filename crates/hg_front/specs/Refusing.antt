-- The two lines of a command that is refused before it begins: why, and what to do.
use Rattle.std.specs.Prelude.{ℕ, List, [], ◌∷◌, ◌++◌, Option, codes}
use Rattle.hg_front.specs.Advice.{convert}
use Rattle.hg_front.specs.Guard.{Reason}
use Rattle.hg_front.specs.Further.{ArePut, further_line}
use Rattle.hg_front.specs.Shown.{shown}
use Rattle.hg_front.specs.declared.guarding.Why.{Why}
use Rattle.hg_front.specs.declared.guarding.Why.TheVariants as why

-- the words before and behind the name
abbrev pub front : Why → List ℕ
front why.NoRepository = codes "no repository here or above"
front why.Unsupported = codes "repository requires "
front why.Unknown = codes "repository requires "
front why.Writers = codes "repository requires "
front why.OldDirstate = codes ".hg/requires doesn't name "
front why.LineBreak = codes "line feed or carriage return in "

abbrev pub behind : Why → List ℕ
behind why.NoRepository = []
behind why.Unsupported = codes ", which is not supported"
behind why.Unknown = codes ", which is not known"
behind why.Writers = codes ", which is not supported in commands that change something"
behind why.OldDirstate = []
behind why.LineBreak = []

-- what to do
abbrev pub next : Why → List ℕ
next why.NoRepository = codes "hg init --config format.use-dirstate-v2=yes makes one; a folder .hg alone serves hgtrack, and not hg"
next why.Unsupported = codes "hg itself answers here"
next why.Unknown = codes "hg itself answers here, where it knows it"
next why.Writers = codes "hg itself does that here; status and debugdirstate are answered"
next why.OldDirstate = convert
next why.LineBreak = codes "the manifests of Mercurial can't hold such a name: rename the file"

-- the line of the refusal, and the one that says what to do
abbrev pub refusal_lines : Reason → List ℕ
refusal_lines reason = (codes "abort: " ++ front reason.0 ++ shown reason.1 ++ behind reason.0 ++ 10 ∷ []) ++ further_line (next reason.0)

-- they were put to the error stream
abbrev pub TellsRefusal : Option (List ℕ) → Option (List ℕ) → ℕ → ℕ → Reason → Type 0
TellsRefusal old new before after reason = ArePut old new before after (refusal_lines reason)
