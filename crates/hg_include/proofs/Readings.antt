-- How a reading goes on by a line.
use Rattle.std.proofs.Common.{◌≡◌, ℕ, zero, suc, ◌-◌, ◌<◌, ◌≤◌, true, false, List, [], ◌∷◌, ◌++◌, length, Option, Some, None, refl, sym, ap, ◌∙◌, arith, append_assoc, append-nil, length-append}
use Rattle.hg_include.specs.Line.{lines_of}
use Rattle.hg_include.specs.Look.{given_by}
use Rattle.hg_include.specs.Reading.{Ask, Ended, Know, SoFar, Step, Task, done, in_order, looked, on_given, on_open, on_step, opened, opens, reads, reads_on, refused, refuses, skips, step, tasks_of, warned, warns}
use Rattle.hg_include.specs.declared.fault.Bad.{Bad}
use Rattle.hg_include.specs.declared.fault.Bad.TheVariants as a_bad
use Rattle.hg_include.specs.declared.look.Given.{Given}
use Rattle.hg_include.specs.declared.look.Given.TheVariants as given
use Rattle.hg_include.specs.declared.name.Target.{Target}

-- what reads a file more
abbrev deeper : ℕ → ℕ → Know → Option (List Task → SoFar → Ended)
deeper most zero know = None
deeper most (suc left) know = Some (reads most left know)

first_line : (most n : ℕ) (know : Know) (task : Task) (tasks : List Task) (so : SoFar)
    → reads most n know (task ∷ tasks) so ≡ on_step most know (deeper most n know) (λ so. reads most n know tasks so) tasks task so (step so.pieces task)
first_line most zero know task tasks so = refl
first_line most (suc n) know task tasks so = refl

no_line : (most n : ℕ) (know : Know) (so : SoFar) → reads most n know [] so ≡ done so
no_line most zero know so = refl
no_line most (suc n) know so = refl

by_step : (most n : ℕ) (know : Know) (task : Task) (tasks : List Task) (so : SoFar) (s : Step) → step so.pieces task ≡ s
    → reads most n know (task ∷ tasks) so ≡ on_step most know (deeper most n know) (λ so. reads most n know tasks so) tasks task so s
by_step most n know task tasks so s e =
    first_line most n know task tasks so ∙ ap (λ s. on_step most know (deeper most n know) (λ so. reads most n know tasks so) tasks task so s) e

pub on_none : (most limit : ℕ) (know : Know) (so : SoFar) → reads_on most limit know [] so ≡ done so
unfolding reads_on
on_none most limit know so = no_line most (limit - length so.pieces) know so

pub on_warned : (most limit : ℕ) (know : Know) (task : Task) (tasks : List Task) (so : SoFar) (name : List ℕ) → step so.pieces task ≡ warns name
    → reads_on most limit know (task ∷ tasks) so ≡ reads_on most limit know tasks (warned task false name so)
unfolding reads_on
on_warned most limit know task tasks so name e = by_step most (limit - length so.pieces) know task tasks so (warns name) e

pub on_skipped : (most limit : ℕ) (know : Know) (task : Task) (tasks : List Task) (so : SoFar) → step so.pieces task ≡ skips
    → reads_on most limit know (task ∷ tasks) so ≡ reads_on most limit know tasks so
unfolding reads_on
on_skipped most limit know task tasks so e = by_step most (limit - length so.pieces) know task tasks so skips e

pub on_refused : (most limit : ℕ) (know : Know) (task : Task) (tasks : List Task) (so : SoFar) → step so.pieces task ≡ refuses
    → reads_on most limit know (task ∷ tasks) so ≡ refused task.file (a_bad.Include task.line.number) so
unfolding reads_on
on_refused most limit know task tasks so e = by_step most (limit - length so.pieces) know task tasks so refuses e

pub on_full : (most limit : ℕ) (know : Know) (task : Task) (tasks : List Task) (so : SoFar) (target : Target) (name : List ℕ) → step so.pieces task ≡ opens target name
    → limit ≤ length so.pieces → reads_on most limit know (task ∷ tasks) so ≡ refused task.file (a_bad.Include task.line.number) so
unfolding reads_on
on_full most limit know task tasks so target name e full =
    let none : limit - length so.pieces ≡ 0 = omega arith in
    ap (λ n. reads most n know (task ∷ tasks) so) none ∙ by_step most 0 know task tasks so (opens target name) e

-- a file is looked at, where so many more may be read behind it
on_look : (most left : ℕ) (know : Know) (task : Task) (tasks : List Task) (so : SoFar) (target : Target) (name : List ℕ) (look : Given) → step so.pieces task ≡ opens target name
    → given_by most (know (length so.asks) target.file) ≡ look
    → reads most (suc left) know (task ∷ tasks) so ≡ on_given (reads most left know) (λ so. reads most (suc left) know tasks so) tasks task target name (looked know target.file so) look
on_look most left know task tasks so target name look e gives =
    by_step most (suc left) know task tasks so (opens target name) e
    ∙ ap (λ v. on_given (reads most left know) (λ so. reads most (suc left) know tasks so) tasks task target name (looked know target.file so) v) gives

pub on_missing : (most limit : ℕ) (know : Know) (task : Task) (tasks : List Task) (so : SoFar) (target : Target) (name : List ℕ) → step so.pieces task ≡ opens target name
    → length so.pieces < limit → given_by most (know (length so.asks) target.file) ≡ given.Missing
    → reads_on most limit know (task ∷ tasks) so ≡ reads_on most limit know tasks (warned task true name (looked know target.file so))
unfolding reads_on
on_missing most limit know task tasks so target name e room gives =
    let left : limit - length so.pieces ≡ suc (limit - length so.pieces - 1) = omega arith in
    ap (λ n. reads most n know (task ∷ tasks) so) left
    ∙ on_look most (limit - length so.pieces - 1) know task tasks so target name given.Missing e gives
    ∙ sym (ap (λ n. reads most n know tasks (warned task true name (looked know target.file so))) left)

pub on_bad : (most limit : ℕ) (know : Know) (task : Task) (tasks : List Task) (so : SoFar) (target : Target) (name : List ℕ) (what : Bad) → step so.pieces task ≡ opens target name
    → length so.pieces < limit → given_by most (know (length so.asks) target.file) ≡ given.Refused what
    → reads_on most limit know (task ∷ tasks) so ≡ refused target.file what (looked know target.file so)
unfolding reads_on
on_bad most limit know task tasks so target name what e room gives =
    let left : limit - length so.pieces ≡ suc (limit - length so.pieces - 1) = omega arith in
    ap (λ n. reads most n know (task ∷ tasks) so) left
    ∙ on_look most (limit - length so.pieces - 1) know task tasks so target name (given.Refused what) e gives

pub on_there : (most limit : ℕ) (know : Know) (task : Task) (tasks : List Task) (so : SoFar) (target : Target) (name text : List ℕ) → step so.pieces task ≡ opens target name
    → length so.pieces < limit → given_by most (know (length so.asks) target.file) ≡ given.There text
    → reads_on most limit know (task ∷ tasks) so ≡ reads_on most limit know (tasks_of target (lines_of text) ++ tasks) (opened target text (looked know target.file so))
unfolding reads_on
on_there most limit know task tasks so target name text e room gives =
    let left : limit - length so.pieces ≡ suc (limit - length so.pieces - 1) = omega arith in
    let fewer : limit - length so.pieces - 1 ≡ limit - length (so.pieces ++ record { file = target.file; base = target.base; text = text } ∷ []) =
    omega (arith, length-append so.pieces (record { file = target.file; base = target.base; text = text } ∷ [])) in
    ap (λ n. reads most n know (task ∷ tasks) so) left
    ∙ on_look most (limit - length so.pieces - 1) know task tasks so target name (given.There text) e gives
    ∙ ap (λ n. reads most n know (tasks_of target (lines_of text) ++ tasks) (opened target text (looked know target.file so))) fewer

-- ---- a reading goes on from what was looked at

abbrev pub GoesFrom : Ended → List Ask → Type 0
GoesFrom ended asks = (more : List Ask) × (ended.so.asks ≡ asks ++ more)

pub from_itself : (asks : List Ask) → (more : List Ask) × (asks ≡ asks ++ more)
from_itself asks = ([], sym (append-nil asks))

pub from_looked : (ended : Ended) (know : Know) (path : List ℕ) (so : SoFar) → GoesFrom ended (looked know path so).asks → GoesFrom ended so.asks
from_looked ended know path so (more, e) = (record { path = path; look = know (length so.asks) path } ∷ more, e ∙ append_assoc so.asks (record { path = path; look = know (length so.asks) path } ∷ []) more)

abbrev DeepGoes : Option (List Task → SoFar → Ended) → Type 0
DeepGoes None = Unit {0}
DeepGoes (Some deep) = (tasks : List Task) (so : SoFar) → GoesFrom (deep tasks so) so.asks

given_goes : (deep : List Task → SoFar → Ended) → ((tasks : List Task) (so : SoFar) → GoesFrom (deep tasks so) so.asks) → (rest : SoFar → Ended) → ((so : SoFar) → GoesFrom (rest so) so.asks)
    → (tasks : List Task) (task : Task) (target : Target) (name : List ℕ) (so : SoFar) (look : Given) → GoesFrom (on_given deep rest tasks task target name so look) so.asks
given_goes deep d rest r tasks task target name so given.Missing = r (warned task true name so)
given_goes deep d rest r tasks task target name so (given.Refused what) = from_itself so.asks
given_goes deep d rest r tasks task target name so (given.There text) = d (tasks_of target (lines_of text) ++ tasks) (opened target text so)

open_goes : (most : ℕ) (know : Know) (deep : Option (List Task → SoFar → Ended)) → DeepGoes deep → (rest : SoFar → Ended) → ((so : SoFar) → GoesFrom (rest so) so.asks)
    → (tasks : List Task) (task : Task) (so : SoFar) (target : Target) (name : List ℕ) → GoesFrom (on_open most know deep rest tasks task so target name) so.asks
open_goes most know None d rest r tasks task so target name = from_itself so.asks
open_goes most know (Some deep) d rest r tasks task so target name =
    from_looked (on_open most know (Some deep) rest tasks task so target name) know target.file so
    (given_goes deep d rest r tasks task target name (looked know target.file so) (given_by most (know (length so.asks) target.file)))

step_goes : (most : ℕ) (know : Know) (deep : Option (List Task → SoFar → Ended)) → DeepGoes deep → (rest : SoFar → Ended) → ((so : SoFar) → GoesFrom (rest so) so.asks)
    → (tasks : List Task) (task : Task) (so : SoFar) (s : Step) → GoesFrom (on_step most know deep rest tasks task so s) so.asks
step_goes most know deep d rest r tasks task so (warns name) = r (warned task false name so)
step_goes most know deep d rest r tasks task so refuses = from_itself so.asks
step_goes most know deep d rest r tasks task so skips = r so
step_goes most know deep d rest r tasks task so (opens target name) = open_goes most know deep d rest r tasks task so target name

order_goes : (most : ℕ) (know : Know) (deep : Option (List Task → SoFar → Ended)) → DeepGoes deep → (tasks : List Task) (so : SoFar) → GoesFrom (in_order most know deep tasks so) so.asks
order_goes most know deep d [] so = from_itself so.asks
order_goes most know deep d (task ∷ tasks) so =
    step_goes most know deep d (λ so. in_order most know deep tasks so) (λ so. order_goes most know deep d tasks so) tasks task so (step so.pieces task)

reads_goes : (most n : ℕ) (know : Know) (tasks : List Task) (so : SoFar) → GoesFrom (reads most n know tasks so) so.asks
reads_goes most zero know tasks so = order_goes most know None tt tasks so
reads_goes most (suc n) know tasks so = order_goes most know (Some (reads most n know)) (λ tasks so. reads_goes most n know tasks so) tasks so

pub goes_from : (most limit : ℕ) (know : Know) (tasks : List Task) (so : SoFar) → GoesFrom (reads_on most limit know tasks so) so.asks
unfolding reads_on
goes_from most limit know tasks so = reads_goes most (limit - length so.pieces) know tasks so

-- also behind the look at a file that a line names
pub goes_behind : (most limit : ℕ) (know : Know) (task : Task) (tasks : List Task) (so : SoFar) (target : Target) (name : List ℕ) → step so.pieces task ≡ opens target name
    → length so.pieces < limit → GoesFrom (reads_on most limit know (task ∷ tasks) so) (looked know target.file so).asks
unfolding reads_on
goes_behind most limit know task tasks so target name e room =
    let n = limit - length so.pieces - 1 in
    let left : limit - length so.pieces ≡ suc n = omega arith in
    let is = ap (λ n. reads most n know (task ∷ tasks) so) left ∙ on_look most n know task tasks so target name (given_by most (know (length so.asks) target.file)) e refl in
    let goes = given_goes (reads most n know) (λ tasks so. reads_goes most n know tasks so) (λ so. reads most (suc n) know tasks so) (λ so. reads_goes most (suc n) know tasks so)
    tasks task target name (looked know target.file so) (given_by most (know (length so.asks) target.file)) in
    (goes.0, ap (λ v. v.so.asks) is ∙ goes.1)
