-- The first file of a reading.
use Rattle.std.proofs.Common.{◌≡◌, ℕ, ◌⊎◌, inl, inr, List, [], ◌∷◌, ◌++◌, Option, Some, None, sym, subst, ap, ◌∙◌, append-nil}
use Rattle.hg_tree.specs.History.{History, Passes}
use Rattle.hg_include.specs.declared.fault.IncludeFault.{IncludeFault}
use Rattle.hg_include.specs.declared.fault.IncludeFault.TheVariants as a_fault
use Rattle.hg_include.specs.declared.look.Given.{Given}
use Rattle.hg_include.specs.declared.look.Given.TheVariants as given
use Rattle.hg_include.specs.declared.name.Target.{Target}
use Rattle.hg_include.specs.declared.opening.Opened.{Opened}
use Rattle.hg_include.specs.Answer.{Read}
use Rattle.hg_include.specs.Asking.{Agrees, Fails, Gives, IsNoRefusal, IsRead, Stands, Stops, so_far}
use Rattle.hg_include.specs.Line.{lines_of}
use Rattle.hg_include.specs.Look.{Look, given_by, ignore_file}
use Rattle.hg_include.specs.Opening.{FailsToOpen, IsMade, Opens}
use Rattle.hg_include.specs.Reading.{Ask, Ended, Know, SoFar, begun, done, looked, nothing, opened, reading, reads_on, refused, start, tasks_of}
use Rattle.hg_include.specs.Steps.{LeadsOn, StopsAt}
use Rattle.hg_include.proofs.Leading.{ends_from}
use Rattle.hg_include.proofs.Readings.{GoesFrom, from_itself, goes_from, on_none}

abbrev empty : Read
empty = record { pieces = []; warnings = [] }

first_is : (most limit : ℕ) (know : Know) (look : Given) → given_by most (know 0 ignore_file) ≡ look → reading most limit know ≡ begun most limit know (looked know ignore_file nothing) look
unfolding reading
first_is most limit know look e = ap (begun most limit know (looked know ignore_file nothing)) e

begun_goes : (most limit : ℕ) (know : Know) (so : SoFar) (look : Given) → GoesFrom (begun most limit know so look) so.asks
begun_goes most limit know so given.Missing = from_itself so.asks
begun_goes most limit know so (given.Refused what) = from_itself so.asks
begun_goes most limit know so (given.There text) = goes_from most limit know (tasks_of start (lines_of text)) (opened start text so)

first_goes : (most limit : ℕ) (know : Know) → GoesFrom (reading most limit know) (looked know ignore_file nothing).asks
unfolding reading
first_goes most limit know = begun_goes most limit know (looked know ignore_file nothing) (given_by most (know 0 ignore_file))

-- nothing is there
missing_read : (most limit : ℕ) (old new : History) → Gives most ignore_file old new given.Missing → IsRead most limit old new empty
missing_read most limit old new gives = record {
  asks = record { path = ignore_file; look = gives.look } ∷ [];
  asked = gives.asked;
  ends = λ know agrees.
      first_is most limit know given.Missing (ap (given_by most) agrees.0 ∙ gives.gives)
      ∙ ap (λ (v : Look). done (so_far empty (record { path = ignore_file; look = v } ∷ []))) agrees.0;
}

pub read_none : (most limit : ℕ) (old new : History) (target : Target) (before after : Read) (o : Option Opened) → target ≡ start → before ≡ empty → o ≡ None → Opens most target old new before after o
    → IsRead most limit old new after
read_none most limit old new target before after o same first none opens =
    by_given opens.given (subst (λ (t : Target). Gives most t.file old new opens.given) same opens.gives) (subst (λ (v : Option Opened). IsMade target before after opens.given v) none opens.made)
  where
    by_given : (look : Given) → Gives most ignore_file old new look → IsMade target before after look None → IsRead most limit old new after
    by_given given.Missing gives made = subst (IsRead most limit old new) (sym (made ∙ first)) (missing_read most limit old new gives)
    by_given (given.Refused what) gives made = absurd made
    by_given (given.There text) gives made = absurd made

-- the first file is there
there_stands : (most limit : ℕ) (old new : History) (text : List ℕ) → Gives most ignore_file old new (given.There text)
    → Stands most limit old new (record { pieces = record { file = ignore_file; base = None; text = text } ∷ []; warnings = [] }) (tasks_of start (lines_of text))
there_stands most limit old new text gives = record {
  asks = record { path = ignore_file; look = gives.look } ∷ [];
  asked = gives.asked;
  goes = λ know agrees.
      first_is most limit know (given.There text) (ap (given_by most) agrees.0 ∙ gives.gives)
      ∙ ap (λ (v : Look). reads_on most limit know (tasks_of start (lines_of text))
      (so_far (record { pieces = record { file = ignore_file; base = None; text = text } ∷ []; warnings = [] }) (record { path = ignore_file; look = v } ∷ []))) agrees.0;
}

pub stands_first : (most limit : ℕ) (old new : History) (target : Target) (before after : Read) (o : Opened) → target ≡ start → before ≡ empty → Opens most target old new before after (Some o)
    → Stands most limit old new after (tasks_of o.target o.lines.items ++ [])
stands_first most limit old new target before after o same first opens =
    by_given opens.given (subst (λ (t : Target). Gives most t.file old new opens.given) same opens.gives) opens.made
  where
    by_given : (look : Given) → Gives most ignore_file old new look → IsMade target before after look (Some o) → Stands most limit old new after (tasks_of o.target o.lines.items ++ [])
    by_given given.Missing gives made = absurd made
    by_given (given.Refused what) gives made = absurd made
    by_given (given.There text) gives made =
        let tasks : tasks_of start (lines_of text) ≡ tasks_of o.target o.lines.items ++ [] =
        sym (ap (λ t. tasks_of t (lines_of text)) (made.same ∙ same)) ∙ sym (ap (tasks_of o.target) made.lines) ∙ sym (append-nil (tasks_of o.target o.lines.items)) in
        let is : record { pieces = record { file = ignore_file; base = None; text = text } ∷ []; warnings = [] } ≡ after =
        sym (made.put
        ∙ ap (λ (t : Target). record before { pieces = before.pieces ++ record { file = t.file; base = t.base; text = text } ∷ [] }) same
        ∙ ap (λ (r : Read). record r { pieces = r.pieces ++ record { file = ignore_file; base = None; text = text } ∷ [] }) first) in
        subst (Stands most limit old new after) tasks
        (subst (λ (r : Read). Stands most limit old new r (tasks_of start (lines_of text))) is (there_stands most limit old new text gives))

-- the first file isn't opened
fails_first : (most limit : ℕ) (old new : History) (fault : IncludeFault) → IsNoRefusal fault → Fails most ignore_file old new → Stops most limit old new fault
fails_first most limit old new fault kind fails = record {
  asks = fails.asks;
  asked = fails.asked;
  ends = λ know agrees. ends_from fault fails.asks (reading most limit know) kind (by_one know fails.asks fails.one agrees);
}
  where
    by_one : (know : Know) (asks : List Ask) → (asks ≡ []) ⊎ ((look : Look) × (asks ≡ record { path = ignore_file; look = look } ∷ [])) → Agrees know 0 asks → GoesFrom (reading most limit know) asks
    by_one know asks (inl e) agrees = ((reading most limit know).so.asks, ap (λ v. v ++ (reading most limit know).so.asks) (sym e))
    by_one know asks (inr (look, e)) agrees =
        let agreed = subst (Agrees know 0) e agrees in
        let far = first_goes most limit know in
        (far.0, far.1 ∙ ap (λ (v : Look). (record { path = ignore_file; look = v } ∷ []) ++ far.0) agreed.0 ∙ ap (λ v. v ++ far.0) (sym e))

pub stops_first : (most limit : ℕ) (old new : History) (target : Target) (fault : IncludeFault) → target ≡ start → FailsToOpen most target old new fault → Stops most limit old new fault
stops_first most limit old new target a_fault.OutOfMemory same fails = fails_first most limit old new a_fault.OutOfMemory tt (subst (λ (t : Target). Fails most t.file old new) same fails)
stops_first most limit old new target a_fault.Failed same fails = fails_first most limit old new a_fault.Failed tt (subst (λ (t : Target). Fails most t.file old new) same fails)
stops_first most limit old new target (a_fault.Bad file what) same (is, bad) =
    let gives = subst (λ (t : Target). Gives most t.file old new (given.Refused what)) same bad in
    record {
      asks = record { path = ignore_file; look = gives.look } ∷ [];
      asked = gives.asked;
      ends = λ know agrees.
          let e = first_is most limit know (given.Refused what) (ap (given_by most) agrees.0 ∙ gives.gives)
          ∙ ap (λ (v : Look). refused ignore_file what (so_far empty (record { path = ignore_file; look = v } ∷ []))) agrees.0 in
          (ap (λ (v : Ended). v.so.asks) e, ap (λ (v : Ended). v.fault) e ∙ ap (λ (v : List ℕ). Some (record { file = v; what = what })) (sym (is ∙ ap (λ (t : Target). t.file) same)));
    }

-- all lines were read, or the reading stopped at one
pub read_all : (most limit : ℕ) (old mid new : History) (target : Target) (before during after : Read) (o : Opened) → target ≡ start → before ≡ empty → Passes old mid
    → Opens most target old mid before during (Some o) → LeadsOn most limit mid new during after (tasks_of o.target o.lines.items) [] → IsRead most limit old new after
read_all most limit old mid new target before during after o same first passes opens leads =
    let stands = leads old [] passes (stands_first most limit old mid target before during o same first opens) in
    record { asks = stands.asks; asked = stands.asked; ends = λ know agrees. stands.goes know agrees ∙ on_none most limit know (so_far after stands.asks) }

pub stops_all : (most limit : ℕ) (old mid new : History) (target : Target) (before during : Read) (o : Opened) (fault : IncludeFault) → target ≡ start → before ≡ empty → Passes old mid
    → Opens most target old mid before during (Some o) → StopsAt most limit mid new during (tasks_of o.target o.lines.items) fault → Stops most limit old new fault
stops_all most limit old mid new target before during o fault same first passes opens stops =
    stops old [] passes (stands_first most limit old mid target before during o same first opens)
