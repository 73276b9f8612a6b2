-- What stays while the caller holds the lock and makes no step: others only read.
use Rattle.std.proofs.Common.{ℕ, ◌≡◌, ◌≤◌, true, refl, sym, ap, ◌∙◌, subst, arith, inl, inr}
use Rattle.std.proofs.lemmas.Bool.{cases_lt}
use Rattle.hg_save.specs.Loads.{During, IsTry, Try, files_at, found_by}
use Rattle.hg_save.specs.Record.{shown_in, id_in, reading, record_in}
use Rattle.hg_save.specs.Saved.{IsLatest, name_after, used_in}
use Rattle.hg_save.specs.Behind.{IsSolid}
use Rattle.hg_session.specs.Change.{IsUnwritten, NoneOurs}
use Rattle.hg_session.specs.Changing.{FailsOrUnwritten}
use Rattle.hg_session.specs.declared.change_fault.ChangeFault.{ChangeFault}
use Rattle.hg_shelf.specs.History.{By, Files, History, Passes, label, readers}
use Rattle.hg_shelf.specs.Images.{Course, Goes, Remains, last_scene, scene}
use Rattle.hg_shelf.specs.Polite.{Undisturbed}
use Rattle.hg_shelf.proofs.Histories.{us_apart}
use Rattle.hg_shelf.proofs.Scenes.{remains_trans, stays_until}

-- ---- whose steps they are

-- a span of no steps
pub none_within : (h : History) (k : ℕ) → NoneOurs h k k
none_within h k = λ j from to. absurd (omega (arith, from, to))

-- in a call that only asks no step is the caller's, also seen from later on
pub none_front : (a b c : Course) → Passes a.history b.history → Goes b c → NoneOurs c.history a.history.last b.history.last
none_front a b c passes goes = λ k from to is. us_apart a.history.ours (sym is ∙ goes.past.who k to ∙ passes.by_others k from to)

pub unwritten : (old new : History) → Passes old new → IsUnwritten old new
unwritten old new passes = record { none = λ k from to is. us_apart old.ours (sym is ∙ passes.by_others k from to) }

pub unwritten_here : (h : History) → IsUnwritten h h
unwritten_here h = record { none = none_within h h.last }

-- a call that only asks, and then one that writes nothing, write nothing
pub unwritten_then : (a b c : Course) → Passes a.history b.history → Goes b c → IsUnwritten b.history c.history → IsUnwritten a.history c.history
unwritten_then a b c passes goes behind = record {
  none = λ k from to is. elim (cases_lt k b.history.last) [
    | inl early ↦ none_front a b c passes goes k from early is
    | inr late ↦ behind.none k late to is
  ];
}

pub unwritten_unless : (a b c : Course) → Passes a.history b.history → Goes b c → (fault : ChangeFault) → FailsOrUnwritten b.history c.history fault → FailsOrUnwritten a.history c.history fault
unwritten_unless a b c passes goes fault (inl failed) = inl failed
unwritten_unless a b c passes goes fault (inr none) = inr (unwritten_then a b c passes goes none)

-- ---- what the moments show

-- a call that only asks, from a to b, seen from a later moment c, where others only read
module _ (a b c : Course) (ours : a.history.ours ≡ true) (passes : Passes a.history b.history) (goes : Goes b c) (calm : Undisturbed a c) where
  front_readers : By readers c.history a.history.last b.history.last
  front_readers = λ k from to. goes.past.who k to ∙ passes.by_others k from to ∙ ap label ours

  -- at each moment of the call reads show what they showed at its start, and a crash leaves nothing new
  pub front_remains : (k : ℕ) → a.history.last ≤ k → k ≤ b.history.last → Remains (scene c a.history.last) (scene c k)
  front_remains k from to =
      let start = scene c a.history.last in
      let knows = stays_until c a.history.last b.history.last k (λ f. f ≡ start.files) start.leaves start.named calm.others front_readers goes.past.later
      (record { shown = refl; left = λ f is. is; done = λ f is. is }) from to in
      record { shown = knows.shown; left = knows.left; done = knows.done }

  pub end_remains : Remains (scene c a.history.last) (last_scene b)
  end_remains =
      remains_trans (scene c a.history.last) (scene c b.history.last) (last_scene b)
      (front_remains b.history.last passes.past.later (omega arith)) (goes.back b.history.last (omega arith))

  pub front_files : (k : ℕ) → During a.history b.history k → files_at b.history k ≡ (scene c a.history.last).files
  front_files k during = sym (goes.past.stay k during.to).shown ∙ (front_remains k during.from during.to).shown

  -- a try of a load finds the record that stood at the start
  pub front_found : (tried : Try) → IsTry a.history b.history tried → found_by b.history tried ≡ reading (scene c a.history.last).files
  front_found tried within = λ i. record_in (front_files tried.docket within.docket i) (front_files tried.file within.file i)

  -- and its docket is the one that stands
  pub front_docket : (tried : Try) → IsTry a.history b.history tried → shown_in (last_scene b).files ≡ shown_in (files_at b.history tried.docket)
  front_docket tried within = ap shown_in (end_remains.shown ∙ sym (front_files tried.docket within.docket))

  -- no docket that a crash may leave names an identifier ahead of the one that stands
  pub front_latest : IsLatest (scene c a.history.last) → IsLatest (last_scene b)
  front_latest latest = record {
    latest = λ f is n after. latest.latest f (end_remains.left f is) n (ap (λ (x : Files). name_after n (id_in x)) (sym end_remains.shown) ∙ after);
    used = λ f is named. subst (λ (x : Files). used_in f ≤ used_in x) (sym end_remains.shown) (latest.used f (end_remains.left f is) (named ∙ ap id_in end_remains.shown));
  }

  -- and what it may leave is solid, where it was
  pub front_solid : IsSolid (scene c a.history.last) → IsSolid (last_scene b)
  front_solid solid = record {
    used = λ f is named. subst (λ (x : Files). used_in f ≤ used_in x) (sym end_remains.shown) (solid.used f (end_remains.left f is) (named ∙ ap id_in end_remains.shown));
    front = λ f is named. solid.front f (end_remains.left f is) (named ∙ ap id_in end_remains.shown);
  }
