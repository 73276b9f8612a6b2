-- What holds of each call of a list.
use Rattle.std.proofs.Common.{ℕ, ◌≤◌, ◌<◌, ◌+◌, ◌⊎◌, IsTrue, sym, ◌∙◌, subst, arith, inl, inr}
use Rattle.hg_base.proofs.Runs.{says_each}
use Rattle.hg_cli.specs.Calls.{IsSoundShelf, KeepsAll, OthersKeep, StaySafe}
use Rattle.hg_save.proofs.Published.{keeps_later, orderly_same}
use Rattle.hg_save.specs.Behind.{KeepsUsed}
use Rattle.hg_save.specs.Loads.{files_at}
use Rattle.hg_save.specs.Others.{HasData, KeepData, KeepsRecords}
use Rattle.hg_session.proofs.Firm.{IsSafeUpon, kept_upto}
use Rattle.hg_session.proofs.GoodParts.{data_before, data_later, from_moment}
use Rattle.hg_session.proofs.UsedSteps.{used_beside, used_both, used_later, used_shorter}
use Rattle.hg_session.specs.Acts.{Makes}
use Rattle.hg_session.specs.Call.{Saved}
use Rattle.hg_session.specs.Change.{NoneOurs, up_to}
use Rattle.hg_session.specs.Crash.{IsSafeBy}
use Rattle.hg_shelf.proofs.Scenes.{only_before, only_later}
use Rattle.hg_shelf.specs.History.{Who, others, us}
use Rattle.hg_shelf.specs.Images.{Course, Goes, last_scene}
use Rattle.hg_shelf.specs.Polite.{Undisturbed}

-- steps that keep to how a record is published kept to it before a call
pub keeps_before : (by : Who) (a b : Course) (from : ℕ) → Goes a b → KeepsRecords by b from → KeepsRecords by a from
keeps_before by a b from goes keep = record {
  each = λ k after before who.
      let later : a.history.last ≤ b.history.last = goes.past.later in
      orderly_same _ _ _ _ (goes.back k (omega (arith, before))) (goes.kept k (omega (arith, before))) (goes.back (k + 1) (omega (arith, before))) (goes.kept (k + 1) (omega (arith, before)))
      (keep.each k after (omega (arith, before, later)) (goes.past.who k before ∙ who));
}

-- what a call keeps whatever it was: the moments so far, and what a crash may leave
abbrev pub Steps : Makes → Saved → Type 0
Steps Does saved = Goes saved.old saved.new × IsSafeUpon Does saved

pub none_before : (k last : ℕ) → last ≤ k → k < last → ⊥
none_before k last after before = omega (arith, after, before)

module _ (first : Course) where
  abbrev start : ℕ
  start = first.history.last

  -- what is so at the end of a course since the first
  abbrev pub Kept : Course → Type 0
  Kept now = (start ≤ now.history.last) × HasData (files_at now.history start) × KeepsAll first now

  pub back : (Does : Makes) (a b : Course) → Steps Does (record { old = a; new = b }) → OthersKeep first b → OthersKeep first a
  back Does a b steps premise = record {
    told = sym steps.0.past.told ∙ premise.told;
    only = only_before a b start steps.0 premise.only;
    keep = keeps_before others a b start steps.0 premise.keep;
    kept = elim premise.kept [
      | inl kept ↦ inl (data_before a.history b.history steps.0.past start kept)
      | inr used ↦ inr (used_shorter others a.history b.history start steps.0.past used)
    ];
  }

  -- the data that dockets name are kept up to where a call makes its first step, and in all of it once its own steps keep the bytes that dockets use
  record KeepsOn (a b : Course) : Type 0 where
    upto : (k : ℕ) → a.history.last ≤ k → k ≤ b.history.last → NoneOurs b.history a.history.last k → KeepData (up_to k b.history) a.history.last
    whole : KeepsUsed us b.history a.history.last → KeepData b.history a.history.last

  keeps_on : (a b : Course) → Goes a b → Undisturbed a b → start ≤ a.history.last → IsTrue b.history.told → HasData (last_scene a).files
      → KeepData b.history start ⊎ KeepsUsed others b.history start → KeepsOn a b
  keeps_on a b goes calm later told there (inl kept) =
      let from : KeepData b.history a.history.last = data_later b.history start a.history.last later kept in
      record { upto = λ k after within none. data_before (up_to k b.history) b.history (from_moment b.history k within) a.history.last from; whole = λ own. from }
  keeps_on a b goes calm later told there (inr used) =
      let theirs = used_later others b.history start a.history.last later used in
      record {
        upto = kept_upto a b goes calm there theirs;
        whole = λ own. used_beside b a.history.last told calm.others (subst HasData (sym (goes.kept a.history.last (omega arith)).shown) there) own theirs;
      }

  pub each : (Does : Makes) (a b : Course) → Steps Does (record { old = a; new = b }) → OthersKeep first b → Kept a → IsSafeBy Does (record { old = a; new = b }) × Kept b
  each Does a b steps premise kept =
      let calm : Undisturbed a b =
      record { told = sym steps.0.past.told ∙ premise.told; others = only_later b start a.history.last kept.0 premise.only } in
      let shelf : IsSoundShelf a = kept.2.shelf in
      let on : KeepsOn a b = keeps_on a b steps.0 calm kept.0 premise.told shelf.there premise.kept in
      let safe : IsSafeBy Does (record { old = a; new = b }) =
      steps.1 calm (keeps_later others b start a.history.last kept.0 premise.keep) shelf.latest (record { sound = shelf.sound; kept = on.upto }) in
      let within = steps.0.past.later in
      let keeps : KeepData b.history a.history.last = on.whole safe.2.keeping in (
        safe,
        (
          omega (arith, kept.0, within),
          subst HasData (sym (steps.0.past.stay start kept.0).shown) kept.1,
          record {
            shelf = record {
              latest = safe.2.latest;
              sound = safe.2.sound shelf.sound b.history.last within (omega arith);
              there = keeps.there b.history.last within (omega arith);
            };
            keeping = used_both us a.history b.history start steps.0.past kept.2.keeping safe.2.keeping;
          },
        ),
      )

  -- at the start of a list nothing was done
  kept_first : IsSoundShelf first → Kept first
  kept_first shelf =
      (omega arith, shelf.there, record { shelf = shelf; keeping = record { each = λ k after before who. absurd (none_before k start after before) } })

  keeps_data : (last : Course) → OthersKeep first last → Kept last → KeepData last.history start
  keeps_data last premise kept = elim premise.kept [
    | inl keeps ↦ keeps
    | inr used ↦ used_beside last start premise.told premise.only kept.1 kept.2.keeping used
  ]

-- every list of calls is safe, where each call hands back what is asked of others, and is safe itself
pub stay_safe : {C S : Type 0} (course_of : S → Course) (Plain Safe : C → S → S → Type 0)
    → ((first : S) (call : C) (old new : S) → Plain call old new → OthersKeep (course_of first) (course_of new) → OthersKeep (course_of first) (course_of old))
    → ((first : S) (call : C) (old new : S) → Plain call old new → OthersKeep (course_of first) (course_of new) → Kept (course_of first) (course_of old)
    → Safe call old new × Kept (course_of first) (course_of new))
    → StaySafe course_of Plain Safe
stay_safe course_of Plain Safe call_back call_each calls first last shelf premise runs =
    let says = says_each Plain Safe (λ now. OthersKeep (course_of first) (course_of now)) (λ now. Kept (course_of first) (course_of now)) (call_back first) (call_each first) calls first last runs premise (kept_first (course_of first) shelf) in
    (says.0, says.1.2, keeps_data (course_of first) (course_of last) premise says.1)
