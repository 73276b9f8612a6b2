-- What a crash leaves after steps of others that keep to how a record is published.
use Rattle.std.proofs.Common.{ℕ, zero, suc, ◌≡◌, ◌+◌, ◌-◌, ◌<◌, ◌≤◌, Bool, true, false, List, Option, Some, Result, refl, sym, ap, ◌∙◌, subst, arith, inl, inr, ◌⊎◌}
use Rattle.std.specs.Str.{bytes_eq}
use Rattle.std.proofs.lemmas.Bool.{cases_lt}
use Rattle.std.proofs.lemmas.Slice.Eq.{bytes_eq-Decides}
use Rattle.hg_base.proofs.Within.{same_bytes}
use Rattle.hg_entry.specs.Table.{Table}
use Rattle.hg_image.specs.Reading.{RecordFault}
use Rattle.hg_shelf.specs.History.{Files, Who, us, readers, others}
use Rattle.hg_shelf.specs.Images.{Course, Goes, Remains, Scene, scene}
use Rattle.hg_shelf.specs.Polite.{OthersOnlyRead}
use Rattle.hg_docket.specs.Docket.{docket_of}
use Rattle.hg_save.specs.Others.{IsOrderly, IsPublication, KeepsRecords, RecordsAs, WasPublished}
use Rattle.hg_save.specs.Record.{IsReadable, shown_in, id_in, reading}
use Rattle.hg_save.specs.Saved.{IsLatest, name_after, used_in}

-- what was published by a moment was by a later one
pub published_later : (c : Course) (start early late : ℕ) (r : Option (Result Table RecordFault)) → early ≤ late → WasPublished c start early r → WasPublished c start late r
published_later c start early late r order was = record {
  at = was.at;
  from = was.from;
  to = omega (arith, order, was.to);
  by = was.by;
  fresh = was.fresh;
  shown = was.shown;
}

-- and since an earlier one
pub published_earlier : (c : Course) (first start end : ℕ) (r : Option (Result Table RecordFault)) → first ≤ start → WasPublished c start end r → WasPublished c first end r
published_earlier c first start end r order was = record {
  at = was.at;
  from = omega (arith, order, was.from);
  to = was.to;
  by = was.by;
  fresh = was.fresh;
  shown = was.shown;
}

-- who keeps to it from a moment on does from a later one on
pub keeps_later : (by : Who) (c : Course) (from start : ℕ) → from ≤ start → KeepsRecords by c from → KeepsRecords by c start
keeps_later by c from start order keep = record { each = λ k after before who. keep.each k (omega (arith, order, after)) before who }

-- what is the latest still is, where the scene remains
pub latest_still : (a b : Scene) → Remains a b → IsLatest a → IsLatest b
latest_still a b still is = record {
  latest = λ c left n named. is.latest c (still.left c left) n (ap (λ (f : Files). name_after n (id_in f)) (sym still.shown) ∙ named);
  used = λ c left named. subst (λ (f : Files). used_in c ≤ used_in f) (sym still.shown) (is.used c (still.left c left) (named ∙ ap id_in still.shown));
}

-- a step between scenes that are the same keeps to the same
pub orderly_same : (a b x y : Scene) → Remains a x → Remains x a → Remains b y → Remains y b → IsOrderly a b → IsOrderly x y
orderly_same a b x y to back there from step =
    let fresh : IsPublication x y → IsPublication a b = λ is same. is (ap shown_in there.shown ∙ same ∙ ap shown_in back.shown) in
    record {
      left = λ c left. elim (step.left c (there.left c left)) [
        | inl was ↦ inl (was.0, back.left was.0 was.1, was.2)
        | inr new ↦ inr (
          (λ same. new.0 (ap shown_in from.shown ∙ same ∙ ap shown_in to.shown)),
          subst (λ (f : Files). RecordsAs f c) (sym there.shown) new.1,
        )
      ];
      sound = λ is. subst (λ (f : Files). IsReadable (reading f)) (sym there.shown) (step.sound (fresh is));
      latest = λ is. latest_still b y there (step.latest (fresh is));
    }

-- steps that aren't there keep to anything
pub keeps_front : (by : Who) (c : Course) (from start : ℕ) → ((k : ℕ) → from ≤ k → k < start → c.history.who k ≡ by → ⊥) → KeepsRecords by c start → KeepsRecords by c from
keeps_front by c from start none keep = record {
  each = λ k after before who. elim (cases_lt k start) [
    | inl early ↦ absurd (none k after early who)
    | inr late ↦ keep.each k late before who
  ];
}

-- a longer course whose further steps are by none keeps to it as the shorter one does
pub keeps_longer : (by : Who) (a b : Course) (from : ℕ) → Goes a b → ((k : ℕ) → a.history.last ≤ k → k < b.history.last → b.history.who k ≡ by → ⊥) → KeepsRecords by a from → KeepsRecords by b from
keeps_longer by a b from goes none keep = record {
  each = λ k after before who. elim (cases_lt k a.history.last) [
    | inl early ↦
        orderly_same (scene a k) (scene a (k + 1)) (scene b k) (scene b (k + 1)) (goes.kept k (omega (arith, early))) (goes.back k (omega (arith, early))) (goes.kept (k + 1) (omega (arith, early))) (goes.back (k + 1) (omega (arith, early)))
        (keep.each k after early (sym (goes.past.who k early) ∙ who))
    | inr late ↦ absurd (none k late before who)
  ];
}

-- what was published is sound
pub published_sound : (c : Course) (start end : ℕ) (r : Option (Result Table RecordFault)) → KeepsRecords others c start → end ≤ c.history.last → WasPublished c start end r → IsReadable r
published_sound c start end r keep within was =
    let is = (keep.each was.at was.from (omega (arith, was.to, within)) was.by).sound was.fresh in
    (is.0, sym was.shown ∙ is.1)

-- ---- one step

-- another docket came to stand or not
fresh_or_same : (before behind : Scene) → IsPublication before behind ⊎ (shown_in behind.files ≡ shown_in before.files)
fresh_or_same before behind = by_test (bytes_eq (shown_in behind.files) (shown_in before.files)) refl where
  by_test : (t : Bool) → bytes_eq (shown_in behind.files) (shown_in before.files) ≡ t → IsPublication before behind ⊎ (shown_in behind.files ≡ shown_in before.files)
  by_test true is = inr (same_bytes (shown_in behind.files) (shown_in before.files) is)
  by_test false is = inl (λ same. let test : bytes_eq (shown_in behind.files) (shown_in before.files) ≡ true = (bytes_eq-Decides (shown_in behind.files) (shown_in before.files)).1 same in cc (sym is ∙ test))

latest_orderly : (a b : Scene) → IsOrderly a b → IsLatest a → IsLatest b
latest_orderly a b step is = elim (fresh_or_same a b) [
  | inl fresh ↦ step.latest fresh
  | inr same ↦ record {
    latest = λ c left n named. elim (step.left c left) [
      | inl was ↦
          is.latest was.0 was.1 n
          (ap (λ (d : List ℕ). name_after n (docket_of d).id) (sym same) ∙ named ∙ ap (λ (d : List ℕ). Some (docket_of d).id) was.2.docket)
      | inr new ↦ new.0 same
    ];
    used = λ c left named. elim (step.left c left) [
      | inl was ↦
          let first : id_in was.0 ≡ id_in a.files = sym (ap (λ (d : List ℕ). (docket_of d).id) was.2.docket) ∙ named ∙ ap (λ (d : List ℕ). (docket_of d).id) same in
          let most : used_in was.0 ≤ used_in a.files = is.used was.0 was.1 first in
          let left_used : used_in c ≡ used_in was.0 = ap (λ (d : List ℕ). (docket_of d).used) was.2.docket in
          let there : used_in b.files ≡ used_in a.files = ap (λ (d : List ℕ). (docket_of d).used) same in
          omega (arith, most, left_used, there)
      | inr new ↦ absurd (new.0 same)
    ];
  }
]

-- ---- many steps

-- none of the steps of a span is the caller's
abbrev NoneOurs : Course → ℕ → ℕ → Type 0
NoneOurs c from to = (j : ℕ) → from ≤ j → j < to → c.history.who j ≡ us → ⊥

module _ (c : Course) (from : ℕ) (only : OthersOnlyRead c from) (keep : KeepsRecords others c from) where
  latest_step : (j : ℕ) → from ≤ j → j < c.history.last → (w : Who) → c.history.who j ≡ w → (w ≡ us → ⊥) → IsLatest (scene c j) → IsLatest (scene c (j + 1))
  latest_step j after before us who not_us is = absurd (not_us refl)
  latest_step j after before readers who not_us is = latest_still (scene c j) (scene c (j + 1)) (only.same j after before who) is
  latest_step j after before others who not_us is = latest_orderly (scene c j) (scene c (j + 1)) (keep.each j after before who) is

  -- no docket that a crash may leave is ahead of the standing one, after so many steps of others
  latest_over : (n k : ℕ) → k ≡ from + n → NoneOurs c from k → k ≤ c.history.last → IsLatest (scene c from) → IsLatest (scene c k)
  latest_over zero k at none within is = subst (λ (m : ℕ). IsLatest (scene c m)) (omega (arith, at)) is
  latest_over (suc n) k at none within is =
      let next : from + n + 1 ≡ k = omega (arith, at) in
      let before : IsLatest (scene c (from + n)) = latest_over n (from + n) refl (λ j after below. none j after (omega (arith, below, next))) (omega (arith, within, next)) is in
      let j = from + n in
      subst (λ (m : ℕ). IsLatest (scene c m)) next
      (latest_step j (omega arith) (omega (arith, within, next)) (c.history.who j) refl (none j (omega arith) (omega (arith, next))) before)

  pub latest_until : (k : ℕ) → from ≤ k → NoneOurs c from k → k ≤ c.history.last → IsLatest (scene c from) → IsLatest (scene c k)
  latest_until k after none within is = latest_over (k - from) k (omega (arith, after)) none within is

  module _ (Known : Option (Result Table RecordFault) → Type 0) where
    -- of what was known at first, or published by others since
    abbrev IsOf : ℕ → Files → Type 0
    IsOf k f = Known (reading f) ⊎ WasPublished c from k (reading f)

    of_later : (early late : ℕ) (f : Files) → early ≤ late → IsOf early f → IsOf late f
    of_later early late f order (inl known) = inl known
    of_later early late f order (inr was) = inr (published_later c from early late (reading f) order was)

    of_same : (k : ℕ) (f g : Files) → RecordsAs g f → IsOf k g → IsOf k f
    of_same k f g same is = subst (λ (r : Option (Result Table RecordFault)). Known r ⊎ WasPublished c from k r) (sym same.read) is

    left_step : (j : ℕ) → from ≤ j → j < c.history.last → (w : Who) → c.history.who j ≡ w → (w ≡ us → ⊥) → ((f : Files) → (scene c j).leaves f → IsOf j f)
        → (f : Files) → (scene c (j + 1)).leaves f → IsOf (j + 1) f
    left_step j after before us who not_us is f left = absurd (not_us refl)
    left_step j after before readers who not_us is f left = of_later j (j + 1) f (omega arith) (is f ((only.same j after before who).left f left))
    left_step j after before others who not_us is f left =
        let step : IsOrderly (scene c j) (scene c (j + 1)) = keep.each j after before who in
        elim (step.left f left) [
          | inl was ↦ of_later j (j + 1) f (omega arith) (of_same j f was.0 was.2 (is was.0 was.1))
          | inr new ↦ inr (record {
            at = j;
            from = after;
            to = omega arith;
            by = who;
            fresh = new.0;
            shown = sym new.1.read;
          })
        ]

    -- what a crash leaves after so many steps of others is of what was known at first, or they published it since
    left_over : (n k : ℕ) → k ≡ from + n → NoneOurs c from k → k ≤ c.history.last → ((f : Files) → (scene c from).leaves f → Known (reading f))
        → (f : Files) → (scene c k).leaves f → IsOf k f
    left_over zero k at none within start f left = inl (start f (subst (λ (m : ℕ). (scene c m).leaves f) (omega (arith, at)) left))
    left_over (suc n) k at none within start f left =
        let next : from + n + 1 ≡ k = omega (arith, at) in
        let before : (g : Files) → (scene c (from + n)).leaves g → IsOf (from + n) g =
        left_over n (from + n) refl (λ j after below. none j after (omega (arith, below, next))) (omega (arith, within, next)) start in
        let j = from + n in
        let there : (scene c (j + 1)).leaves f = subst (λ (m : ℕ). (scene c m).leaves f) (sym next) left in
        subst (λ (m : ℕ). IsOf m f) next
        (left_step j (omega arith) (omega (arith, within, next)) (c.history.who j) refl (none j (omega arith) (omega (arith, next))) before f there)

    pub left_until : (k : ℕ) → from ≤ k → NoneOurs c from k → k ≤ c.history.last → ((f : Files) → (scene c from).leaves f → Known (reading f))
        → (f : Files) → (scene c k).leaves f → Known (reading f) ⊎ WasPublished c from k (reading f)
    left_until k after none within start f left = left_over (k - from) k (omega (arith, after)) none within start f left
