-- What reads show on the way of a publication: of each file what it was, or what it is at the end.
use Rattle.std.proofs.Common.{◌≡◌, ℕ, ◌+◌, ◌≤◌, Bool, true, cond, List, length, codes, refl, sym, ap, ◌∙◌, subst, arith, None, inl, inr, ◌⊎◌}
use Rattle.std.proofs.lemmas.Bool.{cases_lt}
use Rattle.hg_append.specs.declared.encoding.Encoded.{Encoded}
use Rattle.hg_shelf.specs.History.{By, Files, Passes, label, readers}
use Rattle.hg_shelf.specs.Images.{Acts, Course, Goes, Scene, last_scene, scene}
use Rattle.hg_shelf.specs.Polite.{OthersOnlyRead, Undisturbed}
use Rattle.hg_shelf.specs.Rules.{Perhaps, TornAt, moved}
use Rattle.hg_shelf.proofs.Scenes.{Knows, first_part, only_later, second_part, stays_until}
use Rattle.hg_save.specs.Leads.{Clears, Leads, ShowsEither}
use Rattle.hg_save.specs.Record.{data_name}
use Rattle.hg_save.specs.Saved.{IsPassing, TurnsOnce, new_docket}
use Rattle.hg_save.proofs.Names.{data_not_new, docket_not_data, one_data, others_apart}
use Rattle.hg_save.proofs.Readings.{same_or_not}
use Rattle.hg_save.proofs.Stages.{IsWritten, moved_at}

-- ---- one call

-- at each moment of a call reads show what they showed at its start
abbrev pub StaysShown : Course → Course → Type 0
StaysShown a b = (k : ℕ) → a.history.last ≤ k → k ≤ b.history.last → (scene b k).files ≡ (last_scene a).files

-- so they do over a span in which others only read
span_still : (c : Course) (from to : ℕ) → OthersOnlyRead c from → By readers c.history from to → to ≤ c.history.last → (k : ℕ) → from ≤ k → k ≤ to → (scene c k).files ≡ (scene c from).files
span_still c from to only by within k after before =
    let S : Files → Type 0 = λ f. f ≡ (scene c from).files in
    let any : Files → Type 0 = λ f. Unit {0} in
    let start : Knows (scene c from) S any any = record { shown = refl; left = λ f is. tt; done = λ f is. tt } in
    (stays_until c from to k S any any only by within start after before).shown

-- nothing was called
pub either_none : (a : Course) → ShowsEither a a
either_none a = record { each = λ k after before. inr (ap (λ (m : ℕ). (scene a m).files) (omega (arith, after, before))) }

module _ (a b : Course) (ours : a.history.ours ≡ true) (goes : Goes a b) (calm : Undisturbed a b) where
  by_readers : (from to : ℕ) → By (label a.history.ours) b.history from to → By readers b.history from to
  by_readers from to by = subst (λ (t : Bool). By (label t) b.history from to) ours by

  -- up to a moment before which others alone made steps
  still_until : (to : ℕ) → By (label a.history.ours) b.history a.history.last to → to ≤ b.history.last → (k : ℕ) → a.history.last ≤ k → k ≤ to → (scene b k).files ≡ (last_scene a).files
  still_until to by within k after before =
      span_still b a.history.last to calm.others (by_readers a.history.last to by) within k after before ∙ (goes.kept a.history.last (omega arith)).shown

  pub stays_passes : Passes a.history b.history → StaysShown a b
  stays_passes none k after before = still_until b.history.last none.by_others (omega arith) k after before

  -- and from the one step of a call on
  still_since : (rule : Scene → Scene → Type 0) → (own : Acts rule a b) → (k : ℕ) → own.place + 1 ≤ k → k ≤ b.history.last → (scene b k).files ≡ (scene b (own.place + 1)).files
  still_since rule own k after before =
      span_still b (own.place + 1) b.history.last (only_later b a.history.last (own.place + 1) (omega (arith, own.from)) calm.others) (by_readers (own.place + 1) b.history.last own.behind) (omega arith) k after before

module _ (rule : Scene → Scene → Type 0) (a b : Course) (ours : a.history.ours ≡ true) (goes : Goes a b) (calm : Undisturbed a b) where
  -- a call that made one step
  pub either_acts : Acts rule a b → ShowsEither a b
  either_acts own = record {
    each = λ k after before. elim (cases_lt own.place k) [
      | inl late ↦
          inr (still_since a b ours goes calm rule own k (omega (arith, late)) before ∙ sym (still_since a b ours goes calm rule own b.history.last (omega (arith, own.to)) (omega arith)))
      | inr early ↦ inl (still_until a b ours goes calm own.place own.before (omega (arith, own.to)) k after early)
    ];
  }

  -- one that may have made none
  pub either_perhaps : Acts rule a b ⊎ Passes a.history b.history → ShowsEither a b
  either_perhaps (inl own) = either_acts own
  either_perhaps (inr none) = record { each = λ k after before. inl (stays_passes a b ours goes calm none k after before) }

  -- one whose step shows nothing new
  pub stays_acts : ((x y : Scene) → rule x y → y.files ≡ x.files) → Acts rule a b → StaysShown a b
  stays_acts same own k after before = elim (cases_lt own.place k) [
    | inl late ↦
        still_since a b ours goes calm rule own k (omega (arith, late)) before
        ∙ same (scene b own.place) (scene b (own.place + 1)) own.step
        ∙ still_until a b ours goes calm own.place own.before (omega (arith, own.to)) own.place own.from (omega arith)
    | inr early ↦ still_until a b ours goes calm own.place own.before (omega (arith, own.to)) k after early
  ]

-- and then a call that shows nothing new
pub either_then : (a b c : Course) → Goes a b → Goes b c → Undisturbed a c → (Undisturbed a b → ShowsEither a b) → (Undisturbed b c → StaysShown b c) → ShowsEither a c
either_then a b c first second calm one two =
    let either = one (first_part a b c second calm) in
    let stays = two (second_part a b c first calm) in
    let end : (last_scene c).files ≡ (last_scene b).files = stays c.history.last second.past.later (omega arith) in
    record {
      each = λ k after before. elim (cases_lt b.history.last k) [
        | inl late ↦ inr (stays k (omega (arith, late)) before ∙ sym end)
        | inr early ↦ elim (either.each k after early) [
          | inl same ↦ inl ((second.kept k early).shown ∙ same)
          | inr whole ↦ inr ((second.kept k early).shown ∙ whole ∙ sym end)
        ]
      ];
    }

-- ---- one file, over two parts

abbrev EitherAt : List ℕ → Course → Course → Type 0
EitherAt at a b = (k : ℕ) → a.history.last ≤ k → k ≤ b.history.last → ((scene b k).files at ≡ (last_scene a).files at) ⊎ ((scene b k).files at ≡ (last_scene b).files at)

abbrev StaysAt : List ℕ → Course → Course → Type 0
StaysAt at a b = (k : ℕ) → a.history.last ≤ k → k ≤ b.history.last → (scene b k).files at ≡ (last_scene a).files at

either_at : (at : List ℕ) (a b : Course) → ShowsEither a b → EitherAt at a b
either_at at a b either k after before = elim (either.each k after before) [
  | inl same ↦ inl (ap (λ (f : Files). f at) same)
  | inr whole ↦ inr (ap (λ (f : Files). f at) whole)
]

module _ (at : List ℕ) (a b c : Course) (first : Goes a b) (second : Goes b c) where
  kept_at : (k : ℕ) → k ≤ b.history.last → (scene c k).files at ≡ (scene b k).files at
  kept_at k early = ap (λ (f : Files). f at) (second.kept k early).shown

  -- it turns in the first
  at_first : EitherAt at a b → StaysAt at b c → EitherAt at a c
  at_first either stays k after before =
      let end : (last_scene c).files at ≡ (last_scene b).files at = stays c.history.last second.past.later (omega arith) in
      elim (cases_lt b.history.last k) [
        | inl late ↦ inr (stays k (omega (arith, late)) before ∙ sym end)
        | inr early ↦ elim (either k after early) [
          | inl same ↦ inl (kept_at k early ∙ same)
          | inr whole ↦ inr (kept_at k early ∙ whole ∙ sym end)
        ]
      ]

  -- or in the second
  at_second : StaysAt at a b → EitherAt at b c → EitherAt at a c
  at_second stays either k after before = elim (cases_lt b.history.last k) [
    | inl late ↦ elim (either k (omega (arith, late)) before) [
      | inl same ↦ inl (same ∙ stays b.history.last first.past.later (omega arith))
      | inr whole ↦ inr whole
    ]
    | inr early ↦ inl (kept_at k early ∙ stays k after early)
  ]

  -- or in none
  at_none : StaysAt at a b → StaysAt at b c → StaysAt at a c
  at_none before_it behind_it k after before = elim (cases_lt b.history.last k) [
    | inl late ↦ behind_it k (omega (arith, late)) before ∙ before_it b.history.last first.past.later (omega arith)
    | inr early ↦ kept_at k early ∙ before_it k after early
  ]

-- ---- the parts of a publication

-- what reads show at each moment of a call
abbrev pub Turned : Encoded → Course → Course → Type 0
Turned new a z = (k : ℕ) → a.history.last ≤ k → k ≤ z.history.last → TurnsOnce new (last_scene a).files (scene z k).files (last_scene z).files

new_not_data : (id : List ℕ) → new_docket ≡ data_name id → ⊥
new_not_data id is = data_not_new id (sym is)

-- the data file is written
pub turned_one : (new : Encoded) (a b : Course) → Leads (TornAt (data_name new.id) new.place (length new.bytes.items)) a b → ShowsEither a b → Turned new a b
turned_one new a b leads either k after before = record {
  each = λ at apart. either_at at a b either k after before;
  beside = inl ((leads.shown k after before).elsewhere new_docket (new_not_data new.id));
}

-- and the docket beside
pub turned_two : (new : Encoded) (a b c : Course) → Goes a b → Goes b c → Leads (TornAt (data_name new.id) new.place (length new.bytes.items)) a b → Leads (TornAt new_docket 0 (length new.docket.items)) b c
    → Turned new a b → ShowsEither b c → Turned new a c
turned_two new a b c first second one two turned either k after before = record {
  each = λ at apart.
      at_first at a b c first second (λ j since upto. (turned j since upto).each at apart) (λ j since upto. (two.shown j since upto).elsewhere at apart) k after before;
  beside = elim (at_second new_docket a b c first second (λ j since upto. (one.shown j since upto).elsewhere new_docket (new_not_data new.id)) (either_at new_docket b c either) k after before) [
    | inl same ↦ inl same
    | inr whole ↦ inr (inl whole)
  ];
}

-- a rename of the docket, done or not, leaves any other file
perhaps_at : (new : Encoded) (at : List ℕ) → (at ≡ codes "dirstate" → ⊥) → (at ≡ new_docket → ⊥) → (y z : Files) → Perhaps (moved new_docket (codes "dirstate")) y z → z at ≡ y at
perhaps_at new at docket beside y z (inl same) = same at
perhaps_at new at docket beside y z (inr moves) = moved_at new y z moves at docket beside

module _ (new : Encoded) (a c d : Course) (start : Goes a c) (third : Goes c d) (wrote : IsWritten new a c) (three : Leads (Perhaps (moved new_docket (codes "dirstate"))) c d) where
  docket_turns : ShowsEither c d → EitherAt (codes "dirstate") a d
  docket_turns either =
      at_second (codes "dirstate") a c d start third (λ k after before. (wrote.prepares.shown k after before).unplaced.docket) (either_at (codes "dirstate") c d either)

  -- what stands beside as it was written is so at the end, or it is on its way
  on_its_way : (f : Files) → f new_docket ≡ (last_scene c).files new_docket → (f new_docket ≡ (last_scene d).files new_docket) ⊎ IsPassing new (last_scene a).files f (last_scene d).files
  on_its_way f is = elim (three.shown d.history.last third.past.later (omega arith)) [
    | inl same ↦ inl (is ∙ sym (same new_docket))
    | inr moves ↦ inr (record { written = is ∙ wrote.shown.docket; placed = moves new_docket })
  ]

  written_beside : (f : Files) → (f new_docket ≡ (last_scene c).files new_docket) ⊎ IsPassing new (last_scene a).files f (last_scene c).files → f new_docket ≡ (last_scene c).files new_docket
  written_beside f (inl is) = is
  written_beside f (inr passing) = passing.written ∙ sym wrote.shown.docket

  -- the docket takes its place
  pub turned_three : Turned new a c → ShowsEither c d → Turned new a d
  turned_three turned either k after before = record {
    each = λ at apart. elim (same_or_not at (codes "dirstate")) [
      | inl here ↦ subst (λ (name : List ℕ). EitherAt name a d) (sym here) (docket_turns either) k after before
      | inr other ↦
          at_first at a c d start third (λ j since upto. (turned j since upto).each at apart) (λ j since upto. perhaps_at new at other apart (last_scene c).files (scene d j).files (three.shown j since upto)) k after before
    ];
    beside = elim (cases_lt c.history.last k) [
      | inl late ↦ elim (either.each k (omega (arith, late)) before) [
        | inl same ↦ inr (on_its_way (scene d k).files (ap (λ (f : Files). f new_docket) same))
        | inr whole ↦ inr (inl (ap (λ (f : Files). f new_docket) whole))
      ]
      | inr early ↦
          let kept : (scene d k).files new_docket ≡ (scene c k).files new_docket = kept_at new_docket a c d start third k early in
          elim (turned k after early).beside [
            | inl same ↦ inl (kept ∙ same)
            | inr there ↦ inr (on_its_way (scene d k).files (kept ∙ written_beside (scene c k).files there))
          ]
    ];
  }

  -- a file that is none of the three that are written stays
  stays_three : (at : List ℕ) → (at ≡ codes "dirstate" → ⊥) → (at ≡ new_docket → ⊥) → (at ≡ data_name new.id → ⊥) → StaysAt at a d
  stays_three at docket beside nodes =
      at_none at a c d start third (λ k after before. (wrote.prepares.shown k after before).others at docket beside nodes) (λ k after before. perhaps_at new at docket beside (last_scene c).files (scene d k).files (three.shown k after before))

  module _ (id : List ℕ) (z : Course) (fourth : Goes d z) (whole : Goes a d) (clears : Leads (Clears id new.id) d z) where
    -- what isn't the old data file stays
    clears_at : (at : List ℕ) → (at ≡ data_name id → ⊥) → (y w : Files) → Clears id new.id y w → w at ≡ y at
    clears_at at other y w (inl same) = same at
    clears_at at other y w (inr gone) = gone.gone at ∙ ap (λ (t : Bool). cond t None (y at)) (others_apart (data_name id) at (λ is. other (sym is)))

    -- and where that is the new one
    clears_none : (at : List ℕ) → id ≡ new.id → (y w : Files) → Clears id new.id y w → w at ≡ y at
    clears_none at same y w (inl still) = still at
    clears_none at same y w (inr gone) = absurd (gone.other same)

    -- the old data file goes
    pub turned_four : Turned new a d → ShowsEither d z → Turned new a z
    turned_four turned either k after before = record {
      each = λ at apart. elim (same_or_not at (data_name id)) [
        | inl here ↦ elim (same_or_not id new.id) [
          | inl same ↦
              at_first at a d z whole fourth (λ j since upto. (turned j since upto).each at apart) (λ j since upto. clears_none at same (last_scene d).files (scene z j).files (clears.shown j since upto)) k after before
          | inr other ↦
              at_second at a d z whole fourth (stays_three at (λ is. docket_not_data id (sym is ∙ here)) apart (λ is. other (one_data id new.id (sym here ∙ is)))) (either_at at d z either) k after before
        ]
        | inr other ↦
            at_first at a d z whole fourth (λ j since upto. (turned j since upto).each at apart) (λ j since upto. clears_at at other (last_scene d).files (scene z j).files (clears.shown j since upto)) k after before
      ];
      beside =
          let stays : StaysAt new_docket d z = λ j since upto. clears_at new_docket (new_not_data id) (last_scene d).files (scene z j).files (clears.shown j since upto) in
          let end : (last_scene z).files new_docket ≡ (last_scene d).files new_docket = stays z.history.last fourth.past.later (omega arith) in
          elim (cases_lt d.history.last k) [
            | inl late ↦ inr (inl (stays k (omega (arith, late)) before ∙ sym end))
            | inr early ↦
                let kept : (scene z k).files new_docket ≡ (scene d k).files new_docket = kept_at new_docket a d z whole fourth k early in
                elim (turned k after early).beside [
                  | inl same ↦ inl (kept ∙ same)
                  | inr there ↦ elim there [
                    | inl is ↦ inr (inl (kept ∙ is ∙ sym end))
                    | inr passing ↦ inr (inr (record { written = kept ∙ passing.written; placed = end ∙ passing.placed }))
                  ]
                ]
          ];
    }
