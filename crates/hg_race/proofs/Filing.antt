-- What files that are written and removed keep.
use Rattle.std.proofs.Common.{ℕ, ◌≡◌, ◌≢◌, ◌<◌, inl, inr, Bool, true, List, length, Option, Some, None, refl, sym, ap, subst, ◌∙◌, arith, eqb}
use Rattle.std.specs.Prelude.{MatchOption, ⊤}
use Rattle.std.proofs.lemmas.Bool.{cases_eq, cond-true, cond-false, eq-eqb, ne_eqb}
use Rattle.std.proofs.lemmas.List.Elements.{All-weaker}
use Rattle.hg_race.specs.Rows.{BeginsWith, Row, edited, map_of}
use Rattle.hg_race.specs.Steps.{dropped, written}
use Rattle.hg_race.specs.World.{Files, WorldData, actor_of, holds, last_of, with_file}
use Rattle.hg_race.specs.declared.parts.Naming.{Naming}
use Rattle.hg_race.specs.declared.actor.Writing.{Writing}
use Rattle.hg_race.proofs.Holding.{all_held, free_held_at}
use Rattle.hg_race.proofs.Looking.{begins_trans, others_hold_nothing}
use Rattle.hg_race.proofs.Sane.{ComesNext, IsBelow, IsSane, OldOf, SpareOf, StandsNow, WriteOf}

-- a file that was written or removed is so, and each other one is as it was
pub file_here : (id : ℕ) (rows : Option (List Row)) (files : Files) → with_file id rows files id ≡ rows
file_here id rows files = cond-true (eqb id id) rows (files id) (eq-eqb id id refl)

pub file_other : (id other : ℕ) (rows : Option (List Row)) (files : Files) → id ≢ other → with_file id rows files other ≡ files other
file_other id other rows files apart = cond-false (eqb id other) rows (files other) (ne_eqb id other apart)

-- where a file comes next, it isn't below that of the docket
pub next_above : (docket : Naming) (last : List Row) (id : ℕ) (fresh : Bool) (rows : List Row) → ComesNext (Some docket) last id fresh rows
    → (older : ℕ) → older < docket.id → older < id
next_above docket last id fresh rows next older l = elim next [ inl above ↦ omega arith | inr same ↦ omega (arith, same.0) ]

-- what the docket names stands also behind a write
pub stands_put : (files : Files) (now : Option Naming) (last : List Row) (id : ℕ) (fresh : Bool) (rows : List Row) → ComesNext now last id fresh rows
    → StandsNow files now last
    → StandsNow (with_file id (Some rows) files) now last
stands_put files None last id fresh rows next stands = stands
stands_put files (Some docket) last id fresh rows next stands =
    let P : Option (List Row) → Type 0 = λ o. MatchOption o ⊥ (λ file. BeginsWith file last) in (
      stands.0,
      elim next [
        | inl above ↦ subst P (sym (file_other id docket.id (Some rows) files (λ e. absurd (omega arith)))) stands.1
        | inr same ↦
            subst P (sym (ap (λ (k : ℕ). with_file id (Some rows) files k) (sym same.0) ∙ file_here id (Some rows) files)) same.1
      ],
    )

-- and what earlier dockets named
pub old_put : (files : Files) (now : Option Naming) (last : List Row) (id : ℕ) (fresh : Bool) (rows : List Row) → ComesNext now last id fresh rows
    → (docket : Option Naming) (theirs : List Row) → OldOf files now last docket theirs → OldOf (with_file id (Some rows) files) now last docket theirs
old_put files now last id fresh rows next None theirs old = old
old_put files None last id fresh rows next (Some docket) theirs old = absurd old.upto
old_put files (Some cur) last id fresh rows next (Some docket) theirs old =
    let P : Option (List Row) → Type 0 = λ o. MatchOption o ⊤ (λ file. BeginsWith file theirs) in
    record {
      used = old.used;
      upto = old.upto;
      file =
          elim old.upto [
            | inl below ↦
                let above : docket.id < id = next_above cur last id fresh rows next docket.id below in
                subst P (sym (file_other id docket.id (Some rows) files (λ e. absurd (omega arith)))) old.file
            | inr mine ↦
                elim next [
                  | inl above ↦ subst P (sym (file_other id docket.id (Some rows) files (λ e. absurd (omega (arith, mine.0))))) old.file
                  | inr same ↦
                      subst P (sym (ap (λ (k : ℕ). with_file id (Some rows) files k) (mine.0 ∙ sym same.0) ∙ file_here id (Some rows) files))
                      (begins_trans rows last theirs same.1 mine.1)
                ]
          ];
    }

-- a write of the lock's holder, whose rows hold a change on what was published last
pub written_sane : (w : WorldData) (who : ℕ) (writing : Writing) (rows : List Row) → IsSane w → holds w.holder who ≡ true → length rows ≡ writing.docket.used
    → map_of rows ≡ edited writing.change (map_of (last_of w).rows) → ComesNext w.docket (last_of w).rows writing.docket.id writing.fresh rows
    → IsSane (written who writing rows w)
written_sane w who writing rows s mine used map next =
    let files : Files = with_file writing.docket.id (Some rows) w.files in
    let held = s.held who in
    record {
      chain = s.chain;
      last = s.last;
      stands = stands_put w.files w.docket (last_of w).rows writing.docket.id writing.fresh rows next s.stands;
      kept = All-weaker _ _ (λ p old. old_put w.files w.docket (last_of w).rows writing.docket.id writing.fresh rows next p.docket p.rows old) w.published s.kept;
      held = all_held files w.docket (last_of w).rows w.published w.holder w.actors who (record (actor_of w who) { writing = Some writing })
          (record {
            read = held.read;
            load = held.load;
            write = record { holder = mine; rows = rows; file = file_here writing.docket.id (Some rows) w.files; used = used; map = map; next = next };
            spare = held.spare;
          })
          (λ other apart.
          free_held_at w.files files w.docket w.docket (last_of w).rows (last_of w).rows w.published w.published (actor_of w other)
          (holds w.holder other) (holds w.holder other)
          (others_hold_nothing w.holder who other mine apart) (others_hold_nothing w.holder who other mine apart) (λ n p e. e) (s.held other));
    }

-- what the docket names stands also where an older file is removed
pub stands_dropped : (files : Files) (now : Option Naming) (last : List Row) (id : ℕ) → IsBelow id now → StandsNow files now last
    → StandsNow (with_file id None files) now last
stands_dropped files None last id below stands = absurd below
stands_dropped files (Some docket) last id below stands =
    let P : Option (List Row) → Type 0 = λ o. MatchOption o ⊥ (λ file. BeginsWith file last) in
    (stands.0, subst P (sym (file_other id docket.id None files (λ e. absurd (omega arith)))) stands.1)

pub old_dropped : (files : Files) (now : Option Naming) (last : List Row) (id : ℕ) (docket : Option Naming) (theirs : List Row) → OldOf files now last docket theirs
    → OldOf (with_file id None files) now last docket theirs
old_dropped files now last id None theirs old = old
old_dropped files now last id (Some docket) theirs old =
    let P : Option (List Row) → Type 0 = λ o. MatchOption o ⊤ (λ file. BeginsWith file theirs) in
    record {
      used = old.used;
      upto = old.upto;
      file =
          elim (cases_eq id docket.id) [
            | inl e ↦ subst P (sym (ap (λ (k : ℕ). with_file id None files k) (sym e) ∙ file_here id None files)) tt
            | inr apart ↦ subst P (sym (file_other id docket.id None files apart)) old.file
          ];
    }

pub write_dropped : (files : Files) (now : Option Naming) (last : List Row) (id : ℕ) → IsBelow id now → (mine : Bool) (writing : Option Writing)
    → WriteOf files now last mine writing
    → WriteOf (with_file id None files) now last mine writing
write_dropped files now last id below mine None w = tt
write_dropped files None last id below mine (Some writing) w = absurd below
write_dropped files (Some cur) last id below mine (Some writing) w =
    let above : id < writing.docket.id = next_above cur last writing.docket.id writing.fresh w.rows w.next id below in
    record {
      holder = w.holder;
      rows = w.rows;
      file = file_other id writing.docket.id None files (λ e. absurd (omega arith)) ∙ w.file;
      used = w.used;
      map = w.map;
      next = w.next;
    }

-- the removal of a file that is due
pub dropped_sane : (w : WorldData) (who : ℕ) (spare : Option ℕ) → SpareOf w.docket (holds w.holder who) spare → IsSane w → IsSane (dropped who spare w)
dropped_sane w who None due s = s
dropped_sane w who (Some id) due s =
    let files : Files = with_file id None w.files in
    let held = s.held who in
    record {
      chain = s.chain;
      last = s.last;
      stands = stands_dropped w.files w.docket (last_of w).rows id due.1 s.stands;
      kept = All-weaker _ _ (λ p old. old_dropped w.files w.docket (last_of w).rows id p.docket p.rows old) w.published s.kept;
      held = all_held files w.docket (last_of w).rows w.published w.holder w.actors who (record (actor_of w who) { spare = None })
          (record {
            read = held.read;
            load = held.load;
            write = write_dropped w.files w.docket (last_of w).rows id due.1 (holds w.holder who) (actor_of w who).writing held.write;
            spare = tt;
          })
          (λ other apart.
          free_held_at w.files files w.docket w.docket (last_of w).rows (last_of w).rows w.published w.published (actor_of w other)
          (holds w.holder other) (holds w.holder other)
          (others_hold_nothing w.holder who other due.0 apart) (others_hold_nothing w.holder who other due.0 apart) (λ n p e. e) (s.held other));
    }
