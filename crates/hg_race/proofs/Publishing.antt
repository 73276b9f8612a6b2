-- What a publication keeps.
use Rattle.std.proofs.Common.{ℕ, suc, ◌≡◌, ◌<◌, inl, inr, Bool, true, false, cond, List, [], ◌∷◌, ◌++◌, length, take, Option, Some, None, refl, sym, ap, subst, ◌∙◌, arith}
use Rattle.std.specs.Option.{option_map, unwrap_or}
use Rattle.std.specs.Prelude.{All, MatchOption, ⊤}
use Rattle.std.proofs.lemmas.Bool.{true≢false}
use Rattle.std.proofs.lemmas.List.{take_all}
use Rattle.std.proofs.lemmas.List.Elements.{All-push, All-weaker}
use Rattle.std.proofs.lemmas.Option.{slice_get_within}
use Rattle.hg_race.specs.Rows.{BeginsWith, Row, edited, map_of}
use Rattle.hg_race.specs.Safe.{IsChain}
use Rattle.hg_race.specs.Steps.{published_now, swapped}
use Rattle.hg_race.specs.World.{Files, WorldData, actor_of, first_publication, holds, last_of, last_or, rows_in}
use Rattle.hg_race.specs.declared.parts.Naming.{Naming}
use Rattle.hg_race.specs.declared.parts.Publication.{Publication}
use Rattle.hg_race.specs.declared.actor.Writing.{Writing}
use Rattle.hg_race.proofs.Filing.{next_above}
use Rattle.hg_race.proofs.Holding.{all_held, free_held_at}
use Rattle.hg_race.proofs.Looking.{begins_itself, begins_trans, last_or-at, last_or-push, others_hold_nothing, slice_get-append, slice_get-push_cases}
use Rattle.hg_race.proofs.Sane.{ComesNext, IsSane, IsWritten, OldOf, SpareOf, StandsNow, WriteOf}

-- one more publication, which is a change on the last one
pub chain_push : (published : List Publication) (one : Publication) → IsChain published
    → map_of one.rows ≡ edited one.change (map_of (last_or first_publication published).rows)
    → IsChain (published ++ one ∷ [])
chain_push published one chain map = record {
  first = slice_get-append published (one ∷ []) 0 first_publication chain.first;
  next = λ number before after is_before is_after.
      elim (slice_get-push_cases published one (suc number) after is_after) [
        | inl older ↦
            let within : suc number < length published = slice_get_within published (suc number) after older in
            elim (slice_get-push_cases published one number before is_before) [
              | inl known ↦ chain.next number before after known older
              | inr past ↦ absurd (omega (arith, past.0))
            ]
        | inr newest ↦
            elim (slice_get-push_cases published one number before is_before) [
              | inl known ↦
                  subst (λ (p : Publication). map_of p.rows ≡ edited p.change (map_of before.rows)) newest.1
                  (map ∙ ap (λ (p : Publication). edited one.change (map_of p.rows)) (last_or-at first_publication published number before known newest.0))
              | inr past ↦ absurd (omega (arith, past.0, newest.0))
            ]
      ];
}

-- the rows of a file that is there
pub rows_there : (files : Files) (id used : ℕ) (rows : List Row) → files id ≡ Some rows → length rows ≡ used → take used (rows_in files id) ≡ rows
rows_there files id used rows there l =
    ap (λ (o : Option (List Row)). take used (unwrap_or o [])) there ∙ take_all used rows (omega arith)

-- what earlier dockets named, behind a publication of what comes next
pub old_published : (files : Files) (now : Option Naming) (last rows : List Row) (next : Naming) (fresh : Bool) → ComesNext now last next.id fresh rows
    → (docket : Option Naming) (theirs : List Row) → OldOf files now last docket theirs → OldOf files (Some next) rows docket theirs
old_published files now last rows next fresh comes None theirs old = old
old_published files None last rows next fresh comes (Some docket) theirs old = absurd old.upto
old_published files (Some cur) last rows next fresh comes (Some docket) theirs old = record {
  used = old.used;
  upto =
      elim old.upto [
        | inl below ↦ inl (next_above cur last next.id fresh rows comes docket.id below)
        | inr mine ↦
            elim comes [
              | inl above ↦ inl (omega (arith, mine.0))
              | inr same ↦ inr (mine.0 ∙ sym same.0, begins_trans rows last theirs same.1 mine.1)
            ]
      ];
  file = old.file;
}

-- what is due for removal behind a publication
pub spare_kept : (now : Option Naming) (last rows : List Row) (next : Naming) (fresh : Bool) → ComesNext now last next.id fresh rows
    → (mine : Bool) (spare : Option ℕ) → SpareOf now mine spare
    → SpareOf (Some next) mine spare
spare_kept now last rows next fresh comes mine None s = tt
spare_kept None last rows next fresh comes mine (Some id) s = absurd s.1
spare_kept (Some cur) last rows next fresh comes mine (Some id) s = (s.0, next_above cur last next.id fresh rows comes id s.1)

pub spare_new : (now : Option Naming) (last rows : List Row) (next : Naming) → ComesNext now last next.id true rows → (mine : Bool) → mine ≡ true
    → SpareOf (Some next) mine (option_map (λ docket. docket.id) now)
spare_new None last rows next comes mine m = tt
spare_new (Some cur) last rows next comes mine m = (m, elim comes [ inl above ↦ above | inr same ↦ absurd (true≢false same.2) ])

pub spare_published : (now : Option Naming) (last rows : List Row) (next : Naming) (fresh : Bool) → ComesNext now last next.id fresh rows
    → (mine : Bool) → mine ≡ true → (spare : Option ℕ)
    → SpareOf now mine spare → SpareOf (Some next) mine (cond fresh (option_map (λ docket. docket.id) now) spare)
spare_published now last rows next true comes mine m spare s = spare_new now last rows next comes mine m
spare_published now last rows next false comes mine m spare s = spare_kept now last rows next false comes mine spare s

-- the publication of a write, told by its rows
pub published_sane : (w : WorldData) (who : ℕ) (writing : Writing) → IsSane w → (wrote : IsWritten w.files w.docket (last_of w).rows (holds w.holder who) writing)
    → IsSane (swapped who (Some writing) w)
published_sane w who writing s wrote =
    let one : Publication = record { docket = Some writing.docket; change = writing.change; rows = take writing.docket.used (rows_in w.files writing.docket.id) } in
    let there : one.rows ≡ wrote.rows = rows_there w.files writing.docket.id writing.docket.used wrote.rows wrote.file wrote.used in
    let newest : last_or first_publication (w.published ++ one ∷ []) ≡ one = last_or-push first_publication w.published one in
    let rows : (last_or first_publication (w.published ++ one ∷ [])).rows ≡ wrote.rows = ap (λ (p : Publication). p.rows) newest ∙ there in
    let held = s.held who in
    record {
      chain = chain_push w.published one s.chain (ap (λ (l : List Row). map_of l) there ∙ wrote.map);
      last = ap (λ (p : Publication). p.docket) newest;
      stands = subst (λ (l : List Row). StandsNow w.files (Some writing.docket) l) (sym rows)
          (wrote.used, subst (λ (o : Option (List Row)). MatchOption o ⊥ (λ file. BeginsWith file wrote.rows)) (sym wrote.file) (begins_itself wrote.rows));
      kept = subst (λ (l : List Row). All (λ p. OldOf w.files (Some writing.docket) l p.docket p.rows) (w.published ++ one ∷ [])) (sym rows)
          (All-push (λ p. OldOf w.files (Some writing.docket) wrote.rows p.docket p.rows) w.published one
          (All-weaker (λ p. OldOf w.files w.docket (last_of w).rows p.docket p.rows) (λ p. OldOf w.files (Some writing.docket) wrote.rows p.docket p.rows)
          (λ p old. old_published w.files w.docket (last_of w).rows wrote.rows writing.docket writing.fresh wrote.next p.docket p.rows old) w.published s.kept)
          (record {
            used = ap (λ (l : List Row). length l) there ∙ wrote.used;
            upto = inr (refl, subst (λ (l : List Row). BeginsWith wrote.rows l) (sym there) (begins_itself wrote.rows));
            file = subst (λ (o : Option (List Row)). MatchOption o ⊤ (λ file. BeginsWith file one.rows)) (sym wrote.file)
                (subst (λ (l : List Row). BeginsWith wrote.rows l) (sym there) (begins_itself wrote.rows));
          }));
      held = all_held w.files (Some writing.docket) (last_or first_publication (w.published ++ one ∷ [])).rows (w.published ++ one ∷ []) w.holder w.actors who
          (published_now w.docket writing.fresh (actor_of w who))
          (record {
            read = tt;
            load = tt;
            write = tt;
            spare = spare_published w.docket (last_of w).rows wrote.rows writing.docket writing.fresh wrote.next (holds w.holder who) wrote.holder
                (actor_of w who).spare held.spare;
          })
          (λ other apart.
          free_held_at w.files w.files w.docket (Some writing.docket) (last_of w).rows
          (last_or first_publication (w.published ++ one ∷ [])).rows w.published (w.published ++ one ∷ []) (actor_of w other)
          (holds w.holder other) (holds w.holder other) (others_hold_nothing w.holder who other wrote.holder apart)
          (others_hold_nothing w.holder who other wrote.holder apart)
          (λ n p e. slice_get-append w.published (one ∷ []) n p e) (s.held other));
    }

pub swapped_sane : (w : WorldData) (who : ℕ) (writing : Option Writing) → WriteOf w.files w.docket (last_of w).rows (holds w.holder who) writing
    → IsSane w → IsSane (swapped who writing w)
swapped_sane w who None wrote s = s
swapped_sane w who (Some writing) wrote s = published_sane w who writing s wrote
