-- What an actor keeps that doesn't hold the lock, whatever the holder does; and who has done nothing keeps all.
use Rattle.std.proofs.Common.{ℕ, zero, suc, ◌≡◌, ◌≢◌, inl, inr, Bool, false, List, get_or, replicate, set, Option, Some, None, sym, subst, ◌∙◌, arith}
use Rattle.std.specs.Prelude.{slice_get, All}
use Rattle.std.proofs.lemmas.Bool.{true≢false}
use Rattle.std.proofs.lemmas.Option.{get_or_from_slice_get, slice_get_within}
use Rattle.hg_race.specs.Rows.{Row}
use Rattle.hg_race.specs.Safe.{IsLoaded}
use Rattle.hg_race.specs.World.{Files, holds, idle, nobody}
use Rattle.hg_race.specs.declared.actor.Actor.{Actor}
use Rattle.hg_race.specs.declared.actor.Loading.{Loading}
use Rattle.hg_race.specs.declared.parts.Naming.{Naming}
use Rattle.hg_race.specs.declared.parts.Publication.{Publication}
use Rattle.hg_race.specs.declared.actor.Reading.{Reading}
use Rattle.hg_race.specs.declared.actor.Writing.{Writing}
use Rattle.hg_race.proofs.Looking.{begins_same, each_actor}
use Rattle.hg_race.proofs.Sane.{IsHeld, LoadOf, OldOf, ReadOf, SpareOf, StandsNow, WasNamed, WriteOf}

-- publications stay where they are
abbrev pub Stays : List Publication → List Publication → Type 0
Stays old new = (number : ℕ) (publication : Publication) → slice_get old number ≡ Some publication → slice_get new number ≡ Some publication

pub named_stays : (old new : List Publication) (count : ℕ) (docket : Option Naming) → Stays old new → WasNamed old count docket → WasNamed new count docket
named_stays old new count docket stays w = record {
  number = w.number;
  last = w.last;
  publication = w.publication;
  is = stays w.number w.publication w.is;
  same_docket = w.same_docket;
}

pub loaded_stays : (old new : List Publication) (load : Loading) → Stays old new → IsLoaded old load → IsLoaded new load
loaded_stays old new load stays w = record {
  number = w.number;
  last = w.last;
  publication = w.publication;
  is = stays w.number w.publication w.is;
  same_docket = w.same_docket;
  same_rows = w.same_rows;
}

-- without the lock: a docket that was read
pub free_read : (old new : List Publication) (now next : Option Naming) → Stays old new → (reading : Option Reading) → ReadOf old now false reading
    → ReadOf new next false reading
free_read old new now next stays None r = tt
free_read old new now next stays (Some reading) r = record {
  named = named_stays old new reading.count reading.docket stays r.named;
  fresh = λ mine. absurd (true≢false (sym mine));
}

pub free_load : (old new : List Publication) (now next : Option Naming) (last rows : List Row) → Stays old new → (load : Option Loading)
    → LoadOf old now last false load → LoadOf new next rows false load
free_load old new now next last rows stays None l = tt
free_load old new now next last rows stays (Some load) l = record {
  loaded = loaded_stays old new load stays l.loaded;
  docket = λ mine. absurd (true≢false (sym mine));
  held = λ mine. absurd (true≢false (sym mine));
}

pub free_write : (files more : Files) (now next : Option Naming) (last rows : List Row) → (writing : Option Writing)
    → WriteOf files now last false writing → WriteOf more next rows false writing
free_write files more now next last rows None w = tt
free_write files more now next last rows (Some writing) w = absurd (true≢false (sym w.holder))

pub free_spare : (now next : Option Naming) (spare : Option ℕ) → SpareOf now false spare → SpareOf next false spare
free_spare now next None s = tt
free_spare now next (Some id) s = absurd (true≢false (sym s.0))

-- an actor without the lock keeps all, whatever becomes of the files and the docket
pub free_held : (files more : Files) (now next : Option Naming) (last rows : List Row) (old new : List Publication) (actor : Actor) → Stays old new
    → IsHeld files now last old false actor → IsHeld more next rows new false actor
free_held files more now next last rows old new actor stays h = record {
  read = free_read old new now next stays actor.reading h.read;
  load = free_load old new now next last rows stays actor.load h.load;
  write = free_write files more now next last rows actor.writing h.write;
  spare = free_spare now next actor.spare h.spare;
}

-- the same of an actor of which it is known that it holds the lock neither before nor behind
pub free_held_at : (files more : Files) (now next : Option Naming) (last rows : List Row) (old new : List Publication) (actor : Actor) (was is : Bool)
    → was ≡ false → is ≡ false → Stays old new
    → IsHeld files now last old was actor → IsHeld more next rows new is actor
free_held_at files more now next last rows old new actor was is w i stays h =
    subst (λ (b : Bool). IsHeld more next rows new b actor) (sym i)
    (free_held files more now next last rows old new actor stays (subst (λ (b : Bool). IsHeld files now last old b actor) w h))

-- who has read, loaded and written nothing keeps all
pub nobody_held : (files : Files) (now : Option Naming) (last : List Row) (published : List Publication) (mine : Bool) → IsHeld files now last published mine nobody
nobody_held files now last published mine = record { read = tt; load = tt; write = tt; spare = tt }

pub idle_held : (files : Files) (now : Option Naming) (last : List Row) (published : List Publication) (actors who : ℕ) (mine : Bool)
    → IsHeld files now last published mine (get_or (replicate actors idle) who nobody)
idle_held files now last published zero who mine = nobody_held files now last published mine
idle_held files now last published (suc actors) zero mine = record { read = tt; load = tt; write = tt; spare = tt }
idle_held files now last published (suc actors) (suc who) mine = idle_held files now last published actors who mine

-- one actor is new, and each other one keeps all
pub all_held : (files : Files) (now : Option Naming) (last : List Row) (published : List Publication) (holder : Option ℕ) (actors : List Actor) (who : ℕ) (actor : Actor)
    → IsHeld files now last published (holds holder who) actor
    → ((other : ℕ) → other ≢ who → IsHeld files now last published (holds holder other) (get_or actors other nobody))
    → (other : ℕ) → IsHeld files now last published (holds holder other) (get_or (set actors who actor) other nobody)
all_held files now last published holder actors who actor mine others =
    each_actor (λ (other : ℕ) (a : Actor). IsHeld files now last published (holds holder other) a) actors who actor nobody mine others
    (λ other. nobody_held files now last published (holds holder other))

-- what stands now is what was published last under its docket
pub old_same : (files : Files) (now : Option Naming) (last rows : List Row) → StandsNow files now last → OldOf files now last now rows → rows ≡ last
old_same files None last rows stands old = old ∙ sym stands
old_same files (Some docket) last rows stands old =
    elim old.upto [
      | inl below ↦ absurd (omega arith)
      | inr same ↦ sym (begins_same last rows same.1 (stands.0 ∙ sym old.used))
    ]

-- what holds of each publication holds of one at its number
pub old_at : (files : Files) (now : Option Naming) (last : List Row) (published : List Publication)
    → All (λ publication. OldOf files now last publication.docket publication.rows) published
    → (number : ℕ) (publication : Publication) → slice_get published number ≡ Some publication → OldOf files now last publication.docket publication.rows
old_at files now last published kept number publication e =
    subst (λ (p : Publication). OldOf files now last p.docket p.rows) (get_or_from_slice_get published number publication publication e)
    (kept number publication (slice_get_within published number publication e))
