use Rattle.std.proofs.Common.{ℕ, List, Option, subst}
use Rattle.hg_mixed.specs.Held.{table}
use Rattle.hg_walk.specs.Notes.{CleanNote, DirNote, with_hash}
use Rattle.hg_walk.specs.Writing.{IsHashed, WritesClean, WritesGone, WritesSeen}
use Rattle.hg_walk.proofs.Applied.{all_lent, all_marks, all_table}
use Rattle.hg_walk.proofs.applying.apply.Goals as goal

pub returns-clause-table : goal.returns-clause-table
returns-clause-table c =
    all_table c.args.notes c.args.mixed.now c.put_all_clean.new.mixed c.forget_all.new.mixed c.put_all_seen.new.mixed
    (subst (λ (l : List CleanNote). WritesClean l c.args.mixed.now c.put_all_clean.new.mixed) c.into_lists-clean.ensures.clean c.in_ok-put_all_clean.ensures.written)
    (subst (λ (l : List (List ℕ)). WritesGone l c.put_all_clean.new.mixed c.forget_all.new.mixed) c.into_lists-clean.ensures.gone c.in_ok-forget_all.ensures.written)
    (subst (λ (l : List DirNote). WritesSeen l c.forget_all.new.mixed c.put_all_seen.new.mixed) c.into_lists-clean.ensures.seen c.in_ok-put_all_seen.ensures.written)
    c.put_hash.new.mixed
    (subst (λ (o : Option (List ℕ)). IsHashed (with_hash o (table c.put_all_seen.new.mixed).hash) c.put_all_seen.new.mixed c.put_hash.new.mixed) c.into_lists-clean.ensures.hash c.put_hash.ensures)

pub returns-clause-changed : goal.returns-clause-changed
returns-clause-changed c =
    all_marks c.args.notes c.args.mixed.now c.put_all_clean.new.mixed c.forget_all.new.mixed c.put_all_seen.new.mixed
    (subst (λ (l : List CleanNote). WritesClean l c.args.mixed.now c.put_all_clean.new.mixed) c.into_lists-clean.ensures.clean c.in_ok-put_all_clean.ensures.written)
    (subst (λ (l : List (List ℕ)). WritesGone l c.put_all_clean.new.mixed c.forget_all.new.mixed) c.into_lists-clean.ensures.gone c.in_ok-forget_all.ensures.written)
    (subst (λ (l : List DirNote). WritesSeen l c.forget_all.new.mixed c.put_all_seen.new.mixed) c.into_lists-clean.ensures.seen c.in_ok-put_all_seen.ensures.written)
    c.put_hash.new.mixed
    (subst (λ (o : Option (List ℕ)). IsHashed (with_hash o (table c.put_all_seen.new.mixed).hash) c.put_all_seen.new.mixed c.put_hash.new.mixed) c.into_lists-clean.ensures.hash c.put_hash.ensures)

pub returns-clause-lent : goal.returns-clause-lent
returns-clause-lent c =
    all_lent c.args.notes c.args.mixed.now c.put_all_clean.new.mixed c.forget_all.new.mixed c.put_all_seen.new.mixed
    (subst (λ (l : List CleanNote). WritesClean l c.args.mixed.now c.put_all_clean.new.mixed) c.into_lists-clean.ensures.clean c.in_ok-put_all_clean.ensures.written)
    (subst (λ (l : List (List ℕ)). WritesGone l c.put_all_clean.new.mixed c.forget_all.new.mixed) c.into_lists-clean.ensures.gone c.in_ok-forget_all.ensures.written)
    (subst (λ (l : List DirNote). WritesSeen l c.forget_all.new.mixed c.put_all_seen.new.mixed) c.into_lists-clean.ensures.seen c.in_ok-put_all_seen.ensures.written)
    c.put_hash.new.mixed
    (subst (λ (o : Option (List ℕ)). IsHashed (with_hash o (table c.put_all_seen.new.mixed).hash) c.put_all_seen.new.mixed c.put_hash.new.mixed) c.into_lists-clean.ensures.hash c.put_hash.ensures)
