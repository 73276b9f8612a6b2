-- Calls one after another lead from good records to good ones.
use Rattle.std.proofs.Common.{ℕ, ◌≤◌, ◌+◌, Option, Some, Result, Ok, sym, ap, ◌∙◌, subst, arith, inl, inr}
use Rattle.std.proofs.lemmas.Bool.{cases_lt}
use Rattle.hg_cli.proofs.Lists.{keeps_before}
use Rattle.hg_entry.specs.Table.{Table}
use Rattle.hg_image.specs.Reading.{RecordFault}
use Rattle.hg_save.proofs.Published.{keeps_later}
use Rattle.hg_save.specs.Others.{WasPublished}
use Rattle.hg_save.specs.Record.{shown_in, reading}
use Rattle.hg_session.proofs.GoodStays.{holds_front, plain_of}
use Rattle.hg_session.proofs.GoodParts.{stood_later, stood_shorter}
use Rattle.hg_session.specs.Call.{Count, Looked, Saved, Watched}
use Rattle.hg_session.specs.Good.{HoldsParent, IsFair, IsGoodGround, IsGoodIn, LeavesGood, LeavesParent, StaysGood}
use Rattle.hg_shelf.proofs.Scenes.{goes_trans, only_before, only_later}
use Rattle.hg_shelf.specs.History as shelf
use Rattle.hg_shelf.specs.History.{Files, others}
use Rattle.hg_shelf.specs.Images.{Course, Goes, Remains, Scene, last_scene, scene}
use Rattle.hg_shelf.specs.Polite.{KeepsThere}
use Rattle.hg_tree.proofs.Faces.{past_honest}
use Rattle.hg_tree.proofs.Histories.{extends_trans}
use Rattle.hg_tree.specs.History as tree
use Rattle.hg_walk.specs.Walking.{first_id}

-- ---- two calls

-- what calls keep: the moments so far, of the working copy too; and a shelf that may be called upon
pub record LeadsOn (looked : Looked) (saved : Saved) : Type 0 where
  pub past : tree.Extends looked.tree.old looked.tree.new
  pub goes : Goes saved.old saved.new
  pub ground : (by : tree.History) → tree.Extends looked.tree.new by → IsFair by looked saved → IsGoodGround by (last_scene saved.old) → IsGoodGround by (last_scene saved.new)
  pub good : StaysGood looked saved

-- where a scene remains, a crash leaves of the plain store what it left
parent_remains : (store : Files) (s t : Scene) → Remains s t → LeavesParent store s → LeavesParent store t
parent_remains store s t still parent = record {
  shown = λ c table left is. parent.shown c table (still.left c left) is;
  left = λ c table left is. subst (HoldsParent (first_id table) c) (sym still.shown) (parent.left c table (still.left c left) is);
}

module _ (x y z : tree.History) (a b c : Course) (fx fy fz : ℕ) (p q r : Watched shelf.History) (m n o : Count) (first_past : tree.Extends x y) (second_past : tree.Extends y z) (goes : Goes a b) (behind : Goes b c) where
  abbrev first : Looked
  first = record { tree = record { old = x; new = y; before = fx; after = fy }; shelf = p; oversize = m }

  abbrev second : Looked
  second = record { tree = record { old = y; new = z; before = fy; after = fz }; shelf = q; oversize = n }

  abbrev whole : Looked
  whole = record { tree = record { old = x; new = z; before = fx; after = fz }; shelf = r; oversize = o }

  abbrev front : Saved
  front = record { old = a; new = b }

  abbrev rest : Saved
  rest = record { old = b; new = c }

  abbrev both : Saved
  both = record { old = a; new = c }

  abbrev start : ℕ
  start = a.history.last

  abbrev published_on : (recorded : Option (Result Table RecordFault)) → WasPublished b start b.history.last recorded → WasPublished c start c.history.last recorded
  published_on recorded was = record {
    at = was.at;
    from = was.from;
    to = omega (arith, was.to, behind.past.later);
    by = behind.past.who was.at was.to ∙ was.by;
    fresh = λ same.
        was.fresh
        (ap shown_in (sym (behind.kept (was.at + 1) (omega (arith, was.to))).shown) ∙ same ∙ ap shown_in (behind.kept was.at (omega (arith, was.to))).shown);
    shown = ap reading (behind.kept (was.at + 1) (omega (arith, was.to))).shown ∙ was.shown;
  }

  plain_first : KeepsThere c.history start → KeepsThere b.history start
  plain_first plain = record {
    told = sym behind.past.told ∙ plain.told;
    each = λ name is k l from order upto bytes there.
        ap (λ (f : Files). f name) (sym (behind.past.stay l upto).shown)
        ∙ plain.each name is k l from order (omega (arith, upto, behind.past.later)) bytes (ap (λ (f : Files). f name) (behind.past.stay k (omega (arith, order, upto))).shown ∙ there);
  }

  -- what is there at the end of the first part is so at the end of the second
  holds_end : KeepsThere c.history start → (table : Table) → HoldsParent (first_id table) (last_scene b).files (last_scene c).files
  holds_end plain table name bytes of there =
      plain.each name (plain_of (last_scene b).files (first_id table) name of) b.history.last c.history.last goes.past.later behind.past.later (omega arith) bytes
      (ap (λ (f : Files). f name) (behind.past.stay b.history.last (omega arith)).shown ∙ there)

  parent_first : KeepsThere c.history start → (k : ℕ) → LeavesParent (last_scene c).files (scene b k) → LeavesParent (last_scene b).files (scene b k)
  parent_first plain k parent = record {
    shown = λ f table left is. holds_front (first_id table) (last_scene b).files (last_scene c).files f (holds_end plain table) (parent.shown f table left is);
    left = parent.left;
  }

  -- what a call needs its first part has
  pub fair_first : (by : tree.History) → IsFair by whole both → IsFair by first front
  fair_first by fair = record {
    told = fair.told;
    honest = past_honest y z second_past fair.honest;
    plain = plain_first fair.plain;
    parent = λ k after within.
        parent_first fair.plain k (parent_remains (last_scene c).files (scene c k) (scene b k) (behind.back k within) (fair.parent k after (omega (arith, within, behind.past.later))));
    calm = record { told = fair.calm.told; others = only_before b c start behind fair.calm.others };
    keep = keeps_before others b c start behind fair.keep;
    kept = stood_shorter b.history c.history start behind.past fair.kept;
    published = λ t was.
        subst (λ (f : Files). IsGoodIn f t by) (behind.kept (was.at + 1) (omega (arith, was.to))).shown (fair.published t (published_on (Some (Ok t)) was));
  }

  -- and so has its second
  pub fair_second : (by : tree.History) → IsFair by whole both → IsFair by second rest
  fair_second by fair = record {
    told = first_past.told ∙ fair.told;
    honest = fair.honest;
    plain = record {
      told = fair.plain.told;
      each = λ name is k l from. fair.plain.each name is k l (omega (arith, goes.past.later, from));
    };
    parent = λ k after within. fair.parent k (omega (arith, goes.past.later, after)) within;
    calm = record { told = goes.past.told ∙ fair.calm.told; others = only_later c start b.history.last goes.past.later fair.calm.others };
    keep = keeps_later others c start b.history.last goes.past.later fair.keep;
    kept = stood_later c.history start b.history.last goes.past.later fair.kept;
    published = λ t was.
        fair.published t (record { at = was.at; from = omega (arith, goes.past.later, was.from); to = was.to; by = was.by; fresh = was.fresh; shown = was.shown });
  }

  -- what is good in the first part still is at the end of the second
  good_on : (by : tree.History) (k : ℕ) → k ≤ b.history.last → LeavesGood by (scene b k) → LeavesGood by (scene c k)
  good_on by k within good f left = good f ((behind.kept k within).left f left)

  pub leads_both : LeadsOn first front → LeadsOn second rest → LeadsOn whole both
  leads_both one two = record {
    past = extends_trans x y z first_past second_past;
    goes = goes_trans a b c goes behind;
    ground = λ by past fair ground. two.ground by past (fair_second by fair) (one.ground by (extends_trans y z by second_past past) (fair_first by fair) ground);
    good = λ by past fair ground k after within. elim (cases_lt b.history.last k) [
      | inl late ↦ two.good by past (fair_second by fair) (one.ground by (extends_trans y z by second_past past) (fair_first by fair) ground) k (omega (arith, late)) within
      | inr early ↦ good_on by k early (one.good by (extends_trans y z by second_past past) (fair_first by fair) ground k after early)
    ];
  }
