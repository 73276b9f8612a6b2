-- A directory that was listed between two equal looks, the first of which came behind a boundary, was seen whole.
use Rattle.std.proofs.Common.{ℕ, ◌≡◌, ◌⊎◌, inl, inr, Bool, false, List, Some, codes, refl, sym, ap, ◌∙◌, subst, arith}
use Rattle.std.specs.Prelude.{IsTrue}
use Rattle.hg_base.specs.PathText.{joined}
use Rattle.hg_base.specs.declared.stat.Kind.{Kind}
use Rattle.hg_ignore.specs.State.{Hash, Ignored, Piece, Texts}
use Rattle.hg_mtime.proofs.Tests.{stamp_tells}
use Rattle.hg_tree.specs.History.{History}
use Rattle.hg_tree.specs.Honest.{Face, face}
use Rattle.hg_tree.specs.Moment.{is_among}
use Rattle.hg_tree.proofs.Telling.{face_is_listed}
use Rattle.hg_walk.specs.Laws.{ListedIsSeen}
use Rattle.hg_walk.specs.Seeing.{IsAccounted, IsAccountedDir}
use Rattle.hg_walk.proofs.Again.{between, dir_not_other, face_of_kind}

accounted : (h : History) (state : List Piece) (whole : Bool) (nodes : List ℕ → Bool) (path : List ℕ) → Texts h state → IsTrue (nodes path) ⊎ ((whole ≡ false) × Ignored state path)
    → IsAccounted h (Hash state) whole nodes path
accounted h state whole nodes path given (inl node) = inl node
accounted h state whole nodes path given (inr both) = inr (both.0, record { state = state; given = given; hashed = refl; ignored = both.1 })

pub listed_is_seen : ListedIsSeen
listed_is_seen h honest boundary dir before names state nodes cache b i l j first second third within clock look again kind lists is given plain each =
    let stamped = stamp_tells before.mtime boundary cache.stamp is in
    let other = dir_not_other before.kind kind in
    let at_list = between h honest boundary dir before b i l j first second third within clock look again other stamped.past in
    let at_look = between h honest boundary dir before b i i j first (omega arith) (omega (arith, second, third)) within clock look again other stamped.past in
    let listed : (name : List ℕ) → (face (h.at l) dir).names name ≡ is_among name names = face_is_listed (h.at l) dir names lists in
    let so : IsAccountedDir h (Hash state) cache.full nodes dir (face (h.at l) dir) = record {
      kind = ap (λ (f : Face). f.kind) at_list.one ∙ face_of_kind (h.at j) dir before again ∙ ap (λ (k : Kind). Some k) kind;
      plain = listed (codes ".hg") ∙ plain;
      each = λ name named. accounted h state cache.full nodes (joined (Some dir) name) given (each name (sym (listed name) ∙ named));
    } in record {
      at = i;
      within = omega (arith, second, third, within);
      time = before.mtime;
      shown = at_look.shown;
      stamped = stamped.has;
      past = at_look.past;
      so = subst (IsAccountedDir h (Hash state) cache.full nodes dir) (at_list.one ∙ sym at_look.one) so;
    }
