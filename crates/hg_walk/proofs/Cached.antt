-- A cached directory of a trusted record has no name but those of nodes and of ignored paths.
use Rattle.std.proofs.Common.{ℕ, ◌≡◌, ◌⊎◌, inl, inr, Bool, true, ◌&&◌, List, Some, sym, ap, ◌∙◌, subst, true≢false}
use Rattle.std.specs.Prelude.{IsTrue, is_some}
use Rattle.std.proofs.lemmas.Bool.{and_from}
use Rattle.hg_base.specs.PathText.{is_component, joined}
use Rattle.hg_ignore.specs.Patterns.{Apart}
use Rattle.hg_ignore.specs.State.{Hash, Ignored, Piece, Texts}
use Rattle.hg_ignore.proofs.Staying.{texts_stay}
use Rattle.hg_mtime.proofs.Tests.{match_tells}
use Rattle.hg_tree.specs.History.{Extends, History}
use Rattle.hg_tree.specs.Honest.{face}
use Rattle.hg_tree.specs.Moment.{is_dir}
use Rattle.hg_tree.proofs.Telling.{face_dir, face_names}
use Rattle.hg_walk.specs.Laws.{CachedIsListed}
use Rattle.hg_walk.specs.Seeing.{IsAccounted, IsAccountedDir}
use Rattle.hg_walk.proofs.Again.{again, dir_not_other}

-- what is known to a record is a node, or ignored by the present patterns
pub accounted_now : (old new : History) → Extends old new → Apart new → (hash : List ℕ) (whole : Bool) (nodes : List ℕ → Bool) (path : List ℕ) (state : List Piece) → Texts new state → Hash state ≡ hash
    → IsAccounted old hash whole nodes path → IsTrue (nodes path) ⊎ Ignored state path
accounted_now old new p apart hash whole nodes path state given hashed (inl node) = inl node
accounted_now old new p apart hash whole nodes path state given hashed (inr both) =
    let under = both.1 in
    let same : under.state ≡ state = apart.states under.state state (texts_stay old new under.state p under.given) given (under.hashed ∙ sym hashed) in
    inr (subst (λ (s : List Piece). Ignored s path) same under.ignored)

pub cached_is_listed : CachedIsListed
cached_is_listed rows table old new p honest apart trusted k dir cache stat state from upto is shown kind match given hashed name component there =
    let so : IsAccountedDir old table.hash cache.full table.nodes dir (face (new.at k) dir) =
    again (IsAccountedDir old table.hash cache.full table.nodes dir) old new p honest dir cache.stamp (trusted.caches dir cache is) k stat from upto shown (dir_not_other stat.kind kind) (match_tells cache.stamp stat.mtime match).has in
    let here : is_dir ((new.at k).things dir) ≡ true = face_dir (new.at k) dir so.kind in
    let named : (face (new.at k) dir).names name ≡ true =
    face_names (new.at k) dir name
    ∙ and_from (is_dir ((new.at k).things dir) && is_component name) (is_some ((new.at k).things (joined (Some dir) name)))
    (and_from (is_dir ((new.at k).things dir)) (is_component name) here component) there in
    (λ hg. true≢false (sym named ∙ ap (face (new.at k) dir).names hg ∙ so.plain), accounted_now old new p apart table.hash cache.full table.nodes (joined (Some dir) name) state given hashed (so.each name named))
