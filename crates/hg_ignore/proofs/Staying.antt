-- What stays of ignore states: over what lies below a path, and over a longer history.
use Rattle.std.proofs.Common.{ℕ, List, inl, inr, IsTrue, ◌∙◌, ap, sym, arith}
use Rattle.hg_base.specs.Within.{is_within}
use Rattle.hg_base.proofs.Within.{within_trans}
use Rattle.hg_tree.specs.Moment.{bytes_at}
use Rattle.hg_tree.specs.History.{Extends, History}
use Rattle.hg_ignore.specs.Patterns.{Apart, MayHold}
use Rattle.hg_ignore.specs.State.{Ignored, Piece, Texts, ignore_file, state_of}

pub below_ignored : (state : List Piece) (at path : List ℕ) → Ignored state at → IsTrue (is_within at path) → Ignored state path
below_ignored state at path (found, within, m) lies = (found, within_trans found at path within lies, m)

pub texts_stay : (old new : History) (state : List Piece) → Extends old new → Texts old state → Texts new state
texts_stay old new state past (inl none) = inl none
texts_stay old new state past (inr (k, inside, is)) =
    inr (k, omega (arith, inside, past.later), is ∙ ap (λ moment. state_of (bytes_at moment ignore_file)) (sym (past.stay k inside)))

held_on : (old new : History) (text : List ℕ) → Extends old new → MayHold old text → MayHold new text
held_on old new text past (state, may, piece, among, is) = (state, texts_stay old new state past may, piece, among, is)

pub apart_before : (old new : History) → Extends old new → Apart new → Apart old
apart_before old new past apart = record {
  texts = λ a b from_a from_b. apart.texts a b (held_on old new a past from_a) (held_on old new b past from_b);
  states = λ a b from_a from_b. apart.states a b (texts_stay old new a past from_a) (texts_stay old new b past from_b);
}
