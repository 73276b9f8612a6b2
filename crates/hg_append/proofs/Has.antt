-- A text that stands at a place of some bytes.
use Rattle.std.proofs.Common.{◌≡◌, ℕ, ◌+◌, ◌≤◌, List, [], ◌++◌, length, take, drop, refl, sym, ap, ◌∙◌, arith, append_assoc, append-nil}
use Rattle.std.proofs.lemmas.List.{length-append}
use Rattle.std.proofs.Math.Seq.{drop-append_seam, take-append_seam}
use Rattle.hg_node.specs.declared.record.Rec.{Rec}
use Rattle.hg_node.specs.Node.{AreFactsSized, AreTextsSized, bytes_of, rec_of}
use Rattle.hg_node.proofs.Laws.{rec_back}
use Rattle.hg_image.specs.Node.{part_at, record_at}

pub record Has (bytes : List ℕ) (at : ℕ) (text : List ℕ) : Type 0 where
  pub before : List ℕ
  pub after : List ℕ
  pub whole : bytes ≡ before ++ (text ++ after)
  pub place : length before ≡ at

pub has_all : (bytes : List ℕ) → Has bytes 0 bytes
has_all bytes = record { before = []; after = []; whole = sym (append-nil bytes); place = refl }

pub has_first : (bytes : List ℕ) (at : ℕ) (a b : List ℕ) → Has bytes at (a ++ b) → Has bytes at a
has_first bytes at a b h = record { before = h.before; after = b ++ h.after; whole = h.whole ∙ ap (λ (l : List ℕ). h.before ++ l) (append_assoc a b h.after); place = h.place }

pub has_second : (bytes : List ℕ) (at place : ℕ) (a b : List ℕ) → at + length a ≡ place → Has bytes at (a ++ b) → Has bytes place b
has_second bytes at place a b e h = record {
  before = h.before ++ a;
  after = h.after;
  whole = h.whole ∙ ap (λ (l : List ℕ). h.before ++ l) (append_assoc a b h.after) ∙ sym (append_assoc h.before a (b ++ h.after));
  place = length-append h.before a ∙ ap (λ (n : ℕ). n + length a) h.place ∙ e;
}

pub has_part : (bytes : List ℕ) (at : ℕ) (text : List ℕ) → Has bytes at text → part_at bytes at (length text) ≡ text
has_part bytes at text h =
    ap (λ (n : ℕ). take (length text) (drop n bytes)) (sym h.place)
    ∙ ap (λ (l : List ℕ). take (length text) (drop (length h.before) l)) h.whole
    ∙ ap (take (length text)) (drop-append_seam h.before (text ++ h.after))
    ∙ take-append_seam text h.after

pub has_room : (bytes : List ℕ) (at : ℕ) (text : List ℕ) → Has bytes at text → at + length text ≤ length bytes
has_room bytes at text h =
    let all : length bytes ≡ length (h.before ++ (text ++ h.after)) = ap length h.whole in
    let one : length (h.before ++ (text ++ h.after)) ≡ length h.before + length (text ++ h.after) = length-append h.before (text ++ h.after) in
    let two : length (text ++ h.after) ≡ length text + length h.after = length-append text h.after in
    let place : length h.before ≡ at = h.place in
    omega (arith, all, one, two, place)

-- a record that stands there is read
pub has_record : (bytes : List ℕ) (at : ℕ) (rec : Rec) → AreTextsSized rec → AreFactsSized rec → Has bytes at (bytes_of rec) → record_at bytes at ≡ record rec { place = at }
unfolding record_at
has_record bytes at rec texts facts h =
    ap (λ (b : List ℕ). record (rec_of b) { place = at }) (has_part bytes at (bytes_of rec) h) ∙ ap (λ (r : Rec). record r { place = at }) (rec_back rec texts facts)
