-- What was appended, as what a table is encoded as by either way.
use Rattle.std.proofs.Common.{◌≡◌, ℕ, ◌≤◌, ◌^◌, Bool, true, false, MatchBool, List, ◌++◌, length, None, Result, Ok, Err, inl, inr, refl, sym, ap, subst, ◌∙◌, arith}
use Rattle.std.specs.Prelude.{IfErr, IfOk}
use Rattle.std.proofs.lemmas.List.{take_all}
use Rattle.hg_docket.specs.Docket.{docket_of}
use Rattle.hg_image.specs.Counts.{is_counted}
use Rattle.hg_image.specs.Reading.{reading_of}
use Rattle.hg_image.specs.Rows.{rows_of}
use Rattle.hg_mixed.specs.Held.{Held, is_lent, table}
use Rattle.hg_append.specs.Encoded.{ReadsAs, Yields}
use Rattle.hg_append.specs.Keeps.{keeps_lent}
use Rattle.hg_append.specs.Lost.{waste}
use Rattle.hg_append.specs.Put.{kept}
use Rattle.hg_append.specs.Tree.{IsTreeIn, Nothing, Tree}
use Rattle.hg_append.specs.declared.encoding.Encoded.{Encoded}
use Rattle.hg_append.specs.declared.fault.EncodeFault.{EncodeFault}
use Rattle.hg_append.specs.declared.fault.EncodeFault.TheVariants as a_fault
use Rattle.hg_append.proofs.OneTree.{one_tree_in}
use Rattle.hg_append.specs.Appended.{IsExact, IsNewTree, IsOverImage, IsSoundlyAppended, end_with, file_with}
use Rattle.hg_append.specs.Appending.{HasAppendCause}
use Rattle.hg_append.specs.Either.{file_of}
use Rattle.hg_append.proofs.LentIn.{lent_rows}
use Rattle.hg_append.proofs.OnImage.{on_image}
use Rattle.hg_append.proofs.ReadBehind.{counted, reads, wasted}

module _ (held : Held) (over : IsOverImage held) (e : Encoded) (s : IsSoundlyAppended held e) where
  one_file : file_with held e ≡ file_of held e
  one_file =
      let used : length held.bytes ≡ held.docket.used = over.used in
      let place : e.place ≡ held.docket.used = s.appended.place in
      sym (ap (λ (l : List ℕ). l ++ e.bytes.items) (take_all e.place held.bytes (omega (arith, used, place))))

  pub reads_by : ReadsAs (table held) (reading_of e.docket.items (file_of held e))
  reads_by = subst (λ (f : List ℕ). ReadsAs (table held) (reading_of e.docket.items f)) one_file (reads held e s (lent_rows held) (on_image held e.bytes.items over))

  pub counted_by : is_counted (docket_of e.docket.items) (rows_of (docket_of e.docket.items) (file_of held e)) ≡ true
  counted_by = subst (λ (f : List ℕ). is_counted (docket_of e.docket.items) (rows_of (docket_of e.docket.items) f) ≡ true) one_file (counted held e s (lent_rows held) (on_image held e.bytes.items over))

  pub told_by : IsExact held → (docket_of e.docket.items).unreachable ≡ waste (docket_of e.docket.items) (rows_of (docket_of e.docket.items) (file_of held e))
  told_by exact =
      subst (λ (f : List ℕ). (docket_of e.docket.items).unreachable ≡ waste (docket_of e.docket.items) (rows_of (docket_of e.docket.items) f)) one_file
      (wasted held e s (lent_rows held) (on_image held e.bytes.items over) exact)

-- a table has one such tree
one_new : (held : Held) (a b : Tree) → IsNewTree held a → IsNewTree held b → a ≡ b
one_new held a b p q = by (is_lent held None) p q
  where
    by : (t : Bool) → MatchBool t (a ≡ Nothing) (IsTreeIn held (keeps_lent held) None a) → MatchBool t (b ≡ Nothing) (IsTreeIn held (keeps_lent held) None b) → a ≡ b
    by true p q = p ∙ sym q
    by false p q = one_tree_in held (keeps_lent held) None a b p q

-- an end that is too far is told
pub told_behind : (held : Held) (r : Result Encoded EncodeFault) → IfOk r (IsSoundlyAppended held) → IfErr r (HasAppendCause held)
    → (tree : Tree) → IsNewTree held tree → 2 ^ 32 ≤ end_with held tree → Yields (a_fault.TooLarge (kept (end_with held tree))) r
told_behind held (Ok e) ok err tree is large =
    let same : tree ≡ ok.appended.tree = one_new held tree ok.appended.tree is ok.appended.is in
    let end : end_with held tree ≡ end_with held ok.appended.tree = ap (end_with held) same in
    let small = ok.appended.small in
    absurd (omega (arith, end, small, large))
told_behind held (Err a_fault.OutOfMemory) ok err tree is large = inr refl
told_behind held (Err (a_fault.TooLarge size)) ok err tree is large =
    let same : err.tree ≡ tree = one_new held err.tree tree err.is is in
    inl (ap a_fault.TooLarge (err.size ∙ ap (λ (t : Tree). kept (end_with held t)) same))
told_behind held (Err a_fault.IdsSpent) ok err tree is large = absurd err
