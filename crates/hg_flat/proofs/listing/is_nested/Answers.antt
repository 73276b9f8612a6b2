use Rattle.std.proofs.Common.{ℕ, ◌≡◌, List, Some, arith, codes, sym, subst, ◌∙◌, ap, option_map}
use Rattle.hg_tree.specs.History.{now}
use Rattle.hg_tree.specs.Still.{hg_in}
use Rattle.hg_flat.specs.Listing.{holds_repository}
use Rattle.hg_flat.specs.Passed.{WasNoDir}
use Rattle.hg_flat.proofs.Among.{fit_of, not_nested}
use Rattle.std.proofs.lemmas.Result.{IfOk-weaker}
use Rattle.hg_flat.proofs.listing.is_nested.Goals as goal

pub returns-then-not-has_name-clause-found : goal.returns-then-not-has_name-clause-found
returns-then-not-has_name-clause-found g c = λ are path untouched inside.
    not_nested (now (g.T.Tree.history c.args.tree.now)) (option_map (λ d. d.text.now) c.args.dir) c.in-Some.dir.text.now c.args.names.now
    (ap (option_map (λ d. d.text.now)) c.in-Some.is) (sym c.has_name.ensures ∙ c.if-not-has_name.true) are

pub holds_hg-requires : goal.holds_hg-requires
holds_hg-requires g c = rw c.in-Some.is at (fit_of _ c.args.names.now (codes ".hg") c.requires (sym c.has_name.ensures ∙ c.if-not-has_name.false)).path

-- ---- no directory `.hg`, at a moment

pub returns-in_default-clause-apart : goal.returns-in_default-clause-apart
returns-in_default-clause-apart g c = λ are told never path is. let none = ap (option_map (λ d. d.text.now)) c.in_default.is in absurd (cc (none, is))

pub returns-then-not-has_name-clause-apart : goal.returns-then-not-has_name-clause-apart
returns-then-not-has_name-clause-apart g c = λ are told never path is.
    let old = g.T.Tree.history c.args.tree.now in record {
      moment = old.last;
      begun = omega arith;
      past = omega arith;
      none =
          sym
          (not_nested (now old) (option_map (λ d. d.text.now) c.args.dir) path c.args.names.now is (sym c.has_name.ensures ∙ c.if-not-has_name.true) are
          ∙ ap (holds_repository (now old)) is);
    }

pub returns-clause-apart : goal.returns-clause-apart
returns-clause-apart g c = λ are told.
    IfOk-weaker c.holds_hg.result _ _
    (λ holds none never path is.
    let both : Some c.in-Some.dir.text.now ≡ Some path = sym (ap (option_map (λ d. d.text.now)) c.in-Some.is) ∙ is in
    let same : c.in-Some.dir.text.now ≡ path = cc both in
    subst (λ (q : List ℕ). WasNoDir (g.T.Tree.history c.holds_hg.new.tree) (g.T.Tree.history c.args.tree.now).last (hg_in q)) same (none never))
    (c.holds_hg.ensures.apart told)
