use Rattle.std.proofs.Common.{◌≡◌, ◌∙◌, ◌+◌, ◌<◌, ◌++◌, List, ℕ, false, true, sym, ap, subst, arith, rules}
use Rattle.std.specs.Prelude.{codes}
use Rattle.std.proofs.lemmas.Result.{on_ok_weaker}
use Rattle.hg_gen.specs.Copy.{text_of}
use Rattle.hg_gen.specs.Manifest.{is_in_parent}
use Rattle.hg_alone.specs.Alone.{files_of}
use Rattle.hg_gen.specs.Recorded.{AreContents, AreOnlyContents}
use Rattle.hg_gen.proofs.Keeping.{contents_name, only_upto, only_with, with_more, without_more}
use Rattle.hg_shelf.specs.History.{Files}
use Rattle.hg_gen.proofs.storing.put_contents.Goals as goal

pub returns-then-not-is_in_parent-clause-files : goal.returns-then-not-is_in_parent-clause-files
returns-then-not-is_in_parent-clause-files c =
    let small : c.args.file < 32000 = omega (arith, c.requires) in
    let gone : is_in_parent c.args.file ≡ false = search rules in
    λ upto. without_more c.args.file (files_of c.args.shelf.now.shelf) upto (omega arith) gone

pub returns-clause-files : goal.returns-clause-files
returns-clause-files c =
    let small : c.args.file < 32000 = omega (arith, c.requires) in
    let name : c.as_str-2.result.now ≡ contents_name c.args.file =
    c.as_str-2.ensures.value ∙ c.in_ok-name.ensures ∙ ap (λ (n : List ℕ). codes "plain/f-" ++ n) (c.as_str.ensures.value ∙ c.in_ok-contents.ensures) in
    let text : c.as_bytes.result.now ≡ text_of c.args.file = search rules in
    on_ok_weaker c.put.result
    (λ is upto. subst (λ (f : Files). AreContents (c.args.file + 1) f) (sym is) (with_more c.args.file (files_of c.args.shelf.now.shelf) upto (omega arith) _ _ name text))
    c.put.ensures.files

pub returns-then-not-is_in_parent-clause-only : goal.returns-then-not-is_in_parent-clause-only
returns-then-not-is_in_parent-clause-only c = λ only. only_upto c.args.file (files_of c.args.shelf.now.shelf) only

pub returns-clause-only : goal.returns-clause-only
returns-clause-only c =
    let small : c.args.file < 32000 = omega (arith, c.requires) in
    let there : is_in_parent c.args.file ≡ true = search rules in
    let name : c.as_str-2.result.now ≡ contents_name c.args.file =
    c.as_str-2.ensures.value ∙ c.in_ok-name.ensures ∙ ap (λ (n : List ℕ). codes "plain/f-" ++ n) (c.as_str.ensures.value ∙ c.in_ok-contents.ensures) in
    on_ok_weaker c.put.result
    (λ is only. subst (λ (f : Files). AreOnlyContents (c.args.file + 1) f) (sym is) (only_with c.args.file (files_of c.args.shelf.now.shelf) _ _ name there only))
    c.put.ensures.files
