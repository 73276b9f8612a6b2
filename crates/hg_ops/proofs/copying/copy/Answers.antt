use Rattle.std.proofs.Common.{List, ℕ, Ok, Some, sym, ap, ◌∙◌, subst}
use Rattle.std.specs.Prelude.{IfOk}
use Rattle.hg_base.specs.PathText.{is_path}
use Rattle.hg_image.proofs.Texts.{path_false}
use Rattle.hg_mixed.specs.Held.{table}
use Rattle.hg_ops.specs.Copy.{Copies}
use Rattle.hg_ops.specs.declared.copy_refusal.CopyRefusal.TheVariants as a_word
use Rattle.hg_ops.specs.declared.refusal.Refusal.TheVariants as a_refusal
use Rattle.hg_ops.proofs.Course.{copies_of, copying_words, words_source, words_target}
use Rattle.hg_ops.proofs.Tracked.{tables_refused, unchanged_itself}
use Rattle.hg_ops.proofs.copying.copy.Goals as goal

pub returns-in-Err-clause-stepped : goal.returns-in-Err-clause-stepped
returns-in-Err-clause-stepped g c =
    copies_of c.args.from.now c.args.to.now (g.T.Tree.history c.args.tree.now) (g.T.Tree.history c.args.tree.now) c.args.mixed.now c.args.mixed.now (Ok (Some (a_word.Source a_refusal.BadPath)))
    (copying_words c.args.from.now c.args.to.now (table c.args.mixed.now) (g.T.Tree.history c.args.tree.now) (a_word.Source a_refusal.BadPath)
    (words_source c.args.from.now c.args.to.now (table c.args.mixed.now) (path_false c.args.from.now c.in-Err.field-0 (sym c.in-Err.ensures.refused))))
    (tables_refused c.args.from.now c.args.to.now c.args.mixed.now c.args.mixed.now (a_word.Source a_refusal.BadPath) (unchanged_itself c.args.mixed.now))

pub returns-in-Err-read-clause-stepped : goal.returns-in-Err-read-clause-stepped
returns-in-Err-read-clause-stepped g c =
    copies_of c.args.from.now c.args.to.now (g.T.Tree.history c.args.tree.now) (g.T.Tree.history c.args.tree.now) c.args.mixed.now c.args.mixed.now (Ok (Some (a_word.Target a_refusal.BadPath)))
    (copying_words c.args.from.now c.args.to.now (table c.args.mixed.now) (g.T.Tree.history c.args.tree.now) (a_word.Target a_refusal.BadPath)
    (words_target c.args.from.now c.args.to.now (table c.args.mixed.now) (sym (ap is_path c.in-Ok.ensures.path) ∙ c.in-Ok.source.is_path)
    (path_false c.args.to.now c.in-Err-read.field-0 (sym c.in-Err-read.ensures.refused))))
    (tables_refused c.args.from.now c.args.to.now c.args.mixed.now c.args.mixed.now (a_word.Target a_refusal.BadPath) (unchanged_itself c.args.mixed.now))

pub returns-in-Ok-read-clause-stepped : goal.returns-in-Ok-read-clause-stepped
returns-in-Ok-read-clause-stepped g c =
    subst
    (λ (from : List ℕ). IfOk c.copy_paths.result (λ refused. Copies from c.args.to.now (g.T.Tree.history c.args.tree.now) (g.T.Tree.history c.copy_paths.new.tree) (table c.args.mixed.now) refused (table c.copy_paths.new.mixed)))
    c.in-Ok.ensures.path
    (subst
    (λ (to : List ℕ). IfOk c.copy_paths.result (λ refused. Copies c.in-Ok.source.text.now to (g.T.Tree.history c.args.tree.now) (g.T.Tree.history c.copy_paths.new.tree) (table c.args.mixed.now) refused (table c.copy_paths.new.mixed)))
    c.in-Ok-read.ensures.path
    (copies_of c.in-Ok.source.text.now c.in-Ok-read.target.text.now (g.T.Tree.history c.args.tree.now) (g.T.Tree.history c.copy_paths.new.tree) c.args.mixed.now c.copy_paths.new.mixed c.copy_paths.result
    c.copy_paths.ensures.copying c.copy_paths.ensures.table))
