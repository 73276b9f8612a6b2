use Rattle.std.proofs.Common.{sym, subst, Option, List, ℕ, OnOk, IfErr}
use Rattle.hg_ignore.specs.Line.{cut_said, form_said}
use Rattle.hg_ignore.specs.Taking.{HasLineCause, Taken}
use Rattle.hg_syntax.specs.declared.syntax.Form.{Form}
use Rattle.hg_syntax.proofs.Texts.{cut_is_none, cut_is_some}
use Rattle.hg_ignore.proofs.reading.Reading.take_text.Goals as goal

pub returns-in-None-clause-taken : goal.returns-in-None-clause-taken
returns-in-None-clause-taken g c =
    let P : Option (List ℕ × List ℕ) → Type 0 = λ o. OnOk c.take_pattern.result (Taken (cut_said c.args.n c.args.self.now.syntax c.args.text.now o) c.args.self.now c.take_pattern.new.self) in
    subst P (sym (cut_is_none 58 c.args.text.now c.in-None.ensures)) c.take_pattern.ensures.taken

pub returns-in-None-clause-cause : goal.returns-in-None-clause-cause
returns-in-None-clause-cause g c =
    let P : Option (List ℕ × List ℕ) → Type 0 = λ o. IfErr c.take_pattern.result (HasLineCause (cut_said c.args.n c.args.self.now.syntax c.args.text.now o).items) in
    subst P (sym (cut_is_none 58 c.args.text.now c.in-None.ensures)) c.take_pattern.ensures.cause

pub returns-in-Some-clause-taken : goal.returns-in-Some-clause-taken
returns-in-Some-clause-taken g c =
    let P : Option (List ℕ × List ℕ) → Type 0 = λ o. OnOk c.take_form.result (Taken (cut_said c.args.n c.args.self.now.syntax c.args.text.now o) c.args.self.now c.take_form.new.self) in
    let Q : Form → Type 0 = λ form. OnOk c.take_form.result (Taken (form_said c.args.n c.args.self.now.syntax c.args.text.now c.in-Some.rest.now form) c.args.self.now c.take_form.new.self) in
    subst P (sym (cut_is_some 58 c.args.text.now c.in-Some.word.now c.in-Some.rest.now c.in-Some.ensures.0 c.in-Some.ensures.1)) (subst Q c.form_of.ensures c.take_form.ensures.taken)

pub returns-in-Some-clause-cause : goal.returns-in-Some-clause-cause
returns-in-Some-clause-cause g c =
    let P : Option (List ℕ × List ℕ) → Type 0 = λ o. IfErr c.take_form.result (HasLineCause (cut_said c.args.n c.args.self.now.syntax c.args.text.now o).items) in
    let Q : Form → Type 0 = λ form. IfErr c.take_form.result (HasLineCause (form_said c.args.n c.args.self.now.syntax c.args.text.now c.in-Some.rest.now form).items) in
    subst P (sym (cut_is_some 58 c.args.text.now c.in-Some.word.now c.in-Some.rest.now c.in-Some.ensures.0 c.in-Some.ensures.1)) (subst Q c.form_of.ensures c.take_form.ensures.cause)
