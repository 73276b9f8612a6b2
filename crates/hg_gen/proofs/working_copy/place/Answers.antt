use Rattle.std.proofs.Common.{◌≡◌, ◌∙◌, ◌+◌, ◌<◌, ◌++◌, ◌∷◌, [], List, ℕ, true, false, Some, None, refl, sym, ap, subst, arith, rules}
use Rattle.std.proofs.lemmas.Bool.{cond-true}
use Rattle.std.proofs.lemmas.Result.{on_ok_weaker}
use Rattle.hg_base.specs.declared.time.Time.{Time}
use Rattle.hg_gen.specs.Copy.{AreFiles, bytes_of, is_exec, is_on_disk, path_of, placed, seconds}
use Rattle.hg_gen.proofs.Placing.{given_more, gone_more, placed_now, put_more}
use Rattle.hg_tree.proofs.Stable.{time_same}
use Rattle.hg_tree.specs.Change.{after_place, by_others}
use Rattle.hg_tree.specs.History.{now}
use Rattle.hg_tree.specs.Memory.{history_of}
use Rattle.hg_tree.specs.Moment.{Moment}
use Rattle.hg_tree.specs.declared.asked.Outside.TheVariants as a_change
use Rattle.hg_tree.specs.declared.thing.Thing.{Thing}
use Rattle.hg_tree.specs.declared.thing.Thing.TheVariants as a_thing
use Rattle.hg_gen.proofs.working_copy.place.Goals as goal

pub returns-then-not-is_on_disk-clause-files : goal.returns-then-not-is_on_disk-clause-files
returns-then-not-is_on_disk-clause-files c =
    let small : c.args.file < 32000 = omega (arith, c.requires.file) in
    let gone : is_on_disk c.args.file ≡ false = search rules in
    λ upto. gone_more c.args.file _ upto (omega arith) gone

pub returns : goal.returns
returns c =
    let small : c.args.file < 32000 = omega (arith, c.requires.file) in
    let there : is_on_disk c.args.file ≡ true = search rules in
    let path : c.as_ref.result.text.now ≡ path_of c.args.file = c.as_ref.ensures ∙ c.in_ok-path.ensures in
    let thing = a_thing.File (is_exec c.args.file) (bytes_of c.args.file) in
    let time : c.args.changed ≡ seconds 1000 = time_same c.args.changed (seconds 1000) c.requires.time.0 c.requires.time.1 in
    let now_is : c.place.new.self
    ≡ record c.args.tree.now { changes = c.args.tree.now.changes ++ by_others (a_change.Place c.as_ref.result.text.now c.in_ok-thing.thing c.args.changed) ∷ [] }
    → now (history_of c.place.new.self)
    ≡ record { clock = (now (history_of c.args.tree.now)).clock; things = after_place (path_of c.args.file) thing (seconds 1000) (now (history_of c.args.tree.now)).things }
    = λ is. placed_now c.args.tree.now c.place.new.self c.as_ref.result.text.now c.in_ok-thing.thing c.args.changed is
    ∙ ap (λ (p : List ℕ). record { clock = (now (history_of c.args.tree.now)).clock; things = after_place p c.in_ok-thing.thing c.args.changed (now (history_of c.args.tree.now)).things }) path
    ∙ ap (λ (t : Thing). record { clock = (now (history_of c.args.tree.now)).clock; things = after_place (path_of c.args.file) t c.args.changed (now (history_of c.args.tree.now)).things }) c.in_ok-thing.ensures
    ∙ ap (λ (t : Time). record { clock = (now (history_of c.args.tree.now)).clock; things = after_place (path_of c.args.file) thing t (now (history_of c.args.tree.now)).things }) time in
    record {
      files = on_ok_weaker c.place.result
          (λ is upto. subst (λ (m : Moment). AreFiles (c.args.file + 1) m.things) (sym (now_is is))
          (put_more c.args.file _ upto (omega arith) thing (cond-true (is_on_disk c.args.file) (Some (placed thing)) None there) refl))
          c.place.ensures.ok;
      clock = on_ok_weaker c.place.result (λ is. ap (λ (m : Moment). m.clock) (now_is is)) c.place.ensures.ok;
      given = on_ok_weaker c.place.result (λ is upto. given_more c.args.tree.now c.place.new.self _ is upto) c.place.ensures.ok;
    }
