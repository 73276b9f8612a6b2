use Rattle.std.proofs.Common.{◌∙◌, ap, sym, Option, Some}
use Rattle.std.specs.Prelude.{is_some, option_map}
use Rattle.std.specs.Map.{update}
use Rattle.std.specs.Str.{bytes_eq}
use Rattle.std.proofs.lemmas.Result.{on_err_weaker, on_ok_weaker}
use Rattle.hg_base.specs.declared.time.Stamp.{Stamp}
use Rattle.hg_entry.specs.Entry.{cache_view, view}
use Rattle.hg_nodes.specs.Adding.{recorded_node}
use Rattle.hg_nodes.specs.Node.{node_at}
use Rattle.hg_nodes.specs.Times.{time_at}
use Rattle.hg_nodes.proofs.Added.{adds_own, adds_untimed, none_mapped, none_viewed, some_mapped, untimed}
use Rattle.hg_nodes.proofs.adding.add_to.Goals as goal

pub returns-in-None-clause-ok : goal.returns-in-None-clause-ok
returns-in-None-clause-ok c = on_ok_weaker c.put.result
    (λ placed.
    adds_own c.args.own.path.text.now (recorded_node c.args.own) c.args.nodes.now c.args.times.now c.put.new.self c.remove.new.self c.args.own.path.is_path c.requires.formed c.requires.dir
    (λ at. placed at ∙ (λ i. update bytes_eq (node_at c.args.nodes.now) c.args.own.path.text.now (Some (record {
      entry = option_map view c.args.own.entry;
      source = c.in_ok-lent_source.ensures.path i;
      text_at = Some c.args.own.text_at;
      source_at = c.in_ok-lent_source.ensures.place i;
    })) at))
    (λ none. none_mapped (λ s. s.text.now) c.args.own.source (c.requires.sourced (none_viewed view c.args.own.entry none)))
    (option_map cache_view c.args.own.cache)
    (λ at. c.remove.ensures at ∙ ap (λ (o : Option Stamp). update bytes_eq (time_at c.args.times.now) c.args.own.path.text.now (option_map cache_view o) at) (sym c.in-None.is))
    (λ cached. ap (option_map view) (c.requires.apart (some_mapped cache_view c.args.own.cache cached))))
    c.put.ensures.ok

pub returns-in-None-clause-err : goal.returns-in-None-clause-err
returns-in-None-clause-err c = on_err_weaker c.put.result
    (λ same. untimed c.args.own.path.text.now c.args.nodes.now c.args.times.now c.put.new.self c.remove.new.self c.requires.formed same c.remove.ensures)
    c.put.ensures.err

pub returns-in_ok-put-in-Some-clause-ok : goal.returns-in_ok-put-in-Some-clause-ok
returns-in_ok-put-in-Some-clause-ok c = on_ok_weaker c.put-in-Some-2.result
    (λ timed.
    adds_own c.args.own.path.text.now (recorded_node c.args.own) c.args.nodes.now c.args.times.now c.put-in-Some.new.self c.put-in-Some-2.new.self c.args.own.path.is_path c.requires.formed c.requires.dir
    (λ at. c.in_ok-put-in-Some.ensures.ok at ∙ (λ i. update bytes_eq (node_at c.args.nodes.now) c.args.own.path.text.now (Some (record {
      entry = option_map view c.args.own.entry;
      source = c.in_ok-lent_source.ensures.path i;
      text_at = Some c.args.own.text_at;
      source_at = c.in_ok-lent_source.ensures.place i;
    })) at))
    (λ none. none_mapped (λ s. s.text.now) c.args.own.source (c.requires.sourced (none_viewed view c.args.own.entry none)))
    (option_map cache_view c.args.own.cache)
    (λ at. timed at ∙ ap (λ (o : Option Stamp). update bytes_eq (time_at c.args.times.now) c.args.own.path.text.now (option_map cache_view o) at) (sym c.in-Some.is))
    (λ cached. ap (option_map view) (c.requires.apart (some_mapped cache_view c.args.own.cache cached))))
    c.put-in-Some-2.ensures.ok

pub returns-in_ok-put-in-Some-clause-err : goal.returns-in_ok-put-in-Some-clause-err
returns-in_ok-put-in-Some-clause-err c = on_err_weaker c.put-in-Some-2.result
    (λ same.
    adds_untimed c.args.own.path.text.now (recorded_node c.args.own) c.args.nodes.now c.args.times.now c.put-in-Some.new.self c.put-in-Some-2.new.self c.args.own.path.is_path c.requires.formed c.requires.dir
    (λ at. c.in_ok-put-in-Some.ensures.ok at ∙ (λ i. update bytes_eq (node_at c.args.nodes.now) c.args.own.path.text.now (Some (record {
      entry = option_map view c.args.own.entry;
      source = c.in_ok-lent_source.ensures.path i;
      text_at = Some c.args.own.text_at;
      source_at = c.in_ok-lent_source.ensures.place i;
    })) at))
    (λ none. none_mapped (λ s. s.text.now) c.args.own.source (c.requires.sourced (none_viewed view c.args.own.entry none)))
    (ap (option_map view) (c.requires.apart (ap is_some c.in-Some.is)))
    same)
    c.put-in-Some-2.ensures.err
