use Rattle.std.proofs.Common.{ℕ, ◌≡◌, List, Some, ◌∙◌, ap, length, option_map, rules, subst, sym}
use Rattle.hg_front.specs.Further.{Says}
use Rattle.hg_front.proofs.Strays.{usage_of_flags, usage_of_nothing, usage_of_stray}
use Rattle.hg_front.proofs.flags.say_of_usage.Goals as goal

pub returns-then-len-eq0 : goal.returns-then-len-eq0
returns-then-len-eq0 g c =
    let none : length c.args.words.now ≡ 0 = search rules in
    subst (λ (text : List ℕ). Says (g.E.Sink.bytes c.args.err.now) (g.E.Sink.bytes c.say.new.err) (g.E.Sink.faults c.args.err.now) (g.E.Sink.faults c.say.new.err) text)
    (usage_of_nothing c.args.words.now none) c.say.ensures

pub returns-in-Some : goal.returns-in-Some
returns-in-Some g c =
    let first = c.at.ensures ∙ ap Some (sym c.as_str-command.ensures) in
    let found = sym c.stray.ensures ∙ ap (option_map (λ word. word.now)) c.in-Some.is in
    subst (λ (text : List ℕ). Says (g.E.Sink.bytes c.args.err.now) (g.E.Sink.bytes c.say_flag.new.err) (g.E.Sink.faults c.args.err.now) (g.E.Sink.faults c.say_flag.new.err) text)
    (usage_of_stray c.args.words.now c.as_str-command.result.now c.in-Some.word.now first found) c.say_flag.ensures

pub returns-in-None : goal.returns-in-None
returns-in-None g c =
    let first = c.at.ensures ∙ ap Some (sym c.as_str-command.ensures) in
    let found = sym c.stray.ensures ∙ ap (option_map (λ word. word.now)) c.in-None.is in
    subst (λ (text : List ℕ). Says (g.E.Sink.bytes c.args.err.now) (g.E.Sink.bytes c.say-in-None.new.err) (g.E.Sink.faults c.args.err.now) (g.E.Sink.faults c.say-in-None.new.err) text)
    (usage_of_flags c.args.words.now c.as_str-command.result.now first found) c.say-in-None.ensures
