use Rattle.std.proofs.Common.{subst, sym, ◌∙◌, ◌++◌, ◌∷◌, [], ap, rules, chars}
use Rattle.std.specs.Prelude.{reverse}
use Rattle.std.specs.Char.{IsScalar}
use Rattle.std.specs.Str.Iter.{chars_rest}
use Rattle.std.specs.Iterator.Adapters.{rev_source}
use Rattle.hg_glob.specs.Kept.{HasEnd}
use Rattle.hg_glob.proofs.Masks.{chars_first, chars_more, chars_all, chars_last}
use Rattle.hg_glob.proofs.short.Short.read.Goals as goal

pub loop-c-init : goal.loop-c-init
loop-c-init c = record {
  read = c.requires;
  back = chars_first c.args.path.now _ (ap chars_rest (ap rev_source c.into_iter-c-iterator.ensures.into_iter_gives ∙ c.rev-c-items.ensures.source) ∙ c.chars.ensures.rest);
}

pub loop-c-preserved : goal.loop-c-preserved
loop-c-preserved c =
    let scalar : IsScalar c.in-Some.c = search rules in
    record {
      read = c.push.ensures ∙ ap (λ v. v ++ c.in-Some.c ∷ []) c.loop-c.invariant.read;
      back = chars_more c.args.path.now _ _ c.loop-c.yielded c.in-Some.c c.loop-c.invariant.back c.in-Some.ensures.steps scalar;
    }

pub returns-clause-all : goal.returns-clause-all
returns-clause-all c = λ _. chars_all c.args.path.now _ c.loop-c.yielded c.loop-c.invariant.back c.utf8.path c.in-None.ensures.steps.0 ∙ ap reverse (sym c.loop-c.invariant.read)

pub returns-clause-last : goal.returns-clause-last
returns-clause-last c = subst (λ v. HasEnd (chars c.args.path.now) (reverse v)) (sym c.loop-c.invariant.read) (chars_last c.args.path.now _ c.loop-c.yielded c.loop-c.invariant.back c.utf8.path)

pub returns-then-len-ge63-clause-last : goal.returns-then-len-ge63-clause-last
returns-then-len-ge63-clause-last c = subst (λ v. HasEnd (chars c.args.path.now) (reverse v)) (sym c.loop-c.invariant.read) (chars_last c.args.path.now _ c.loop-c.yielded c.loop-c.invariant.back c.utf8.path)
