-- The names of the keys so far, turn by turn, and at the end.
use Rattle.std.proofs.Common.{sym, ◌∙◌, ap, ◌++◌, List, ℕ, Some}
use Rattle.std.specs.Prelude.{option_map}
use Rattle.std.specs.BTreeMap.{keys}
use Rattle.std.specs.List.{filter_map, list_all}
use Rattle.std.specs.String.{string_bytes, string_cmp}
use Rattle.std.proofs.lemmas.Map.Keys.{IsDistinct-from_sorted}
use Rattle.hg_base.specs.PathText.{is_path, child_of}
use Rattle.hg_base.proofs.Children.{child_component}
use Rattle.hg_tree.proofs.Children.{texts, children_of_keys, keys_are_paths, key_is_path, name_kept, none_kept, none_left}
use Rattle.hg_tree.proofs.listing.names_in.Goals as goal

pub loop-key-init : goal.loop-key-init
loop-key-init c =
    let all = c.into_iter-key-iterator.ensures.into_iter_gives ∙ c.keys-key-items.ensures.rest in
    record {
      names = ap (λ (ns : List (List ℕ)). ns ++ filter_map (child_of (option_map (λ d. d.text.now) c.args.dir)) (texts c.into_iter-key-iterator.result)) c.new-names.ensures.items
          ∙ ap (λ ks. filter_map (child_of (option_map (λ d. d.text.now) c.args.dir)) (texts ks)) all;
      paths = ap (λ ks. list_all is_path (texts ks)) all ∙ keys_are_paths c.args.things.now.entries c.requires;
    }

pub of-requires : goal.of-requires
of-requires c =
    child_component (option_map (λ d. d.text.now) c.args.dir) (string_bytes c.in-Some.key.now) c.in-Some-child.name.now
    (key_is_path c.in-Some.key.now c.loop-key.key-iterator c.next.new.self c.in-Some.ensures.steps c.loop-key.invariant.paths).0
    (sym (c.in-Some-child.ensures ∙ ap (child_of (option_map (λ d. d.text.now) c.args.dir)) c.as_str.ensures.value))

pub loop-key-preserved-in-Continue-branch-2 : goal.loop-key-preserved-in-Continue-branch-2
loop-key-preserved-in-Continue-branch-2 c = record {
  names = name_kept (option_map (λ d. d.text.now) c.args.dir) c.loop-key.names.items c.push.new.self.items _ c.in_ok-name.name c.in-Some.key.now c.loop-key.key-iterator c.next.new.self
      c.in-Some.ensures.steps (ap Some c.in_ok-name.ensures ∙ (c.in-Some-child.ensures ∙ ap (child_of (option_map (λ d. d.text.now) c.args.dir)) c.as_str.ensures.value))
      c.in_ok-push.ensures.items c.loop-key.invariant.names;
  paths = (key_is_path c.in-Some.key.now c.loop-key.key-iterator c.next.new.self c.in-Some.ensures.steps c.loop-key.invariant.paths).1;
}

pub loop-key-preserved : goal.loop-key-preserved
loop-key-preserved c = record {
  names = none_kept (option_map (λ d. d.text.now) c.args.dir) c.loop-key.names.items _ c.in-Some.key.now c.loop-key.key-iterator c.next.new.self c.in-Some.ensures.steps
      (c.in_default.ensures ∙ ap (child_of (option_map (λ d. d.text.now) c.args.dir)) c.as_str.ensures.value) c.loop-key.invariant.names;
  paths = (key_is_path c.in-Some.key.now c.loop-key.key-iterator c.next.new.self c.in-Some.ensures.steps c.loop-key.invariant.paths).1;
}

pub returns : goal.returns
returns c =
    children_of_keys (option_map (λ d. d.text.now) c.args.dir) c.args.things.now.entries c.loop-key.names.items c.requires
    (IsDistinct-from_sorted string_cmp (keys c.args.things.now) c.keys-key-items.ensures.ordered)
    (none_left _ c.loop-key.names.items _ c.loop-key.key-iterator c.in-None.ensures.steps.0 c.loop-key.invariant.names)
