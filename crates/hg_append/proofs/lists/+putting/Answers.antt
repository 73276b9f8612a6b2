use Rattle.std.proofs.Common.{◌≡◌, ℕ, Option, Some, ◌<◌, ◌≤◌, ◌^◌, length, take, drop, arith, rules, refl, sym, ap, subst, ◌∙◌}
use Rattle.std.specs.Option.{option_map}
use Rattle.hg_mixed.specs.Child.{shown_child}
use Rattle.hg_mixed.specs.Children.{IsChild}
use Rattle.hg_mixed.specs.Walk.{walked}
use Rattle.hg_append.specs.declared.kept.Kept.{Kept}
use Rattle.hg_append.specs.declared.lists.Put.{Put}
use Rattle.hg_append.specs.Keeps.{keeps_by}
use Rattle.hg_append.specs.Put.{HasPut, IsPutUnder, Puts, base_by}
use Rattle.hg_append.proofs.Steps.{base_inside, below_kept, below_none, below_some, child_longer, dir_length, in_parent, left_child, part_done, part_more, part_on, path_short, put_few}
use Rattle.hg_append.proofs.lists.+putting.Goals as goal

pub put_child-returns-then-not-child : goal.put_child-returns-then-not-child
put_child-returns-then-not-child t c =
    let fits : c.args.sums.end < 2 ^ 64 = search rules in
    let keeps = keeps_by c.args.mixed.now c.args.way in
    let under : Put = record { start = 0; sums = c.none.result } in
    record {
      under = under;
      mid = c.args.bytes.now.items;
      mid_records = c.args.records.now.items;
      below = below_none c.args.mixed.now keeps (shown_child c.args.child.now) c.args.sums.end under c.args.bytes.now.items c.args.records.now.items fits c.requires.child c.if-not-child.true
          refl c.none.ensures.end c.none.ensures.count c.none.ensures.entries c.none.ensures.tracked c.none.ensures.copies;
      few = record {
        start = λ small. omega arith;
        count = λ small. let count : c.none.result.count ≡ 0 = c.none.ensures.count in omega (arith, count);
        entries = λ small. let entries : c.none.result.entries ≡ 0 = c.none.ensures.entries in omega (arith, entries);
        tracked = λ small. let tracked : c.none.result.tracked ≡ 0 = c.none.ensures.tracked in omega (arith, tracked);
      };
      is = c.in_ok-now.ensures.sums;
      sound = c.in_ok-now.ensures.sound;
      texts = c.in_ok-now.ensures.bytes;
      records = c.in_ok-now.ensures.records;
    }

pub put_child-returns : goal.put_child-returns
put_child-returns t c = record {
  under = c.in_ok-under.under;
  mid = c.put_below.new.bytes.items;
  mid_records = c.put_below.new.records.items;
  below = below_some c.args.mixed.now (keeps_by c.args.mixed.now c.args.way) (shown_child c.args.child.now) _ c.args.sums.end c.in_ok-under.under c.args.bytes.now.items c.put_below.new.bytes.items c.args.records.now.items c.put_below.new.records.items
      c.if-not-child.false c.below.ensures.path c.in_ok-under.ensures.put;
  few = c.in_ok-under.ensures.few;
  is = c.in_ok-now-2.ensures.sums;
  sound = c.in_ok-now-2.ensures.sound;
  texts = c.in_ok-now-2.ensures.bytes;
  records = c.in_ok-now-2.ensures.records;
}

pub put_below-returns-in-Some-clause-put : goal.put_below-returns-in-Some-clause-put
put_below-returns-in-Some-clause-put t c =
    let keeps = keeps_by c.args.mixed.now c.args.way in
    let list = c.in-Some.list in
    let fits : c.args.at < 2 ^ 64 = search rules in
    let few_nodes : list.count < 2 ^ 32 = search rules in
    let few_entries : list.entries < 2 ^ 32 = search rules in
    let few_tracked : list.tracked < 2 ^ 32 = search rules in
    subst (λ (l : Option Kept). IsPutUnder c.args.mixed.now keeps l c.args.below.path.text.now c.args.at c.stays.result c.args.bytes.now.items c.args.bytes.now.items c.args.records.now.items c.args.records.now.items)
    c.in-Some.ensures
    (below_kept c.args.mixed.now keeps list c.args.below.path.text.now c.args.at c.stays.result c.args.bytes.now.items c.args.records.now.items fits few_nodes few_entries few_tracked c.stays.ensures.start
    c.stays.ensures.end c.stays.ensures.count c.stays.ensures.entries c.stays.ensures.tracked c.stays.ensures.copies)

pub put_below-returns-clause-few : goal.put_below-returns-clause-few
put_below-returns-clause-few t c =
    put_few c.args.mixed.now (keeps_by c.args.mixed.now c.args.way) (base_by c.args.mixed.now c.args.way) (Some c.args.below.path.text.now) c.args.at c.in_ok-put.put _ _ _ _ c.requires.few c.requires.room
    c.in_ok-put.ensures

pub put_list-put_child-requires : goal.put_list-put_child-requires
put_list-put_child-requires t c =
    let dir = option_map (λ d. d.text.now) c.args.dir in
    let keeps = keeps_by c.args.mixed.now c.args.way in
    let fits : c.args.at < 2 ^ 64 = search rules in
    let is : IsChild c.args.mixed.now dir (shown_child c.in-Some.child) =
    left_child c.args.mixed.now keeps dir c.args.at (walked c.loop-child.children) (walked c.next.new.self) (shown_child c.in-Some.child) c.loop-child.sums _ _ _ _ c.in-Some.ensures.takes c.loop-child.invariant.part in
    let longer : dir_length dir < length c.in-Some.child.path.text.now = child_longer dir c.in-Some.child.path.text.now c.in-Some.child.path.is_path is.parent in
    let short : length c.in-Some.child.path.text.now ≤ 65535 = path_short c.in-Some.child.path.text.now c.in-Some.child.path.is_path in (
      omega (arith, c.decreases, longer, short),
      (
        in_parent c.args.mixed.now dir (shown_child c.in-Some.child) is,
        (
          (c.in-Some.ensures.lists c.args.mixed.now c.loop-child.invariant.lists).1,
          (
            subst (λ (n : ℕ). n ≤ length c.in-Some.child.path.text.now) (sym c.base_at-base_at.ensures) (base_inside dir c.in-Some.child.path.text.now is.parent),
            (
              c.requires.few,
              part_on c.args.mixed.now keeps (base_by c.args.mixed.now c.args.way) dir c.args.at (walked c.loop-child.children) c.loop-child.sums _ _ _ _ fits c.requires.room c.loop-child.invariant.part,
            ),
          ),
        ),
      ),
    )

pub put_list-loop-child-preserved : goal.put_list-loop-child-preserved
put_list-loop-child-preserved t c =
    let dir = option_map (λ d. d.text.now) c.args.dir in
    let keeps = keeps_by c.args.mixed.now c.args.way in
    let is : IsChild c.args.mixed.now dir (shown_child c.in-Some.child) =
    left_child c.args.mixed.now keeps dir c.args.at (walked c.loop-child.children) (walked c.next.new.self) (shown_child c.in-Some.child) c.loop-child.sums _ _ _ _ c.in-Some.ensures.takes c.loop-child.invariant.part in
    let put = subst (λ (n : ℕ). HasPut c.args.mixed.now keeps (shown_child c.in-Some.child) n c.loop-child.sums c.in_ok-sums.sums c.loop-child.bytes.items c.put_child.new.bytes.items c.loop-child.records.items c.put_child.new.records.items)
    c.base_at-base_at.ensures c.in_ok-sums.ensures in
    record {
      part = part_more c.args.mixed.now keeps dir c.args.at (walked c.loop-child.children) (shown_child c.in-Some.child) (walked c.next.new.self) c.in-Some.ensures.takes c.loop-child.sums c.in_ok-sums.sums
          _ _ _ _ _ _ c.loop-child.invariant.part put is;
      lists = (c.in-Some.ensures.lists c.args.mixed.now c.loop-child.invariant.lists).0;
      base = c.base_at-base_at.ensures;
      from = c.loop-child.invariant.from;
    }

pub put_list-returns : goal.put_list-returns
put_list-returns t c =
    part_done c.args.mixed.now (keeps_by c.args.mixed.now c.args.way) (option_map (λ d. d.text.now) c.args.dir) c.args.at (walked c.loop-child.children) c.loop-child.sums c.in_ok-put.put _ c.loop-child.bytes.items c.put_records.new.bytes.items
    c.args.records.now.items c.loop-child.records.items c.put_records.new.records.items c.loop-child.invariant.part c.in_default.ensures.takes.0 c.in_ok-put.ensures.sums c.in_ok-put.ensures.start
    (subst (λ (n : ℕ). Puts c.in_ok-put.put.sums.end (drop n c.loop-child.records.items) c.loop-child.bytes.items c.put_records.new.bytes.items) c.loop-child.invariant.from c.in_ok-put.ensures.bytes)
    (λ small. c.in_ok-put.ensures.records small ∙ ap (λ (n : ℕ). take n c.loop-child.records.items) c.loop-child.invariant.from)
