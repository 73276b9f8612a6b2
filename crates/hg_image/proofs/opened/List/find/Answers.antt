use Rattle.std.proofs.Common.{ℕ, ◌+◌, ◌-◌, ◌/◌, List, inl, inr, sym, ap, ◌∙◌, arith, nat_cmp}
use Rattle.std.specs.Cmp.Lexicographic.{slice_cmp}
use Rattle.std.proofs.lemmas.Bool.{cases_lt}
use Rattle.hg_image.proofs.Names.{name_read, lesser, greater, same_equal, less_differs, greater_differs}
use Rattle.hg_image.proofs.opened.List.find.Goals as goal

pub returns-in-Equal : goal.returns-in-Equal
returns-in-Equal c =
    let middle = c.loop-low.low + (c.loop-low.high - c.loop-low.low) / 2 in (
      sym c.base.ensures ∙ same_equal c.base.result.now c.args.base.now (sym c.in-Equal.ensures),
      record {
        place = middle;
        inside = omega arith;
        rec = c.get-node.ensures.record;
        bytes = c.get-node.ensures.bytes;
        levels = c.get-node.ensures.levels;
      },
    )

pub loop-low-preserved-in-Less : goal.loop-low-preserved-in-Less
loop-low-preserved-in-Less c =
    let list = c.args.self in
    let middle = c.loop-low.low + (c.loop-low.high - c.loop-low.low) / 2 in
    let name = name_read list.bytes.now c.get-node.result.bytes.now c.get-node.result.rec list.start middle c.base.result.now c.get-node.ensures.bytes c.get-node.ensures.record c.base.ensures in
    let less = sym (ap (λ (n : List ℕ). slice_cmp nat_cmp n c.args.base.now) name) ∙ sym c.in-Less.ensures in
    record {
      within = c.loop-low.invariant.within;
      front = λ i before inside. lesser list.depth list.bytes.now _ list.start list.count list.is_sound c.args.base.now i middle before (omega arith) less;
      back = c.loop-low.invariant.back;
    }

pub loop-low-preserved : goal.loop-low-preserved
loop-low-preserved c =
    let list = c.args.self in
    let middle = c.loop-low.low + (c.loop-low.high - c.loop-low.low) / 2 in
    let name = name_read list.bytes.now c.get-node.result.bytes.now c.get-node.result.rec list.start middle c.base.result.now c.get-node.ensures.bytes c.get-node.ensures.record c.base.ensures in
    let more = sym (ap (λ (n : List ℕ). slice_cmp nat_cmp n c.args.base.now) name) ∙ sym c.in-Greater.ensures in
    record {
      within = omega arith;
      front = c.loop-low.invariant.front;
      back = λ i from inside. greater list.depth list.bytes.now _ list.start list.count list.is_sound c.args.base.now i middle from inside more;
    }

pub returns : goal.returns
returns c = λ i inside same.
    elim (cases_lt i c.loop-low.low) [
      | inl l ↦ less_differs _ c.args.base.now (c.loop-low.invariant.front i l inside) same
      | inr g ↦ greater_differs _ c.args.base.now (c.loop-low.invariant.back i (omega arith) inside) same
    ]
