use Rattle.std.proofs.Common.{length, string_bytes, ap, ◌∙◌, false, arith}
use Rattle.hg_glob.specs.Refusal.{closers}
use Rattle.std.proofs.lemmas.Bool.{false≢true}
use Rattle.std.proofs.lemmas.Str.{IsUtf8-string_bytes}
use Rattle.hg_glob.proofs.Bounding.{none_begins, none_ends, glob_closed, glob_few}
use Rattle.hg_glob.proofs.glob.Glob.stands_in.Goals as goal

pub returns-then-not-may_end : goal.returns-then-not-may_end
returns-then-not-may_end c = (
  λ e. absurd (false≢true e),
  λ s. absurd (none_ends false c.args.rooted c.args.self.now _ c.self.inside.parts.items c.args.path.now _ c.as_str.result.now c.may_end.result c.self.view_is c.self.invariant.parts_are c.utf8.path c.self.invariant.tail_is c.as_str.ensures.value
      c.may_end.ensures c.if-not-may_end.true s),
)

pub returns-then-not-may_begin : goal.returns-then-not-may_begin
returns-then-not-may_begin c = (
  λ e. absurd (false≢true e),
  λ s. absurd (none_begins false c.args.rooted c.args.self.now _ c.self.inside.parts.items c.args.path.now _ c.as_str-2.result.now c.may_begin.result c.self.view_is c.self.invariant.parts_are c.utf8.path c.self.invariant.head_is c.as_str-2.ensures.value
      c.may_begin.ensures c.if-not-may_begin.true s),
)

pub stands_read-requires-clause-few : goal.stands_read-requires-clause-few
stands_read-requires-clause-few c =
    omega (arith, ap length c.as_slice.ensures.value, glob_few (string_bytes c.self.inside.text) c.self.inside.parts.items (IsUtf8-string_bytes c.self.inside.text) c.self.invariant.few c.self.invariant.parts_are)

pub stands_read-requires-clause-closed : goal.stands_read-requires-clause-closed
stands_read-requires-clause-closed c = ap closers c.as_slice.ensures.value ∙ glob_closed (string_bytes c.self.inside.text) c.self.inside.parts.items c.self.invariant.parts_are

pub stands_long-requires-clause-few : goal.stands_long-requires-clause-few
stands_long-requires-clause-few c =
    omega (arith, ap length c.as_slice-2.ensures.value, glob_few (string_bytes c.self.inside.text) c.self.inside.parts.items (IsUtf8-string_bytes c.self.inside.text) c.self.invariant.few c.self.invariant.parts_are)

pub stands_long-requires-clause-closed : goal.stands_long-requires-clause-closed
stands_long-requires-clause-closed c = ap closers c.as_slice-2.ensures.value ∙ glob_closed (string_bytes c.self.inside.text) c.self.inside.parts.items c.self.invariant.parts_are
