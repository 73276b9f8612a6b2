-- A listing of what stands at a path, at the names of a directory and in a directory: `Steps` has each step, `Asks` what the tree is asked.
use Rattle.std.proofs.Common.{arith, rules, ◌-◌, ◌*◌, ◌<◌, length, List, Some, is_some, sym, take, ◌∙◌, ◌+◌, [], ap, refl, subst, option_map}
use Rattle.std.specs.Prelude.{OnOk}
use Rattle.std.proofs.lemmas.Result.{on_ok_weaker}
use Rattle.hg_base.specs.PathText.{joined}
use Rattle.hg_base.proofs.Children.{child_is}
use Rattle.hg_tree.specs.History.{now}
use Rattle.hg_tree.specs.Still.{Untouched}
use Rattle.hg_tree.proofs.Histories.{extends_same, extends_trans}
use Rattle.hg_tree.proofs.Spans.{passes_same, passes_trans}
use Rattle.hg_ignore.specs.Asked.{state_asked}
use Rattle.hg_ignore.specs.State.{Piece}
use Rattle.hg_flat.specs.Asked.{AsksFor, IsAskedDir, IsDirAmong, IsDirFrom}
use Rattle.hg_flat.specs.Listing.{Gives, IsUnknownFrom, IsUnknownIn, is_dir_kind, is_file_or_link_kind}
use Rattle.hg_flat.specs.Passed.{ListsFormed}
use Rattle.hg_flat.specs.Serving.{IsDirWithin}
use Rattle.hg_flat.proofs.Alike.{dir_by, file_by}
use Rattle.hg_flat.proofs.Asks.{asks_none, asks_one, dir_asks, dir_asks_on, each_asks, each_more_asks, look_asks, plain_at, visit_asks}
use Rattle.hg_flat.proofs.Ignoring.{above_child, above_name, entered, left_out}
use Rattle.hg_flat.proofs.InNodes.{at_none, listed_asks, nested_asks, nodes_asks, nodes_more, nodes_more_asks, nodes_next_asks, nodes_none, nodes_other, nodes_whole, served_asks, served_nested, served_rest, whole_end, whole_from}
use Rattle.hg_flat.proofs.Unknowns.{among_none}
use Rattle.hg_flat.proofs.Rooms.{child_falls, named_falls}
use Rattle.hg_flat.proofs.Steps.{each_more, file_kind, formed_later, known_later, lists_since, look_dir, look_file, look_left, look_nothing, look_passed, served_later, these_names, visit_nested, visit_none, visit_rest}
use Rattle.hg_flat.proofs.listing.+listing.Goals as goal

pub look-returns-in_default-clause-listed : goal.look-returns-in_default-clause-listed
look-returns-in_default-clause-listed g t c = λ start are serve formed.
    let old = g.T.Tree.history c.args.tree.now in
    let mid = g.T.Tree.history c.kind_at.new.tree in
    look_nothing (g.K.Entries.kept c.args.entries.now) c.args.wanted (state_asked c.args.matcher.now) old mid mid c.kind_at.ensures.passes.past (extends_same mid) start are.begun c.args.path.text.now c.args.path.text.now refl c.in_ok-kind.field-0
    (c.in_ok-kind.ensures.was start are) formed c.args.rows.now.items (ap dir_by c.in_default.is) (ap file_by c.in_default.is)

pub look-returns-in-File-clause-listed : goal.look-returns-in-File-clause-listed
look-returns-in-File-clause-listed g t c =
    on_ok_weaker c.add_untracked.result
    (λ row start are serve formed.
    look_file (g.K.Entries.kept c.args.entries.now) c.args.wanted (state_asked c.args.matcher.now) (g.T.Tree.history c.args.tree.now) (g.T.Tree.history c.kind_at.new.tree) (g.T.Tree.history c.kind_at.new.tree) c.kind_at.ensures.passes.past (extends_same (g.T.Tree.history c.kind_at.new.tree)) start are.begun c.args.path.text.now c.args.path.text.now refl c.in_ok-kind.field-0
    (c.in_ok-kind.ensures.was start are) formed c.args.rows.now.items c.add_untracked.new.rows.items (file_kind c.in_ok-kind.field-0 c.in-Some.kind c.in-Some.is c.in-File.is) row)
    c.add_untracked.ensures.row

pub look-returns-then-leaves_out-clause-listed : goal.look-returns-then-leaves_out-clause-listed
look-returns-then-leaves_out-clause-listed g t c =
    let out = left_out c.args.wanted (state_asked c.args.matcher.now) c.is_ignored-ignored.result c.leaves_out.result c.args.path.text.now c.is_ignored-ignored.ensures.ignored c.leaves_out.ensures c.if-leaves_out.true in
    look_left (g.K.Entries.kept c.args.entries.now) (g.K.Entries.known c.args.entries.now) c.args.wanted (state_asked c.args.matcher.now) (g.T.Tree.history c.args.tree.now) (g.T.Tree.history c.kind_at.new.tree) c.args.path.text.now c.args.rows.now.items
    out.0 out.1

pub look-returns-else-leaves_out-clause-listed : goal.look-returns-else-leaves_out-clause-listed
look-returns-else-leaves_out-clause-listed g t c =
    on_ok_weaker c.go_in.result
    (λ lists start are serve formed.
    look_dir (g.K.Entries.kept c.args.entries.now) c.args.wanted (state_asked c.args.matcher.now) (g.T.Tree.history c.args.tree.now) (g.T.Tree.history c.kind_at.new.tree) (g.T.Tree.history c.go_in.new.tree)
    c.kind_at.ensures.passes.past c.go_in.ensures.passes.past start are.begun c.args.path.text.now c.args.path.text.now refl
    c.in_ok-kind.field-0 (c.in_ok-kind.ensures.was start are) formed c.args.rows.now.items c.go_in.new.rows.items c.args.path.text.now (ap dir_by c.in-Some.is ∙ ap is_dir_kind c.in-Dir.is) refl
    (lists start (known_later (g.K.Entries.known c.args.entries.now) (g.T.Tree.history c.args.tree.now) (g.T.Tree.history c.kind_at.new.tree) start c.kind_at.ensures.passes.past are)
    (served_later (g.K.Entries.known c.args.entries.now) (Gives c.args.wanted (state_asked c.args.matcher.now)) (g.T.Tree.history c.args.tree.now) (g.T.Tree.history c.kind_at.new.tree) start c.kind_at.ensures.passes.past serve)
    (λ told. formed_later (g.T.Tree.history c.args.tree.now) (g.T.Tree.history c.kind_at.new.tree) start c.kind_at.ensures.passes.past (formed (sym c.kind_at.ensures.passes.past.told ∙ told)))))
    (subst
    (λ (s : List Piece). OnOk c.go_in.result
    (ListsFormed (g.K.Entries.kept c.args.entries.now) (g.K.Entries.known c.args.entries.now) (Gives c.args.wanted s) (g.T.Tree.history c.kind_at.new.tree) (g.T.Tree.history c.go_in.new.tree)
    (IsUnknownIn (g.K.Entries.kept c.args.entries.now) (now (g.T.Tree.history c.kind_at.new.tree)) (Some c.args.path.text.now)) c.args.rows.now.items c.go_in.new.rows.items))
    c.is_ignored-ignored.ensures.same c.go_in.ensures.listed)

pub look-returns-in-Other-clause-listed : goal.look-returns-in-Other-clause-listed
look-returns-in-Other-clause-listed g t c = λ start are serve formed.
    let old = g.T.Tree.history c.args.tree.now in
    let mid = g.T.Tree.history c.kind_at.new.tree in
    look_nothing (g.K.Entries.kept c.args.entries.now) c.args.wanted (state_asked c.args.matcher.now) old mid mid c.kind_at.ensures.passes.past (extends_same mid) start are.begun c.args.path.text.now c.args.path.text.now refl c.in_ok-kind.field-0
    (c.in_ok-kind.ensures.was start are) formed c.args.rows.now.items (ap dir_by c.in-Some.is ∙ ap is_dir_kind c.in-Other.is) (ap file_by c.in-Some.is ∙ ap is_file_or_link_kind c.in-Other.is)

pub look_each-loop-name-preserved-then-was_passed : goal.look_each-loop-name-preserved-then-was_passed
look_each-loop-name-preserved-then-was_passed g t c =
    let tree = g.T.Tree.history c.loop-name.tree in
    let dir = option_map (λ d. d.text.now) c.args.dir in
    let path = joined dir c.as_str-name.result.now in
    record {
      passes = c.loop-name.invariant.passes;
      listed =
          each_more (g.K.Entries.kept c.args.entries.now) (g.K.Entries.known c.args.entries.now) c.args.wanted (state_asked c.args.matcher.now) (g.T.Tree.history c.args.tree.now) tree tree c.loop-name.invariant.passes.past (extends_same tree)
          dir c.args.names.now c.loop-name.name-index c.name-item.result c.as_str-name.result.now path c.args.rows.now.items c.loop-name.rows.items c.loop-name.rows.items
          c.loop-name-test.true c.name-item.is c.as_str-name.ensures.text refl c.loop-name.invariant.listed
          (look_passed (g.K.Entries.kept c.args.entries.now) (g.K.Entries.known c.args.entries.now) c.args.wanted (state_asked c.args.matcher.now) tree path path c.loop-name.rows.items refl
          (c.was_passed.ensures.kept c.if-was_passed.true) (c.was_passed.ensures.passed c.if-was_passed.true));
      asked = λ told since past are.
          each_more_asks (IsAskedDir (g.K.Entries.known c.args.entries.now) c.args.wanted (state_asked c.args.matcher.now)) since (g.T.Tree.history c.args.tree.now) tree tree (extends_same tree)
          dir c.args.names.now c.loop-name.name-index c.name-item.result c.as_str-name.result.now path c.requires.fit
          c.loop-name-test.true c.name-item.is c.as_str-name.ensures.text refl (c.loop-name.invariant.asked told since past are)
          (asks_none (IsDirFrom (IsAskedDir (g.K.Entries.known c.args.entries.now) c.args.wanted (state_asked c.args.matcher.now)) since tree path) tree tree refl);
      same = c.loop-name.invariant.same;
      still = c.loop-name.invariant.still;
    }

pub look_each-loop-name-preserved : goal.look_each-loop-name-preserved
look_each-loop-name-preserved g t c = record {
  passes = passes_trans _ _ _ c.loop-name.invariant.passes c.look.ensures.passes;
  listed =
      each_more (g.K.Entries.kept c.args.entries.now) (g.K.Entries.known c.args.entries.now) c.args.wanted (state_asked c.args.matcher.now) (g.T.Tree.history c.args.tree.now) (g.T.Tree.history c.loop-name.tree) (g.T.Tree.history c.look.new.tree) c.loop-name.invariant.passes.past c.look.ensures.passes.past
      (option_map (λ d. d.text.now) c.args.dir) c.args.names.now c.loop-name.name-index c.name-item.result c.as_str-name.result.now c.as_ref.result.text.now c.args.rows.now.items c.loop-name.rows.items c.look.new.rows.items
      c.loop-name-test.true c.name-item.is c.as_str-name.ensures.text (c.as_ref.ensures ∙ c.in_ok-path.ensures) c.loop-name.invariant.listed
      (subst (λ (s : List Piece). ListsFormed (g.K.Entries.kept c.args.entries.now) (g.K.Entries.known c.args.entries.now) (Gives c.args.wanted s) (g.T.Tree.history c.loop-name.tree) (g.T.Tree.history c.look.new.tree) (IsUnknownFrom (g.K.Entries.kept c.args.entries.now) (now (g.T.Tree.history c.loop-name.tree)) c.as_ref.result.text.now) c.loop-name.rows.items c.look.new.rows.items)
      c.loop-name.invariant.same c.in_ok-look.ensures.listed);
  asked = λ told since past are.
      each_more_asks (IsAskedDir (g.K.Entries.known c.args.entries.now) c.args.wanted (state_asked c.args.matcher.now)) since (g.T.Tree.history c.args.tree.now) (g.T.Tree.history c.loop-name.tree) (g.T.Tree.history c.look.new.tree) c.look.ensures.passes.past
      (option_map (λ d. d.text.now) c.args.dir) c.args.names.now c.loop-name.name-index c.name-item.result c.as_str-name.result.now c.as_ref.result.text.now c.requires.fit
      c.loop-name-test.true c.name-item.is c.as_str-name.ensures.text (c.as_ref.ensures ∙ c.in_ok-path.ensures) (c.loop-name.invariant.asked told since past are)
      (subst (λ (s : List Piece). AsksFor (IsDirFrom (IsAskedDir (g.K.Entries.known c.args.entries.now) c.args.wanted s) since (g.T.Tree.history c.look.new.tree) c.as_ref.result.text.now) (g.T.Tree.history c.loop-name.tree) (g.T.Tree.history c.look.new.tree))
      c.loop-name.invariant.same
      (c.look.ensures.asked (c.loop-name.invariant.passes.past.told ∙ told) since (passes_trans since (g.T.Tree.history c.args.tree.now) (g.T.Tree.history c.loop-name.tree) past c.loop-name.invariant.passes)
      (known_later (g.K.Entries.known c.args.entries.now) (g.T.Tree.history c.args.tree.now) (g.T.Tree.history c.loop-name.tree) since.last c.loop-name.invariant.passes.past are)));
  same = c.look.ensures.same ∙ c.loop-name.invariant.same;
  still = c.in_ok-look.ensures.cause.quiet ∙ c.loop-name.invariant.still;
}

pub visit-returns-in_default-clause-listed : goal.visit-returns-in_default-clause-listed
visit-returns-in_default-clause-listed g t c =
    lists_since (g.K.Entries.kept c.args.entries.now) (g.K.Entries.known c.args.entries.now) (Gives c.args.wanted (state_asked c.args.matcher.now)) (IsUnknownIn (g.K.Entries.kept c.args.entries.now) (now (g.T.Tree.history c.args.tree.now)) (option_map (λ d. d.text.now) c.args.dir)) (g.T.Tree.history c.args.tree.now) (g.T.Tree.history c.list.new.self) c.list.ensures.passes.past c.args.rows.now.items c.args.rows.now.items
    (visit_none (g.K.Entries.kept c.args.entries.now) c.args.wanted (state_asked c.args.matcher.now) (g.T.Tree.history c.args.tree.now) (g.T.Tree.history c.list.new.self) c.list.ensures.passes.past (option_map (λ d. d.text.now) c.args.dir)
    (option_map (λ v. v.items) c.in_ok-names.field-0) (λ told. record { formed = c.in_ok-names.ensures.formed told; listed = c.in_ok-names.ensures.found told })
    c.args.rows.now.items (ap (option_map (λ v. v.items)) c.in_default.is))

pub visit-returns-then-branch-clause-listed : goal.visit-returns-then-branch-clause-listed
visit-returns-then-branch-clause-listed g t c =
    lists_since (g.K.Entries.kept c.args.entries.now) (g.K.Entries.known c.args.entries.now) (Gives c.args.wanted (state_asked c.args.matcher.now)) (IsUnknownIn (g.K.Entries.kept c.args.entries.now) (now (g.T.Tree.history c.args.tree.now)) (option_map (λ d. d.text.now) c.args.dir)) (g.T.Tree.history c.args.tree.now) (g.T.Tree.history c.is_nested.new.tree) (extends_trans (g.T.Tree.history c.args.tree.now) (g.T.Tree.history c.list.new.self) (g.T.Tree.history c.is_nested.new.tree) c.list.ensures.passes.past c.is_nested.ensures.passes.past) c.args.rows.now.items c.args.rows.now.items
    (visit_nested (g.K.Entries.kept c.args.entries.now) c.args.wanted (state_asked c.args.matcher.now) (g.T.Tree.history c.args.tree.now) (g.T.Tree.history c.list.new.self) (g.T.Tree.history c.is_nested.new.tree) c.list.ensures.passes.past c.is_nested.ensures.passes.past
    (option_map (λ d. d.text.now) c.args.dir) (option_map (λ v. v.items) c.in_ok-names.field-0) (λ told. record { formed = c.in_ok-names.ensures.formed told; listed = c.in_ok-names.ensures.found told })
    c.in-Some.names.items c.deref.result.now c.in_ok-is_nested.field-0 c.args.rows.now.items (ap (option_map (λ v. v.items)) c.in-Some.is) c.deref.ensures.value
    c.in_ok-is_nested.ensures.found c.if-branch.true)

pub visit-returns-clause-listed : goal.visit-returns-clause-listed
visit-returns-clause-listed g t c =
    on_ok_weaker c.look_each.result
    (visit_rest (g.K.Entries.kept c.args.entries.now) (g.K.Entries.known c.args.entries.now) c.args.wanted (state_asked c.args.matcher.now) (g.T.Tree.history c.args.tree.now) (g.T.Tree.history c.list.new.self) (g.T.Tree.history c.is_nested.new.tree) (g.T.Tree.history c.look_each.new.tree)
    c.list.ensures.passes.past c.is_nested.ensures.passes.past c.look_each.ensures.passes.past
    (option_map (λ d. d.text.now) c.args.dir) (option_map (λ v. v.items) c.in_ok-names.field-0) (λ told. record { formed = c.in_ok-names.ensures.formed told; listed = c.in_ok-names.ensures.found told })
    c.in-Some.names.items c.deref.result.now c.deref-2.result.now c.in_ok-is_nested.field-0 c.args.rows.now.items c.look_each.new.rows.items (ap (option_map (λ v. v.items)) c.in-Some.is) c.deref.ensures.value c.deref-2.ensures.value
    c.in_ok-is_nested.ensures.found c.if-branch.false)
    c.look_each.ensures.listed

-- ---- what the tree is asked

pub look-returns-in_err-kind-clause-asked : goal.look-returns-in_err-kind-clause-asked
look-returns-in_err-kind-clause-asked g t c = λ told since past are.
    asks_none (IsDirFrom (IsAskedDir (g.K.Entries.known c.args.entries.now) c.args.wanted (state_asked c.args.matcher.now)) since (g.T.Tree.history c.kind_at.new.tree) c.args.path.text.now) (g.T.Tree.history c.args.tree.now) (g.T.Tree.history c.kind_at.new.tree) (c.kind_at.ensures.asked told)

pub look-returns-in_default-clause-asked : goal.look-returns-in_default-clause-asked
look-returns-in_default-clause-asked g t c = λ told since past are.
    asks_none (IsDirFrom (IsAskedDir (g.K.Entries.known c.args.entries.now) c.args.wanted (state_asked c.args.matcher.now)) since (g.T.Tree.history c.kind_at.new.tree) c.args.path.text.now) (g.T.Tree.history c.args.tree.now) (g.T.Tree.history c.kind_at.new.tree) (c.kind_at.ensures.asked told)

pub look-returns-in-File-clause-asked : goal.look-returns-in-File-clause-asked
look-returns-in-File-clause-asked g t c = λ told since past are.
    asks_none (IsDirFrom (IsAskedDir (g.K.Entries.known c.args.entries.now) c.args.wanted (state_asked c.args.matcher.now)) since (g.T.Tree.history c.kind_at.new.tree) c.args.path.text.now) (g.T.Tree.history c.args.tree.now) (g.T.Tree.history c.kind_at.new.tree) (c.kind_at.ensures.asked told)

pub look-returns-in-Other-clause-asked : goal.look-returns-in-Other-clause-asked
look-returns-in-Other-clause-asked g t c = λ told since past are.
    asks_none (IsDirFrom (IsAskedDir (g.K.Entries.known c.args.entries.now) c.args.wanted (state_asked c.args.matcher.now)) since (g.T.Tree.history c.kind_at.new.tree) c.args.path.text.now) (g.T.Tree.history c.args.tree.now) (g.T.Tree.history c.kind_at.new.tree) (c.kind_at.ensures.asked told)

pub look-returns-then-leaves_out-clause-asked : goal.look-returns-then-leaves_out-clause-asked
look-returns-then-leaves_out-clause-asked g t c = λ told since past are.
    asks_none (IsDirFrom (IsAskedDir (g.K.Entries.known c.args.entries.now) c.args.wanted (state_asked c.args.matcher.now)) since (g.T.Tree.history c.kind_at.new.tree) c.args.path.text.now) (g.T.Tree.history c.args.tree.now) (g.T.Tree.history c.kind_at.new.tree) (c.kind_at.ensures.asked told)

pub look-returns-else-leaves_out-clause-asked : goal.look-returns-else-leaves_out-clause-asked
look-returns-else-leaves_out-clause-asked g t c = λ told since past are.
    let old = g.T.Tree.history c.args.tree.now in
    let mid = g.T.Tree.history c.kind_at.new.tree in
    let new = g.T.Tree.history c.go_in.new.tree in
    let known = g.K.Entries.known c.args.entries.now in
    look_asks known (IsAskedDir known c.args.wanted (state_asked c.args.matcher.now)) since old mid new past c.kind_at.ensures.passes c.go_in.ensures.passes.past
    c.args.path.text.now c.in_ok-kind.field-0 (c.in-Some.is ∙ ap Some c.in-Dir.is) (c.in_ok-kind.ensures.was since.last are told)
    (λ none. (
      entered c.args.wanted (state_asked c.args.matcher.now) c.is_ignored-ignored.result c.leaves_out.result c.args.path.text.now c.is_ignored-ignored.ensures.ignored c.leaves_out.ensures c.if-leaves_out.false,
      none,
    ))
    (c.kind_at.ensures.asked told)
    (subst
    (λ (s : List Piece). AsksFor (IsDirWithin known (IsAskedDir known c.args.wanted s) since new c.args.path.text.now) mid new)
    c.is_ignored-ignored.ensures.same
    (c.go_in.ensures.asked (c.kind_at.ensures.passes.past.told ∙ told) since (passes_trans since old mid past c.kind_at.ensures.passes) (known_later known old mid since.last c.kind_at.ensures.passes.past are)))

pub look_each-loop-name-init : goal.look_each-loop-name-init
look_each-loop-name-init g t c = record {
  passes = passes_same _;
  listed = λ start are serve formed.
      among_none (g.K.Entries.kept c.args.entries.now) (Gives c.args.wanted (state_asked c.args.matcher.now)) (Untouched (g.T.Tree.history c.args.tree.now) start) (now (g.T.Tree.history c.args.tree.now)) (option_map (λ d. d.text.now) c.args.dir) c.args.rows.now.items;
  asked = λ told since past are.
      asks_none (IsDirAmong (IsAskedDir (g.K.Entries.known c.args.entries.now) c.args.wanted (state_asked c.args.matcher.now)) since (g.T.Tree.history c.args.tree.now) (option_map (λ d. d.text.now) c.args.dir) []) (g.T.Tree.history c.args.tree.now) (g.T.Tree.history c.args.tree.now) refl;
  same = refl;
  still = refl;
}

pub look_each-returns-in_err-path-clause-asked : goal.look_each-returns-in_err-path-clause-asked
look_each-returns-in_err-path-clause-asked g t c = λ told since past are.
    each_asks (IsAskedDir (g.K.Entries.known c.args.entries.now) c.args.wanted (state_asked c.args.matcher.now)) since (g.T.Tree.history c.args.tree.now) (g.T.Tree.history c.loop-name.tree) (option_map (λ d. d.text.now) c.args.dir) c.args.names.now c.loop-name.name-index (c.loop-name.invariant.asked told since past are)

pub look_each-returns-in_err-look-clause-asked : goal.look_each-returns-in_err-look-clause-asked
look_each-returns-in_err-look-clause-asked g t c = λ told since past are.
    each_asks (IsAskedDir (g.K.Entries.known c.args.entries.now) c.args.wanted (state_asked c.args.matcher.now)) since (g.T.Tree.history c.args.tree.now) (g.T.Tree.history c.look.new.tree) (option_map (λ d. d.text.now) c.args.dir) c.args.names.now (c.loop-name.name-index + 1)
    (each_more_asks (IsAskedDir (g.K.Entries.known c.args.entries.now) c.args.wanted (state_asked c.args.matcher.now)) since (g.T.Tree.history c.args.tree.now) (g.T.Tree.history c.loop-name.tree) (g.T.Tree.history c.look.new.tree) c.look.ensures.passes.past
    (option_map (λ d. d.text.now) c.args.dir) c.args.names.now c.loop-name.name-index c.name-item.result c.as_str-name.result.now c.as_ref.result.text.now c.requires.fit
    c.loop-name-test.true c.name-item.is c.as_str-name.ensures.text (c.as_ref.ensures ∙ c.in_ok-path.ensures) (c.loop-name.invariant.asked told since past are)
    (subst (λ (s : List Piece). AsksFor (IsDirFrom (IsAskedDir (g.K.Entries.known c.args.entries.now) c.args.wanted s) since (g.T.Tree.history c.look.new.tree) c.as_ref.result.text.now) (g.T.Tree.history c.loop-name.tree) (g.T.Tree.history c.look.new.tree))
    c.loop-name.invariant.same
    (c.look.ensures.asked (c.loop-name.invariant.passes.past.told ∙ told) since (passes_trans since (g.T.Tree.history c.args.tree.now) (g.T.Tree.history c.loop-name.tree) past c.loop-name.invariant.passes)
    (known_later (g.K.Entries.known c.args.entries.now) (g.T.Tree.history c.args.tree.now) (g.T.Tree.history c.loop-name.tree) since.last c.loop-name.invariant.passes.past are))))

pub look_each-returns-clause-asked : goal.look_each-returns-clause-asked
look_each-returns-clause-asked g t c = λ told since past are.
    each_asks (IsAskedDir (g.K.Entries.known c.args.entries.now) c.args.wanted (state_asked c.args.matcher.now)) since (g.T.Tree.history c.args.tree.now) (g.T.Tree.history c.loop-name.tree) (option_map (λ d. d.text.now) c.args.dir) c.args.names.now c.loop-name.name-index (c.loop-name.invariant.asked told since past are)

pub visit-returns-in_err-names-clause-asked : goal.visit-returns-in_err-names-clause-asked
visit-returns-in_err-names-clause-asked g t c = λ told since past are. dir_asks (IsAskedDir (g.K.Entries.known c.args.entries.now) c.args.wanted (state_asked c.args.matcher.now)) since (g.T.Tree.history c.args.tree.now) (g.T.Tree.history c.list.new.self) (option_map (λ d. d.text.now) c.args.dir) (asks_one _ (option_map (λ d. d.text.now) c.args.dir) (g.T.Tree.history c.args.tree.now) (g.T.Tree.history c.list.new.self) (c.list.ensures.asked told))

pub visit-returns-in_default-clause-asked : goal.visit-returns-in_default-clause-asked
visit-returns-in_default-clause-asked g t c = λ told since past are. dir_asks (IsAskedDir (g.K.Entries.known c.args.entries.now) c.args.wanted (state_asked c.args.matcher.now)) since (g.T.Tree.history c.args.tree.now) (g.T.Tree.history c.list.new.self) (option_map (λ d. d.text.now) c.args.dir) (asks_one _ (option_map (λ d. d.text.now) c.args.dir) (g.T.Tree.history c.args.tree.now) (g.T.Tree.history c.list.new.self) (c.list.ensures.asked told))

pub visit-returns-in_err-is_nested-clause-asked : goal.visit-returns-in_err-is_nested-clause-asked
visit-returns-in_err-is_nested-clause-asked g t c = λ told since past are.
    dir_asks_on (IsAskedDir (g.K.Entries.known c.args.entries.now) c.args.wanted (state_asked c.args.matcher.now)) since (g.T.Tree.history c.args.tree.now) (g.T.Tree.history c.list.new.self) (g.T.Tree.history c.is_nested.new.tree) (option_map (λ d. d.text.now) c.args.dir) (asks_one _ (option_map (λ d. d.text.now) c.args.dir) (g.T.Tree.history c.args.tree.now) (g.T.Tree.history c.list.new.self) (c.list.ensures.asked told)) (c.is_nested.ensures.asked (c.list.ensures.passes.past.told ∙ told))

pub visit-returns-then-branch-clause-asked : goal.visit-returns-then-branch-clause-asked
visit-returns-then-branch-clause-asked g t c = λ told since past are.
    dir_asks_on (IsAskedDir (g.K.Entries.known c.args.entries.now) c.args.wanted (state_asked c.args.matcher.now)) since (g.T.Tree.history c.args.tree.now) (g.T.Tree.history c.list.new.self) (g.T.Tree.history c.is_nested.new.tree) (option_map (λ d. d.text.now) c.args.dir) (asks_one _ (option_map (λ d. d.text.now) c.args.dir) (g.T.Tree.history c.args.tree.now) (g.T.Tree.history c.list.new.self) (c.list.ensures.asked told)) (c.is_nested.ensures.asked (c.list.ensures.passes.past.told ∙ told))

pub visit-returns-clause-asked : goal.visit-returns-clause-asked
visit-returns-clause-asked g t c = λ told since past are.
    let old = g.T.Tree.history c.args.tree.now in
    let mid = g.T.Tree.history c.list.new.self in
    let later = g.T.Tree.history c.is_nested.new.tree in
    let first = passes_trans old mid later c.list.ensures.passes c.is_nested.ensures.passes in
    visit_asks (IsAskedDir (g.K.Entries.known c.args.entries.now) c.args.wanted (state_asked c.args.matcher.now)) since old mid later (g.T.Tree.history c.look_each.new.tree)
    past c.list.ensures.passes c.is_nested.ensures.passes c.look_each.ensures.passes.past
    (option_map (λ d. d.text.now) c.args.dir) c.in-Some.names.items c.deref-2.result.now c.in_ok-is_nested.field-0 (rw c.in-Some.is at c.in_ok-names.ensures.fit) c.deref-2.ensures.value
    (c.in_ok-is_nested.ensures.found
    (these_names (option_map (λ d. d.text.now) c.args.dir) (option_map (λ v. v.items) c.in_ok-names.field-0) c.in-Some.names.items c.deref.result.now (now mid)
    (ap (option_map (λ v. v.items)) c.in-Some.is) c.deref.ensures.value (c.in_ok-names.ensures.found told))) c.if-branch.false
    (c.in_ok-is_nested.ensures.apart
    (these_names (option_map (λ d. d.text.now) c.args.dir) (option_map (λ v. v.items) c.in_ok-names.field-0) c.in-Some.names.items c.deref.result.now (now mid)
    (ap (option_map (λ v. v.items)) c.in-Some.is) c.deref.ensures.value (c.in_ok-names.ensures.found told))
    (c.list.ensures.passes.past.told ∙ told) c.if-branch.false)
    (asks_one _ (option_map (λ d. d.text.now) c.args.dir) (g.T.Tree.history c.args.tree.now) (g.T.Tree.history c.list.new.self) (c.list.ensures.asked told)) (c.is_nested.ensures.asked (c.list.ensures.passes.past.told ∙ told))
    (c.look_each.ensures.asked (first.past.told ∙ told) since (passes_trans since old later past first) (known_later (g.K.Entries.known c.args.entries.now) old later since.last first.past are))

-- a name of a directory is ignored with it
pub look_each-look-requires : goal.look_each-look-requires
look_each-look-requires g t c κs within =
    let above = above_name (state_asked c.args.matcher.now) (state_asked c.loop-name.matcher) c.args.ignored (option_map (λ d. d.text.now) c.args.dir) c.as_str-name.result.now c.as_ref.result.text.now c.loop-name.invariant.same
    (plain_at (option_map (λ d. d.text.now) c.args.dir) c.args.names.now c.loop-name.name-index c.name-item.result c.as_str-name.result.now c.requires.fit c.loop-name-test.true c.name-item.is c.as_str-name.ensures.text)
    (c.as_ref.ensures ∙ c.in_ok-path.ensures) c.requires.above in
    let falls = named_falls (option_map (λ d. d.text.now) c.args.dir) c.as_str-name.result.now c.as_ref.result.text.now (c.as_ref.ensures ∙ c.in_ok-path.ensures) c.as_ref.result.is_path in
    let down : 4 * (65536 - length c.as_ref.result.text.now) + 4 < t = omega (arith, falls, c.decreases) in
    (down, (within.0, (within.1, (above.0, above.1))))

-- ---- a directory whose nodes may serve as its names

pub go_in-returns-in_default-clause-listed : goal.go_in-returns-in_default-clause-listed
go_in-returns-in_default-clause-listed g t c = on_ok_weaker c.visit.result (λ lists start are serve formed. lists start are serve) c.visit.ensures.listed

pub go_in-returns-then-branch-clause-listed : goal.go_in-returns-then-branch-clause-listed
go_in-returns-then-branch-clause-listed g t c =
    served_nested (g.K.Entries.kept c.args.entries.now) (g.K.Entries.known c.args.entries.now) c.args.wanted (state_asked c.args.matcher.now) (g.T.Tree.history c.args.tree.now) (g.T.Tree.history c.may_hold_hg.new.tree) c.may_hold_hg.ensures.passes.past
    c.args.dir.text.now c.in_ok-may_hold_hg.field-0 c.in_ok-may_hold_hg.ensures.found c.if-branch.true c.args.rows.now.items

pub go_in-returns-clause-listed : goal.go_in-returns-clause-listed
go_in-returns-clause-listed g t c =
    on_ok_weaker c.look_nodes.result
    (served_rest (g.K.Entries.kept c.args.entries.now) (g.K.Entries.known c.args.entries.now) c.args.wanted (state_asked c.args.matcher.now) (g.T.Tree.history c.args.tree.now) (g.T.Tree.history c.may_hold_hg.new.tree) (g.T.Tree.history c.look_nodes.new.tree)
    c.may_hold_hg.ensures.passes.past c.look_nodes.ensures.passes.past c.args.dir.text.now c.in-Some.span (rw c.in-Some.is at c.served.ensures.span) (sym c.served.ensures.known ∙ ap is_some c.in-Some.is)
    c.in_ok-may_hold_hg.field-0 c.in_ok-may_hold_hg.ensures.found c.if-branch.false c.args.rows.now.items c.look_nodes.new.rows.items)
    c.look_nodes.ensures.listed

pub go_in-returns-in_default-clause-asked : goal.go_in-returns-in_default-clause-asked
go_in-returns-in_default-clause-asked g t c = λ told since past are.
    let known = g.K.Entries.known c.args.entries.now in
    listed_asks known (IsAskedDir known c.args.wanted (state_asked c.args.matcher.now)) since (g.T.Tree.history c.args.tree.now) (g.T.Tree.history c.visit.new.tree) c.args.dir.text.now
    (sym c.served.ensures.known ∙ ap is_some c.in_default.is) (c.visit.ensures.asked told since past are)

pub go_in-returns-in_err-may_hold_hg-clause-asked : goal.go_in-returns-in_err-may_hold_hg-clause-asked
go_in-returns-in_err-may_hold_hg-clause-asked g t c = λ told since past are.
    let known = g.K.Entries.known c.args.entries.now in
    nested_asks known (IsAskedDir known c.args.wanted (state_asked c.args.matcher.now)) since (g.T.Tree.history c.args.tree.now) (g.T.Tree.history c.may_hold_hg.new.tree) c.args.dir.text.now (c.may_hold_hg.ensures.asked told)

pub go_in-returns-then-branch-clause-asked : goal.go_in-returns-then-branch-clause-asked
go_in-returns-then-branch-clause-asked g t c = λ told since past are.
    let known = g.K.Entries.known c.args.entries.now in
    nested_asks known (IsAskedDir known c.args.wanted (state_asked c.args.matcher.now)) since (g.T.Tree.history c.args.tree.now) (g.T.Tree.history c.may_hold_hg.new.tree) c.args.dir.text.now (c.may_hold_hg.ensures.asked told)

pub go_in-returns-clause-asked : goal.go_in-returns-clause-asked
go_in-returns-clause-asked g t c = λ told since past are.
    let old = g.T.Tree.history c.args.tree.now in
    let mid = g.T.Tree.history c.may_hold_hg.new.tree in
    let known = g.K.Entries.known c.args.entries.now in
    served_asks known (IsAskedDir known c.args.wanted (state_asked c.args.matcher.now)) since old mid (g.T.Tree.history c.look_nodes.new.tree) past c.may_hold_hg.ensures.passes c.look_nodes.ensures.passes.past
    c.args.dir.text.now c.in-Some.span (rw c.in-Some.is at c.served.ensures.span) c.in_ok-may_hold_hg.field-0 c.in_ok-may_hold_hg.ensures.found c.if-branch.false (c.in_ok-may_hold_hg.ensures.apart told c.if-branch.false)
    (c.may_hold_hg.ensures.asked told)
    (c.look_nodes.ensures.asked (c.may_hold_hg.ensures.passes.past.told ∙ told) since (passes_trans since old mid past c.may_hold_hg.ensures.passes) (known_later known old mid since.last c.may_hold_hg.ensures.passes.past are))

pub look_nodes-loop-at-init : goal.look_nodes-loop-at-init
look_nodes-loop-at-init g t c = record {
  passes = passes_same _;
  listed = λ start are serve formed.
      at_none (g.K.Entries.kept c.args.entries.now) (Gives c.args.wanted (state_asked c.args.matcher.now)) (Untouched (g.T.Tree.history c.args.tree.now) start) (now (g.T.Tree.history c.args.tree.now))
      c.args.dir.text.now (take c.args.span.from (g.K.Entries.known c.args.entries.now).nodes) c.args.rows.now.items c.requires.span.before;
  asked = λ told since past are.
      nodes_none (IsAskedDir (g.K.Entries.known c.args.entries.now) c.args.wanted (state_asked c.args.matcher.now)) since (g.T.Tree.history c.args.tree.now) c.args.dir.text.now (take c.args.span.from (g.K.Entries.known c.args.entries.now).nodes);
  same = refl;
  still = refl;
}

pub look_nodes-returns-in_default-clause-listed : goal.look_nodes-returns-in_default-clause-listed
look_nodes-returns-in_default-clause-listed g t c =
    let known = g.K.Entries.known c.args.entries.now in
    nodes_whole (g.K.Entries.kept c.args.entries.now) known c.args.wanted (state_asked c.args.matcher.now) (g.T.Tree.history c.args.tree.now) (g.T.Tree.history c.loop-at.tree) c.args.dir.text.now known.nodes c.loop-at.at
    c.args.rows.now.items c.loop-at.rows.items (whole_end known.nodes c.args.dir.text.now c.args.span c.requires.span c.loop-at.at (c.node_at.ensures.end c.in_default.is)) c.loop-at.invariant.listed

pub look_nodes-returns-clause-listed : goal.look_nodes-returns-clause-listed
look_nodes-returns-clause-listed g t c =
    let known = g.K.Entries.known c.args.entries.now in
    nodes_whole (g.K.Entries.kept c.args.entries.now) known c.args.wanted (state_asked c.args.matcher.now) (g.T.Tree.history c.args.tree.now) (g.T.Tree.history c.loop-at.tree) c.args.dir.text.now known.nodes c.loop-at.at
    c.args.rows.now.items c.loop-at.rows.items (whole_from known.nodes c.args.dir.text.now c.args.span c.requires.span c.loop-at.at (search rules)) c.loop-at.invariant.listed

pub look_nodes-returns-in_default-clause-asked : goal.look_nodes-returns-in_default-clause-asked
look_nodes-returns-in_default-clause-asked g t c = λ told since past are.
    let known = g.K.Entries.known c.args.entries.now in
    nodes_asks (IsAskedDir known c.args.wanted (state_asked c.args.matcher.now)) since (g.T.Tree.history c.args.tree.now) (g.T.Tree.history c.loop-at.tree) c.args.dir.text.now known.nodes c.loop-at.at (c.loop-at.invariant.asked told since past are)

pub look_nodes-returns-clause-asked : goal.look_nodes-returns-clause-asked
look_nodes-returns-clause-asked g t c = λ told since past are.
    let known = g.K.Entries.known c.args.entries.now in
    nodes_asks (IsAskedDir known c.args.wanted (state_asked c.args.matcher.now)) since (g.T.Tree.history c.args.tree.now) (g.T.Tree.history c.loop-at.tree) c.args.dir.text.now known.nodes c.loop-at.at (c.loop-at.invariant.asked told since past are)

pub look_nodes-loop-at-preserved-in_default-name_in : goal.look_nodes-loop-at-preserved-in_default-name_in
look_nodes-loop-at-preserved-in_default-name_in g t c =
    let tree = g.T.Tree.history c.loop-at.tree in
    let known = g.K.Entries.known c.args.entries.now in
    record {
      passes = c.loop-at.invariant.passes;
      listed =
          nodes_other (g.K.Entries.kept c.args.entries.now) known c.args.wanted (state_asked c.args.matcher.now) (g.T.Tree.history c.args.tree.now) tree c.args.dir.text.now known.nodes c.loop-at.at c.in-Some.path.text.now
          c.in-Some.ensures.node (sym c.name_in.ensures ∙ ap (option_map (λ name. name.now)) c.in_default-name_in.is) c.args.rows.now.items c.loop-at.rows.items c.loop-at.invariant.listed;
      asked = λ told since past are.
          nodes_next_asks (IsAskedDir known c.args.wanted (state_asked c.args.matcher.now)) since (g.T.Tree.history c.args.tree.now) tree c.args.dir.text.now known.nodes c.loop-at.at (c.loop-at.invariant.asked told since past are);
      same = c.loop-at.invariant.same;
      still = c.loop-at.invariant.still;
    }

pub look_nodes-loop-at-preserved-then-was_passed : goal.look_nodes-loop-at-preserved-then-was_passed
look_nodes-loop-at-preserved-then-was_passed g t c =
    let tree = g.T.Tree.history c.loop-at.tree in
    let known = g.K.Entries.known c.args.entries.now in
    let kept = g.K.Entries.kept c.args.entries.now in
    record {
      passes = c.loop-at.invariant.passes;
      listed =
          nodes_more kept known c.args.wanted (state_asked c.args.matcher.now) (g.T.Tree.history c.args.tree.now) tree tree c.loop-at.invariant.passes.past (extends_same tree) c.args.dir.text.now known.nodes c.loop-at.at
          c.in-Some.path.text.now c.in-Some.ensures.node (ap is_some (sym c.in-Some-name_in.ensures)) c.args.rows.now.items c.loop-at.rows.items c.loop-at.rows.items c.loop-at.invariant.listed
          (look_passed kept known c.args.wanted (state_asked c.args.matcher.now) tree c.in-Some.path.text.now (joined (Some c.args.dir.text.now) c.in-Some-name_in.name.now) c.loop-at.rows.items
          (sym (child_is (Some c.args.dir.text.now) c.in-Some.path.text.now c.in-Some-name_in.name.now (sym c.in-Some-name_in.ensures)))
          (c.was_passed.ensures.kept c.if-was_passed.true) (c.was_passed.ensures.passed c.if-was_passed.true));
      asked = λ told since past are.
          nodes_next_asks (IsAskedDir known c.args.wanted (state_asked c.args.matcher.now)) since (g.T.Tree.history c.args.tree.now) tree c.args.dir.text.now known.nodes c.loop-at.at (c.loop-at.invariant.asked told since past are);
      same = c.loop-at.invariant.same;
      still = c.loop-at.invariant.still;
    }

pub look_nodes-returns-in_err-look-clause-asked : goal.look_nodes-returns-in_err-look-clause-asked
look_nodes-returns-in_err-look-clause-asked g t c = λ told since past are.
    let old = g.T.Tree.history c.args.tree.now in
    let mid = g.T.Tree.history c.loop-at.tree in
    let new = g.T.Tree.history c.look.new.tree in
    let known = g.K.Entries.known c.args.entries.now in
    nodes_asks (IsAskedDir known c.args.wanted (state_asked c.args.matcher.now)) since old new c.args.dir.text.now known.nodes (c.loop-at.at + 1)
    (nodes_more_asks (IsAskedDir known c.args.wanted (state_asked c.args.matcher.now)) since old mid new c.look.ensures.passes.past c.args.dir.text.now known.nodes c.args.span c.requires.span c.loop-at.at c.in-Some.path.text.now
    c.in-Some.ensures.node (ap is_some (sym c.in-Some-name_in.ensures)) (c.loop-at.invariant.asked told since past are)
    (subst (λ (s : List Piece). AsksFor (IsDirFrom (IsAskedDir known c.args.wanted s) since new c.in-Some.path.text.now) mid new) c.loop-at.invariant.same
    (c.look.ensures.asked (c.loop-at.invariant.passes.past.told ∙ told) since (passes_trans since old mid past c.loop-at.invariant.passes) (known_later known old mid since.last c.loop-at.invariant.passes.past are))))

pub look_nodes-loop-at-preserved : goal.look_nodes-loop-at-preserved
look_nodes-loop-at-preserved g t c =
    let old = g.T.Tree.history c.args.tree.now in
    let mid = g.T.Tree.history c.loop-at.tree in
    let new = g.T.Tree.history c.look.new.tree in
    let known = g.K.Entries.known c.args.entries.now in
    let kept = g.K.Entries.kept c.args.entries.now in
    record {
      passes = passes_trans _ _ _ c.loop-at.invariant.passes c.look.ensures.passes;
      listed =
          nodes_more kept known c.args.wanted (state_asked c.args.matcher.now) old mid new c.loop-at.invariant.passes.past c.look.ensures.passes.past c.args.dir.text.now known.nodes c.loop-at.at
          c.in-Some.path.text.now c.in-Some.ensures.node (ap is_some (sym c.in-Some-name_in.ensures)) c.args.rows.now.items c.loop-at.rows.items c.look.new.rows.items c.loop-at.invariant.listed
          (subst (λ (s : List Piece). ListsFormed kept known (Gives c.args.wanted s) mid new (IsUnknownFrom kept (now mid) c.in-Some.path.text.now) c.loop-at.rows.items c.look.new.rows.items)
          c.loop-at.invariant.same c.in_ok-look.ensures.listed);
      asked = λ told since past are.
          nodes_more_asks (IsAskedDir known c.args.wanted (state_asked c.args.matcher.now)) since old mid new c.look.ensures.passes.past c.args.dir.text.now known.nodes c.args.span c.requires.span c.loop-at.at c.in-Some.path.text.now
          c.in-Some.ensures.node (ap is_some (sym c.in-Some-name_in.ensures)) (c.loop-at.invariant.asked told since past are)
          (subst (λ (s : List Piece). AsksFor (IsDirFrom (IsAskedDir known c.args.wanted s) since new c.in-Some.path.text.now) mid new) c.loop-at.invariant.same
          (c.look.ensures.asked (c.loop-at.invariant.passes.past.told ∙ told) since (passes_trans since old mid past c.loop-at.invariant.passes) (known_later known old mid since.last c.loop-at.invariant.passes.past are)));
      same = c.look.ensures.same ∙ c.loop-at.invariant.same;
      still = c.in_ok-look.ensures.cause.quiet ∙ c.loop-at.invariant.still;
    }

pub look_nodes-look-requires : goal.look_nodes-look-requires
look_nodes-look-requires g t c κs within =
    let above = above_child (state_asked c.args.matcher.now) (state_asked c.loop-at.matcher) c.args.ignored c.args.dir.text.now c.in-Some.path.text.now c.in-Some-name_in.name.now c.loop-at.invariant.same (sym c.in-Some-name_in.ensures)
    c.requires.above in
    let falls = child_falls c.args.dir.text.now c.in-Some.path.text.now c.in-Some-name_in.name.now (sym c.in-Some-name_in.ensures) c.in-Some.path.is_path in
    let down : 4 * (65536 - length c.in-Some.path.text.now) + 4 < t = omega (arith, falls, c.decreases) in
    (down, (within.0, (within.1, (above.0, above.1))))
