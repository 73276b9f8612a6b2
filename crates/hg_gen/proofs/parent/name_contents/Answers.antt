use Rattle.std.proofs.Common.{◌≡◌, ◌∙◌, ◌<◌, true, false, arith, rules}
use Rattle.std.specs.String.{string_bytes}
use Rattle.hg_gen.specs.Copy.{contents_of, path_of}
use Rattle.hg_gen.specs.Manifest.{is_in_parent, names_in}
use Rattle.hg_gen.proofs.Listed.{not_named, once_named, put_name}
use Rattle.hg_gen.proofs.parent.name_contents.Goals as goal

pub returns-then-not-is_in_parent-clause-named : goal.returns-then-not-is_in_parent-clause-named
returns-then-not-is_in_parent-clause-named c =
    let small : c.args.file < 32000 = omega (arith, c.requires) in
    let gone : is_in_parent c.args.file ≡ false = search rules in
    λ upto. not_named c.args.file (names_in c.args.rows.now) upto (omega arith) gone

pub returns-clause-named : goal.returns-clause-named
returns-clause-named c =
    let small : c.args.file < 32000 = omega (arith, c.requires) in
    let there : is_in_parent c.args.file ≡ true = search rules in
    let path : string_bytes c.in_ok-path-2.path ≡ path_of c.args.file = c.in_ok-path-2.ensures.ok ∙ c.as_str.ensures ∙ c.in_ok-path.ensures in
    λ upto. once_named c.args.file (names_in c.args.rows.now) upto (omega arith) (names_in c.insert.new.self) there
    (put_name c.args.rows.now c.insert.new.self c.in_ok-path-2.path c.in_ok-contents.contents (path_of c.args.file) (contents_of c.args.file) path c.in_ok-contents.ensures c.in_ok-insert.ensures.updates)
