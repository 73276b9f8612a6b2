use Rattle.std.proofs.Common.{◌≡◌, ◌∙◌, ◌/◌, ◌%◌, ◌<◌, ◌++◌, ◌∷◌, ℕ, List, ap, sym, subst, true, arith}
use Rattle.hg_base.specs.PathText.{is_path}
use Rattle.hg_gen.specs.Copy.{dir_of, name_of}
use Rattle.hg_gen.proofs.Naming.{dir_path, file_path}
use Rattle.hg_gen.proofs.names.path_of.Goals as goal

pub within-requires : goal.within-requires
within-requires c =
    let small : c.args.file < 32000 = omega (arith, c.requires) in
    let dir : c.as_str.result.now ≡ dir_of (c.args.file / 16) = c.as_str.ensures.value ∙ c.in_ok-dir.ensures in
    subst (λ (text : List ℕ). is_path text ≡ true) (sym dir) (dir_path (c.args.file / 16) (omega arith))

pub within-requires-2 : goal.within-requires-2
within-requires-2 c =
    let small : c.args.file < 32000 = omega (arith, c.requires) in
    let dir : c.as_ref.result.text.now ≡ dir_of (c.args.file / 16) = c.as_ref.ensures ∙ c.in_ok-dir-2.ensures ∙ c.as_str.ensures.value ∙ c.in_ok-dir.ensures in
    let name : c.as_str-2.result.now ≡ name_of (c.args.file % 16) = c.as_str-2.ensures.value ∙ c.in_ok-name.ensures in
    subst (λ (text : List ℕ). is_path text ≡ true) (sym (ap (λ (d : List ℕ). d ++ 47 ∷ c.as_str-2.result.now) dir ∙ ap (λ (n : List ℕ). dir_of (c.args.file / 16) ++ 47 ∷ n) name))
    (file_path c.args.file small)
