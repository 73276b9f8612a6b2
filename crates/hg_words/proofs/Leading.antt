-- Where a word leads, a piece at a time.
use Rattle.std.proofs.Common.{◌≡◌, ℕ, ◌<◌, Bool, false, cond, List, [], ◌∷◌, ◌++◌, length, Option, Some, None, refl, sym, ap, ◌∙◌, arith, eqb}
use Rattle.std.specs.Prelude.{codes}
use Rattle.std.specs.Option.{option_and_then, option_map, unwrap_or}
use Rattle.std.specs.Str.{bytes_eq}
use Rattle.hg_base.specs.PathText.{components, has_slash, joined_pieces, parent_of}
use Rattle.hg_base.proofs.Components.{components_some, components_name, joined_components}
use Rattle.hg_base.proofs.Cuts.{cut_pieces, parent_cut, parent_plain}
use Rattle.hg_words.specs.Told.{in_folder, led, upper}

-- the folder in which a folder stands is what is before its last slash, or the root
pub upper_cut : (folder up name : List ℕ) → eqb (length folder) 0 ≡ false → folder ≡ up ++ 47 ∷ name → has_slash name ≡ false → Some up ≡ upper folder
upper_cut folder up name some e plain =
    sym (ap (λ (t : Bool). cond t None (Some (unwrap_or (parent_of folder) []))) some ∙ ap (λ (o : Option (List ℕ)). Some (unwrap_or o [])) (parent_cut folder up name e plain))

pub upper_plain : (folder : List ℕ) → eqb (length folder) 0 ≡ false → has_slash folder ≡ false → Some [] ≡ upper folder
upper_plain folder some plain =
    sym (ap (λ (t : Bool). cond t None (Some (unwrap_or (parent_of folder) []))) some ∙ ap (λ (o : Option (List ℕ)). Some (unwrap_or o [])) (parent_plain folder plain))

-- a first piece that stands before others
led_at : (folder piece : List ℕ) (parts : List (List ℕ)) → 0 < length parts → led folder (piece ∷ parts)
    ≡ cond (bytes_eq piece (codes ".")) (led folder parts)
    (cond (bytes_eq piece (codes "..")) (option_and_then (λ up. led up parts) (upper folder)) (option_map (in_folder folder) (joined_pieces (piece ∷ parts))))
led_at folder piece [] some = absurd (omega arith)
led_at folder piece (next ∷ pieces) some = refl

-- a word that is cut at its first slash
led_cut : (folder word front behind : List ℕ) → word ≡ front ++ 47 ∷ behind → has_slash front ≡ false → led folder (components word)
    ≡ cond (bytes_eq front (codes ".")) (led folder (components behind))
    (cond (bytes_eq front (codes "..")) (option_and_then (λ up. led up (components behind)) (upper folder)) (option_map (in_folder folder) (joined_pieces (components word))))
led_cut folder word front behind e plain =
    let parts = cut_pieces word front behind e plain in
    ap (led folder) parts ∙ led_at folder front (components behind) (components_some behind)
    ∙ ap (λ (l : List (List ℕ)). cond (bytes_eq front (codes ".")) (led folder (components behind))
    (cond (bytes_eq front (codes "..")) (option_and_then (λ up. led up (components behind)) (upper folder)) (option_map (in_folder folder) (joined_pieces l)))) (sym parts)

-- a word whose first piece is a name stands in the folder
pub led_name : (folder word front behind : List ℕ) → word ≡ front ++ 47 ∷ behind → has_slash front ≡ false → bytes_eq front (codes ".") ≡ false → bytes_eq front (codes "..") ≡ false
    → led folder (components word) ≡ Some (in_folder folder word)
led_name folder word front behind e plain moves named =
    led_cut folder word front behind e plain ∙ rw (moves, named, joined_components word) refl

-- and so does a word that is one piece
pub led_plain : (folder word : List ℕ) → has_slash word ≡ false → led folder (components word) ≡ Some (in_folder folder word)
led_plain folder word plain = ap (led folder) (components_name word plain)
