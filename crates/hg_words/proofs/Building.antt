-- A command as `clap` is told of it, flag by flag.
use Rattle.std.proofs.Common.{ℕ, Bool, true, false, not, ◌&&◌, ◌≡◌, ◌+◌, zero, suc, List, [], ◌∷◌, ◌++◌, map, take, Some, refl, sym, ap, ap₂, ◌∙◌, arith}
use Rattle.std.specs.Borrow.{Bor}
use Rattle.std.specs.Prelude.{slice_get, is_some}
use Rattle.std.specs.List.{count_by, list_all, list_any}
use Rattle.std.specs.Option.{option_map}
use Rattle.clap.specs.Faults.{is_free_app, is_simple_and_free}
use Rattle.clap.specs.Simple.{App, is_in_order, is_ready, is_ready_leaf, with_rule}
use Rattle.clap.specs.Walk.{Rule, Text, is_early_multiple}
use Rattle.hg_words.specs.Command.{Flag}
use Rattle.hg_words.specs.Clapped.{app, arg_in, flag_arg, flags_in, with_args, word_arg}
use Rattle.hg_words.proofs.Letters.{rules}
use Rattle.hg_words.proofs.Refused.{app_built}

one_taken : (table : List (ℕ × Bor Text)) (i : ℕ) (arg : Rule) → option_map arg_in (slice_get table i) ≡ Some arg
    → map flag_arg (flags_in (take (suc i) table)) ≡ map flag_arg (flags_in (take i table)) ++ arg ∷ []
one_taken [] i arg is = absurd (cc)
one_taken (first ∷ table) zero arg is = ap (λ (r : Rule). r ∷ []) (some_same (arg_in first) arg is)
  where
    some_same : (a b : Rule) → Some a ≡ Some b → a ≡ b
    some_same a b e = cc
one_taken (first ∷ table) (suc i) arg is = ap (λ (l : List Rule). arg_in first ∷ l) (one_taken table i arg is)

-- one flag more
pub one_flag : (name : Text) (table : List (ℕ × Bor Text)) (i : ℕ) (old new : App) (arg : Rule) → option_map arg_in (slice_get table i) ≡ Some arg
    → old ≡ with_args name (map flag_arg (flags_in (take i table))) → new ≡ with_rule old arg
    → new ≡ with_args name (map flag_arg (flags_in (take (i + 1) table)))
one_flag name table i old new arg is so added =
    let next : suc i ≡ i + 1 = omega arith in
    added ∙ ap (λ (a : App). with_rule a arg) so ∙ ap (with_args name) (sym (one_taken table i arg is) ∙ ap (λ k. map flag_arg (flags_in (take k table))) next)

-- ---- it is one of those whose meaning `clap` tells

flags_simple : (flags : List Flag) → list_all (λ (a : Rule). a.is_simple) (map flag_arg flags ++ word_arg ∷ []) ≡ true
flags_simple [] = refl
flags_simple (f ∷ flags) = flags_simple flags

rules_simple : (flags : List Flag) → list_all (λ (a : Rule). a.is_simple) (rules flags) ≡ true
rules_simple [] = refl
rules_simple (f ∷ flags) = rules_simple flags

rules_free : (flags : List Flag) → list_all (λ (a : Rule). a.is_free) (rules flags) ≡ true
rules_free [] = refl
rules_free (f ∷ flags) = rules_free flags

one_place : (flags : List Flag) → count_by (λ (a : Rule). is_some a.index) (rules flags) ≡ 1
one_place [] = refl
one_place (f ∷ flags) = one_place flags

none_early : (flags : List Flag) → list_any (is_early_multiple 1) (rules flags) ≡ false
none_early [] = refl
none_early (f ∷ flags) = none_early flags

in_order : (flags : List Flag) → is_in_order (rules flags) ≡ true
in_order flags = ap (λ n. not (list_any (is_early_multiple n) (rules flags))) (one_place flags) ∙ ap not (none_early flags)

pub simple_app : (name : Text) (flags : List Flag) → is_simple_and_free (app name flags) ≡ true
simple_app name flags =
    ap₂ (λ (buildable : Bool) (b : App). ((buildable && true) && (is_ready b.top && list_all is_ready_leaf b.subs)) && is_free_app b) (flags_simple flags) (app_built name flags)
    ∙ ap₂ (λ (simple ordered : Bool). ((simple && ordered) && true) && (list_all (λ (a : Rule). a.is_free) (rules flags) && true)) (rules_simple flags) (in_order flags)
    ∙ ap (λ (free : Bool). free && true) (rules_free flags)
