-- Globs as their texts spell them, each a case worked by hand.
use Rattle.std.proofs.Common.{◌≡◌, true, [], ◌∷◌, Some, codes, refl}
use Rattle.hg_glob.specs.Pattern.{empty, literal, one, listed, star, any, slashes, braces, last, choice}
use Rattle.hg_glob.specs.Part.{parts_from, ranges_from, parts_of, glob_of}
use Rattle.hg_glob.specs.Refusal.{unclosed, reversed}

directories_and_a_name : glob_of (codes "**/t") ≡ slashes (literal 116 empty)
unfolding parts_from
directories_and_a_name = refl

stars_two_at_a_time : glob_of (codes "***/") ≡ any (star (literal 47 empty))
unfolding parts_from
stars_two_at_a_time = refl

a_star_and_an_end : glob_of (codes "*.o?") ≡ star (literal 46 (literal 111 (one empty)))
unfolding parts_from
a_star_and_an_end = refl

choices_in_choices : glob_of (codes "{a,{b,}c}d") ≡ braces (choice (literal 97 empty) (last (braces (choice (literal 98 empty) (last empty)) (literal 99 empty)))) (literal 100 empty)
unfolding parts_from
choices_in_choices = refl

a_comma_outside : glob_of (codes "a,}") ≡ literal 97 (literal 44 (literal 125 empty))
unfolding parts_from
a_comma_outside = refl

a_negated_class : glob_of (codes "[!]a-c]") ≡ listed true (record { low = 93; high = 93 } ∷ record { low = 97; high = 99 } ∷ []) empty
unfolding parts_from ranges_from
a_negated_class = refl

a_bracket_alone : glob_of (codes "[!]") ≡ literal 91 (literal 33 (literal 93 empty))
unfolding parts_from ranges_from
a_bracket_alone = refl

an_escaped_star : glob_of (codes "\\*\\") ≡ literal 42 (literal 92 empty)
unfolding parts_from
an_escaped_star = refl

the_first_brace : unclosed (parts_of (codes "{a{b}")) ≡ Some 0
unfolding parts_from
the_first_brace = refl

a_reversed_range : reversed (parts_of (codes "[b-a]")) ≡ Some 1
unfolding parts_from ranges_from
a_reversed_range = refl
