-- How the marks over a text follow from those over the text without its first character; for the private functions alone.
use Rattle.std.specs.Prelude.{◌≡◌, ◌<◌, slice_index_or, ℕ, if◌then◌else◌, Bool, true, false, not, ◌&&◌, ◌||◌, List, [], ◌∷◌, drop, Option, Some, None, ◌==◌, nat_le, is_some}
use Rattle.hg_glob.specs.declared.part.Part.{Part}
use Rattle.hg_glob.specs.declared.part.Part.TheVariants as a_part
use Rattle.hg_glob.specs.declared.mark.Mark.{Mark}
use Rattle.hg_glob.specs.declared.mark.Brace.{Brace}
use Rattle.hg_glob.specs.declared.mark.Going.{Going}

-- the mark of a place that nothing reaches
abbrev pub no_mark : Mark
no_mark = record { here = false; behind = false }

-- nothing reaches the place
pub record IsOff (mark : Mark) : Type 0 where
  pub here : mark.here ≡ false
  pub behind : mark.behind ≡ false

-- nothing reaches a place in front of that one
abbrev pub OffBelow : ℕ → List Mark → Type 0
OffBelow low marks = (j : ℕ) → j < low → IsOff (slice_index_or marks j no_mark)

-- something reaches the place
abbrev pub is_marked : Mark → Bool
is_marked mark = mark.here || mark.behind

-- the mark of a part that is no `**/`
abbrev pub plain : Bool → Mark
plain here = record { here = here; behind = false }

-- the first mark of a row
abbrev pub first : List Mark → Mark
first [] = no_mark
first (mark ∷ marks) = mark

-- the character is there, and it is this one
abbrev pub is_char : ℕ → Option ℕ → Bool
is_char x None = false
is_char x (Some c) = c == x

-- the character is there, and it is no slash
abbrev pub is_inside : Option ℕ → Bool
is_inside None = false
is_inside (Some c) = not (c == 47)

-- the character is there, and it stands in the span
abbrev pub is_between : ℕ → ℕ → Option ℕ → Bool
is_between low high None = false
is_between low high (Some c) = nat_le low c && nat_le c high

-- the end is reached: at the text's end, or where ends before a slash count, before a slash
abbrev pub is_end : Bool → Option ℕ → Bool
is_end inner None = true
is_end inner (Some c) = inner && c == 47

-- a mark, and what goes on to the part before
pub record Stepped : Type 0 where
  pub mark : Mark
  pub going : Going

-- the same of such a part
abbrev pub stepped : Bool → Going → Stepped
stepped here going = record { mark = plain here; going = going }

-- at `{`: what was found at the choices behind
abbrev pub open_step : Bool → Bool → List Brace → Stepped
open_step now hit [] = stepped now (record { hit = hit; braces = [] })
open_step now hit (b ∷ braces) = stepped (now || b.found) (record { hit = hit; braces = braces })

-- at `,`: what stands behind the braces, and one choice more is known
abbrev pub comma_step : Bool → Bool → List Brace → Stepped
comma_step now hit [] = stepped now (record { hit = hit; braces = [] })
comma_step now hit (b ∷ braces) = stepped b.after (record { hit = hit; braces = record { after = b.after; found = b.found || now } ∷ braces })

-- the mark of a part: `was` is its mark over the text without the character, `next` that of the part behind it there, and
-- `now` whether the part behind it is marked over the text with it
abbrev pub step : Option ℕ → Part → Mark → Mark → Bool → Going → Stepped
step c (a_part.Literal x) was next now going = stepped (is_char x c && next.here) going
step c a_part.One was next now going = stepped (is_some c && next.here) going
step c (a_part.Class negated) was next now going =
    stepped (is_some c && (if negated then not going.hit else going.hit) && next.here) (record { hit = false; braces = going.braces })
step c (a_part.Range at low high) was next now going = stepped now (record { hit = is_between low high c || going.hit; braces = going.braces })
step c a_part.Star was next now going = stepped (now || is_inside c && was.here) going
step c a_part.Any was next now going = stepped (now || is_some c && was.here) going
step c a_part.Slashes was next now going =
    let behind = (is_char 47 c && next.here) || (is_some c && was.behind) in record { mark = record { here = now || behind; behind = behind }; going = going }
step c (a_part.Open at) was next now going = open_step now going.hit going.braces
step c a_part.Comma was next now going = comma_step now going.hit going.braces
step c a_part.Close was next now going = stepped now (record { hit = going.hit; braces = record { after = now; found = false } ∷ going.braces })

-- a row, and what goes on to the part before it
pub record Turned : Type 0 where
  pub marks : List Mark
  pub going : Going

-- a mark in front of a row
abbrev pub put : Turned → Stepped → Turned
put below one = record { marks = one.mark ∷ below.marks; going = one.going }

-- the row over a text from the row over the text without its first character; without a character, the row over no text
unfoldable pub turned : Bool → Option ℕ → List Part → List Mark → Turned
turned inner c [] old = record { marks = plain (is_end inner c) ∷ []; going = record { hit = false; braces = [] } }
turned inner c (part ∷ parts) old =
    put (turned inner c parts (drop 1 old))
    (step c part (first old) (first (drop 1 old)) (first (turned inner c parts (drop 1 old)).marks).here (turned inner c parts (drop 1 old)).going)
