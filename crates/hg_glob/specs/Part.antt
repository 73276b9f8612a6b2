-- How a text is read as a glob, from left to right: its parts, and the glob that they make. Which text spells which glob, by rules, is said in `Syntax`.
use Rattle.std.specs.Prelude.{ℕ, ◌≡◌, Result, IfOk, ◌+◌, ◌-◌, zero, suc, if◌then◌else◌, Bool, true, false, ◌&&◌, List, [], ◌∷◌, ◌++◌, take, drop, Option, Some, None, option_map, ◌==◌, nat_lt, position}
use Rattle.hg_glob.specs.Pattern.{Span, Pattern, Choices, empty, literal, one, listed, star, any, slashes, braces, last, choice}
use Rattle.hg_glob.specs.declared.part.Part.{Part}
use Rattle.hg_glob.specs.declared.part.Part.TheVariants as a_part

-- the parts that stand at the front of a text, and how many characters behind the first one belong to them
pub record Spelled : Type 0 where
  pub parts : List Part
  pub more : ℕ

-- a part of one character
abbrev pub single : Part → Spelled
single part = record { parts = part ∷ []; more = 0 }

-- the text begins with the character
abbrev pub begins : ℕ → List ℕ → Bool
begins c [] = false
begins c (first ∷ rest) = first == c

-- behind a backslash: the character is itself, and at the end the backslash is
abbrev pub escaped : List ℕ → Spelled
escaped [] = single (a_part.Literal 92)
escaped (c ∷ rest) = record { parts = a_part.Literal c ∷ []; more = 1 }

-- behind a star, two at a time: `**/`, `**`, `*`
abbrev pub starred : List ℕ → Spelled
starred rest =
    if begins 42 rest
    then (if begins 47 (drop 1 rest) then record { parts = a_part.Slashes ∷ []; more = 2 } else record { parts = a_part.Any ∷ []; more = 1 })
    else single a_part.Star

-- the end of a range that begins with `low`, `-` and a character behind it; where it is none, `low`
abbrev pub range_high : ℕ → List ℕ → ℕ
range_high low [] = low
range_high low (dash ∷ []) = low
range_high low (dash ∷ high ∷ rest) = if dash == 45 then high else low

-- how many characters of the rest belong to it
abbrev pub range_more : List ℕ → ℕ
range_more [] = 0
range_more (dash ∷ []) = 0
range_more (dash ∷ high ∷ rest) = if dash == 45 then 2 else 0

-- the members of a class, its first characters left out: `x-y` is a range where three characters are there, from the left, and
-- another character is itself
unfoldable pub ranges_from : ℕ → ℕ → List ℕ → List Part
ranges_from skipped at [] = []
ranges_from zero at (low ∷ rest) = a_part.Range at low (range_high low rest) ∷ ranges_from (range_more rest) (at + 1) rest
ranges_from (suc skipped) at (c ∷ rest) = ranges_from skipped (at + 1) rest

-- the members of a class, the first at that place
abbrev pub ranges : ℕ → List ℕ → List Part
ranges at text = ranges_from 0 at text

-- how many characters a class has before the `]` that ends it; its first one is a member whatever it is
abbrev pub members : List ℕ → Option ℕ
members [] = None
members (first ∷ rest) = option_map (λ n. n + 1) (position (λ c. c == 93) rest)

-- a class whose members begin at that place, behind so many characters, or a bracket that is itself where no `]` ends it
abbrev pub bracket : Bool → ℕ → ℕ → List ℕ → Option ℕ → Spelled
bracket negated at skipped text None = single (a_part.Literal 91)
bracket negated at skipped text (Some n) = record { parts = a_part.Class negated ∷ ranges at (take n text); more = skipped + n + 1 }

-- behind a bracket at that place; `!` negates
abbrev pub bracketed : ℕ → List ℕ → Spelled
bracketed at rest =
    if begins 33 rest
    then bracket true (at + 2) 1 (drop 1 rest) (members (drop 1 rest))
    else bracket false (at + 1) 0 rest (members rest)

-- the parts at the front of a text, by its first character, which stands at that place in so many open braces
abbrev pub spelled : ℕ → ℕ → ℕ → List ℕ → Spelled
spelled depth at c rest =
    if c == 92
    then escaped rest
    else (
    if c == 42
    then starred rest
    else (
    if c == 63
    then single a_part.One
    else (
    if c == 91
    then bracketed at rest
    else (
    if c == 123
    then single (a_part.Open at)
    else (
    if c == 44 && nat_lt 0 depth
    then single a_part.Comma
    else (if c == 125 && nat_lt 0 depth then single a_part.Close else single (a_part.Literal c))
    )
    )
    )
    )
    )

-- how many braces are open behind a part that begins with the character
abbrev pub depth_after : ℕ → ℕ → ℕ
depth_after depth c = if c == 123 then depth + 1 else (if c == 125 then depth - 1 else depth)

-- the parts of a text that stands at that place in so many open braces, its first characters left out
unfoldable pub parts_from : ℕ → ℕ → ℕ → List ℕ → List Part
parts_from skipped depth at [] = []
parts_from zero depth at (c ∷ rest) = (spelled depth at c rest).parts ++ parts_from (spelled depth at c rest).more (depth_after depth c) (at + 1) rest
parts_from (suc skipped) depth at (c ∷ rest) = parts_from skipped depth (at + 1) rest

-- the parts of a text
abbrev pub parts_of : List ℕ → List Part
parts_of text = parts_from 0 0 0 text

-- a brace that is closed and not yet opened, as one reads from the end: the choices so far, and what stands behind it
pub record Frame : Type 0 where
  pub choices : Option Choices
  pub behind : Pattern

-- what the last parts of a text make: a glob up to the brace around it, the members of a class, the braces around it
pub record Reading : Type 0 where
  pub pattern : Pattern
  pub spans : List Span
  pub frames : List Frame

-- one choice more in front of others
abbrev pub with_choice : Pattern → Option Choices → Choices
with_choice g None = last g
with_choice g (Some choices) = choice g choices

-- in front of what was read: a brace opens
abbrev pub opened : Reading → List Frame → Reading
opened r [] = r
opened r (f ∷ frames) = record r { pattern = braces (with_choice r.pattern f.choices) f.behind; frames = frames }

-- in front of what was read: a comma ends another choice
abbrev pub parted : Reading → List Frame → Reading
parted r [] = r
parted r (f ∷ frames) = record r { pattern = empty; frames = record { choices = Some (with_choice r.pattern f.choices); behind = f.behind } ∷ frames }

-- one part in front of what was read
abbrev pub before : Part → Reading → Reading
before (a_part.Literal c) r = record r { pattern = literal c r.pattern }
before a_part.One r = record r { pattern = one r.pattern }
before (a_part.Class negated) r = record r { pattern = listed negated r.spans r.pattern; spans = [] }
before (a_part.Range at low high) r = record r { spans = record { low = low; high = high } ∷ r.spans }
before a_part.Star r = record r { pattern = star r.pattern }
before a_part.Any r = record r { pattern = any r.pattern }
before a_part.Slashes r = record r { pattern = slashes r.pattern }
before (a_part.Open at) r = opened r r.frames
before a_part.Comma r = parted r r.frames
before a_part.Close r = record r { pattern = empty; frames = record { choices = None; behind = r.pattern } ∷ r.frames }

-- what parts make, read from their end
abbrev pub reading : List Part → Reading
reading [] = record { pattern = empty; spans = []; frames = [] }
reading (part ∷ parts) = before part (reading parts)

-- the glob that a text spells
abbrev pub glob_of : List ℕ → Pattern
glob_of text = (reading (parts_of text)).pattern

-- the parts were put behind others, and the answer is how many characters more belong to them
abbrev pub Puts : {E : Type 0} → Spelled → List Part → List Part → Result ℕ E → Type 0
Puts spelled old new result = IfOk result (λ more. (more ≡ spelled.more) × (new ≡ old ++ spelled.parts))

-- the character that a part is
abbrev pub literal_of : Part → Option ℕ
literal_of (a_part.Literal c) = Some c
literal_of _ = None

-- a character in front of others; what is no character ends them
abbrev pub begun : Option ℕ → List ℕ → List ℕ
begun None rest = []
begun (Some c) rest = c ∷ rest

-- the characters that the parts begin with
abbrev pub head_of : List Part → List ℕ
head_of [] = []
head_of (part ∷ parts) = begun (literal_of part) (head_of parts)

-- a character behind others; what is no character leaves none
abbrev pub ended : List ℕ → Option ℕ → List ℕ
ended text None = []
ended text (Some c) = text ++ c ∷ []

-- the characters that the parts end with, where those of the text stand in front of them
abbrev pub tail_from : List ℕ → List Part → List ℕ
tail_from text [] = text
tail_from text (part ∷ parts) = tail_from (ended text (literal_of part)) parts
