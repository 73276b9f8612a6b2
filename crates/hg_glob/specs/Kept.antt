-- What a glob keeps, and a text that was read for globs.
use Rattle.std.specs.Prelude.{ℕ, ◌≡◌, ◌≤◌, Bool, IsTrue, List, [], ◌++◌, length, reverse, chars, encode_utf8_all}
use Rattle.hg_glob.specs.Part.{parts_of, head_of, tail_from}
use Rattle.hg_glob.specs.declared.part.Part.{Part}

-- its text, the parts of it, and the bytes that they begin and end with
pub record IsKept (text : List ℕ) (parts : List Part) (head tail : List ℕ) : Type 0 where
  pub few : length text ≤ 4095
  pub parts_are : parts ≡ parts_of (chars text)
  pub head_is : head ≡ encode_utf8_all (head_of parts)
  pub tail_is : tail ≡ encode_utf8_all (tail_from [] parts)

-- the text ends so
abbrev pub HasEnd : List ℕ → List ℕ → Type 0
HasEnd text end = (front : List ℕ) × (text ≡ front ++ end)

-- a text was read: its last characters, and of a short one all, the last one first
pub record IsRead (text short : List ℕ) (is_short : Bool) : Type 0 where
  pub all : IsTrue is_short → chars text ≡ reverse short
  pub last : HasEnd (chars text) (reverse short)
