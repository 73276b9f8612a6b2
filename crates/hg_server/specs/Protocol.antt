-- The protocol of the command server as bytes: a request, and what is answered to one.
use Rattle.std.specs.Prelude.{ℕ, ◌≡◌, ◌*◌, ◌≤◌, true, if◌then◌else◌, List, [], ◌∷◌, ◌++◌, length, take, drop, map, codes, ◌==◌}
use Rattle.std.specs.Int.{w32, div_ceil, to_be_bytes}
use Rattle.std.specs.List.{flat_map, range_with_len, slice_split}
use Rattle.std.specs.Str.{is_utf8}

-- ---- requests

-- what every request begins with
abbrev pub line : List ℕ
line = codes "runcommand" ++ 10 ∷ []

-- a request: the line, how many bytes its words have, greatest byte first, and these bytes
abbrev pub request : List ℕ → List ℕ
request text = line ++ to_be_bytes w32 (length text) ++ text

-- bytes that a request may have as its words
pub record IsFit (text : List ℕ) : Type 0 where
  pub short : length text ≤ 1048576
  pub utf8 : is_utf8 text ≡ true

-- the words of a request, which are parted by NUL; no bytes are no words
abbrev pub words_of : List ℕ → List (List ℕ)
words_of text = if length text == 0 then [] else slice_split (λ b. b == 0) text

-- ---- messages

-- a message: its channel, how many bytes it has, greatest byte first, and these bytes
abbrev pub message : ℕ → List ℕ → List ℕ
message channel bytes = channel ∷ to_be_bytes w32 (length bytes) ++ bytes

-- the pieces of a text: piece k begins at byte 65,536 k, and each has 65,536 bytes but the last, which has what is left; an empty text has none
abbrev pub pieces : List ℕ → List (List ℕ)
pieces text = map (λ k. take 65536 (drop (65536 * k) text)) (range_with_len 0 (div_ceil (length text) 65536))

-- a text on a channel: a message for each of its pieces
abbrev pub messages : ℕ → List ℕ → List ℕ
messages channel text = flat_map (message channel) (pieces text)

-- what is said before any request: on `o`, what this server can do, and how its texts are encoded
abbrev pub hello : List ℕ
hello = message 111 (codes "capabilities: runcommand" ++ 10 ∷ codes "encoding: UTF-8")

-- the answer to a request: what its command printed, on `o`; what it told on the error stream, on `e`; and its status, as four bytes on `r`
abbrev pub answer : List ℕ → List ℕ → ℕ → List ℕ
answer out err status = messages 111 out ++ messages 101 err ++ message 114 (to_be_bytes w32 status)
