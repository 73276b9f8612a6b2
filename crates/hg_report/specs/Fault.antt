-- The line of a fault on the error stream.
use Rattle.std.specs.Prelude.{ℕ, Bool, true, false, if◌then◌else◌, List, [], ◌∷◌, ◌++◌, codes}
use Rattle.std.specs.Fmt.{decimal}
use Rattle.std.specs.List.{flat_map}
use Rattle.hex.specs.Hex.{encode_lower}
use Rattle.hg_base.specs.declared.id.Id20.{Id20}
use Rattle.hg_docket.specs.declared.fault.DocketFault.{DocketFault}
use Rattle.hg_docket.specs.declared.fault.DocketFault.TheVariants as a_docket
use Rattle.hg_image.specs.declared.fault.NodeFault.{NodeFault}
use Rattle.hg_image.specs.declared.fault.NodeFault.TheVariants as a_node
use Rattle.hg_report.specs.declared.fault.Fault.{Fault}
use Rattle.hg_report.specs.declared.fault.Fault.TheVariants as a_fault

abbrev pub docket_words : DocketFault → List ℕ
docket_words (a_docket.Marker at) = codes "dirstate: marker differs at byte " ++ decimal at
docket_words (a_docket.Short len needed) = codes "dirstate: " ++ (decimal len ++ (codes " bytes where " ++ (decimal needed ++ codes " are needed")))
docket_words (a_docket.Identifier at) = codes "dirstate: identifier byte " ++ decimal at
docket_words (a_docket.NoIdentifier used) = codes "dirstate: no identifier for " ++ (decimal used ++ codes " bytes")

-- what is wrong with the node at a place
abbrev pub at_node : ℕ → List ℕ → List ℕ
at_node node what = codes "dirstate data: node " ++ (decimal node ++ (codes ": " ++ what))

abbrev pub node_words : NodeFault → List ℕ
node_words (a_node.DataShort have used) = codes "dirstate data: " ++ (decimal have ++ (codes " bytes where " ++ (decimal used ++ codes " are used")))
node_words (a_node.List start count) = codes "dirstate data: list at " ++ (decimal start ++ (codes " of " ++ (decimal count ++ codes " nodes")))
node_words (a_node.Text node) = at_node node (codes "text")
node_words (a_node.Name node) = at_node node (codes "name")
node_words (a_node.Deep node) = at_node node (codes "depth")
node_words (a_node.Base node) = at_node node (codes "base")
node_words (a_node.Parent node) = at_node node (codes "parent")
node_words (a_node.Order node) = at_node node (codes "order")
node_words (a_node.Copy node) = at_node node (codes "copy")
node_words (a_node.Times node) = at_node node (codes "time")

-- an identifier in forty lower-case digits behind some words
abbrev pub with_id : List ℕ → Id20 → List ℕ
with_id what id = what ++ encode_lower id.0

-- what is wrong with a line of the ignore patterns
abbrev pub at_ignore_line : ℕ → List ℕ → List ℕ
at_ignore_line line what = codes ".hgignore line " ++ (decimal line ++ (codes ": " ++ what))

-- what is wrong with a line of a script
abbrev pub at_script_line : ℕ → List ℕ → List ℕ
at_script_line line what = codes "script line " ++ (decimal line ++ (codes " is " ++ what))

abbrev pub words_of : Fault → List ℕ
words_of a_fault.OutOfMemory = codes "out of memory"
words_of a_fault.NotBuilt = codes "not built yet"
words_of a_fault.NoCommand = codes "no command"
words_of a_fault.UnknownCommand = codes "unknown command"
words_of a_fault.Usage = codes "wrong arguments"
words_of (a_fault.BadNode word) = codes "argument " ++ (decimal word ++ codes " is not a node")
words_of (a_fault.Docket fault) = docket_words fault
words_of (a_fault.Node fault) = node_words fault
words_of (a_fault.DataGone ids) = codes "dirstate data gone:" ++ flat_map (λ id. 32 ∷ id) ids
words_of (a_fault.NoManifest id) = with_id (codes "no manifest ") id
words_of (a_fault.ManifestTooLarge size) = codes "manifest of " ++ (decimal size ++ codes " bytes")
words_of (a_fault.ManifestLine line) = codes "manifest line " ++ decimal line
words_of (a_fault.ManifestOrder line) = codes "manifest order at line " ++ decimal line
words_of (a_fault.NoContents id) = with_id (codes "no contents ") id
words_of (a_fault.IgnoreTooLarge size) = codes ".hgignore of " ++ (decimal size ++ codes " bytes")
words_of (a_fault.IgnoreText at) = codes ".hgignore: byte " ++ (decimal at ++ codes " is not text")
words_of (a_fault.BadGlob line) = at_ignore_line line (codes "glob")
words_of (a_fault.BadRegexp line) = at_ignore_line line (codes "regexp")
words_of (a_fault.RegexpTooBig line) = at_ignore_line line (codes "size")
words_of (a_fault.BadInclude line) = at_ignore_line line (codes "include")
words_of a_fault.Held = codes "working copy is locked"
words_of (a_fault.TooLarge size) = codes "dirstate data would have " ++ (decimal size ++ codes " bytes")
words_of a_fault.IdsSpent = codes "no identifier is left"
words_of a_fault.TreeFailed = codes "working copy failed"
words_of a_fault.ShelfFailed = codes ".hg failed"
words_of a_fault.InFailed = codes "input failed"
words_of a_fault.OutFailed = codes "output failed"
words_of a_fault.ErrFailed = []
words_of (a_fault.ScriptLine n) = at_script_line n (codes "too long")
words_of (a_fault.ScriptText n) = at_script_line n (codes "not text")
words_of (a_fault.ScriptNested n) = at_script_line n (codes "a script")
words_of (a_fault.ScriptTooLarge size) = codes "script of more than 67108864 bytes"

-- a fault has a line, but for the one where the error stream failed
abbrev pub has_line : Fault → Bool
has_line a_fault.ErrFailed = false
has_line fault = true

-- the whole line
abbrev pub line_of : Fault → List ℕ
line_of fault = if has_line fault then codes "abort: " ++ words_of fault ++ 10 ∷ [] else []
