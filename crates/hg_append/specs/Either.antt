-- What a table is encoded as, by either way.
use Rattle.std.specs.Prelude.{ℕ, ◌≡◌, List, ◌++◌, take}
use Rattle.hg_mixed.specs.Held.{Held}
use Rattle.hg_append.specs.Encoded.{HasCause}
use Rattle.hg_append.specs.declared.encoding.Encoded.{Encoded}
use Rattle.hg_append.specs.declared.fault.EncodeFault.{EncodeFault}
use Rattle.hg_append.specs.declared.way.Way.{Way}
use Rattle.hg_append.specs.declared.way.Way.TheVariants as a_way
use Rattle.hg_append.specs.Appending.{HasAppendCause}
use Rattle.hg_append.specs.Loss.{plan_of}

-- a table can always be written anew, and appended where that is best
abbrev pub CanEncode : Held → Way → Type 0
CanEncode held a_way.Rewrite = Unit {0}
CanEncode held a_way.Append = plan_of held ≡ a_way.Append

-- the data file once what was encoded is written to it: what was loaded, up to the place, and then the new bytes
abbrev pub file_of : Held → Encoded → List ℕ
file_of held e = take e.place held.bytes ++ e.bytes.items

-- why a table isn't encoded
abbrev pub HasCauseBy : Held → Way → EncodeFault → Type 0
HasCauseBy held a_way.Rewrite e = HasCause held e
HasCauseBy held a_way.Append e = HasAppendCause held e
