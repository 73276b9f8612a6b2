use Rattle.std.proofs.Common.{◌≡◌, ◌++◌, ◌∙◌, arith, take}
use Rattle.std.specs.Int.{w16, w32, to_be_bytes}
use Rattle.std.proofs.lemmas.Grind.{common_steps}
use Rattle.hg_node.proofs.Laws.{facts_grouped}
use Rattle.hg_node.proofs.record.Rec.put_facts.Goals as goal

pub returns-clause-front : goal.returns-clause-front
returns-clause-front c =
    let front = take c.args.at c.args.bytes.now in
    let rec = c.args.self.now in
    let chain : take c.put.result c.put.new.bytes ≡ front ++ to_be_bytes w32 rec.entries_below ++ to_be_bytes w32 rec.tracked_below ++ to_be_bytes w16 rec.flags ++ to_be_bytes w32 rec.size ++ to_be_bytes w32 rec.seconds ++ to_be_bytes w32 rec.nanos = grind (arith, common_steps) in
    chain ∙ facts_grouped front (to_be_bytes w32 rec.entries_below) (to_be_bytes w32 rec.tracked_below) (to_be_bytes w16 rec.flags) (to_be_bytes w32 rec.size) (to_be_bytes w32 rec.seconds) (to_be_bytes w32 rec.nanos)
