use Rattle.hg_docket.specs.Docket as docket
use Rattle.hg_image.specs.Reading as reading
use Rattle.hg_nodes.specs.Edits.{after_hash}
use Rattle.hg_mixed.specs.Lent.{covers}
use Rattle.hg_mixed.specs.Own.{memory_table}
use Rattle.hg_mixed.specs.Parted.{image_rows}
use Rattle.hg_mixed.proofs.Lifted.{edit_of, hash_left, hash_merged, marks_merged, marks_of}
use Rattle.hg_mixed.proofs.mixed.Mixed.set_hash.Goals as goal

pub returns-clause-table : goal.returns-clause-table
returns-clause-table c =
    edit_of _ _ c.self.view_is (after_hash c.args.hash) _
    (hash_merged (covers c.self.inside.left) (reading.table_of (docket.view c.self.inside.image.docket) (image_rows c.self.inside.image)) (memory_table c.self.inside.memory) (memory_table c.set_hash.new.self)
    c.args.hash c.set_hash.ensures.table)

pub returns-clause-changed : goal.returns-clause-changed
returns-clause-changed c =
    marks_of _ _ c.self.view_is _ c.set_hash.new.self.changed
    (marks_merged (covers c.self.inside.left) (reading.table_of (docket.view c.self.inside.image.docket) (image_rows c.self.inside.image)) (memory_table c.self.inside.memory) (memory_table c.set_hash.new.self)
    (hash_left (covers c.self.inside.left) (reading.table_of (docket.view c.self.inside.image.docket) (image_rows c.self.inside.image)) (memory_table c.self.inside.memory) (memory_table c.set_hash.new.self)
    c.args.hash c.set_hash.ensures.table) c.self.inside.memory.changed c.set_hash.new.self.changed c.set_hash.ensures.changed)
