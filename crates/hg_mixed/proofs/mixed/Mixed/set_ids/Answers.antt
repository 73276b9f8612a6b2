use Rattle.hg_docket.specs.Docket as docket
use Rattle.hg_image.specs.Reading as reading
use Rattle.hg_nodes.specs.Edits.{after_ids}
use Rattle.hg_mixed.specs.Lent.{covers}
use Rattle.hg_mixed.specs.Own.{memory_table}
use Rattle.hg_mixed.specs.Parted.{image_rows}
use Rattle.hg_mixed.proofs.Lifted.{edit_of, ids_left, ids_merged, marks_merged, marks_of}
use Rattle.hg_mixed.proofs.mixed.Mixed.set_ids.Goals as goal

pub returns-clause-table : goal.returns-clause-table
returns-clause-table c =
    edit_of _ _ c.self.view_is (after_ids c.args.p1.0 c.args.p2.0) _
    (ids_merged (covers c.self.inside.left) (reading.table_of (docket.view c.self.inside.image.docket) (image_rows c.self.inside.image)) (memory_table c.self.inside.memory) (memory_table c.set_ids.new.self)
    c.args.p1.0 c.args.p2.0 c.set_ids.ensures.table)

pub returns-clause-changed : goal.returns-clause-changed
returns-clause-changed c =
    marks_of _ _ c.self.view_is _ c.set_ids.new.self.changed
    (marks_merged (covers c.self.inside.left) (reading.table_of (docket.view c.self.inside.image.docket) (image_rows c.self.inside.image)) (memory_table c.self.inside.memory) (memory_table c.set_ids.new.self)
    (ids_left (covers c.self.inside.left) (reading.table_of (docket.view c.self.inside.image.docket) (image_rows c.self.inside.image)) (memory_table c.self.inside.memory) (memory_table c.set_ids.new.self)
    c.args.p1.0 c.args.p2.0 c.set_ids.ensures.table) c.self.inside.memory.changed c.set_ids.new.self.changed c.set_ids.ensures.changed)
