use Rattle.std.proofs.Common.{◌≡◌, ◌+◌, arith, rules, IsTrue, length, take, drop, ◌∙◌}
use Rattle.hg_tree.specs.History.{now}
use Rattle.hg_tree.specs.Moment.{bytes_at}
use Rattle.hg_include.proofs.Looks.{few_read, front_kept, note_sure, over_read}
use Rattle.hg_include.proofs.look.read_file.Goals as goal

pub returns-then-n-most-clause-gives : goal.returns-then-n-most-clause-gives
returns-then-n-most-clause-gives g c =
    let old = g.T.Tree.history c.args.tree.now in
    let new = g.T.Tree.history c.read.new.self in
    let room : length c.as_mut_slice.result.now ≡ c.args.most + 1 = search rules in
    let within = rw c.in-Ok-Bytes.field-0-is at c.in-Ok-Bytes.ensures.fit in
    let read = λ (told : IsTrue old.told). rw c.in-Ok-Bytes.field-0-is at (c.in-Ok-Bytes.ensures.found told) in
    let r = over_read old.told c.args.most c.in-Ok-Bytes.n (bytes_at (now new) c.args.path.text.now) c.as_mut_slice.result.now c.read.new.buf room c.if-n-most.true within read in
    record { bytes = r.0; gives = r.1; found = r.2; asked = λ told. note_sure c.args.path.text.now old new (c.in-Ok-Bytes.ensures.asked told) }

pub returns-clause-gives : goal.returns-clause-gives
returns-clause-gives g c =
    let old = g.T.Tree.history c.args.tree.now in
    let new = g.T.Tree.history c.read.new.self in
    let room : length c.as_mut_slice.result.now ≡ c.args.most + 1 = search rules in
    let read = λ (told : IsTrue old.told). rw c.in-Ok-Bytes.field-0-is at (c.in-Ok-Bytes.ensures.found told) in
    let kept : c.as_slice.result.now ≡ take c.in-Ok-Bytes.n c.read.new.buf = c.as_slice.ensures.value ∙ c.truncate.ensures.items ∙ front_kept c.in-Ok-Bytes.n c.in_ok-bytes.bytes.len c.read.new.buf (drop (length c.read.new.buf) c.in_ok-bytes.bytes.items) (omega arith) in
    let r = few_read old.told c.args.most c.in-Ok-Bytes.n (bytes_at (now new) c.args.path.text.now) c.as_mut_slice.result.now c.read.new.buf c.as_slice.result.now c.in_ok-given-in-Ok-Bytes.given room c.if-n-most.false read kept c.in_ok-given-in-Ok-Bytes.ensures in
    record { bytes = r.0; gives = r.1; found = r.2; asked = λ told. note_sure c.args.path.text.now old new (c.in-Ok-Bytes.ensures.asked told) }
