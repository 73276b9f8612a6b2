use Rattle.hg_store.proofs.Reading.{piece_absent, piece_read}
use Rattle.hg_store.proofs.comparing.read_piece.Goals as goal

pub returns-in-Absent-clause-found : goal.returns-in-Absent-clause-found
returns-in-Absent-clause-found g c = λ bytes still there.
    absurd (piece_absent _ _ c.args.name.now bytes c.args.place c.args.room.now _ c.read_at.ensures.passes still there (rw c.in-Absent.is at c.in_ok-read_at.ensures.found))

pub returns-in-Bytes-clause-found : goal.returns-in-Bytes-clause-found
returns-in-Bytes-clause-found g c = λ bytes still there.
    piece_read _ _ c.args.name.now bytes c.args.place c.args.room.now _ c.in-Bytes.n c.read_at.ensures.passes still there (rw c.in-Bytes.is at c.in_ok-read_at.ensures.found)
