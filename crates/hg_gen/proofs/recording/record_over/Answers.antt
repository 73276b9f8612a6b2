use Rattle.std.proofs.Common.{◌≡◌, ◌∙◌, ℕ, List, [], Some, refl, sym, ap, subst}
use Rattle.std.specs.Prelude.{codes}
use Rattle.hg_docket.specs.Docket.{Contents, empty_docket}
use Rattle.hg_docket.specs.Number.{next_name}
use Rattle.hg_image.specs.Reading.{reading_of}
use Rattle.hg_mixed.specs.Held.{table}
use Rattle.hg_append.specs.Encoded.{ReadsAs}
use Rattle.hg_append.proofs.Written.{file_anew}
use Rattle.hg_gen.proofs.Entering.{first_name, recorded}
use Rattle.hg_save.proofs.Encodings.{goes_over}
use Rattle.hg_gen.proofs.recording.record_over.Goals as goal

pub returns-in-Ok : goal.returns-in-Ok
returns-in-Ok c =
    let docket : c.fill.new.mixed.docket ≡ empty_docket =
    c.in_ok-fill.ensures.head.image.docket ∙ c.set_ids.ensures.image.docket ∙ c.open-mixed.ensures.docket ∙ c.requires.empty.docket in
    let first : Some (codes "0000000000000000") ≡ Some c.in-Ok.encoded.id = sym first_name ∙ sym (ap (λ (d : Contents). next_name d.id) docket) ∙ (c.in-Ok.ensures.written refl).next in
    let anew = file_anew c.fill.new.mixed c.in-Ok.encoded (c.in-Ok.ensures.written refl) in
    let reads = subst (λ (file : List ℕ). ReadsAs (table c.fill.new.mixed) (reading_of c.in-Ok.encoded.docket.items file)) anew c.in-Ok.ensures.reads in
    let id : c.in-Ok.encoded.id ≡ codes "0000000000000000" = cc (first) in
    record {
      table = reads.found;
      id = id;
      reads = reads.is;
      over = goes_over [] [] c.fill.new.mixed c.in-Ok.encoded c.in-Ok.encoded.bytes.items (ap (λ (d : Contents). d.id) docket) (c.in-Ok.ensures.written refl) reads;
      is = recorded c.args.dirs _ _ _ _ _ _ c.requires.empty.docket c.requires.empty.rows c.open-mixed.ensures.table c.set_ids.ensures.table c.in_ok-fill.ensures.head.p1
          c.in_ok-fill.ensures.head.p2 c.in_ok-fill.ensures.head.hash c.in_ok-fill.ensures.entries reads.same;
    }
