-- A table over an image without fault stands on it in each longer file.
use Rattle.std.proofs.Common.{ℕ, List, ◌++◌}
use Rattle.hg_mixed.specs.Held.{Held}
use Rattle.hg_append.specs.Appended.{IsOverImage}
use Rattle.hg_append.proofs.Rows.{IsOnImage}
use Rattle.hg_append.proofs.LentIn.{few_lent, image_path, image_rooted, kept_lent, lent_own, lent_rows, source_long, source_start, text_long, text_room}

pub on_image : (held : Held) (more : List ℕ) → IsOverImage held → IsOnImage held (held.bytes ++ more) (lent_rows held)
on_image held more over = record {
  formed = over.formed;
  used = over.used;
  sound = over.sound;
  counted = over.counted;
  whole = over.whole;
  places = over.places;
  image = record {
    paths = image_path held over;
    rooted = image_rooted held over;
    long = text_long held over;
    room = text_room held over;
    source = source_long held over;
    start = source_start held over;
  };
  kept = kept_lent held over more;
  rows = λ path list good h. lent_own held over path list h;
  few = few_lent held over.counted over.formed;
}
