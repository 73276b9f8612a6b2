-- What values of the program stand for.
use Rattle.std.specs.Prelude.{ℕ, List, Option, option_map}
use Rattle.hg_entry.specs.Table.{Marks}
use Rattle.hg_vone.specs.Items.{Item}
use Rattle.hg_vone.specs.declared.item.Item.{Item as OneItem}
use Rattle.hg_vone.specs.declared.item.Known.{Known}
use Rattle.hg_vone.specs.declared.item.Texts.{Texts}

abbrev pub marks : Known → Marks
marks k = record { w = k.w; p1 = k.p1; p2 = k.p2 }

abbrev pub item : OneItem → Item
item i = record { path = i.path.text.now; source = option_map (λ p. p.text.now) i.source; marks = marks i.marks }

abbrev pub texts : Texts → List ℕ × Option (List ℕ)
texts t = (t.path.text.now, option_map (λ p. p.text.now) t.source)
