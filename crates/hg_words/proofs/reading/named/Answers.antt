use Rattle.std.proofs.Common.{refl}
use Rattle.hg_words.proofs.Telling.{gives_same, other_name}
use Rattle.hg_words.proofs.reading.named.Goals as goal

pub returns-in_default : goal.returns-in_default
returns-in_default c =
    let other = c.in_default in
    gives_same _ _ (rw (
      other_name _ _ other.not-status,
      other_name _ _ other.not-add,
      other_name _ _ other.not-forget,
      other_name _ _ other.not-remove,
      other_name _ _ other.not-copy,
      other_name _ _ other.not-debugsetparents,
      other_name _ _ other.not-debugdirstate,
      other_name _ _ other.not-debugscript,
      other_name _ _ other.not-debugload,
    ) refl)
