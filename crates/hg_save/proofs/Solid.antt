-- Where what files record is sound, they have the data that the docket names.
use Rattle.std.proofs.Common.{◌≡◌, ◌==◌, ℕ, List, [], sym, ap, ◌∙◌, Some, option_map, refl}
use Rattle.hg_docket.specs.Docket.{docket_of}
use Rattle.hg_docket.proofs.Branches.{chosen, not_zero}
use Rattle.hg_image.specs.Reading.{reading_of}
use Rattle.hg_save.proofs.Long.{front_sound}
use Rattle.hg_save.specs.Others.{HasData, UsesData, named_file, nodes_in}
use Rattle.hg_save.specs.Record.{IsReadable, data_name, shown_in, named_reading, needed_in, reading}
use Rattle.hg_save.specs.Saved.{IsLatest}
use Rattle.hg_save.specs.Behind.{IsSolid}
use Rattle.hg_shelf.specs.History.{Files}
use Rattle.hg_shelf.specs.Images.{Scene}

-- the reading of a docket that uses data is that of its data file
pub named_is : (bytes : List ℕ) (f : Files) → UsesData bytes → named_reading bytes f ≡ option_map (reading_of bytes) (named_file bytes f)
named_is bytes f uses =
    ap (λ r. option_map (reading_of bytes) (needed_in r (docket_of bytes) f)) uses.sound
    ∙ ap (option_map (reading_of bytes))
    (chosen ((docket_of bytes).used == 0) (Some []) (f (data_name (docket_of bytes).id)) (f (data_name (docket_of bytes).id)) (not_zero (docket_of bytes).used uses.uses) refl)

-- so the data is there where what files record is sound
pub sound_data : (c : Files) → IsReadable (reading c) → HasData c
sound_data c (t, is) = λ uses. front_sound (shown_in c) (nodes_in c) t uses (sym (named_is (shown_in c) c uses) ∙ is)

pub sound_solid : (s : Scene) → ((c : Files) → s.leaves c → IsReadable (reading c)) → IsLatest s → IsSolid s
sound_solid s sound latest = record { used = latest.used; front = λ c left same. sound_data c (sound c left) }
