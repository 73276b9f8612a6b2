-- Each step meets the rule of the call that makes it.
use Rattle.std.proofs.Common.{◌≡◌, ℕ, List, refl, ap, Bool, Option, Some, None}
use Rattle.std.specs.Prelude.{if◌then◌else◌}
use Rattle.hg_shelf.specs.History.{Files}
use Rattle.hg_shelf.specs.Images.{Scene, Remains}
use Rattle.hg_shelf.specs.Memory.{next, renamed, with_file}
use Rattle.hg_shelf.specs.Rules.{Writes, Syncs, SyncsNames, Renames, Removes, Written, content, overwritten}
use Rattle.hg_shelf.specs.Sound.{LeavesNamed}
use Rattle.hg_shelf.specs.Torn.{other_name, same_name}
use Rattle.hg_shelf.specs.declared.outside.Step.TheVariants as a_step

written_shown : (name : List ℕ) (place : ℕ) (bytes : List ℕ) (files : Files) → Written name place bytes files (with_file name (overwritten (content (files name)) place bytes) files)
written_shown name place bytes files = record {
  elsewhere = λ at apart. ap (λ (t : Bool). if t then Some (overwritten (content (files name)) place bytes) else files at) (other_name name at apart);
  here = ap (λ (t : Bool). if t then Some (overwritten (content (files name)) place bytes) else files name) (same_name name);
}

pub meets_wrote : (name : List ℕ) (place : ℕ) (bytes : List ℕ) (s : Scene) → LeavesNamed s → Writes name place bytes s (next (a_step.Wrote name place bytes) s)
meets_wrote name place bytes s sound = record { shown = written_shown name place bytes s.files; left = λ c there. there; done = λ c there. there }

pub meets_synced : (name : List ℕ) (s : Scene) → LeavesNamed s → Syncs name s (next (a_step.Synced name) s)
meets_synced name s sound = record {
  same = record { shown = refl; left = λ c there. there.0; done = λ c there. there.0 };
  sure = λ bytes c is there. there.1 bytes is;
}

pub meets_synced_names : (s : Scene) → LeavesNamed s → SyncsNames s (next a_step.SyncedNames s)
meets_synced_names s sound = record {
  same = record { shown = refl; left = sound; done = λ c there. there };
  sure = λ c there. there;
}

remains_same : (s : Scene) → Remains s s
remains_same s = record { shown = refl; left = λ c there. there; done = λ c there. there }

renames : (file : Option (List ℕ)) (from to : List ℕ) (s : Scene) → s.files from ≡ file → Renames from to s (renamed file from to s)
renames None from to s is = record { there = λ some. absurd (cc (is, some)); absent = λ none. remains_same s }
renames (Some bytes) from to s is = record {
  there = λ some. record { shown = λ at. refl; left = λ c there. there; done = λ c there. there };
  absent = λ none. absurd (cc (is, none));
}

pub meets_renamed : (from to : List ℕ) (s : Scene) → LeavesNamed s → Renames from to s (next (a_step.Renamed from to) s)
meets_renamed from to s sound = renames (s.files from) from to s refl

pub meets_removed : (name : List ℕ) (s : Scene) → LeavesNamed s → Removes name s (next (a_step.Removed name) s)
meets_removed name s sound = record { shown = λ at. refl; left = λ c there. there; done = λ c there. there }
