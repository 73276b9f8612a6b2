-- Texts that are no paths.
use Rattle.std.proofs.Common.{◌≡◌, ℕ, Bool, true, false, List, Some, None, Err, refl}
use Rattle.hg_base.specs.PathText.{is_path, joined, parent_of}
use Rattle.hg_base.specs.PathRefusal.{refusal, Makes}
use Rattle.hg_base.specs.declared.path.PathFault.{PathFault}
use Rattle.hg_base.specs.declared.path.PathFault.TheVariants as a_fault
use Rattle.hg_base.proofs.Paths.{path_not_refused}
use Rattle.hg_include.specs.Name.{subincluded}

pub no_path : (text : List ℕ) (f : PathFault) → refusal text ≡ Some f → is_path text ≡ false
no_path text f e = by_path (is_path text) refl
  where
    by_path : (is : Bool) → is_path text ≡ is → is_path text ≡ false
    by_path false is = is
    by_path true is = absurd (cc (path_not_refused text is))

pub no_path_made : (text : List ℕ) (f : PathFault) → (f ≡ a_fault.OutOfMemory → ⊥) → Makes text (Err f) → is_path text ≡ false
no_path_made text a_fault.OutOfMemory other made = absurd (other refl)
no_path_made text a_fault.Empty other made = no_path text a_fault.Empty made
no_path_made text (a_fault.TooLong len) other made = no_path text (a_fault.TooLong len) made
no_path_made text (a_fault.Component at) other made = no_path text (a_fault.Component at) made
no_path_made text a_fault.Reserved other made = no_path text a_fault.Reserved made
no_path_made text (a_fault.TooDeep n) other made = no_path text (a_fault.TooDeep n) made

pub no_target : (file name : List ℕ) → is_path (joined (parent_of file) name) ≡ false → subincluded file name ≡ None
no_target file name none = by_name (is_path name) refl
  where
    by_name : (is : Bool) → is_path name ≡ is → subincluded file name ≡ None
    by_name true is = rw (is, none)
    by_name false is = rw is
