-- What storing a manifest answers, by what storing its text does.
use Rattle.std.proofs.Common.{◌≡◌, ◌≤◌, ℕ, List, length, Bool, false, ap, subst, Result, Ok, Err}
use Rattle.std.specs.Prelude.{IfOk, IfErr, OnOk, bytes_eq, replicate}
use Rattle.sha1.specs.Sha1.{sha1}
use Rattle.hg_base.specs.declared.id.Id20.{Id20}
use Rattle.hg_manifest.specs.Plain.{most, plain_name}
use Rattle.hg_shelf.specs.Images.{Course, last_scene}
use Rattle.hg_store.specs.Rows.{AnswersManifest, DecidesManifest, IsBefore}
use Rattle.hg_store.specs.Standing.{Decides, IsSettleFault, clashes}
use Rattle.hg_store.specs.Storing.{IsStored, Keeps, Leads}
use Rattle.hg_store.specs.declared.fault.StoreFault.{StoreFault}
use Rattle.hg_store.specs.declared.fault.StoreFault.TheVariants as a_fault

pub manifest_answers : (text : List ℕ) (r : Result Id20 StoreFault) → length text ≤ most → IfOk r (λ id. id.0 ≡ sha1 text) → OnOk r (bytes_eq (sha1 text) (replicate 20 0) ≡ false) → IfErr r (IsSettleFault (record { 0 = sha1 text })) → AnswersManifest text r
manifest_answers text (Ok id) few named known kind = (named, few, known)
manifest_answers text (Err a_fault.OutOfMemory) few named known kind = absurd kind
manifest_answers text (Err (a_fault.Gone path)) few named known kind = absurd kind
manifest_answers text (Err (a_fault.StoreClash id)) few named known kind = (ap (λ (i : Id20). i.0) kind, few)
manifest_answers text (Err (a_fault.ManifestTooLarge size)) few named known kind = absurd kind
manifest_answers text (Err a_fault.TreeFailed) few named known kind = absurd kind
manifest_answers text (Err a_fault.ShelfFailed) few named known kind = few

pub manifest_decides : (clash : Bool) (id : Id20) (r : Result Id20 StoreFault) → Decides clash id r → DecidesManifest clash r
manifest_decides clash id (Ok answer) is = is
manifest_decides clash id (Err a_fault.OutOfMemory) is = absurd is
manifest_decides clash id (Err (a_fault.Gone path)) is = absurd is
manifest_decides clash id (Err (a_fault.StoreClash named)) is = is.1
manifest_decides clash id (Err (a_fault.ManifestTooLarge size)) is = absurd is
manifest_decides clash id (Err a_fault.TreeFailed) is = absurd is
manifest_decides clash id (Err a_fault.ShelfFailed) is = tt

pub manifest_before : (X : Type 0) (id : Id20) (r : Result Id20 StoreFault) → IfErr r (IsSettleFault id) → IfErr r (λ fault. IsBefore fault → X)
manifest_before X id (Ok answer) kind = tt
manifest_before X id (Err a_fault.OutOfMemory) kind = absurd kind
manifest_before X id (Err (a_fault.Gone path)) kind = absurd kind
manifest_before X id (Err (a_fault.StoreClash named)) kind = λ before. absurd before
manifest_before X id (Err (a_fault.ManifestTooLarge size)) kind = absurd kind
manifest_before X id (Err a_fault.TreeFailed) kind = absurd kind
manifest_before X id (Err a_fault.ShelfFailed) kind = λ before. absurd before

pub manifest_leads : (found text : List ℕ) (a b : Course) → found ≡ text → Leads (Keeps ((last_scene a).files (plain_name (sha1 found))) (plain_name (sha1 found)) found) a b → Leads (Keeps ((last_scene a).files (plain_name (sha1 text))) (plain_name (sha1 text)) text) a b
manifest_leads found text a b is leads = subst (λ (t : List ℕ). Leads (Keeps ((last_scene a).files (plain_name (sha1 t))) (plain_name (sha1 t)) t) a b) is leads

pub manifest_stored : {T E : Type 0} (r : Result T E) (found text : List ℕ) (a b : Course) → found ≡ text → OnOk r (IsStored (plain_name (sha1 found)) found a b) → OnOk r (IsStored (plain_name (sha1 text)) text a b)
manifest_stored r found text a b is stored = subst (λ (t : List ℕ). OnOk r (IsStored (plain_name (sha1 t)) t a b)) is stored

pub manifest_clash : (r : Result Id20 StoreFault) (found text : List ℕ) (a : Course) → found ≡ text → DecidesManifest (clashes (sha1 found) ((last_scene a).files (plain_name (sha1 found))) found) r → DecidesManifest (clashes (sha1 text) ((last_scene a).files (plain_name (sha1 text))) text) r
manifest_clash r found text a is decides = subst (λ (t : List ℕ). DecidesManifest (clashes (sha1 t) ((last_scene a).files (plain_name (sha1 t))) t) r) is decides
