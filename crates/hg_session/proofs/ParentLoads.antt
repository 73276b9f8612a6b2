-- New parents, from the loads of their manifests.
use Rattle.std.proofs.Common.{ℕ, suc, ◌≡◌, Bool, true, false, List, [], ◌∷◌, ◌++◌, take, Result, Ok, Err, refl, ap, ◌∙◌, inl, inr, arith}
use Rattle.std.specs.Prelude.{MatchBool}
use Rattle.std.proofs.lemmas.List.{append_assoc}
use Rattle.hg_base.specs.Fault.{HasCause}
use Rattle.hg_base.specs.declared.id.Id20.{Id20}
use Rattle.hg_manifest.specs.Load.{AsksByFile, asks_of, file_at}
use Rattle.hg_manifest.specs.Plain.{plain_name}
use Rattle.hg_manifest.specs.Rows.{Rows}
use Rattle.hg_manifest.specs.declared.fault.ManifestFault.{ManifestFault}
use Rattle.hg_manifest.specs.declared.fault.ManifestFault.TheVariants as a_manifest
use Rattle.hg_manifest.proofs.Loads.{was_now}
use Rattle.hg_ops.specs.Cause.{of_manifest}
use Rattle.hg_ops.specs.declared.refusal.OpFault.TheVariants as an_op
use Rattle.hg_ops.proofs.ReadParent.{was_later, was_longer}
use Rattle.hg_session.specs.Call.{Watched}
use Rattle.hg_session.specs.Manifests.{AsksManifests, LoadsRows, StopsParents}
use Rattle.hg_shelf.specs.Asks.{AsksFrontOf}
use Rattle.hg_shelf.specs.History.{History, Passes}
use Rattle.hg_shelf.specs.declared.asked.Asked.{Asked}
use Rattle.hg_shelf.proofs.Asks.{front_longer, order_front}

pub by_test : (A B : Type 0) (b : Bool) → (b ≡ true → A) → (b ≡ false → B) → MatchBool b A B
by_test A B true first second = first refl
by_test A B false first second = second refl

-- ---- faults

module _ (p1 p2 : Id20) (files : Watched History) where
  pub stops_first : (fault : ManifestFault) → LoadsRows files p1 (Err fault) → StopsParents p1 p2 files (of_manifest fault)
  stops_first a_manifest.OutOfMemory loads = tt
  stops_first a_manifest.Failed loads = tt
  stops_first (a_manifest.NoManifest id) loads = inl (record { met = a_manifest.NoManifest id; is = refl; loads = loads })
  stops_first (a_manifest.ManifestTooLarge size) loads = inl (record { met = a_manifest.ManifestTooLarge size; is = refl; loads = loads })
  stops_first (a_manifest.ManifestLine line) loads = inl (record { met = a_manifest.ManifestLine line; is = refl; loads = loads })
  stops_first (a_manifest.ManifestOrder line) loads = inl (record { met = a_manifest.ManifestOrder line; is = refl; loads = loads })

  pub stops_second : (m1 : Rows) → LoadsRows files p1 (Ok m1) → (fault : ManifestFault) → LoadsRows files p2 (Err fault) → StopsParents p1 p2 files (of_manifest fault)
  stops_second m1 first a_manifest.OutOfMemory loads = tt
  stops_second m1 first a_manifest.Failed loads = tt
  stops_second m1 first (a_manifest.NoManifest id) loads = inr (m1, first, record { met = a_manifest.NoManifest id; is = refl; loads = loads })
  stops_second m1 first (a_manifest.ManifestTooLarge size) loads = inr (m1, first, record { met = a_manifest.ManifestTooLarge size; is = refl; loads = loads })
  stops_second m1 first (a_manifest.ManifestLine line) loads = inr (m1, first, record { met = a_manifest.ManifestLine line; is = refl; loads = loads })
  stops_second m1 first (a_manifest.ManifestOrder line) loads = inr (m1, first, record { met = a_manifest.ManifestOrder line; is = refl; loads = loads })

-- a shelf that failed is told as such, and a working copy never
failed_back : (fault : ManifestFault) → of_manifest fault ≡ an_op.ShelfFailed → fault ≡ a_manifest.Failed
failed_back a_manifest.OutOfMemory is = absurd (cc is)
failed_back a_manifest.Failed is = refl
failed_back (a_manifest.NoManifest id) is = absurd (cc is)
failed_back (a_manifest.ManifestTooLarge size) is = absurd (cc is)
failed_back (a_manifest.ManifestLine line) is = absurd (cc is)
failed_back (a_manifest.ManifestOrder line) is = absurd (cc is)

pub not_tree : (fault : ManifestFault) → of_manifest fault ≡ an_op.TreeFailed → ⊥
not_tree a_manifest.OutOfMemory is = cc is
not_tree a_manifest.Failed is = cc is
not_tree (a_manifest.NoManifest id) is = cc is
not_tree (a_manifest.ManifestTooLarge size) is = cc is
not_tree (a_manifest.ManifestLine line) is = cc is
not_tree (a_manifest.ManifestOrder line) is = cc is

pub cause_as : {T U : Type 0} (first before now : ℕ) (fault : ManifestFault) → before ≡ first → HasCause {T = T} before now (Err fault) (λ e. e ≡ a_manifest.Failed)
    → HasCause {T = U} first now (Err (of_manifest fault)) (λ e. e ≡ an_op.ShelfFailed)
cause_as first before now fault same cause = record {
  later = omega (arith, same, cause.later);
  quiet = tt;
  rose = λ is. let rose = cause.rose (failed_back fault is) in omega (arith, same, rose);
}

-- ---- asks

-- all of some, and then the first so many of others, are the first so many of both
front_both : (some more : List Asked) (n : ℕ) → (m : ℕ) × (some ++ take n more ≡ take m (some ++ more))
front_both [] more n = (n, refl)
front_both (ask ∷ some) more n = let rest = front_both some more n in (suc rest.0, ap (λ (l : List Asked). ask ∷ l) rest.1)

front_behind : (some more : List Asked) (a b c : History) → b.asked ≡ a.asked ++ some → AsksFrontOf more b c → AsksFrontOf (some ++ more) a c
front_behind some more a b c first rest =
    let both = front_both some more rest.some in
    record {
      some = both.0;
      made =
          rest.made ∙ ap (λ (l : List Asked). l ++ take rest.some more) first ∙ append_assoc a.asked some (take rest.some more)
          ∙ ap (λ (l : List Asked). a.asked ++ l) both.1;
    }

abbrev AsksRows : Id20 → History → History → Result Rows ManifestFault → Type 0
AsksRows id old new result = AsksByFile (plain_name id.0) (asks_of id) old new result

-- the first alone
pub asks_first : (p1 p2 : Id20) (old new : History) (fault : ManifestFault) → Passes old new → AsksRows p1 old new (Err fault) → AsksManifests p1 p2 old new
asks_first p1 p2 old new fault passes by = record {
  first = by.file;
  second = file_at new (plain_name p2.0) new.last;
  first_was = by.was;
  second_was = was_now old new (plain_name p2.0) passes;
  asks = front_longer (asks_of p1 by.file) (asks_of p2 (file_at new (plain_name p2.0) new.last)) old new by.asks;
}

-- the second too
pub asks_second : (p1 p2 : Id20) (old mid new : History) (m1 : Rows) (result : Result Rows ManifestFault) → Passes old mid → Passes mid new → AsksRows p1 old mid (Ok m1) → AsksRows p2 mid new result → AsksManifests p1 p2 old new
asks_second p1 p2 old mid new m1 result passes later by also = record {
  first = by.file;
  second = also.file;
  first_was = was_longer old mid new (plain_name p1.0) (λ f. f ≡ by.file) passes later by.was;
  second_was = was_later old mid new (plain_name p2.0) (λ f. f ≡ also.file) passes also.was;
  asks = front_behind (asks_of p1 by.file) (asks_of p2 also.file) old mid new by.asks (order_front (asks_of p2 also.file) mid new result also.asks);
}
