-- What is left by a crash of a shelf in memory is one of its images.
use Rattle.std.proofs.Common.{ℕ, ◌≡◌, refl, ap, sym, ◌∙◌, subst, inl, inr, Bool, true, false, not, ◌&&◌, ◌||◌, cond, List, [], ◌∷◌, length, replicate, Option, Some, None}
use Rattle.std.specs.Prelude.{if◌then◌else◌, bytes_eq, is_some}
use Rattle.std.specs.Option.{option_map_or}
use Rattle.std.proofs.lemmas.Bool.{cond_both, cases_Bool, or_left, or_right, or_parts, and_from, not_from_false, both_ways}
use Rattle.std.proofs.lemmas.Slice.Eq.{bytes_eq-Decides}
use Rattle.hg_shelf.specs.Crash.{done_by, is_idle, effective, sure_before, is_sure_by, are_names_sure_by, filled, refilled, lost, kept, shown}
use Rattle.hg_shelf.specs.History.{Files}
use Rattle.hg_shelf.specs.Images.{Scene}
use Rattle.hg_shelf.specs.Memory.{with_file, surely, perhaps, renamed, written, synced, next, replayed}
use Rattle.hg_shelf.specs.Rules.{content, overwritten, moved, without}
use Rattle.hg_shelf.specs.declared.outside.Change.{Change}
use Rattle.hg_shelf.specs.declared.outside.Step.{Step}
use Rattle.hg_shelf.specs.declared.outside.Step.TheVariants as a_step
use Rattle.hg_shelf.specs.Torn.{same_name, torn_written}
use Rattle.hg_shelf.proofs.CrashTorn.{torn_away, torn_by, torn_filled}

-- an image has each file that is made sure later as it is shown
pub record Agreed (later : List ℕ → Bool) (shown image : Files) : Type 0 where
  pub each : (name : List ℕ) → later name ≡ true → image name ≡ shown name

-- the same of a step, test by test
abbrev tested : Step → (List ℕ → Bool) → List ℕ → Bool
tested (a_step.Placed name bytes) later file = not (bytes_eq name file) && later file
tested (a_step.Taken name) later file = not (bytes_eq name file) && later file
tested (a_step.Wrote name place bytes) later file = later file
tested (a_step.Synced name) later file = bytes_eq name file || later file
tested (a_step.Renamed from to) later file = if bytes_eq from file then later to else (not (bytes_eq to file) && later file)
tested a_step.SyncedNames later file = later file
tested (a_step.Removed name) later file = not (bytes_eq name file) && later file

sure_stays : (gone : Bool) (later : List ℕ → Bool) (file : List ℕ) → option_map_or later (if gone then None else Some file) false ≡ (not gone && later file)
sure_stays true later file = refl
sure_stays false later file = refl

sure_moved : (here gone : Bool) (later : List ℕ → Bool) (to file : List ℕ)
    → option_map_or later (if here then Some to else (if gone then None else Some file)) false ≡ (if here then later to else (not gone && later file))
sure_moved true gone later to file = refl
sure_moved false true later to file = refl
sure_moved false false later to file = refl

sure_tested : (step : Step) (later : List ℕ → Bool) (file : List ℕ) → sure_before step later file ≡ tested step later file
sure_tested (a_step.Placed name bytes) later file = sure_stays (bytes_eq name file) later file
sure_tested (a_step.Taken name) later file = sure_stays (bytes_eq name file) later file
sure_tested (a_step.Wrote name place bytes) later file = refl
sure_tested (a_step.Synced name) later file = refl
sure_tested (a_step.Renamed from to) later file = sure_moved (bytes_eq from file) (bytes_eq to file) later to file
sure_tested a_step.SyncedNames later file = refl
sure_tested (a_step.Removed name) later file = sure_stays (bytes_eq name file) later file

by_tests : (step : Step) (later : List ℕ → Bool) (shown image : Files) → Agreed (sure_before step later) shown image → Agreed (tested step later) shown image
by_tests step later shown image h = record { each = λ at is. h.each at (sure_tested step later at ∙ is) }

same_if : (test : Bool) (x y z : Option (List ℕ)) → (test ≡ false → x ≡ y) → cond test z x ≡ cond test z y
same_if true x y z apart = refl
same_if false x y z apart = apart refl

equal : (a b : List ℕ) → bytes_eq a b ≡ true → a ≡ b
equal a b same = (bytes_eq-Decides a b).0 same

-- of two files of one name the same is put, or both are taken away
agreed_put : (name : List ℕ) (file : Option (List ℕ)) (later : List ℕ → Bool) (shown image : Files)
    → Agreed (λ at. not (bytes_eq name at) && later at) shown image
    → Agreed later (λ at. if bytes_eq name at then file else shown at) (λ at. if bytes_eq name at then file else image at)
agreed_put name file later shown image h = record {
  each = λ at is. same_if (bytes_eq name at) (image at) (shown at) file (λ other. h.each at (and_from _ _ (not_from_false _ other) is));
}

-- a file that isn't sure later may become another
agreed_apart : (name : List ℕ) (file : Option (List ℕ)) (later : List ℕ → Bool) (shown image left : Files) → later name ≡ false
    → ((at : List ℕ) → bytes_eq name at ≡ false → left at ≡ image at)
    → Agreed (λ at. not (bytes_eq name at) && later at) shown image
    → Agreed later (λ at. if bytes_eq name at then file else shown at) left
agreed_apart name file later shown image left unsure rest h = record {
  each = λ at is. elim (cases_Bool (bytes_eq name at)) [
    | inl here ↦ absurd (both_ways _ unsure (ap later (equal name at here) ∙ is))
    | inr other ↦ rest at other ∙ h.each at (and_from _ _ (not_from_false _ other) is) ∙ sym (ap (λ (b : Bool). cond b file (shown at)) other)
  ];
}

weaker : (name : List ℕ) (later : List ℕ → Bool) (shown image : Files) → Agreed later shown image → Agreed (λ at. not (bytes_eq name at) && later at) shown image
weaker name later shown image h = record { each = λ at is. h.each at (and_second (not (bytes_eq name at)) (later at) is) }
  where
    and_second : (a b : Bool) → (a && b) ≡ true → b ≡ true
    and_second true b is = is
    and_second false b is = absurd (cc is)

agreed_written : (name : List ℕ) (place : ℕ) (bytes : List ℕ) (later : List ℕ → Bool) (shown image : Files) → later name ≡ true → Agreed later shown image
    → Agreed later (with_file name (overwritten (content (shown name)) place bytes) shown) (with_file name (overwritten (content (image name)) place bytes) image)
agreed_written name place bytes later shown image sure h =
    let P : Option (List ℕ) → Type 0 = λ o. Agreed later (with_file name (overwritten (content (shown name)) place bytes) shown) (with_file name (overwritten (content o) place bytes) image) in
    subst P (sym (h.each name sure)) (agreed_put name (Some (overwritten (content (shown name)) place bytes)) later shown image (weaker name later shown image h))

agreed_moved : (from to : List ℕ) (later : List ℕ → Bool) (shown image : Files) → Agreed (tested (a_step.Renamed from to) later) shown image
    → Agreed later (moved from to shown) (moved from to image)
agreed_moved from to later shown image h = record {
  each = λ at is. elim (cases_Bool (bytes_eq to at)) [
    | inl here ↦
        let sure : later to ≡ true = ap later (equal to at here) ∙ is in
        let same : image from ≡ shown from = h.each from (ap (λ (b : Bool). cond b (later to) (not (bytes_eq to from) && later from)) (same_name from) ∙ sure) in
        rw here same
    | inr other ↦ elim (cases_Bool (bytes_eq from at)) [
      | inl gone ↦ rw (other, gone) refl
      | inr stays ↦
          let same : image at ≡ shown at = h.each at (ap (λ (b : Bool). cond b (later to) (not (bytes_eq to at) && later at)) stays ∙ and_from _ _ (not_from_false _ other) is) in
          rw (other, stays) same
    ]
  ];
}

agreed_unmoved : (from to : List ℕ) (later : List ℕ → Bool) (shown image : Files) → later from ≡ false → later to ≡ false
    → Agreed (tested (a_step.Renamed from to) later) shown image → Agreed later (moved from to shown) image
agreed_unmoved from to later shown image unsure unsure_too h = record {
  each = λ at is. elim (cases_Bool (bytes_eq to at)) [
    | inl here ↦ absurd (both_ways _ unsure_too (ap later (equal to at here) ∙ is))
    | inr other ↦ elim (cases_Bool (bytes_eq from at)) [
      | inl gone ↦ absurd (both_ways _ unsure (ap later (equal from at gone) ∙ is))
      | inr stays ↦
          let same : image at ≡ shown at = h.each at (ap (λ (b : Bool). cond b (later to) (not (bytes_eq to at) && later at)) stays ∙ and_from _ _ (not_from_false _ other) is) in
          rw (other, stays) same
    ]
  ];
}

-- an image where what isn't made sure later is lost
pub record Held (s : Scene) (later : List ℕ → Bool) (names : Bool) (image : Files) : Type 0 where
  pub agreed : Agreed later s.files image
  pub left : s.leaves image
  pub named : names ≡ true → s.named image

none_from : (file : Option (List ℕ)) → is_some file ≡ false → file ≡ None
none_from None is = refl
none_from (Some bytes) is = absurd (cc is)

held_surely : (change : Files → Files) (s : Scene) (later : List ℕ → Bool) (names : Bool) (image : Files) → Agreed later (change s.files) (change image)
    → s.leaves image → (names ≡ true → s.named image) → Held (surely change s) later names (change image)
held_surely change s later names image agreed left named = record {
  agreed = agreed;
  left = (image, left, λ name. refl);
  named = λ is. (image, named is, λ name. refl);
}

held_written : (fill : ℕ) (name : List ℕ) (place : ℕ) (bytes : List ℕ) (s : Scene) (later : List ℕ → Bool) (names : Bool) (image : Files)
    → Held s later names image
    → Held (written name place bytes s) later names (if later name then done_by (a_step.Wrote name place bytes) image else refilled fill name place bytes image)
held_written fill name place bytes s later names image h =
    cond_both (later name) (done_by (a_step.Wrote name place bytes) image) (refilled fill name place bytes image)
    (λ left. Held (written name place bytes s) later names left)
    (λ sure. record {
      agreed = agreed_written name place bytes later s.files image sure h.agreed;
      left = (image, h.left, torn_written name place bytes image);
      named = λ is. (image, h.named is, torn_written name place bytes image);
    })
    (λ unsure. cond_both (is_some (image name)) (filled fill name place bytes image) image
    (λ left. Held (written name place bytes s) later names left)
    (λ there. record {
      agreed = agreed_apart name _ later s.files image (filled fill name place bytes image) unsure
          (λ at other. ap (λ (b : Bool). cond b (Some (overwritten (content (image name)) place (replicate (length bytes) fill))) (image at)) other)
          (weaker name later s.files image h.agreed);
      left = (image, h.left, torn_by name _ place (length bytes) image (torn_filled fill (content (image name)) place bytes));
      named = λ is. (image, h.named is, torn_by name _ place (length bytes) image (torn_filled fill (content (image name)) place bytes));
    })
    (λ absent. record {
      agreed = agreed_apart name _ later s.files image image unsure (λ at other. refl) (weaker name later s.files image h.agreed);
      left = (image, h.left, torn_away name place (length bytes) image (none_from (image name) absent));
      named = λ is. (image, h.named is, torn_away name place (length bytes) image (none_from (image name) absent));
    }))

held_synced : (name : List ℕ) (s : Scene) (later : List ℕ → Bool) (names : Bool) (image : Files) → Held s (λ at. bytes_eq name at || later at) names image
    → Held (synced name s) later names image
held_synced name s later names image h =
    let same : image name ≡ s.files name = h.agreed.each name (or_left (bytes_eq name name) (later name) (same_name name)) in
    record {
      agreed = record { each = λ at is. h.agreed.each at (or_right (bytes_eq name at) (later at) is) };
      left = (h.left, λ bytes is. same ∙ is);
      named = λ sure. (h.named sure, λ bytes is. same ∙ is);
    }

held_renamed : (from to : List ℕ) (s : Scene) (later : List ℕ → Bool) (names : Bool) (image : Files)
    → Held s (sure_before (a_step.Renamed from to) later) names image
    → Held (perhaps (moved from to) s) later names (if names || later from || later to then moved from to image else image)
held_renamed from to s later names image h =
    cond_both (names || later from || later to) (moved from to image) image (λ left. Held (perhaps (moved from to) s) later names left)
    (λ does. record {
      agreed = agreed_moved from to later s.files image (by_tests (a_step.Renamed from to) later s.files image h.agreed);
      left = (image, h.left, inr (λ name. refl));
      named = λ sure. (image, h.named sure, λ name. refl);
    })
    (λ doesnt.
    let apart = or_parts (names || later from) (later to) doesnt in
    let first = or_parts names (later from) apart.0 in
    record {
      agreed = agreed_unmoved from to later s.files image first.1 apart.1 (by_tests (a_step.Renamed from to) later s.files image h.agreed);
      left = (image, h.left, inl (λ name. refl));
      named = λ sure. absurd (both_ways _ first.0 sure);
    })

held_removed : (name : List ℕ) (s : Scene) (later : List ℕ → Bool) (names : Bool) (image : Files)
    → Held s (sure_before (a_step.Removed name) later) names image
    → Held (perhaps (without name) s) later names (if names || later name then without name image else image)
held_removed name s later names image h =
    cond_both (names || later name) (without name image) image (λ left. Held (perhaps (without name) s) later names left)
    (λ does. record {
      agreed = agreed_put name None later s.files image (by_tests (a_step.Removed name) later s.files image h.agreed);
      left = (image, h.left, inr (λ at. refl));
      named = λ sure. (image, h.named sure, λ at. refl);
    })
    (λ doesnt.
    let apart = or_parts names (later name) doesnt in
    record {
      agreed = agreed_apart name None later s.files image image apart.1 (λ at other. refl) (by_tests (a_step.Removed name) later s.files image h.agreed);
      left = (image, h.left, inl (λ at. refl));
      named = λ sure. absurd (both_ways _ apart.0 sure);
    })

-- the steps that do something, from one on
abbrev from_step : Step → List Change → Files → List Step
from_step step more files = if is_idle step files then effective more files else step ∷ effective more (done_by step files)

abbrev HeldBy : List Step → Scene → Files → Type 0
HeldBy steps s image = Held s (is_sure_by steps) (are_names_sure_by steps) image

lost_renamed : (fill : ℕ) (file : Option (List ℕ)) (from to : List ℕ) (more : List Change) (s : Scene) (image : Files)
    → ((after : Scene) (left : Files) → HeldBy (effective more after.files) after left → (replayed more after).leaves (lost fill (effective more after.files) left))
    → HeldBy (if not (is_some file) then effective more s.files else a_step.Renamed from to ∷ effective more (moved from to s.files)) s image
    → (replayed more (renamed file from to s)).leaves
    (lost fill (if not (is_some file) then effective more s.files else a_step.Renamed from to ∷ effective more (moved from to s.files)) image)
lost_renamed fill None from to more s image go h = go s image h
lost_renamed fill (Some bytes) from to more s image go h =
    go (perhaps (moved from to) s) _ (held_renamed from to s (is_sure_by (effective more (moved from to s.files))) (are_names_sure_by (effective more (moved from to s.files))) image h)

lost_synced : (fill : ℕ) (file : Option (List ℕ)) (name : List ℕ) (more : List Change) (s : Scene) (image : Files) → s.files name ≡ file
    → ((after : Scene) (left : Files) → HeldBy (effective more after.files) after left → (replayed more after).leaves (lost fill (effective more after.files) left))
    → HeldBy (if not (is_some file) then effective more s.files else a_step.Synced name ∷ effective more s.files) s image
    → (replayed more (synced name s)).leaves
    (lost fill (if not (is_some file) then effective more s.files else a_step.Synced name ∷ effective more s.files) image)
lost_synced fill None name more s image is go h = go (synced name s) image record {
  agreed = h.agreed;
  left = (h.left, λ bytes there. absurd (cc (is, there)));
  named = λ sure. (h.named sure, λ bytes there. absurd (cc (is, there)));
}
lost_synced fill (Some bytes) name more s image is go h =
    go (synced name s) image (held_synced name s (is_sure_by (effective more s.files)) (are_names_sure_by (effective more s.files)) image h)

lost_from : (fill : ℕ) (step : Step) (more : List Change) (s : Scene) (image : Files)
    → ((after : Scene) (left : Files) → HeldBy (effective more after.files) after left → (replayed more after).leaves (lost fill (effective more after.files) left))
    → HeldBy (from_step step more s.files) s image → (replayed more (next step s)).leaves (lost fill (from_step step more s.files) image)
lost_from fill (a_step.Placed name bytes) more s image go h =
    go _ _ (held_surely (with_file name bytes) s _ _ image (agreed_put name (Some bytes) _ s.files image (by_tests (a_step.Placed name bytes) _ s.files image h.agreed)) h.left h.named)
lost_from fill (a_step.Taken name) more s image go h =
    go _ _ (held_surely (without name) s _ _ image (agreed_put name None _ s.files image (by_tests (a_step.Taken name) _ s.files image h.agreed)) h.left h.named)
lost_from fill (a_step.Wrote name place bytes) more s image go h =
    let rest = effective more (done_by (a_step.Wrote name place bytes) s.files) in
    go _ _ (held_written fill name place bytes s (is_sure_by rest) (are_names_sure_by rest) image h)
lost_from fill (a_step.Synced name) more s image go h = lost_synced fill (s.files name) name more s image refl go h
lost_from fill (a_step.Renamed from to) more s image go h = lost_renamed fill (s.files from) from to more s image go h
lost_from fill a_step.SyncedNames more s image go h =
    go (next a_step.SyncedNames s) image record { agreed = h.agreed; left = h.named refl; named = λ sure. h.named refl }
lost_from fill (a_step.Removed name) more s image go h =
    let rest = effective more (without name s.files) in
    go _ _ (held_removed name s (is_sure_by rest) (are_names_sure_by rest) image h)

pub lost_leaves : (fill : ℕ) (changes : List Change) (s : Scene) (image : Files) → HeldBy (effective changes s.files) s image
    → (replayed changes s).leaves (lost fill (effective changes s.files) image)
lost_leaves fill [] s image h = h.left
lost_leaves fill (change ∷ more) s image h = lost_from fill change.what more s image (λ after left. lost_leaves fill more after left) h

-- an image where all names are kept
pub record Named (s : Scene) (later : List ℕ → Bool) (image : Files) : Type 0 where
  pub agreed : Agreed later s.files image
  pub named : s.named image

abbrev NamedBy : List Step → Scene → Files → Type 0
NamedBy steps s image = Named s (is_sure_by steps) image

named_written : (fill : ℕ) (name : List ℕ) (place : ℕ) (bytes : List ℕ) (s : Scene) (later : List ℕ → Bool) (image : Files) → Named s later image
    → Named (written name place bytes s) later (if later name then done_by (a_step.Wrote name place bytes) image else filled fill name place bytes image)
named_written fill name place bytes s later image h =
    cond_both (later name) (done_by (a_step.Wrote name place bytes) image) (filled fill name place bytes image)
    (λ left. Named (written name place bytes s) later left)
    (λ sure. record {
      agreed = agreed_written name place bytes later s.files image sure h.agreed;
      named = (image, h.named, torn_written name place bytes image);
    })
    (λ unsure. record {
      agreed = agreed_apart name _ later s.files image (filled fill name place bytes image) unsure
          (λ at other. ap (λ (b : Bool). cond b (Some (overwritten (content (image name)) place (replicate (length bytes) fill))) (image at)) other)
          (weaker name later s.files image h.agreed);
      named = (image, h.named, torn_by name _ place (length bytes) image (torn_filled fill (content (image name)) place bytes));
    })

named_synced : (name : List ℕ) (s : Scene) (later : List ℕ → Bool) (image : Files) → Named s (λ at. bytes_eq name at || later at) image
    → Named (synced name s) later image
named_synced name s later image h =
    let same : image name ≡ s.files name = h.agreed.each name (or_left (bytes_eq name name) (later name) (same_name name)) in
    record {
      agreed = record { each = λ at is. h.agreed.each at (or_right (bytes_eq name at) (later at) is) };
      named = (h.named, λ bytes is. same ∙ is);
    }

kept_renamed : (fill : ℕ) (file : Option (List ℕ)) (from to : List ℕ) (more : List Change) (s : Scene) (image : Files)
    → ((after : Scene) (left : Files) → NamedBy (effective more after.files) after left → (replayed more after).named (kept fill (effective more after.files) left))
    → NamedBy (if not (is_some file) then effective more s.files else a_step.Renamed from to ∷ effective more (moved from to s.files)) s image
    → (replayed more (renamed file from to s)).named
    (kept fill (if not (is_some file) then effective more s.files else a_step.Renamed from to ∷ effective more (moved from to s.files)) image)
kept_renamed fill None from to more s image go h = go s image h
kept_renamed fill (Some bytes) from to more s image go h = go (perhaps (moved from to) s) (moved from to image) record {
  agreed = agreed_moved from to (is_sure_by (effective more (moved from to s.files))) s.files image (by_tests (a_step.Renamed from to) _ s.files image h.agreed);
  named = (image, h.named, λ name. refl);
}

kept_synced : (fill : ℕ) (file : Option (List ℕ)) (name : List ℕ) (more : List Change) (s : Scene) (image : Files) → s.files name ≡ file
    → ((after : Scene) (left : Files) → NamedBy (effective more after.files) after left → (replayed more after).named (kept fill (effective more after.files) left))
    → NamedBy (if not (is_some file) then effective more s.files else a_step.Synced name ∷ effective more s.files) s image
    → (replayed more (synced name s)).named
    (kept fill (if not (is_some file) then effective more s.files else a_step.Synced name ∷ effective more s.files) image)
kept_synced fill None name more s image is go h = go (synced name s) image record {
  agreed = h.agreed;
  named = (h.named, λ bytes there. absurd (cc (is, there)));
}
kept_synced fill (Some bytes) name more s image is go h = go (synced name s) image (named_synced name s (is_sure_by (effective more s.files)) image h)

kept_from : (fill : ℕ) (step : Step) (more : List Change) (s : Scene) (image : Files)
    → ((after : Scene) (left : Files) → NamedBy (effective more after.files) after left → (replayed more after).named (kept fill (effective more after.files) left))
    → NamedBy (from_step step more s.files) s image → (replayed more (next step s)).named (kept fill (from_step step more s.files) image)
kept_from fill (a_step.Placed name bytes) more s image go h = go (next (a_step.Placed name bytes) s) (with_file name bytes image) record {
  agreed = agreed_put name (Some bytes) _ s.files image (by_tests (a_step.Placed name bytes) _ s.files image h.agreed);
  named = (image, h.named, λ at. refl);
}
kept_from fill (a_step.Taken name) more s image go h = go (next (a_step.Taken name) s) (without name image) record {
  agreed = agreed_put name None _ s.files image (by_tests (a_step.Taken name) _ s.files image h.agreed);
  named = (image, h.named, λ at. refl);
}
kept_from fill (a_step.Wrote name place bytes) more s image go h =
    go _ _ (named_written fill name place bytes s (is_sure_by (effective more (done_by (a_step.Wrote name place bytes) s.files))) image h)
kept_from fill (a_step.Synced name) more s image go h = kept_synced fill (s.files name) name more s image refl go h
kept_from fill (a_step.Renamed from to) more s image go h = kept_renamed fill (s.files from) from to more s image go h
kept_from fill a_step.SyncedNames more s image go h = go (next a_step.SyncedNames s) image record { agreed = h.agreed; named = h.named }
kept_from fill (a_step.Removed name) more s image go h = go (next (a_step.Removed name) s) (without name image) record {
  agreed = agreed_put name None _ s.files image (by_tests (a_step.Removed name) _ s.files image h.agreed);
  named = (image, h.named, λ at. refl);
}

pub kept_named : (fill : ℕ) (changes : List Change) (s : Scene) (image : Files) → NamedBy (effective changes s.files) s image
    → (replayed changes s).named (kept fill (effective changes s.files) image)
kept_named fill [] s image h = h.named
kept_named fill (change ∷ more) s image h = kept_from fill change.what more s image (λ after left. kept_named fill more after left) h

-- where all is kept, what is left is what reads show
shown_renamed : (file : Option (List ℕ)) (from to : List ℕ) (more : List Change) (s : Scene)
    → ((after : Scene) → shown (effective more after.files) after.files ≡ (replayed more after).files)
    → shown (if not (is_some file) then effective more s.files else a_step.Renamed from to ∷ effective more (moved from to s.files)) s.files
    ≡ (replayed more (renamed file from to s)).files
shown_renamed None from to more s go = go s
shown_renamed (Some bytes) from to more s go = go (perhaps (moved from to) s)

shown_synced : (file : Option (List ℕ)) (name : List ℕ) (more : List Change) (s : Scene)
    → ((after : Scene) → shown (effective more after.files) after.files ≡ (replayed more after).files)
    → shown (if not (is_some file) then effective more s.files else a_step.Synced name ∷ effective more s.files) s.files ≡ (replayed more (synced name s)).files
shown_synced None name more s go = go (synced name s)
shown_synced (Some bytes) name more s go = go (synced name s)

shown_from : (step : Step) (more : List Change) (s : Scene) → ((after : Scene) → shown (effective more after.files) after.files ≡ (replayed more after).files)
    → shown (from_step step more s.files) s.files ≡ (replayed more (next step s)).files
shown_from (a_step.Placed name bytes) more s go = go (next (a_step.Placed name bytes) s)
shown_from (a_step.Taken name) more s go = go (next (a_step.Taken name) s)
shown_from (a_step.Wrote name place bytes) more s go = go (written name place bytes s)
shown_from (a_step.Synced name) more s go = shown_synced (s.files name) name more s go
shown_from (a_step.Renamed from to) more s go = shown_renamed (s.files from) from to more s go
shown_from a_step.SyncedNames more s go = go (next a_step.SyncedNames s)
shown_from (a_step.Removed name) more s go = go (next (a_step.Removed name) s)

pub shown_is : (changes : List Change) (s : Scene) → shown (effective changes s.files) s.files ≡ (replayed changes s).files
shown_is [] s = refl
shown_is (change ∷ more) s = shown_from change.what more s (λ after. shown_is more after)
