-- The nodes that were loaded stand at the front of the data file, where the docket stands as it was loaded.
use Rattle.std.proofs.Common.{◌≡◌, ℕ, ◌≤◌, List, length, take, sym, ap, ◌∙◌, subst, arith, Option, Some, None}
use Rattle.std.proofs.lemmas.List.{length-take}
use Rattle.hg_docket.specs.Docket.{docket_of}
use Rattle.hg_shelf.specs.History.{Extends, Files, History}
use Rattle.hg_save.specs.Loads.{files_at}
use Rattle.hg_save.specs.Others.{HasFront, IsFrontOf, KeepData, KeepsFront, UsesData, WasLoaded, named_file}
use Rattle.hg_save.specs.Record.{shown_in}
use Rattle.hg_save.specs.declared.loaded.Loaded.{Loaded}
use Rattle.hg_save.proofs.Readings.{file_in}

front_stays : (used : ℕ) (nodes : List ℕ) (old now : Option (List ℕ)) → KeepsFront used old now → HasFront used now → IsFrontOf old used nodes → IsFrontOf now used nodes
front_stays used nodes old None keeps has front = absurd has
front_stays used nodes None (Some now) keeps has front = absurd keeps
front_stays used nodes (Some old) (Some now) keeps has front = front ∙ sym keeps.2

front_long : (used : ℕ) (nodes : List ℕ) (file : Option (List ℕ)) → HasFront used file → IsFrontOf file used nodes → length nodes ≡ used
front_long used nodes None has front = absurd has
front_long used nodes (Some bytes) has front =
    let len = length-take used bytes in
    let all : length nodes ≡ length (take used bytes) = ap length front in
    omega (arith, len, all, has)

module _ (old new h : History) (loaded : Loaded) (past : Extends new h) (keep : KeepData h old.last) (uses : UsesData loaded.shown.items) (was : WasLoaded old new loaded) where
  -- the files as they were loaded
  first_files : files_at h was.at ≡ files_at new was.at
  first_files = (past.stay was.at was.during.to).shown

  first_docket : shown_in (files_at h was.at) ≡ loaded.shown.items
  first_docket = ap shown_in first_files ∙ was.docket

  first_front : IsFrontOf (named_file loaded.shown.items (files_at h was.at)) (docket_of loaded.shown.items).used loaded.nodes.items
  first_front =
      subst (λ (f : Files). IsFrontOf (named_file loaded.shown.items f) (docket_of loaded.shown.items).used loaded.nodes.items) (sym first_files)
      (subst (λ (file : Option (List ℕ)). IsFrontOf file (docket_of loaded.shown.items).used loaded.nodes.items) (file_in (docket_of loaded.shown.items) (files_at new was.at) uses.uses) was.nodes)

  there_at : (k : ℕ) → old.last ≤ k → k ≤ h.last → shown_in (files_at h k) ≡ loaded.shown.items → HasFront (docket_of loaded.shown.items).used (named_file loaded.shown.items (files_at h k))
  there_at k after within stands =
      subst (λ (bytes : List ℕ). UsesData bytes → HasFront (docket_of bytes).used (named_file bytes (files_at h k))) stands (keep.there k after within) uses

  pub nodes_at : (k : ℕ) → new.last ≤ k → k ≤ h.last → shown_in (files_at h k) ≡ loaded.shown.items → IsFrontOf (named_file loaded.shown.items (files_at h k)) (docket_of loaded.shown.items).used loaded.nodes.items
  nodes_at k after within stands =
      let kept : KeepsFront (docket_of loaded.shown.items).used (named_file loaded.shown.items (files_at h was.at)) (named_file loaded.shown.items (files_at h k)) =
      subst (λ (bytes : List ℕ). UsesData bytes → KeepsFront (docket_of bytes).used (named_file bytes (files_at h was.at)) (named_file bytes (files_at h k))) first_docket
      (keep.kept was.at k was.during.from (omega (arith, was.during.to, after)) within) uses in
      front_stays (docket_of loaded.shown.items).used loaded.nodes.items (named_file loaded.shown.items (files_at h was.at)) (named_file loaded.shown.items (files_at h k)) kept
      (there_at k (omega (arith, was.during.from, was.during.to, after)) within stands) first_front

  pub long_at : length loaded.nodes.items ≡ (docket_of loaded.shown.items).used
  long_at =
      front_long (docket_of loaded.shown.items).used loaded.nodes.items (named_file loaded.shown.items (files_at h was.at))
      (there_at was.at was.during.from (omega (arith, was.during.to, past.later)) first_docket) first_front
