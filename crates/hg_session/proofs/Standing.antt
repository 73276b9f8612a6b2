-- A record that was loaded stands at each later moment that has its docket, where others keep the data that dockets name.
use Rattle.std.proofs.Common.{ℕ, ◌≡◌, ◌<◌, ◌≤◌, ◌==◌, ◌⊎◌, cond, List, [], ◌∷◌, Option, Some, None, option_map, Result, Ok, refl, sym, ap, ◌∙◌, subst, inl, inr, arith}
use Rattle.std.proofs.lemmas.Bool.{cases_eq}
use Rattle.hg_docket.specs.Docket.{Contents, docket_of, docket_refusal}
use Rattle.hg_docket.proofs.Branches.{chosen, not_zero}
use Rattle.hg_entry.specs.Table.{Table}
use Rattle.hg_image.specs.Reading.{data_reading, of_data}
use Rattle.hg_image.specs.declared.fault.NodeFault.{NodeFault}
use Rattle.hg_save.proofs.Loads.{named_sound}
use Rattle.hg_save.proofs.Others.{one_load}
use Rattle.hg_save.proofs.Tails.{front_same}
use Rattle.hg_save.specs.Loads.{Loads, Try, files_at}
use Rattle.hg_save.specs.Others.{HasFront, IsFrontOf, KeepData, KeepsFront, UsesData, named_file, nodes_in}
use Rattle.hg_save.specs.Record.{data_in, data_name, shown_in, named_reading, reading}
use Rattle.hg_save.specs.declared.loaded.Loaded.{Loaded}
use Rattle.hg_shelf.specs.History.{Extends, Files, History}

-- what is kept over a longer history is kept over its front
pub keep_earlier : (c d : History) (start : ℕ) → Extends c d → KeepData d start → KeepData c start
keep_earlier c d start past keep = record {
  told = sym past.told ∙ keep.told;
  there = λ k from to uses.
      let same = (past.stay k to).shown in
      subst (λ (f : Files). HasFront (docket_of (shown_in f)).used (nodes_in f)) same
      (keep.there k from (omega (arith, to, past.later)) (subst (λ (f : Files). UsesData (shown_in f)) (sym same) uses));
  kept = λ k m from order to uses.
      let same = (past.stay k (omega (arith, order, to))).shown in
      let later = (past.stay m to).shown in
      subst (λ (f : Files). KeepsFront (docket_of (shown_in f)).used (nodes_in f) (named_file (shown_in f) (files_at c m))) same
      (subst (λ (f : Files). KeepsFront (docket_of (shown_in (files_at d k))).used (nodes_in (files_at d k)) (named_file (shown_in (files_at d k)) f)) later
      (keep.kept k m from order (omega (arith, to, past.later)) (subst (λ (f : Files). UsesData (shown_in f)) (sym same) uses)));
}

-- ---- the data file

-- bytes that were at the front of a file are so as long as it is there and keeps them
still_front : (used : ℕ) (old now : Option (List ℕ)) (nodes : List ℕ) → HasFront used now → KeepsFront used old now → IsFrontOf old used nodes → IsFrontOf now used nodes
still_front used old None nodes has keeps front = absurd has
still_front used None (Some now) nodes has keeps front = absurd keeps
still_front used (Some old) (Some now) nodes has keeps front = front ∙ sym keeps.2

-- a file with these bytes at its front leads to what they lead to
read_front : (d : Contents) (file : Option (List ℕ)) (nodes : List ℕ) → IsFrontOf file d.used nodes → option_map (λ bytes. of_data (data_reading d bytes)) file ≡ Some (of_data (data_reading d nodes))
read_front d None nodes front = absurd front
read_front d (Some bytes) nodes front = ap (λ (r : Result Table NodeFault). Some (of_data r)) (sym (front_same d bytes) ∙ ap (data_reading d) (sym front))

-- where no byte is used no file is read
none_in : (d : Contents) (files : Files) → d.used ≡ 0 → data_in d files ≡ Some []
none_in d files none = ap (λ (n : ℕ). cond (n == 0) (Some []) (files (data_name d.id))) none

some_in : (d : Contents) (files : Files) → 0 < d.used → data_in d files ≡ files (data_name d.id)
some_in d files some = chosen (d.used == 0) (Some []) (files (data_name d.id)) (files (data_name d.id)) (not_zero d.used some) refl

front_later : (d : Contents) (early late : Files) (nodes : List ℕ) → (0 < d.used → HasFront d.used (late (data_name d.id))) → (0 < d.used → KeepsFront d.used (early (data_name d.id)) (late (data_name d.id)))
    → (d.used ≡ 0) ⊎ (d.used ≡ 0 → ⊥) → IsFrontOf (data_in d early) d.used nodes → IsFrontOf (data_in d late) d.used nodes
front_later d early late nodes has keeps (inl none) front =
    subst (λ (file : Option (List ℕ)). IsFrontOf file d.used nodes) (none_in d early none ∙ sym (none_in d late none)) front
front_later d early late nodes has keeps (inr some) front =
    let uses : 0 < d.used = omega (arith, some) in
    subst (λ (file : Option (List ℕ)). IsFrontOf file d.used nodes) (sym (some_in d late uses))
    (still_front d.used (early (data_name d.id)) (late (data_name d.id)) nodes (has uses) (keeps uses)
    (subst (λ (file : Option (List ℕ)). IsFrontOf file d.used nodes) (some_in d early uses) front))

-- ---- the record

pub still_recorded : (start mid h : History) (past : Extends mid h) (loaded : Loaded) (tried : Try) (recorded : Table) → docket_refusal loaded.shown.items ≡ None → Loads start mid (tried ∷ []) (Ok loaded)
    → data_reading (docket_of loaded.shown.items) loaded.nodes.items ≡ Ok recorded → KeepData h start.last → (k : ℕ) → mid.last ≤ k → start.last ≤ k → k ≤ h.last
    → shown_in (files_at h k) ≡ loaded.shown.items → reading (files_at h k) ≡ Some (Ok recorded)
still_recorded start mid h past loaded tried recorded sound loads nodes keep k from since to is =
    let bytes : List ℕ = loaded.shown.items in
    let was = one_load start mid (tried ∷ []) loaded (keep_earlier mid h start.last past keep) loads sound in
    let same : files_at h was.at ≡ files_at mid was.at = (past.stay was.at was.during.to).shown in
    let docket : shown_in (files_at h was.at) ≡ bytes = ap shown_in same ∙ was.docket in
    let front : IsFrontOf (data_in (docket_of bytes) (files_at h k)) (docket_of bytes).used loaded.nodes.items =
    front_later (docket_of bytes) (files_at h was.at) (files_at h k) loaded.nodes.items
    (λ uses. subst (λ (l : List ℕ). HasFront (docket_of l).used (named_file l (files_at h k))) is (keep.there k since to (subst UsesData (sym is) (record { sound = sound; uses = uses }))))
    (λ uses.
    subst (λ (l : List ℕ). KeepsFront (docket_of l).used (named_file l (files_at h was.at)) (named_file l (files_at h k))) docket
    (keep.kept was.at k was.during.from (omega (arith, was.during.to, from)) to (subst UsesData (sym docket) (record { sound = sound; uses = uses }))))
    (cases_eq (docket_of bytes).used 0)
    (subst (λ (f : Files). IsFrontOf (data_in (docket_of bytes) f) (docket_of bytes).used loaded.nodes.items) (sym same) was.nodes) in
    ap (λ (l : List ℕ). named_reading l (files_at h k)) is ∙ named_sound bytes (files_at h k) (docket_of bytes) sound refl
    ∙ read_front (docket_of bytes) (data_in (docket_of bytes) (files_at h k)) loaded.nodes.items front
    ∙ ap (λ (r : Result Table NodeFault). Some (of_data r)) nodes
