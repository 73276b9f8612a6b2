-- A written entry is read as it was.
use Rattle.std.proofs.Common.{◌≡◌, ℕ, ◌<◌, Bool, true, false, not, ◌&&◌, ◌||◌, cond, Option, Some, None, is_some, is_none, refl, ap, ◌∙◌}
use Rattle.std.specs.Option.{option_map}
use Rattle.hg_base.specs.declared.time.Stamp.{Stamp}
use Rattle.hg_entry.specs.declared.entry.Entry.{Entry}
use Rattle.hg_entry.specs.Entry.{EntryData, StampData, view, stamp_view, entry_of, has_entry}
use Rattle.hg_entry.specs.Written.{or_zero, seconds_of, nanos_of, is_ambiguous, flags_of, fields_of}
use Rattle.hg_entry.proofs.FlagsBack.{w_back, p1_back, p2_back, exec_back, link_back, modified_back, sized_back, timed_back, ambiguous_back, fallback_back}

chosen : {A : Type 0} (t : Bool) (x y z : A) → t ≡ true → x ≡ z → cond t x y ≡ z
chosen true x y z e same = same
chosen false x y z e same = absurd cc

-- a mode that is kept only beside a size
exec_kept : (known exec link : Bool) → (known || not (exec || link)) ≡ true → (known && exec) ≡ exec
exec_kept true exec link h = refl
exec_kept false true link h = absurd cc
exec_kept false false link h = refl

link_kept : (known exec link : Bool) → (known || not (exec || link)) ≡ true → (known && link) ≡ link
link_kept true exec link h = refl
link_kept false true link h = absurd cc
link_kept false false true h = absurd cc
link_kept false false false h = refl

size_kept : (size : Option ℕ) → cond (is_some size) (Some (or_zero size)) None ≡ size
size_kept None = refl
size_kept (Some n) = refl

stamp_kept : (modified : Bool) (stamp : Option StampData) → (not modified || is_none stamp) ≡ true
    → cond (is_some stamp && not modified) (Some (record { seconds = seconds_of stamp; nanos = nanos_of stamp; ambiguous = is_ambiguous stamp })) None ≡ stamp
stamp_kept modified None h = refl
stamp_kept true (Some s) h = absurd cc
stamp_kept false (Some s) h = refl

-- the parts of an entry agree
pub record Agrees (v : EntryData) : Type 0 where
  pub is_entry : (v.w || v.p1 || v.p2) ≡ true
  pub mode : (is_some v.size || not (v.exec || v.link)) ≡ true
  pub time : (not v.modified || is_none v.stamp) ≡ true
  pub fallback : v.fallback < 16

both : Bool → Bool → Bool
both a b = a && b

pub entry_back : (v : EntryData) → Agrees v → entry_of (fields_of v) ≡ Some v
unfolding both
entry_back v ok =
    let entry : has_entry (flags_of v) ≡ true = (λ i. w_back v ok.fallback i || p1_back v ok.fallback i || p2_back v ok.fallback i) ∙ ok.is_entry in
    chosen (has_entry (flags_of v)) _ None (Some v) entry (
    λ i. Some (
    record {
      w = w_back v ok.fallback i;
      p1 = p1_back v ok.fallback i;
      p2 = p2_back v ok.fallback i;
      exec = ((λ j. both (sized_back v ok.fallback j) (exec_back v ok.fallback j)) ∙ exec_kept (is_some v.size) v.exec v.link ok.mode) i;
      link = ((λ j. both (sized_back v ok.fallback j) (link_back v ok.fallback j)) ∙ link_kept (is_some v.size) v.exec v.link ok.mode) i;
      size = ((λ j. cond (sized_back v ok.fallback j) (Some (or_zero v.size)) None) ∙ size_kept v.size) i;
      stamp = ((λ j. cond (timed_back v ok.fallback j && not (modified_back v ok.fallback j)) (Some (record { seconds = seconds_of v.stamp; nanos = nanos_of v.stamp; ambiguous = ambiguous_back v ok.fallback j })) None) ∙ stamp_kept v.modified v.stamp ok.time) i;
      modified = modified_back v ok.fallback i;
      fallback = fallback_back v ok.fallback i;
    }
    )
    )

none_kept : (stamp : Option Stamp) → is_none (option_map stamp_view stamp) ≡ is_none stamp
none_kept None = refl
none_kept (Some s) = refl

pub agrees : (e : Entry) → Agrees (view e)
agrees e = record { is_entry = e.is_entry; mode = e.mode_with_size; time = ap (λ b. not e.modified || b) (none_kept e.stamp) ∙ e.time_of_clean; fallback = e.four_bits }
