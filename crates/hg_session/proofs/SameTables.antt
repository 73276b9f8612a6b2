-- Tables that can't differ say the same, and tables that say the same are one.
use Rattle.std.proofs.Common.{ℕ, ◌≡◌, Bool, true, false, eqb, List, Option, Some, None, inl, inr, refl, sym, ap, true≢false}
use Rattle.std.specs.Bool.{Decides}
use Rattle.std.specs.Str.{bytes_eq}
use Rattle.std.proofs.lemmas.Bool.{cases_Bool}
use Rattle.std.proofs.lemmas.Bool.Decides.{Decides-eqb, not_from_Decides}
use Rattle.std.proofs.lemmas.Slice.Eq.{bytes_eq-Decides}
use Rattle.hg_entry.specs.Entry.{CacheData, EntryData, StampData}
use Rattle.hg_entry.specs.Table.{Table}
use Rattle.hg_nodes.specs.Edits.{IsSame}

-- two tables that say the same are one
pub one_table : (a b : Table) → IsSame a b → a ≡ b
one_table a b same = λ i. record {
  p1 = same.p1 i;
  p2 = same.p2 i;
  hash = same.hash i;
  entries = λ at. same.entries at i;
  sources = λ at. same.sources at i;
  nodes = λ at. same.nodes at i;
  caches = λ at. same.caches at i;
}

-- ---- what can't differ is the same

abbrev Stays : Type 0 → Type 0
Stays X = (a b : X) → ¬ (¬ (a ≡ b)) → a ≡ b

decided : {P : Type 0} (test : Bool) → Decides test P → ¬ (¬ P) → P
decided test decides h = elim (cases_Bool test) [
  | inl is ↦ decides.0 is
  | inr not ↦ absurd (h (not_from_Decides test decides not))
]

number_stays : Stays ℕ
number_stays a b h = decided (eqb a b) (Decides-eqb a b) h

bytes_stay : Stays (List ℕ)
bytes_stay a b h = decided (bytes_eq a b) (bytes_eq-Decides a b) h

mark_stays : Stays Bool
mark_stays true true h = refl
mark_stays false false h = refl
mark_stays true false h = absurd (h true≢false)
mark_stays false true h = absurd (h (λ e. true≢false (sym e)))

-- a part of what can't differ can't
part : {X Y : Type 0} (f : X → Y) → Stays Y → (a b : X) → ¬ (¬ (a ≡ b)) → f a ≡ f b
part f stays a b h = stays (f a) (f b) (λ differs. h (λ e. differs (ap f e)))

option_stays : {X : Type 0} → Stays X → Stays (Option X)
option_stays stays None None h = refl
option_stays stays None (Some b) h = absurd (h (λ e. absurd (cc e)))
option_stays stays (Some a) None h = absurd (h (λ e. absurd (cc e)))
option_stays {X} stays (Some a) (Some b) h = ap Some (stays a b (λ differs. h (λ e. differs (ap held e))))
  where
    held : Option X → X
    held None = a
    held (Some x) = x

stamp_stays : Stays StampData
stamp_stays a b h =
    let seconds : a.seconds ≡ b.seconds = part (λ (s : StampData). s.seconds) number_stays a b h in
    let nanos : a.nanos ≡ b.nanos = part (λ (s : StampData). s.nanos) number_stays a b h in
    let ambiguous : a.ambiguous ≡ b.ambiguous = part (λ (s : StampData). s.ambiguous) mark_stays a b h in
    λ i. record { seconds = seconds i; nanos = nanos i; ambiguous = ambiguous i }

cache_stays : Stays CacheData
cache_stays a b h =
    let stamp : a.stamp ≡ b.stamp = part (λ (c : CacheData). c.stamp) stamp_stays a b h in
    let full : a.full ≡ b.full = part (λ (c : CacheData). c.full) mark_stays a b h in
    λ i. record { stamp = stamp i; full = full i }

entry_stays : Stays EntryData
entry_stays a b h =
    let w : a.w ≡ b.w = part (λ (e : EntryData). e.w) mark_stays a b h in
    let p1 : a.p1 ≡ b.p1 = part (λ (e : EntryData). e.p1) mark_stays a b h in
    let p2 : a.p2 ≡ b.p2 = part (λ (e : EntryData). e.p2) mark_stays a b h in
    let exec : a.exec ≡ b.exec = part (λ (e : EntryData). e.exec) mark_stays a b h in
    let link : a.link ≡ b.link = part (λ (e : EntryData). e.link) mark_stays a b h in
    let size : a.size ≡ b.size = part (λ (e : EntryData). e.size) (option_stays number_stays) a b h in
    let stamp : a.stamp ≡ b.stamp = part (λ (e : EntryData). e.stamp) (option_stays stamp_stays) a b h in
    let modified : a.modified ≡ b.modified = part (λ (e : EntryData). e.modified) mark_stays a b h in
    let fallback : a.fallback ≡ b.fallback = part (λ (e : EntryData). e.fallback) number_stays a b h in
    λ i. record {
      w = w i;
      p1 = p1 i;
      p2 = p2 i;
      exec = exec i;
      link = link i;
      size = size i;
      stamp = stamp i;
      modified = modified i;
      fallback = fallback i;
    }

-- tables of which it can't be that they don't say the same say the same
pub table_stays : (a b : Table) → ¬ (¬ (IsSame a b)) → IsSame a b
table_stays a b h = record {
  p1 = bytes_stay a.p1 b.p1 (λ differs. h (λ s. differs s.p1));
  p2 = bytes_stay a.p2 b.p2 (λ differs. h (λ s. differs s.p2));
  hash = bytes_stay a.hash b.hash (λ differs. h (λ s. differs s.hash));
  entries = λ at. option_stays entry_stays (a.entries at) (b.entries at) (λ differs. h (λ s. differs (s.entries at)));
  sources = λ at. option_stays bytes_stay (a.sources at) (b.sources at) (λ differs. h (λ s. differs (s.sources at)));
  nodes = λ at. mark_stays (a.nodes at) (b.nodes at) (λ differs. h (λ s. differs (s.nodes at)));
  caches = λ at. option_stays cache_stays (a.caches at) (b.caches at) (λ differs. h (λ s. differs (s.caches at)));
}
