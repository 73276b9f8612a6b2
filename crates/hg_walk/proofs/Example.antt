-- The premises of the laws hold together in the worked case.
use Rattle.std.proofs.Common.{ℕ, ◌≡◌, ◌<◌, inl, inr, Bool, true, false, ◌&&◌, cond, List, [], length, Some, None, refl, sym, ap, ◌∙◌, subst, arith, lit<}
use Rattle.std.specs.Prelude.{is_some}
use Rattle.std.specs.Str.{bytes_eq}
use Rattle.std.proofs.lemmas.Bool.{and_parts}
use Rattle.std.proofs.lemmas.Slice.Eq.{bytes_eq-Decides}
use Rattle.hg_base.specs.PathText.{is_component, joined}
use Rattle.hg_entry.specs.Entry.{CacheData, EntryData, StampData}
use Rattle.hg_ignore.specs.Patterns.{Apart, MayHold}
use Rattle.hg_ignore.specs.State.{Piece, Texts}
use Rattle.hg_tree.specs.Honest.{IsHonest}
use Rattle.hg_tree.specs.Moment.{is_dir}
use Rattle.hg_tree.specs.History.{Extends}
use Rattle.hg_walk.specs.Seeing.{SeenDir}
use Rattle.hg_walk.specs.Trust.{IsEarned, IsTrusted}
use Rattle.hg_walk.specs.Worked.{IsWorked, cache, entry, file, folder, history, row, rows, shown_time, stamp, table, things}

extends : Extends (history 0) (history 1)
extends = record { told = refl; later = omega arith; who = λ k below. refl; stay = λ k upto. refl }

honest : IsHonest (history 1)
honest = record { clocks = λ k below. inr (refl, omega arith); faces = λ k path time below differs shown. absurd (differs refl) }

-- there is no file of patterns, so there is one state alone
no_state : (state : List Piece) → Texts (history 1) state → state ≡ []
no_state state (inl none) = none
no_state state (inr (k, within, is)) = is

none_held : (text : List ℕ) → MayHold (history 1) text → ⊥
none_held text (state, given, piece, among, is) =
    let inside = subst (λ (s : List Piece). among.0 < length s) (no_state state given) among.1 in omega (arith, inside)

apart : Apart (history 1)
apart = record {
  texts = λ a b held other same. absurd (none_held a held);
  states = λ a b given other same. no_state a given ∙ sym (no_state b other);
}

chosen : {A : Type 0} (t : Bool) (x y : A) → cond t (Some x) None ≡ Some y → (t ≡ true) × (x ≡ y)
chosen true x y is = (refl, cc is)
chosen false x y is = absurd (cc is)

earned : IsEarned rows (history 0) file entry stamp
earned = record {
  row = row;
  is = refl;
  flag = refl;
  seen = record {
    at = 0;
    within = omega arith;
    time = shown_time;
    shown = refl;
    stamped = record { seconds = refl; nanos = refl };
    past = inr (refl, lit< tt);
    so = record { kind = refl; bytes = refl };
  };
}

whole : SeenDir (history 0) folder cache table.hash table.nodes
whole = record {
  at = 0;
  within = omega arith;
  time = shown_time;
  shown = refl;
  stamped = record { seconds = refl; nanos = refl };
  past = inr (refl, lit< tt);
  so = record {
    kind = refl;
    plain = refl;
    each = λ name named. inl ((and_parts (is_dir (things folder) && is_component name) (is_some (things (joined (Some folder) name))) named).1);
  };
}

trusted : IsTrusted rows table (history 0)
trusted = record {
  entries = λ path other time is could.
      let parts = chosen (bytes_eq path file) entry other is in
      let here : path ≡ file = (bytes_eq-Decides path file).0 parts.0 in
      let times : stamp ≡ time = same_stamp stamp time (ap (λ (e : EntryData). e.stamp) parts.1 ∙ could.stamp_is) in
      subst (λ (p : List ℕ). IsEarned rows (history 0) p other time) (sym here)
      (subst (λ (s : StampData). IsEarned rows (history 0) file other s) times (subst (λ (e : EntryData). IsEarned rows (history 0) file e stamp) parts.1 earned));
  caches = λ dir other is.
      let parts = chosen (bytes_eq dir folder) cache other is in
      let here : dir ≡ folder = (bytes_eq-Decides dir folder).0 parts.0 in
      subst (λ (d : List ℕ). SeenDir (history 0) d other table.hash table.nodes) (sym here)
      (subst (λ (c : CacheData). SeenDir (history 0) folder c table.hash table.nodes) parts.1 whole);
}
  where
    same_stamp : (a b : StampData) → Some a ≡ Some b → a ≡ b
    same_stamp a b is = cc is

pub worked : IsWorked
worked = record {
  extends = extends;
  honest = honest;
  apart = apart;
  trusted = trusted;
  noted = refl;
  early = refl;
  file_shown = refl;
  vouched = refl;
  later_refused = refl;
  folder_shown = refl;
  matched = refl;
}
