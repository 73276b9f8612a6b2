-- A map that is made once something is put into it, and the map that it is then.
use Rattle.std.proofs.Common.{◌≡◌, [], Option, Some, None, String, sym, ap, ◌∙◌}
use Rattle.std.specs.BTreeMap.{BTreeMap}
use Rattle.std.specs.Option.{unwrap_or}
use Rattle.hg_nodes.specs.Made.{entries_of}

module _ {Y V : Type 0} where
  pub some_entries : (o : Option (BTreeMap (String Y) V)) (map : BTreeMap (String Y) V) → o ≡ Some map → entries_of o ≡ map.entries
  some_entries o map is = ap (λ (o : Option (BTreeMap (String Y) V)). entries_of o) is

  pub made_entries : (o : Option (BTreeMap (String Y) V)) (new now : BTreeMap (String Y) V) → new.entries ≡ [] → now ≡ unwrap_or o new → entries_of o ≡ now.entries
  made_entries None new now empty is = sym (ap (λ (map : BTreeMap (String Y) V). map.entries) is ∙ empty)
  made_entries (Some map) new now empty is = sym (ap (λ (map : BTreeMap (String Y) V). map.entries) is)
