-- What no fault says of a list and of each of its nodes.
use Rattle.std.proofs.Common.{◌≡◌, ℕ, zero, suc, ◌+◌, ◌-◌, ◌*◌, ◌<◌, ◌≤◌, Bool, true, false, not, cond, List, length, Option, Some, None, refl, sym, subst, arith, eqb, ltb, eqb-true, ltb-false, true≢false}
use Rattle.std.proofs.lemmas.Bool.{ne_eqb}
use Rattle.hg_base.specs.PathText.{is_path, is_same_dir, parent_of}
use Rattle.hg_base.specs.PathRefusal.{refusal}
use Rattle.hg_base.specs.declared.path.PathFault.{PathFault}
use Rattle.hg_base.specs.declared.path.PathFault.TheVariants as a_refusal
use Rattle.hg_base.proofs.Paths.{path_of as path_not_refused_is}
use Rattle.hg_base.proofs.Children.{same_dir}
use Rattle.hg_entry.specs.Entry.{is_timely}
use Rattle.hg_node.specs.declared.record.Rec.{Rec}
use Rattle.hg_image.specs.declared.fault.NodeFault.{NodeFault}
use Rattle.hg_image.specs.declared.fault.NodeFault.TheVariants as a_fault
use Rattle.hg_image.specs.Node.{record_at, path_of, name_of, fields_of, is_text, is_sourced, is_after, breaks_rule, is_too_deep, path_fault, place_fault, first_of, node_fault}
use Rattle.hg_image.specs.Walk.{nodes_fault, list_fault}
use Rattle.hg_image.proofs.Walk.{below}

pub row : (t : Bool) (fault : NodeFault) (more : Option NodeFault) → cond (not t) (Some fault) more ≡ None → (t ≡ true) × (more ≡ None)
row true fault more h = (refl, h)
row false fault more h = absurd (cc)

pub row_not : (t : Bool) (fault : NodeFault) (more : Option NodeFault) → cond t (Some fault) more ≡ None → (t ≡ false) × (more ≡ None)
row_not true fault more h = absurd (cc)
row_not false fault more h = (refl, h)

pub past : (t : Bool) (more : Option NodeFault) → t ≡ false → cond t None more ≡ None → more ≡ None
past true more e h = absurd (true≢false e)
past false more e h = h

pub both_none : (a b : Option NodeFault) → first_of a b ≡ None → (a ≡ None) × (b ≡ None)
both_none (Some fault) b h = absurd (cc)
both_none None b h = (refl, h)

not_refused : (o : Option PathFault) → breaks_rule o ≡ false → is_too_deep o ≡ false → o ≡ None
not_refused None a b = refl
not_refused (Some a_refusal.OutOfMemory) a b = absurd (true≢false a)
not_refused (Some a_refusal.Empty) a b = absurd (true≢false a)
not_refused (Some (a_refusal.TooLong n)) a b = absurd (true≢false a)
not_refused (Some (a_refusal.Component n)) a b = absurd (true≢false a)
not_refused (Some a_refusal.Reserved) a b = absurd (true≢false a)
not_refused (Some (a_refusal.TooDeep n)) a b = absurd (true≢false b)

-- a node that passes every row
pub record Sound (bytes : List ℕ) (dir before : Option (List ℕ)) (rec : Rec) : Type 0 where
  pub text : is_text bytes rec.path_start rec.path_len ≡ true
  pub path : is_path (path_of bytes rec) ≡ true
  pub place : rec.base_at + length (name_of bytes rec) ≡ length (path_of bytes rec)
  pub parent : parent_of (path_of bytes rec) ≡ dir
  pub order : is_after before (name_of bytes rec) ≡ true
  pub source : is_sourced bytes rec ≡ true
  pub time : is_timely (fields_of rec) ≡ true

pub node_sound : (bytes : List ℕ) (dir before : Option (List ℕ)) (rec : Rec) → node_fault bytes dir before rec ≡ None → Sound bytes dir before rec
unfolding node_fault
node_sound bytes dir before rec h =
    let halves = both_none (path_fault bytes rec) (place_fault bytes dir before rec) h in
    let path = path_of bytes rec in
    let name = name_of bytes rec in
    let text = row (is_text bytes rec.path_start rec.path_len) (a_fault.Text rec.place) _ halves.0 in
    let rule = row_not (breaks_rule (refusal path)) (a_fault.Name rec.place) _ text.1 in
    let deep = row_not (is_too_deep (refusal path)) (a_fault.Deep rec.place) None rule.1 in
    let base = row (eqb (rec.base_at + length name) (length path)) (a_fault.Base rec.place) _ halves.1 in
    let parent = row (is_same_dir dir (parent_of path)) (a_fault.Parent rec.place) _ base.1 in
    let order = row (is_after before name) (a_fault.Order rec.place) _ parent.1 in
    let source = row (is_sourced bytes rec) (a_fault.Copy rec.place) _ order.1 in
    let time = row (is_timely (fields_of rec)) (a_fault.Times rec.place) None source.1 in
    record {
      text = text.0;
      path = path_not_refused_is path (not_refused (refusal path) rule.0 deep.0);
      place = eqb-true _ _ base.0;
      parent = sym (same_dir dir (parent_of path) parent.0);
      order = order.0;
      source = source.0;
      time = time.0;
    }

-- a list with nodes has a level left and lies within the bytes
pub record Room (depth : ℕ) (bytes : List ℕ) (dir : Option (List ℕ)) (start count : ℕ) : Type 0 where
  pub deep : 0 < depth
  pub room : start + 44 * count ≤ length bytes
  pub nodes : nodes_fault (below (depth - 1) bytes) bytes dir None start count ≡ None

pub list_sound : (depth : ℕ) (bytes : List ℕ) (dir : Option (List ℕ)) (start count : ℕ) → 0 < count → list_fault depth bytes dir start count ≡ None → Room depth bytes dir start count
unfolding list_fault
list_sound zero bytes dir start count some h =
    let test : eqb count 0 ≡ false = ne_eqb count 0 (λ e. omega arith) in
    let bad : Some (a_fault.List start count) ≡ None = past (eqb count 0) (Some (a_fault.List start count)) test h in
    absurd (cc)
list_sound (suc depth) bytes dir start count some h =
    let test : eqb count 0 ≡ false = ne_eqb count 0 (λ e. omega arith) in
    let parts = row_not (ltb (length bytes) (start + 44 * count)) (a_fault.List start count) _ (past (eqb count 0) _ test h) in
    let same : suc depth - 1 ≡ depth = omega arith in
    record {
      deep = omega arith;
      room = ltb-false (length bytes) (start + 44 * count) parts.0;
      nodes = rw same parts.1;
    }

-- the name before a node of a list, where there is one
unfoldable pub before_at : List ℕ → Option (List ℕ) → ℕ → ℕ → Option (List ℕ)
before_at bytes before at zero = before
before_at bytes before at (suc i) = Some (name_of bytes (record_at bytes (at + 44 * i)))

-- a node of a list without fault has none, nor has the list below it
pub record At (kids : List ℕ → ℕ → ℕ → Option NodeFault) (bytes : List ℕ) (dir before : Option (List ℕ)) (place : ℕ) : Type 0 where
  pub here : node_fault bytes dir before (record_at bytes place) ≡ None
  pub under : kids (path_of bytes (record_at bytes place)) (record_at bytes place).kids_start (record_at bytes place).kids_count ≡ None

shifted : (bytes : List ℕ) (before : Option (List ℕ)) (at i : ℕ) → before_at bytes (Some (name_of bytes (record_at bytes at))) (at + 44) i ≡ before_at bytes before at (suc i)
unfolding before_at
shifted bytes before at zero = let same : at + 44 * 0 ≡ at = omega arith in rw same refl
shifted bytes before at (suc i) = let same : at + 44 + 44 * i ≡ at + 44 * suc i = omega arith in rw same refl

pub nodes_at : (kids : List ℕ → ℕ → ℕ → Option NodeFault) (bytes : List ℕ) (dir before : Option (List ℕ)) (at n i : ℕ) → i < n → nodes_fault kids bytes dir before at n ≡ None
    → At kids bytes dir (before_at bytes before at i) (at + 44 * i)
unfolding nodes_fault before_at
nodes_at kids bytes dir before at zero i inside h = absurd (omega arith)
nodes_at kids bytes dir before at (suc n) zero inside h =
    let same : at + 44 * 0 ≡ at = omega arith in
    let first = both_none (node_fault bytes dir before (record_at bytes at)) _ h in
    let second = both_none (kids (path_of bytes (record_at bytes at)) (record_at bytes at).kids_start (record_at bytes at).kids_count) _ first.1 in
    rw same (record { here = first.0; under = second.0 })
nodes_at kids bytes dir before at (suc n) (suc i) inside h =
    let same : at + 44 + 44 * i ≡ at + 44 * suc i = omega arith in
    let first = both_none (node_fault bytes dir before (record_at bytes at)) _ h in
    let second = both_none (kids (path_of bytes (record_at bytes at)) (record_at bytes at).kids_start (record_at bytes at).kids_count) _ first.1 in
    let found = nodes_at kids bytes dir (Some (name_of bytes (record_at bytes at))) (at + 44) n i (omega arith) second.1 in
    subst (λ (b : Option (List ℕ)). At kids bytes dir b (at + 44 * suc i)) (shifted bytes before at i)
    (subst (At kids bytes dir (before_at bytes (Some (name_of bytes (record_at bytes at))) (at + 44) i)) same found)

-- the nodes from one on have none
pub nodes_from : (kids : List ℕ → ℕ → ℕ → Option NodeFault) (bytes : List ℕ) (dir before : Option (List ℕ)) (at n i : ℕ) → i < n → nodes_fault kids bytes dir before at n ≡ None
    → nodes_fault kids bytes dir (before_at bytes before at i) (at + 44 * i) (n - i) ≡ None
unfolding nodes_fault before_at
nodes_from kids bytes dir before at zero i inside h = absurd (omega arith)
nodes_from kids bytes dir before at (suc n) zero inside h =
    let same : at + 44 * 0 ≡ at = omega arith in
    let all : suc n - 0 ≡ suc n = omega arith in
    rw (same, all) h
nodes_from kids bytes dir before at (suc n) (suc i) inside h =
    let same : at + 44 + 44 * i ≡ at + 44 * suc i = omega arith in
    let less : n - i ≡ suc n - suc i = omega arith in
    let first = both_none (node_fault bytes dir before (record_at bytes at)) _ h in
    let second = both_none (kids (path_of bytes (record_at bytes at)) (record_at bytes at).kids_start (record_at bytes at).kids_count) _ first.1 in
    let found = nodes_from kids bytes dir (Some (name_of bytes (record_at bytes at))) (at + 44) n i (omega arith) second.1 in
    subst (λ (m : ℕ). nodes_fault kids bytes dir (before_at bytes before at (suc i)) (at + 44 * suc i) m ≡ None) less
    (subst (λ (b : Option (List ℕ)). nodes_fault kids bytes dir b (at + 44 * suc i) (n - i) ≡ None) (shifted bytes before at i)
    (subst (λ (m : ℕ). nodes_fault kids bytes dir (before_at bytes (Some (name_of bytes (record_at bytes at))) (at + 44) i) m (n - i) ≡ None) same found))

-- a node of a list
pub record Member (depth : ℕ) (bytes : List ℕ) (dir before : Option (List ℕ)) (place : ℕ) : Type 0 where
  pub deep : 0 < depth
  pub room : place + 44 ≤ length bytes
  pub node : Sound bytes dir before (record_at bytes place)
  pub under : list_fault (depth - 1) bytes (Some (path_of bytes (record_at bytes place))) (record_at bytes place).kids_start (record_at bytes place).kids_count ≡ None

pub list_at : (depth : ℕ) (bytes : List ℕ) (dir : Option (List ℕ)) (start count i : ℕ) → i < count → list_fault depth bytes dir start count ≡ None
    → Member depth bytes dir (before_at bytes None start i) (start + 44 * i)
list_at depth bytes dir start count i inside h =
    let list = list_sound depth bytes dir start count (omega arith) h in
    let found = nodes_at (below (depth - 1) bytes) bytes dir None start count i inside list.nodes in
    let room : start + 44 * count ≤ length bytes = list.room in
    record {
      deep = list.deep;
      room = omega arith;
      node = node_sound bytes dir (before_at bytes None start i) (record_at bytes (start + 44 * i)) found.here;
      under = found.under;
    }

-- and the same of what was read at its place
pub record Held (depth : ℕ) (bytes : List ℕ) (dir before : Option (List ℕ)) (rec : Rec) : Type 0 where
  pub node : Sound bytes dir before rec
  pub under : list_fault (depth - 1) bytes (Some (path_of bytes rec)) rec.kids_start rec.kids_count ≡ None

pub held_at : (depth : ℕ) (bytes : List ℕ) (dir before : Option (List ℕ)) (place : ℕ) (rec : Rec) → rec ≡ record_at bytes place → Member depth bytes dir before place → Held depth bytes dir before rec
held_at depth bytes dir before place rec is member = subst (Held depth bytes dir before) (sym is) (record { node = member.node; under = member.under })
