-- What each test of a time tells.
use Rattle.std.proofs.Common.{ℕ, zero, suc, ◌≡◌, ◌<◌, ◌%◌, ◌^◌, inl, inr, Bool, true, false, not, ◌&&◌, ◌||◌, cond, nat_lt, nat_eq, ℤ, pos, negsuc, ◌<ℤ◌, int_lt, Option, Some, None, Decides, refl, sym, ap, ◌∙◌, subst, arith, true≢false, ltb-true, lt-ltb, eqb-true, eq-eqb}
use Rattle.std.specs.Ordering.{int_eq, MatchOrdering}
use Rattle.std.specs.Cmp.{int_chain, int_ranks}
use Rattle.std.specs.Int.Signed.{<ℤ_irrefl}
use Rattle.std.specs.declared.cmp.Ordering.TheVariants.{Less, Equal, Greater}
use Rattle.std.proofs.lemmas.Bool.{and_from, and_parts, cases_Bool}
use Rattle.std.proofs.lemmas.Bool.Decides.{Decides-int_eq}
use Rattle.hg_base.specs.declared.time.Time.{Time}
use Rattle.hg_base.specs.declared.stat.Stat.{Stat}
use Rattle.hg_base.specs.declared.stat.Kind.{Kind}
use Rattle.hg_base.specs.declared.stat.Kind.TheVariants as a_kind
use Rattle.hg_base.specs.Times.{IsBefore}
use Rattle.hg_entry.specs.Entry.{EntryData, StampData}
use Rattle.hg_entry.specs.Steps.{is_file, is_link, seen_clean}
use Rattle.hg_mtime.specs.Stamps.{dated, is_before, is_coarse, is_same_second, matches}
use Rattle.hg_mtime.specs.Vouching.{has_mode, has_size, matches_known, may_vouch, same_bools}
use Rattle.hg_mtime.specs.Laws.{MatchIsGiven, MatchTells, NotedMatches, NotedVouches, StampIsGiven, StampTells, VouchIsGiven, VouchTells}

-- ---- the order of times

lt_told : (x y : ℤ) → int_lt x y ≡ true → x <ℤ y
lt_told x y is = subst (λ (b : Bool). MatchOrdering (cond b Less (cond (int_lt y x) Greater Equal)) (x <ℤ y) (x ≡ y) (y <ℤ x)) is (int_ranks x y)

lt_given : (x y : ℤ) → x <ℤ y → int_lt x y ≡ true
lt_given x y less = by (int_lt x y) (int_lt y x) refl (int_ranks x y)
  where
    by : (a b : Bool) → int_lt x y ≡ a → MatchOrdering (cond a Less (cond b Greater Equal)) (x <ℤ y) (x ≡ y) (y <ℤ x) → int_lt x y ≡ true
    by true b is rank = is
    by false true is rank = absurd (<ℤ_irrefl (int_chain x y x less rank))
    by false false is rank = absurd (<ℤ_irrefl (subst (λ (z : ℤ). x <ℤ z) (sym rank) less))

same_second : (a b : Time) → Decides (is_same_second a b) (a.seconds ≡ b.seconds)
same_second a b = Decides-int_eq a.seconds b.seconds

before_told : (a b : Time) → is_before a b ≡ true → IsBefore a b
before_told a b is =
    elim (cases_Bool (int_lt a.seconds b.seconds)) [
      | inl less ↦ inl (lt_told a.seconds b.seconds less)
      | inr most ↦
          let parts = and_parts (is_same_second a b) (nat_lt a.nanos b.nanos) (subst (λ (t : Bool). (t || (is_same_second a b && nat_lt a.nanos b.nanos)) ≡ true) most is) in
          inr ((same_second a b).0 parts.0, ltb-true a.nanos b.nanos parts.1)
    ]

or_right : (x y : Bool) → y ≡ true → (x || y) ≡ true
or_right true y is = refl
or_right false y is = is

before_given : (a b : Time) → IsBefore a b → is_before a b ≡ true
before_given a b (inl less) = ap (λ (t : Bool). t || (is_same_second a b && nat_lt a.nanos b.nanos)) (lt_given a.seconds b.seconds less)
before_given a b (inr both) =
    or_right (int_lt a.seconds b.seconds) (is_same_second a b && nat_lt a.nanos b.nanos)
    (and_from (is_same_second a b) (nat_lt a.nanos b.nanos) ((same_second a b).1 both.0) (lt-ltb a.nanos b.nanos both.1))

-- ---- what may be recorded

chosen : {A : Type 0} (t : Bool) (x : A) (y : A) → t ≡ true → cond t (Some x) None ≡ Some y → x ≡ y
chosen true x y is same = cc same
chosen false x y is same = absurd (cc is)

tested : {A : Type 0} (t : Bool) (o : Option A) (y : A) → cond t o None ≡ Some y → (t ≡ true) × (o ≡ Some y)
tested true o y same = (refl, same)
tested false o y same = absurd (cc same)

picked : {A : Type 0} (t : Bool) (o : Option A) → t ≡ true → cond t o None ≡ o
picked true o is = refl
picked false o is = absurd (cc is)

abbrev record_of : ℕ → ℕ → Bool → StampData
record_of seconds nanos ambiguous = record { seconds = seconds; nanos = nanos; ambiguous = ambiguous }

pub record IsDated (seconds : ℤ) (nanos : ℕ) (ambiguous : Bool) (stamp : StampData) : Type 0 where
  pub second : seconds ≡ pos stamp.seconds
  pub small : stamp.seconds < 2 ^ 31
  pub nano : nanos ≡ stamp.nanos
  pub marked : stamp.ambiguous ≡ ambiguous

dated_told : (seconds : ℤ) (nanos : ℕ) (ambiguous : Bool) (stamp : StampData) → dated seconds nanos ambiguous ≡ Some stamp → IsDated seconds nanos ambiguous stamp
dated_told (pos n) nanos ambiguous stamp is =
    let parts = tested (nat_lt n (2 ^ 31)) (Some (record_of n nanos ambiguous)) stamp is in
    let same : record_of n nanos ambiguous ≡ stamp = cc parts.1 in
    record {
      second = ap (λ (s : StampData). pos s.seconds) same;
      small = subst (λ (s : StampData). s.seconds < 2 ^ 31) same (ltb-true n (2 ^ 31) parts.0);
      nano = ap (λ (s : StampData). s.nanos) same;
      marked = sym (ap (λ (s : StampData). s.ambiguous) same);
    }
dated_told (negsuc n) nanos ambiguous stamp is = absurd (cc is)

dated_given : (seconds : ℤ) (nanos : ℕ) (ambiguous : Bool) (stamp : StampData) → IsDated seconds nanos ambiguous stamp → dated seconds nanos ambiguous ≡ Some stamp
dated_given seconds nanos ambiguous stamp is =
    ap (λ (s : ℤ). dated s nanos ambiguous) is.second
    ∙ picked (nat_lt stamp.seconds (2 ^ 31)) (Some (record_of stamp.seconds nanos ambiguous)) (lt-ltb stamp.seconds (2 ^ 31) is.small)
    ∙ (λ i. Some (record_of stamp.seconds (is.nano i) (sym is.marked i)))

not_told : (b : Bool) → not b ≡ true → b ≡ false
not_told true is = sym is
not_told false is = refl

not_given : (b : Bool) → (b ≡ true → ⊥) → not b ≡ true
not_given true h = absurd (h refl)
not_given false h = refl

above_zero : (n : ℕ) → (n ≡ 0 → ⊥) → 0 < n
above_zero zero h = absurd (h refl)
above_zero (suc n) h = omega arith

pub stamp_tells : StampTells
stamp_tells time boundary stamp is =
    let outer = tested (is_before time boundary && not (is_coarse time boundary)) (dated time.seconds time.nanos (is_same_second time boundary)) stamp is in
    let parts = and_parts (is_before time boundary) (not (is_coarse time boundary)) outer.0 in
    let dates = dated_told time.seconds time.nanos (is_same_second time boundary) stamp outer.1 in
    record {
      has = record { seconds = dates.second; nanos = dates.nano };
      small = dates.small;
      past = before_told time boundary parts.0;
      fine = λ same. above_zero time.nanos (λ none.
          true≢false (sym (and_from (is_same_second time boundary) (nat_eq time.nanos 0) ((same_second time boundary).1 same) (eq-eqb time.nanos 0 none)) ∙ not_told (is_coarse time boundary) parts.1));
      ambiguous = dates.marked;
    }

pub stamp_given : StampIsGiven
stamp_given time boundary stamp is =
    picked (is_before time boundary && not (is_coarse time boundary)) (dated time.seconds time.nanos (is_same_second time boundary))
    (and_from (is_before time boundary) (not (is_coarse time boundary)) (before_given time boundary is.past)
    (not_given (is_coarse time boundary) (λ coarse.
    let parts = and_parts (is_same_second time boundary) (nat_eq time.nanos 0) coarse in
    let more = is.fine ((same_second time boundary).0 parts.0) in
    let none = eqb-true time.nanos 0 parts.1 in
    omega (arith, more, none))))
    ∙ dated_given time.seconds time.nanos (is_same_second time boundary) stamp (record { second = is.has.seconds; small = is.small; nano = is.has.nanos; marked = is.ambiguous })

-- ---- when a time is shown again

abbrev is_at : StampData → Time → Bool
is_at stamp time = int_eq time.seconds (pos stamp.seconds) && nat_eq time.nanos stamp.nanos

pub match_tells : MatchTells
match_tells stamp time is =
    let outer = and_parts (is_at stamp time) (not (stamp.ambiguous && nat_eq stamp.nanos 0)) is in
    let parts = and_parts (int_eq time.seconds (pos stamp.seconds)) (nat_eq time.nanos stamp.nanos) outer.0 in
    record {
      has = record { seconds = (Decides-int_eq time.seconds (pos stamp.seconds)).0 parts.0; nanos = eqb-true time.nanos stamp.nanos parts.1 };
      fine = λ marked. above_zero stamp.nanos (λ none.
          true≢false (sym (and_from stamp.ambiguous (nat_eq stamp.nanos 0) marked (eq-eqb stamp.nanos 0 none)) ∙ not_told (stamp.ambiguous && nat_eq stamp.nanos 0) outer.1));
    }

pub match_given : MatchIsGiven
match_given stamp time is =
    and_from (is_at stamp time) (not (stamp.ambiguous && nat_eq stamp.nanos 0))
    (and_from (int_eq time.seconds (pos stamp.seconds)) (nat_eq time.nanos stamp.nanos) ((Decides-int_eq time.seconds (pos stamp.seconds)).1 is.has.seconds) (eq-eqb time.nanos stamp.nanos is.has.nanos))
    (not_given (stamp.ambiguous && nat_eq stamp.nanos 0) (λ loose.
    let parts = and_parts stamp.ambiguous (nat_eq stamp.nanos 0) loose in
    let more = is.fine parts.0 in
    let none = eqb-true stamp.nanos 0 parts.1 in
    omega (arith, more, none)))

pub noted_matches : NotedMatches
noted_matches time boundary stamp is =
    let one = stamp_tells time boundary stamp is in
    match_given stamp time (record {
      has = one.has;
      fine = λ marked. subst (λ (n : ℕ). 0 < n) one.has.nanos (one.fine ((same_second time boundary).0 (sym one.ambiguous ∙ marked)));
    })

-- ---- when an entry vouches

size_told : (known : Option ℕ) (size : ℕ) → has_size known size ≡ true → (n : ℕ) × (known ≡ Some n) × (n ≡ size % 2 ^ 31)
size_told None size is = absurd (cc is)
size_told (Some n) size is = (n, refl, eqb-true n (size % 2 ^ 31) is)

stamp_told : (known : Option StampData) (time : Time) → matches_known known time ≡ true → (stamp : StampData) × (known ≡ Some stamp) × (matches stamp time ≡ true)
stamp_told None time is = absurd (cc is)
stamp_told (Some stamp) time is = (stamp, refl, is)

pub vouch_tells : VouchTells
vouch_tells entry copied stat is =
    let last = and_parts (may_vouch entry copied && has_size entry.size stat.size && has_mode entry stat.kind stat.exec) (matches_known entry.stamp stat.mtime) is in
    let third = and_parts (may_vouch entry copied && has_size entry.size stat.size) (has_mode entry stat.kind stat.exec) last.0 in
    let second = and_parts (may_vouch entry copied) (has_size entry.size stat.size) third.0 in
    let size = size_told entry.size stat.size second.1 in
    let stamp = stamp_told entry.stamp stat.mtime last.1 in
    record {
      stamp = stamp.0;
      size = size.0;
      marks = second.0;
      size_is = size.1;
      same_size = size.2;
      mode = third.1;
      stamp_is = stamp.1;
      match = stamp.2;
    }

all_four : (a b d e : Bool) → a ≡ true → b ≡ true → d ≡ true → e ≡ true → (a && b && d && e) ≡ true
all_four a b d e p q r s = and_from (a && b && d) e (and_from (a && b) d (and_from a b p q) r) s

pub vouch_given : VouchIsGiven
vouch_given entry copied stat is =
    all_four (may_vouch entry copied) (has_size entry.size stat.size) (has_mode entry stat.kind stat.exec) (matches_known entry.stamp stat.mtime) is.marks
    (ap (λ (known : Option ℕ). has_size known stat.size) is.size_is ∙ eq-eqb is.size (stat.size % 2 ^ 31) is.same_size) is.mode
    (ap (λ (known : Option StampData). matches_known known stat.mtime) is.stamp_is ∙ is.match)

noted_mode : (entry : EntryData) (stat : Stat) (stamp : StampData) (kind : Kind) → stat.kind ≡ kind → is_file kind ≡ true → has_mode (seen_clean entry stat stamp) kind stat.exec ≡ true
noted_mode entry stat stamp a_kind.File is file = same stat.exec (stat.exec || is_link stat.kind) (is_link stat.kind) (ap is_link is) refl
  where
    same : (exec both link : Bool) → link ≡ false → both ≡ (exec || link) → (not link && same_bools both exec) ≡ true
    same exec both true none is = absurd (cc none)
    same true both false none is = ap (λ (b : Bool). same_bools b true) is
    same false both false none is = ap (λ (b : Bool). same_bools b false) is
noted_mode entry stat stamp a_kind.Link is file = ap is_link is
noted_mode entry stat stamp a_kind.Dir is file = absurd (cc file)
noted_mode entry stat stamp a_kind.Other is file = absurd (cc file)

pub noted_vouch : NotedVouches
noted_vouch entry copied stat boundary stamp marks file is =
    all_four (may_vouch (seen_clean entry stat stamp) copied) (has_size (Some (stat.size % 2 ^ 31)) stat.size) (has_mode (seen_clean entry stat stamp) stat.kind stat.exec) (matches stamp stat.mtime)
    (and_from (entry.w && entry.p1 && not entry.p2 && not copied) true marks refl) (eq-eqb (stat.size % 2 ^ 31) (stat.size % 2 ^ 31) refl)
    (noted_mode entry stat stamp stat.kind refl file) (noted_matches stat.mtime boundary stamp is)
