-- The looks of a copy, and what is put behind them, as one course.
use Rattle.std.proofs.Common.{ℕ, ◌≡◌, ◌≤◌, Bool, true, false, cond, ◌||◌, ◌&&◌, List, [], ◌∷◌, length, Option, Some, None, Result, Ok, Err, refl, sym, ap, ◌∙◌, subst, true≢false, inl, inr, arith}
use Rattle.std.specs.Prelude.{IfOk, IsTrue, is_some, option_map, MatchOption}
use Rattle.std.specs.Option.{option_and_then}
use Rattle.std.specs.Str.{bytes_eq}
use Rattle.std.proofs.lemmas.Bool.{false_from_ne_true, leb-true, or_parts}
use Rattle.hg_base.specs.PathText.{is_below, is_path}
use Rattle.hg_base.specs.declared.stat.Kind.TheVariants as a_kind
use Rattle.hg_base.specs.declared.stat.Stat.{Stat}
use Rattle.hg_base.specs.declared.time.Time.{Time}
use Rattle.hg_base.proofs.Within.{same_bytes}
use Rattle.hg_entry.specs.Steps.{is_file}
use Rattle.hg_entry.specs.Table.{Table}
use Rattle.hg_mixed.specs.Held.{Held, table}
use Rattle.hg_ops.specs.Copy.{Comes, Copies, IsExact, IsUnused, Looked, RefusesCopy, RefusesSource, RefusesTarget, RefusesThings, Works, words_refusal}
use Rattle.hg_ops.specs.Copying.{IsCopying, Looks, Tables}
use Rattle.hg_ops.specs.Parts.{HasCopy}
use Rattle.hg_ops.specs.Putting.{CanCopy, IsOnePiece, IsPutting}
use Rattle.hg_ops.specs.Seen.{At, During, IsDirOrNone, IsTaken, Known, Was, WasStat}
use Rattle.hg_ops.specs.Step.{is_tracked, thing_refusal}
use Rattle.hg_ops.specs.declared.copy_refusal.CopyRefusal.{CopyRefusal}
use Rattle.hg_ops.specs.declared.copy_refusal.CopyRefusal.TheVariants as a_word
use Rattle.hg_ops.specs.declared.copying.Look.TheVariants as a_look
use Rattle.hg_ops.specs.declared.refusal.OpFault.{OpFault}
use Rattle.hg_ops.specs.declared.refusal.Refusal.{Refusal}
use Rattle.hg_ops.specs.declared.refusal.Refusal.TheVariants as a_refusal
use Rattle.hg_tree.specs.History.{History, IsOurs, Passes, now}
use Rattle.hg_tree.specs.Moment.{Moment, bytes_at, bytes_of, is_short, is_short_thing, stat_at, stat_of}
use Rattle.hg_tree.specs.Own.{put_thing}
use Rattle.hg_tree.specs.declared.thing.Placed.{Placed}
use Rattle.hg_tree.specs.declared.thing.Thing.{Thing}
use Rattle.hg_tree.specs.declared.thing.Thing.TheVariants as a_thing
use Rattle.hg_tree.proofs.Histories.{extends_trans}
use Rattle.hg_tree.proofs.Spans.{now_same, ours_first, ours_second, passes_same, passes_trans}
use Rattle.hg_tree.proofs.Touching.{changes_passes, changes_trans}
use Rattle.hg_ops.proofs.Grown.{some_is, there_is}
use Rattle.hg_ops.proofs.Moments.{was_first, was_last, was_wider}
use Rattle.hg_ops.proofs.OwnPuts.{some_put}

-- ---- the words

words_pass : (p q r : Bool) (a b c : CopyRefusal) → cond p (cond q (cond r None (Some a)) (Some b)) (Some c) ≡ None → r ≡ true
words_pass true true true a b c h = refl
words_pass true true false a b c h = absurd (cc h)
words_pass true false r a b c h = absurd (cc h)
words_pass false q r a b c h = absurd (cc h)

words_by : (p q r : Bool) (a b c : CopyRefusal) → p ≡ true → q ≡ true → cond p (cond q (cond r None (Some a)) (Some b)) (Some c) ≡ cond r None (Some a)
words_by true true r a b c first second = refl
words_by true false r a b c first second = absurd (true≢false (sym second))
words_by false q r a b c first second = absurd (true≢false (sym first))

match_map : {A : Type 0} (w : Option A) (P Q : Type 0) (R : A → Type 0) → (P → Q) → MatchOption w P R → MatchOption w Q R
match_map None P Q R f m = f m
match_map (Some a) P Q R f m = m

match_none : (w : Option CopyRefusal) (P : Type 0) → MatchOption w P (λ why. None ≡ Some why) → (w ≡ None) × P
match_none None P m = (refl, m)
match_none (Some why) P m = absurd (cc m)

match_by_none : (w : Option CopyRefusal) (P : Type 0) (R : CopyRefusal → Type 0) → w ≡ None → P → MatchOption w P R
match_by_none None P R is p = p
match_by_none (Some why) P R is p = absurd (cc is)

match_by_some : (w : Option CopyRefusal) (why : CopyRefusal) (P : Type 0) → w ≡ Some why → MatchOption w P (λ other. Some why ≡ Some other)
match_by_some None why P is = absurd (cc is)
match_by_some (Some other) why P is = sym is

module _ (from to : List ℕ) (t : Table) where
  words_tracked : words_refusal from to t ≡ None → is_tracked t from ≡ true
  words_tracked = words_pass (is_path from) (is_path to) (is_tracked t from) (a_word.Source a_refusal.NotTracked) (a_word.Target a_refusal.BadPath) (a_word.Source a_refusal.BadPath)

  words_are : is_path from ≡ true → is_path to ≡ true → words_refusal from to t ≡ cond (is_tracked t from) None (Some (a_word.Source a_refusal.NotTracked))
  words_are = words_by (is_path from) (is_path to) (is_tracked t from) (a_word.Source a_refusal.NotTracked) (a_word.Target a_refusal.BadPath) (a_word.Source a_refusal.BadPath)

  words_none : is_path from ≡ true → is_path to ≡ true → is_tracked t from ≡ true → words_refusal from to t ≡ None
  words_none first second is = words_are first second ∙ ap (λ (b : Bool). cond b None (Some (a_word.Source a_refusal.NotTracked))) is

  pub words_source : is_path from ≡ false → words_refusal from to t ≡ Some (a_word.Source a_refusal.BadPath)
  words_source bad =
      ap (λ (b : Bool). cond b (cond (is_path to) (cond (is_tracked t from) None (Some (a_word.Source a_refusal.NotTracked))) (Some (a_word.Target a_refusal.BadPath))) (Some (a_word.Source a_refusal.BadPath))) bad

  pub words_target : is_path from ≡ true → is_path to ≡ false → words_refusal from to t ≡ Some (a_word.Target a_refusal.BadPath)
  words_target good bad =
      ap (λ (b : Bool). cond b (cond (is_path to) (cond (is_tracked t from) None (Some (a_word.Source a_refusal.NotTracked))) (Some (a_word.Target a_refusal.BadPath))) (Some (a_word.Source a_refusal.BadPath))) good
      ∙ ap (λ (b : Bool). cond b (cond (is_tracked t from) None (Some (a_word.Source a_refusal.NotTracked))) (Some (a_word.Target a_refusal.BadPath))) bad

  -- ---- one way to know things for another

  module _ (K L : Known) (known : (so : Moment → Type 0) → K so → L so) where
    unused_map : IsUnused to t K → IsUnused to t L
    unused_map unused = record {
      untracked = unused.untracked;
      vacant = record { here = known (λ moment. moment.things to ≡ None) unused.vacant.here; above = λ dir below. known (IsDirOrNone dir) (unused.vacant.above dir below) };
    }

    target_map : (refused : Option Refusal) → RefusesTarget to t K refused → RefusesTarget to t L refused
    target_map None (unused, least) = (unused_map unused, least)
    target_map (Some a_refusal.BadPath) never = never
    target_map (Some a_refusal.NotThere) never = never
    target_map (Some a_refusal.NotTracked) never = never
    target_map (Some a_refusal.Special) never = never
    target_map (Some (a_refusal.Clash other)) (unused, least) = (unused_map unused, least)
    target_map (Some a_refusal.Changed) never = never
    target_map (Some a_refusal.Added) never = never
    target_map (Some a_refusal.StillThere) never = never
    target_map (Some a_refusal.Exists) (inl is) = inl is
    target_map (Some a_refusal.Exists) (inr taken) = inr (known (IsTaken to) taken)

    source_map : (refused : Option Refusal) → RefusesSource from K refused → RefusesSource from L refused
    source_map refused source = record { shown = source.shown; by_look = source.by_look; was = known (λ moment. stat_at moment from ≡ source.shown) source.was }

    things_map : (refused : Option CopyRefusal) → RefusesThings from to t K refused → RefusesThings from to t L refused
    things_map None (source, target) = (source_map None source, target_map None target)
    things_map (Some (a_word.Source refusal)) source = source_map (Some refusal) source
    things_map (Some (a_word.Target refusal)) (source, target) = (source_map None source, target_map (Some refusal) target)

    copy_map : (refused : Option CopyRefusal) → RefusesCopy from to t K refused → RefusesCopy from to t L refused
    copy_map refused = match_map (words_refusal from to t) (RefusesThings from to t K refused) (RefusesThings from to t L refused) (λ why. refused ≡ Some why) (things_map refused)

  seen_exact : (a b : History) (refused : Option CopyRefusal) → Passes a b → IsOurs a b → RefusesCopy from to t (During a b) refused → RefusesCopy from to t (At (now a)) refused
  seen_exact a b refused passes ours = copy_map (During a b) (At (now a)) (λ so was. was_first a b so passes ours (was ours.told)) refused

  -- ---- the looks

  no_path : (a : History) (why : CopyRefusal) → words_refusal from to t ≡ Some why → Looked from to t a a (Some why)
  no_path a why is = record { passes = passes_same a; refusal = match_by_some (words_refusal from to t) why (RefusesThings from to t (During a a) (Some why)) is }

  pub untracked_source : (a : History) → is_path from ≡ true → is_path to ≡ true → is_tracked t from ≡ false → Looked from to t a a (Some (a_word.Source a_refusal.NotTracked))
  untracked_source a first second not =
      no_path a (a_word.Source a_refusal.NotTracked) (words_are first second ∙ ap (λ (b : Bool). cond b None (Some (a_word.Source a_refusal.NotTracked))) not)

  module _ (first : is_path from ≡ true) (second : is_path to ≡ true) (tracked : is_tracked t from ≡ true) where
    pub never_idle : (a b : History) → is_some (words_refusal from to t) ≡ true → b ≡ a
    never_idle a b some = absurd (true≢false (sym some ∙ ap is_some (words_none first second tracked)))

    looks_by : (K : Known) (refused : Option CopyRefusal) → RefusesThings from to t K refused → RefusesCopy from to t K refused
    looks_by K refused = match_by_none (words_refusal from to t) (RefusesThings from to t K refused) (λ why. refused ≡ Some why) (words_none first second tracked)

    module _ (a b : History) (passes : Passes a b) (shown : Option Stat) (found : IsTrue a.told → shown ≡ stat_at (now b) from) where
      shows : (refused : Option Refusal) → thing_refusal shown ≡ refused → RefusesSource from (During a b) refused
      shows refused is = record { shown = shown; by_look = is; was = λ told. was_last a b (λ moment. stat_at moment from ≡ shown) passes.past.later (sym (found told)) }

      pub refused_source : (refusal : Refusal) → thing_refusal shown ≡ Some refusal → Looked from to t a b (Some (a_word.Source refusal))
      refused_source refusal is = record { passes = passes; refusal = looks_by (During a b) (Some (a_word.Source refusal)) (shows (Some refusal) is) }

      module _ (c : History) (more : Passes b c) (can : thing_refusal shown ≡ None) where
        source_on : RefusesSource from (During a c) None
        source_on = source_map (During a b) (During a c) (λ so was told. was_wider a a b c so (omega arith) more.past (was told)) None (shows None can)

        target_on : (refused : Option Refusal) → RefusesTarget to t (During b c) refused → RefusesTarget to t (During a c) refused
        target_on = target_map (During b c) (During a c) (λ so was told. was_wider a b c c so passes.past.later (passes_same c).past (was (passes.past.told ∙ told)))

        pub refused_target : (refusal : Refusal) → RefusesTarget to t (During b c) (Some refusal) → Looked from to t a c (Some (a_word.Target refusal))
        refused_target refusal target = record {
          passes = passes_trans a b c passes more;
          refusal = looks_by (During a c) (Some (a_word.Target refusal)) (source_on, target_on (Some refusal) target);
        }

        pub free_target : RefusesTarget to t (During b c) None → Looked from to t a c None
        free_target target = record { passes = passes_trans a b c passes more; refusal = looks_by (During a c) None (source_on, target_on None target) }

  pub shown_was : (a b c : History) → Passes a b → Passes b c → (stat : Stat) → (IsTrue a.told → Some stat ≡ stat_at (now b) from) → IsTrue a.told → WasStat from stat a c
  shown_was a b c passes more stat found told =
      was_wider a a b c (λ moment. stat_at moment from ≡ Some stat) (omega arith) more.past
      (was_last a b (λ moment. stat_at moment from ≡ Some stat) passes.past.later (sym (found told)))

  -- ---- nothing was done

  pub copying_none : (a b : History) (result : Result (Option CopyRefusal) OpFault) → Passes a b → (IsTrue a.told → b.asked ≡ a.asked) → (is_some (words_refusal from to t) ≡ true → b ≡ a)
      → IfOk result (λ refused. (why : CopyRefusal) × (refused ≡ Some why) × Looked from to t a b (Some why)) → IsCopying from to t a b result
  copying_none a b result passes unasked idle looks = record {
    works = record {
      past = passes.past;
      copies = λ told. inl (record { passes = passes; unasked = unasked told });
      only = λ told. changes_passes (to ∷ []) a b passes;
      idle = idle;
    };
    comes = comes result looks;
    exact = exact result looks;
  }
    where
      comes : (result : Result (Option CopyRefusal) OpFault) → IfOk result (λ refused. (why : CopyRefusal) × (refused ≡ Some why) × Looked from to t a b (Some why)) → IfOk result (Comes from to t a b)
      comes (Ok refused) (why, is, looked) = subst (Comes from to t a b) (sym is) (inl looked)
      comes (Err fault) looks = tt

      exact : (result : Result (Option CopyRefusal) OpFault) → IfOk result (λ refused. (why : CopyRefusal) × (refused ≡ Some why) × Looked from to t a b (Some why)) → IsOurs a b
          → IfOk result (IsExact from to t a b)
      exact (Ok refused) (why, is, looked) ours =
          subst (IsExact from to t a b) (sym is) (record { refusal = seen_exact a b (Some why) passes ours looked.refusal; leaves = passes })
      exact (Err fault) looks ours = tt

  pub copying_words : (a : History) (why : CopyRefusal) → words_refusal from to t ≡ Some why → IsCopying from to t a a (Ok (Some why))
  copying_words a why is = copying_none a a (Ok (Some why)) (passes_same a) (λ told. refl) (λ some. refl) (why, refl, no_path a why is)

  -- ---- what can be copied

  thing_small : (thing : Thing) (time : Time) → is_short_thing thing ≡ true → (stat_of thing time).kind ≡ a_kind.Link → (stat_of thing time).size ≤ 65536
  thing_small (a_thing.File exec bytes) time short link = absurd (cc link)
  thing_small (a_thing.Link bytes) time short link = let small = leb-true (length bytes) 4095 short in omega (arith, small)
  thing_small a_thing.Dir time short link = absurd (cc link)
  thing_small a_thing.Other time short link = absurd (cc link)

  link_small : (there : Option Placed) (stat : Stat) → option_map (λ placed. stat_of placed.thing placed.mtime) there ≡ Some stat → is_short there ≡ true → IsOnePiece stat
  link_small None stat shown short link = absurd (cc shown)
  link_small (Some placed) stat shown short link =
      let same : stat_of placed.thing placed.mtime ≡ stat = some_is (stat_of placed.thing placed.mtime) stat shown in
      subst (λ (s : Stat). s.size ≤ 65536) same (thing_small placed.thing placed.mtime short (ap (λ (s : Stat). s.kind) same ∙ link))

  readable_thing : (thing : Thing) (time : Time) → is_file (stat_of thing time).kind ≡ true → (bytes : List ℕ) × (bytes_of thing ≡ Some bytes)
  readable_thing (a_thing.File exec bytes) time is = (bytes, refl)
  readable_thing (a_thing.Link bytes) time is = (bytes, refl)
  readable_thing a_thing.Dir time is = absurd (true≢false (sym is))
  readable_thing a_thing.Other time is = absurd (true≢false (sym is))

  abbrev is_file_stat : Option Stat → Bool
  is_file_stat None = false
  is_file_stat (Some stat) = is_file stat.kind

  readable : (there : Option Placed) → is_file_stat (option_map (λ placed. stat_of placed.thing placed.mtime) there) ≡ true
      → (bytes : List ℕ) × (option_and_then (λ placed. bytes_of placed.thing) there ≡ Some bytes)
  readable None is = absurd (true≢false (sym is))
  readable (Some placed) is = readable_thing placed.thing placed.mtime is

  short_there : (there : Option Placed) (thing : Thing) → option_map (λ placed. placed.thing) there ≡ Some thing → is_short there ≡ is_short_thing thing
  short_there None thing is = absurd (cc is)
  short_there (Some placed) thing is = ap short_of is
    where
      short_of : Option Thing → Bool
      short_of None = false
      short_of (Some thing) = is_short_thing thing

  module _ (a b : History) (stat : Stat) (looks : Looks from to t a b (a_look.Free stat)) where
    looked : Looked from to t a b None
    looked = looks.0

    free : (words_refusal from to t ≡ None) × RefusesThings from to t (During a b) None
    free = match_none (words_refusal from to t) (RefusesThings from to t (During a b) None) looked.refusal

    module _ (ours : IsOurs a b) where
      first_moment : (so : Moment → Type 0) → Was a b so → so (now b)
      first_moment so was = subst so (sym (now_same a b looked.passes ours)) (was_first a b so looked.passes ours was)

      shown : stat_at (now b) from ≡ Some stat
      shown = first_moment (λ moment. stat_at moment from ≡ Some stat) (looks.2 ours.told).0

      bytes_are : (bytes : List ℕ) × (bytes_at (now b) from ≡ Some bytes)
      bytes_are = readable ((now b).things from) (ap is_file_stat shown ∙ looks.1)

      can_copy : CanCopy from to stat bytes_are.0 (now b)
      can_copy = record {
        shown = shown;
        read = bytes_are.1;
        short =
            sym (short_there ((now b).things from) (put_thing stat.kind stat.exec bytes_are.0) (there_is ((now b).things from) stat bytes_are.0 shown bytes_are.1).0)
            ∙ ((looks.2 ours.told).1.each b.last (omega arith)).short from;
        here = first_moment (λ moment. moment.things to ≡ None) (free.1.1.0.vacant.here ours.told);
        above = λ dir below. first_moment (IsDirOrNone dir) (free.1.1.0.vacant.above dir below ours.told);
        apart = false_from_ne_true (bytes_eq from to) (λ h. true≢false (sym (words_tracked free.0) ∙ ap (is_tracked t) (same_bytes from to h) ∙ free.1.1.0.untracked));
        beside = (or_parts (is_below from to) (is_below to from) (ap (λ (b : Bool). b && (is_below from to || is_below to from)) (sym (words_tracked free.0)) ∙ free.1.1.1 from)).0;
      }

    module _ (c : History) (unasked : IsTrue a.told → b.asked ≡ a.asked) (result : Result (Option CopyRefusal) OpFault) (put : IsPutting from to stat b c result) where
      told_on : IsTrue a.told → IsTrue b.told
      told_on told = looked.passes.past.told ∙ told

      one_piece : IsTrue b.told → IsOnePiece stat
      one_piece told =
          let shows = looks.2 (sym looked.passes.past.told ∙ told) in
          link_small ((b.at shows.0.moment).things from) stat shows.0.is ((shows.1.each shows.0.moment shows.0.upto).short from)

      works : Works from to t a c result
      works = record {
        past = extends_trans a b c looked.passes.past put.past;
        copies = λ told.
            inr (record {
              mid = b;
              looked = looked;
              unasked = unasked told;
              stat = stat;
              shown = (looks.2 told).0;
              past = put.past;
              reads = put.reads (told_on told);
              puts = some_put from to stat b c result (put.puts one_piece) (told_on told);
            });
        only = λ told. changes_trans (to ∷ []) a b c put.past (changes_passes (to ∷ []) a b looked.passes) (put.only (told_on told));
        idle = λ some. absurd (true≢false (sym some ∙ ap is_some free.0));
      }

      comes : (answer : Result (Option CopyRefusal) OpFault) → IsPutting from to stat b c answer → IfOk answer (Comes from to t a c)
      comes (Ok None) is = record {
        mid = b;
        looked = looked;
        past = is.past;
        stat = stat;
        shown = λ told. (looks.2 told).0;
        ends = is.puts one_piece;
      }
      comes (Ok (Some refusal)) is = inr (record {
        mid = b;
        looked = looked;
        past = is.past;
        stat = stat;
        shown = λ told. (looks.2 told).0;
        ends = is.puts one_piece;
      })
      comes (Err fault) is = tt

      exact : (answer : Result (Option CopyRefusal) OpFault) → IsPutting from to stat b c answer → IsOurs a c → IfOk answer (IsExact from to t a c)
      exact (Ok refused) is ours =
          let ours_first_part = ours_first a b c is.past ours in
          let whole = is.whole (ours_second a b c looked.passes.past ours) (bytes_are ours_first_part).0 (can_copy ours_first_part) in
          subst (IsExact from to t a c) (sym whole.none)
          (record {
            refusal = seen_exact a b None looked.passes ours_first_part looked.refusal;
            leaves = subst (λ (m : Moment). HasCopy from to m (now c)) (now_same a b looked.passes ours_first_part) whole.copy;
          })
      exact (Err fault) is ours = tt

      pub copying : IsCopying from to t a c result
      copying = record { works = works; comes = comes result put; exact = exact result put }

-- ---- both together

pub copies_of : (from to : List ℕ) (a c : History) (old new : Held) (result : Result (Option CopyRefusal) OpFault) → IsCopying from to (table old) a c result → Tables from to old new result
    → IfOk result (λ refused. Copies from to a c (table old) refused (table new))
copies_of from to a c old new (Ok refused) course tables = record { comes = course.comes; table = tables.made; exact = course.exact }
copies_of from to a c old new (Err fault) course tables = tt
