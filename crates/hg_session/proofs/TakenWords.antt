-- The words of `remove`, one after another: what becomes of the working copy, and what is asked below `.hg`.
use Rattle.std.proofs.Common.{ℕ, zero, suc, ◌≡◌, ◌+◌, ◌<◌, ◌≤◌, ◌*◌, ◌||◌, ◌⊎◌, Bool, true, false, List, [], ◌∷◌, ◌++◌, replicate, take, drop, Option, Some, Result, Err, IsTrue, codes, inl, inr, refl, sym, ap, ◌∙◌, subst, arith}
use Rattle.std.specs.List.{AllByRecursion, list_any, slice_get}
use Rattle.std.specs.Str.{bytes_eq}
use Rattle.std.proofs.lemmas.Bool.{cases_Bool}
use Rattle.std.proofs.lemmas.List.{append-nil, append_assoc}
use Rattle.hg_base.specs.Fault.{HasCause, Rose}
use Rattle.hg_base.specs.PathText.{is_below}
use Rattle.hg_compare.specs.Same.{InPieces}
use Rattle.hg_entry.specs.Table.{Table}
use Rattle.hg_mixed.specs.Held.{Held}
use Rattle.hg_ops.specs.Cause.{HasOpCause}
use Rattle.hg_ops.specs.Parent.{HasStoreCause, Span, upto}
use Rattle.hg_ops.specs.Remove as one
use Rattle.hg_ops.specs.Remove.{MetRemoving, NeedsRow, ReadsWord, Takes, may_take, needs_row}
use Rattle.hg_ops.specs.Step.{IsForgotten}
use Rattle.hg_ops.specs.declared.refusal.OpFault.{OpFault}
use Rattle.hg_ops.specs.declared.refusal.OpFault.TheVariants as an_op
use Rattle.hg_ops.specs.declared.refusal.Refusal.{Refusal}
use Rattle.hg_session.specs.Acts.{Deed, IsActed, IsMadeInFront, IsWordRead, NeedsSome, OnlyTakes, ReadsWords, StopsRemoving, Stepping, TakesAway, forgets, span_of}
use Rattle.hg_session.specs.Call.{Watched}
use Rattle.hg_session.proofs.Acted.{acted_wide, steps_more, words_more}
use Rattle.hg_session.proofs.SoFar.{SoFar, word_more}
use Rattle.hg_ops.proofs.Added.{same_table}
use Rattle.hg_shelf.specs.History as shelf
use Rattle.hg_shelf.proofs.Histories as shelves
use Rattle.hg_tree.specs.History.{Extends, History, Passes}
use Rattle.hg_tree.specs.Moment.{Things, is_among}
use Rattle.hg_tree.specs.Touched.{ChangesOnly, TouchesOnly}
use Rattle.hg_tree.specs.declared.asked.Asked.{Asked}
use Rattle.hg_tree.specs.declared.asked.Asked.TheVariants as an_ask
use Rattle.hg_tree.proofs.Histories.{extends_same, extends_trans}
use Rattle.hg_tree.proofs.Spans.{passes_same, passes_trans}
use Rattle.hg_tree.proofs.Touching.{changes_trans}

-- ---- a word among others

or_true : (a b : Bool) → b ≡ true → (a || b) ≡ true
or_true true b is = refl
or_true false b is = is

-- what passes a test at a place passes it somewhere
pub found_at : (test : List ℕ → Bool) (words : List (List ℕ)) (i : ℕ) (word : List ℕ) → slice_get words i ≡ Some word → test word ≡ true → list_any test words ≡ true
found_at test [] i word is passes = absurd (cc is)
found_at test (first ∷ words) zero word is passes =
    let same : first ≡ word = cc is in
    ap (λ (b : Bool). b || list_any test words) (ap test same ∙ passes)
found_at test (first ∷ words) (suc i) word is passes = or_true (test first) (list_any test words) (found_at test words i word is passes)

module _ (words : List (List ℕ)) (i : ℕ) (word : List ℕ) (is : slice_get words i ≡ Some word) where
  -- what isn't among the words isn't the word
  not_word : (at : List ℕ) → is_among at words ≡ false → is_among at (word ∷ []) ≡ false
  not_word at none = elim (cases_Bool (bytes_eq at word)) [
    | inl same ↦ absurd (cc (found_at (bytes_eq at) words i word is same, none))
    | inr apart ↦ ap (λ (b : Bool). b || false) apart
  ]

  not_above : (at : List ℕ) → list_any (is_below at) words ≡ false → list_any (is_below at) (word ∷ []) ≡ false
  not_above at none = elim (cases_Bool (is_below at word)) [
    | inl above ↦ absurd (cc (found_at (is_below at) words i word is above, none))
    | inr apart ↦ ap (λ (b : Bool). b || false) apart
  ]

  touches_more : (before after : Things) → TouchesOnly (word ∷ []) before after → TouchesOnly words before after
  touches_more before after touches = record {
    above = λ at none above. elim (cases_Bool (list_any (is_below at) (word ∷ []))) [
      | inl up ↦ touches.above at (not_word at none) up
      | inr far ↦ inl (touches.apart at (not_word at none) far)
    ];
    apart = λ at none far. touches.apart at (not_word at none) (not_above at far);
  }

  changes_more : (old new : History) → ChangesOnly (word ∷ []) old new → ChangesOnly words old new
  changes_more old new changes k from upto ours = touches_more (new.at k).things (new.at (suc k)).things (changes k from upto ours)

-- ---- the words in front

split_at : (words : List (List ℕ)) (i : ℕ) (word : List ℕ) → slice_get words i ≡ Some word → words ≡ take i words ++ word ∷ drop (suc i) words
split_at [] i word is = absurd (cc is)
split_at (first ∷ words) zero word is = ap (λ (w : List ℕ). w ∷ words) (cc is)
split_at (first ∷ words) (suc i) word is = ap (λ (l : List (List ℕ)). first ∷ l) (split_at words i word is)

pub front_none : (loaded : Table) (start : History) → IsMadeInFront [] loaded start start loaded
front_none loaded start = record { deeds = []; all = refl; steps = (refl, same_table loaded) }

pub front_more : (words : List (List ℕ)) (i : ℕ) (word : List ℕ) → slice_get words i ≡ Some word → (loaded was made : Table) (start mid at : History) → IsMadeInFront (take i words) loaded start mid was → Extends mid at
    → (refused : Option Refusal) → IsForgotten word refused was made → IsMadeInFront (take (i + 1) words) loaded start at made
front_more words i word is loaded was made start mid at front past refused forgotten =
    let last : Deed = record { word = word; refused = refused } in
    record {
      deeds = front.deeds ++ last ∷ [];
      all = sym (words_more [] forgets mid at last front.deeds) ∙ ap (λ (l : List (List ℕ)). l ++ word ∷ []) front.all ∙ sym (word_more words i word is);
      steps = steps_more [] forgets mid at last start front.deeds loaded was made front.steps (record { past = past; made = forgotten });
    }

-- ---- the working copy

pub takes_extends : (may : Bool) (word : List ℕ) (old new : History) → Takes may word old new → Extends old new
takes_extends true word old new takes = takes.0
takes_extends false word old new takes = takes.past

takes_none : (after : Bool) (result : Result (Option Refusal) OpFault) (word : List ℕ) (old new : History) → Takes (may_take after result) word old new → after ≡ true → Passes old new
takes_none true result word old new takes is = takes
takes_none false result word old new takes is = absurd (cc is)

few_none : (pieces size : ℕ) → 65536 * pieces < size + 65536 → size ≡ 0 → pieces ≡ 0
few_none zero size few none = refl
few_none (suc pieces) size few none = absurd (omega (arith, few, none))

module _ (after : Bool) (words : List (List ℕ)) (loaded : Table) (start mid at : History) (first : Extends start mid) (second : Extends mid at) (before during end : ℕ) where
  abbrev part : Watched History
  part = record { old = start; new = mid; before = before; after = during }

  abbrev whole : Watched History
  whole = record { old = start; new = at; before = before; after = end }

  abbrev needs_wide : NeedsSome after words loaded part → NeedsSome after words loaded whole
  needs_wide some = record {
    front = some.front;
    word = some.word;
    rest = some.rest;
    all = some.all;
    old = some.old;
    new = some.new;
    before = some.before;
    behind = extends_trans some.new mid at some.behind second;
    was = some.was;
    made = some.made;
    need = some.need;
  }

  reads_both : (some more : List Asked) → AllByRecursion (IsWordRead after words loaded part) some → AllByRecursion (IsWordRead after words loaded whole) more → AllByRecursion (IsWordRead after words loaded whole) (some ++ more)
  reads_both [] more each rest = rest
  reads_both (ask ∷ some) more each rest = ((needs_wide each.0.0, each.0.1), reads_both some more each.1 rest)

  reads_many : (ask : Asked) (n : ℕ) → IsWordRead after words loaded whole ask → AllByRecursion (IsWordRead after words loaded whole) (replicate n ask)
  reads_many ask zero is = tt
  reads_many ask (suc n) is = (is, reads_many ask n is)

  module _ (word : List ℕ) (i : ℕ) (is : slice_get words i ≡ Some word) (t : Table) (made : IsMadeInFront (take i words) loaded start mid t) where
    abbrev word_needs : NeedsRow (needs_row after word t) word mid at → NeedsSome after words loaded whole
    word_needs need = record {
      front = take i words;
      word = word;
      rest = drop (suc i) words;
      all = split_at words i word is;
      old = mid;
      new = at;
      before = first;
      behind = extends_same at;
      was = t;
      made = made;
      need = need;
    }

    word_reads : (read : ReadsWord (needs_row after word t) word mid at) (pieces : InPieces read.size (an_ask.Read word) mid.asked at.asked)
        → AllByRecursion (IsWordRead after words loaded whole) (replicate pieces.pieces (an_ask.Read word))
    word_reads read pieces = elim read.needed [
      | inl none ↦
          subst (λ (n : ℕ). AllByRecursion (IsWordRead after words loaded whole) (replicate n (an_ask.Read word))) (sym (few_none pieces.pieces read.size pieces.few none)) tt
      | inr need ↦ reads_many (an_ask.Read word) pieces.pieces (word_needs need.0, refl)
    ]

    reads_more : (IsTrue start.told → ReadsWords after words loaded part) → ReadsWord (needs_row after word t) word mid at → IsTrue start.told → ReadsWords after words loaded whole
    reads_more reads read told =
        let was = reads told in
        let pieces = read.asked (first.told ∙ told) in
        record {
          more = was.more ++ replicate pieces.pieces (an_ask.Read word);
          asked =
              pieces.asked ∙ ap (λ (l : List Asked). l ++ replicate pieces.pieces (an_ask.Read word)) was.asked
              ∙ append_assoc start.asked was.more (replicate pieces.pieces (an_ask.Read word));
          each = reads_both was.more (replicate pieces.pieces (an_ask.Read word)) was.each (word_reads read pieces);
        }

    -- nothing was asked below `.hg`, or a row was needed
    pub needed_more : (a b c : shelf.History) → (b.asked ≡ a.asked) ⊎ NeedsSome after words loaded part → (c.asked ≡ b.asked) ⊎ NeedsRow (needs_row after word t) word mid at
        → (c.asked ≡ a.asked) ⊎ NeedsSome after words loaded whole
    needed_more a b c was (inr need) = inr (word_needs need)
    needed_more a b c (inr some) (inl same) = inr (needs_wide some)
    needed_more a b c (inl none) (inl same) = inl (same ∙ none)

-- one word more
pub takes_more : (after : Bool) (words : List (List ℕ)) (loaded : Table) (i : ℕ) (word : List ℕ) → slice_get words i ≡ Some word → (start mid at : History) (before during end : ℕ)
    → OnlyTakes after words loaded (record { old = start; new = mid; before = before; after = during }) → (result : Result (Option Refusal) OpFault) → Takes (may_take after result) word mid at
    → (IsTrue mid.told → ChangesOnly (word ∷ []) mid at) → (t : Table) → IsMadeInFront (take i words) loaded start mid t → ReadsWord (needs_row after word t) word mid at
    → OnlyTakes after words loaded (record { old = start; new = at; before = before; after = end })
takes_more after words loaded i word is start mid at before during end so_far result takes touches t made read =
    let past = takes_extends (may_take after result) word mid at takes in
    record {
      past = extends_trans start mid at so_far.past past;
      gone = λ gone. passes_trans start mid at (so_far.gone gone) (takes_none after result word mid at takes gone);
      only = λ told. changes_trans words start mid at past (so_far.only told) (changes_more words i word is mid at (touches (so_far.past.told ∙ told)));
      reads = reads_more after words loaded start mid at so_far.past past before during end word i is t made so_far.reads read;
    }

pub takes_none_yet : (after : Bool) (words : List (List ℕ)) (loaded : Table) (start : History) (count : ℕ) → OnlyTakes after words loaded (record { old = start; new = start; before = count; after = count })
takes_none_yet after words loaded start count = record {
  past = extends_same start;
  gone = λ gone. passes_same start;
  only = λ told k from upto. absurd (omega (arith, from, upto));
  reads = λ told. record { more = []; asked = sym (append-nil start.asked); each = tt };
}

-- ---- the words so far, by a longer stretch below `.hg`

pub so_far_wide : (name : List ℕ) (Part Whole : Stepping)
    (wide : (before after : History) (word : List ℕ) (old : Table) (refused : Option Refusal) (new : Table) → Part before after word old refused new → Whole before after word old refused new)
    (start at : History) (words : List (List ℕ)) (old new : Held) (lines : List ℕ) (before after : ℕ) → SoFar name Part start at words old new lines before after → SoFar name Whole start at words old new lines before after
so_far_wide name Part Whole wide start at words old new lines before after so_far = record {
  acted = λ unset. acted_wide Part Whole wide name words _ _ _ lines _ (so_far.acted unset);
  image = so_far.image;
  count = so_far.count;
}

-- ---- below `.hg`

-- a stretch that goes on
pub takes_longer : (after : Bool) (s : Span) (end : shelf.History) → shelf.Extends s.new end → (from to : History) (word : List ℕ) (old : Table) (refused : Option Refusal) (new : Table)
    → TakesAway after s from to word old refused new → TakesAway after (upto s end) from to word old refused new
takes_longer after s end past from to word old refused new is = record { end = is.end; within = shelves.extends_trans is.end s.new end is.within past; removes = is.removes; reads = is.reads }

-- what was asked below `.hg`, where a row was needed
pub asks_needed : {Needs : Type 0} (old new : shelf.History) (Asks : Type 0) → (new.asked ≡ old.asked) ⊎ Needs → Asks → (new.asked ≡ old.asked) ⊎ (Needs × Asks)
asks_needed old new Asks (inl none) asks = inl none
asks_needed old new Asks (inr needs) asks = inr (needs, asks)

-- ---- a fault at a word

module _ (after : Bool) (words : List (List ℕ)) (copy : Watched History) (files : Watched shelf.History) (old between : Table) (start : shelf.History) (begun : shelf.Extends files.old start)
    (before during : ℕ) (lines : List ℕ) (changed : Bool) (front : List (List ℕ)) (rest : List (List ℕ)) (all : words ≡ front ++ rest) where
  pub stops_at : (word : List ℕ) (more : List (List ℕ)) → rest ≡ word ∷ more → (mid : History)
      → IsActed (codes "remove") (TakesAway after (span_of old start files.new)) front (record { old = copy.old; new = mid; before = before; after = during }) old between lines changed
      → (fault : OpFault) → Takes (may_take after (Err fault)) word mid copy.new → ReadsWord (needs_row after word between) word mid copy.new
      → MetRemoving (needs_row after word between) word mid copy.new (span_of old start files.new) fault → one.StopsRemoving after word between mid copy.new (span_of old start files.new)
      → StopsRemoving after words copy files old fault
  stops_at word more is mid acted fault takes reads met stopped = inl (record {
    start = start;
    begun = begun;
    deeds = acted.deeds;
    word = word;
    rest = more;
    all = all ∙ ap (λ (l : List (List ℕ)). front ++ l) is ∙ ap (λ (l : List (List ℕ)). l ++ word ∷ more) (sym acted.all);
    mid = mid;
    between = between;
    steps = acted.steps;
    past = takes_extends (may_take after (Err fault)) word mid copy.new takes;
    takes = takes;
    reads = reads;
    end = files.new;
    within = shelves.extends_same files.new;
    met = met;
    stopped = stopped;
  })

  -- there was no memory for a line
  pub stops_behind : IsActed (codes "remove") (TakesAway after (span_of old start files.new)) front (record { old = copy.old; new = copy.new; before = before; after = during }) old between lines changed
      → StopsRemoving after words copy files old an_op.OutOfMemory
  stops_behind acted = inr (record {
    is = refl;
    start = start;
    begun = begun;
    deeds = acted.deeds;
    rest = rest;
    all = all ∙ ap (λ (l : List (List ℕ)). l ++ rest) (sym acted.all);
    between = between;
    steps = acted.steps;
  })

pub split_word : (words : List (List ℕ)) (i : ℕ) (word : List ℕ) → slice_get words i ≡ Some word → words ≡ take i words ++ (word ∷ drop (suc i) words)
split_word words i word is = split_at words i word is

-- the same behind that word
pub split_more : (words : List (List ℕ)) (i : ℕ) (word : List ℕ) → slice_get words i ≡ Some word → words ≡ (take i words ++ word ∷ []) ++ drop (suc i) words
split_more words i word is = split_at words i word is ∙ sym (append_assoc (take i words) (word ∷ []) (drop (suc i) words))

-- ---- counts

op_later : (A : Type 0) (before now : ℕ) (fault : OpFault) → HasOpCause {T = A} before now (Err fault) → before ≤ now
op_later A before now an_op.TreeFailed cause = cause.0
op_later A before now fault cause = omega (arith, cause)

op_rose : (A : Type 0) (before now : ℕ) (fault : OpFault) → HasOpCause {T = A} before now (Err fault) → fault ≡ an_op.TreeFailed → Rose before now
op_rose A before now fault cause is = (subst (λ (f : OpFault). HasOpCause {T = A} before now (Err f)) is cause).1

store_later : (A : Type 0) (before now : ℕ) (fault : OpFault) → HasStoreCause {T = A} before now (Err fault) → before ≤ now
store_later A before now an_op.ShelfFailed cause = cause.0
store_later A before now fault cause = omega (arith, cause)

store_rose : (A : Type 0) (before now : ℕ) (fault : OpFault) → HasStoreCause {T = A} before now (Err fault) → fault ≡ an_op.ShelfFailed → Rose before now
store_rose A before now fault cause is = (subst (λ (f : OpFault). HasStoreCause {T = A} before now (Err f)) is cause).1

-- of a call that ends with this fault, behind others that counted nothing
pub tree_cause : (A : Type 0) {B : Type 0} (first before now : ℕ) (fault : OpFault) → before ≡ first → HasOpCause {T = A} before now (Err fault) → HasCause {T = B} first now (Err fault) (λ e. e ≡ an_op.TreeFailed)
tree_cause A first before now fault same cause = record {
  later = omega (arith, same, op_later A before now fault cause);
  quiet = tt;
  rose = λ is. omega (arith, same, op_rose A before now fault cause is);
}

pub store_cause : (A : Type 0) {B : Type 0} (first before now : ℕ) (fault : OpFault) → before ≡ first → HasStoreCause {T = A} before now (Err fault) → HasCause {T = B} first now (Err fault) (λ e. e ≡ an_op.ShelfFailed)
store_cause A first before now fault same cause = record {
  later = omega (arith, same, store_later A before now fault cause);
  quiet = tt;
  rose = λ is. omega (arith, same, store_rose A before now fault cause is);
}

-- the count of a working copy that failed rose alone
failed_one : (A : Type 0) (before now : ℕ) (fault : OpFault) → HasOpCause {T = A} before now (Err fault) → before < now → fault ≡ an_op.TreeFailed
failed_one A before now an_op.TreeFailed cause rose = refl
failed_one A before now fault cause rose = absurd (omega (arith, cause, rose))

pub tree_failed : (A : Type 0) (first before now : ℕ) (fault : OpFault) → before ≡ first → HasOpCause {T = A} before now (Err fault) → first < now → fault ≡ an_op.TreeFailed
tree_failed A first before now fault same cause rose = failed_one A before now fault cause (omega (arith, same, rose))

-- and of a call that ends with want of memory, which counts nothing
pub memory_cause : {B : Type 0} (before now : ℕ) (IsFailed : OpFault → Type 0) → now ≡ before → (IsFailed an_op.OutOfMemory → ⊥) → HasCause {T = B} before now (Err an_op.OutOfMemory) IsFailed
memory_cause before now IsFailed same never = record { later = omega (arith, same); quiet = tt; rose = λ is. absurd (never is) }
