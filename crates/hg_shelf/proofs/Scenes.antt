-- What is known of the last scene of a course, carried over the steps of the caller and of others.
use Rattle.std.proofs.Common.{◌≡◌, ℕ, ◌+◌, ◌-◌, ◌≤◌, zero, suc, List, Some, refl, sym, ◌∙◌, subst, arith, inl, inr, ◌⊎◌, Bool, true}
use Rattle.std.proofs.lemmas.Bool.{cases_lt}
use Rattle.hg_shelf.specs.History.{Files, By, label, readers, Passes}
use Rattle.hg_shelf.specs.Images.{Course, Scene, Goes, Acts, Remains, last_scene, scene}
use Rattle.hg_shelf.specs.Polite.{OthersOnlyRead, Undisturbed}
use Rattle.hg_shelf.specs.Rules.{Changes, Syncs, SyncsNames}
use Rattle.hg_shelf.proofs.Histories.{extends_same, extends_trans}

-- ---- scenes that remain

pub remains_same : (s : Scene) → Remains s s
remains_same s = record { shown = refl; left = λ c is. is; done = λ c is. is }

pub remains_trans : (a b c : Scene) → Remains a b → Remains b c → Remains a c
remains_trans a b c p q = record { shown = q.shown ∙ p.shown; left = λ f is. p.left f (q.left f is); done = λ f is. p.done f (q.done f is) }

-- ---- courses that go on

pub goes_same : (c : Course) → Goes c c
goes_same c = record { past = extends_same c.history; kept = λ k below. remains_same (scene c k); back = λ k below. remains_same (scene c k) }

pub goes_trans : (a b c : Course) → Goes a b → Goes b c → Goes a c
goes_trans a b c p q = record {
  past = extends_trans a.history b.history c.history p.past q.past;
  kept = λ k below. remains_trans (scene a k) (scene b k) (scene c k) (p.kept k below) (q.kept k (omega (arith, below, p.past.later)));
  back = λ k below. remains_trans (scene c k) (scene b k) (scene a k) (q.back k (omega (arith, below, p.past.later))) (p.back k below);
}

-- where others only read over a longer course, they do over its front
pub only_before : (a b : Course) (from : ℕ) → Goes a b → OthersOnlyRead b from → OthersOnlyRead a from
only_before a b from goes only = record {
  same = λ k after before who.
      remains_trans (scene a k) (scene b k) (scene a (k + 1)) (goes.kept k (omega (arith, before)))
      (remains_trans (scene b k) (scene b (k + 1)) (scene a (k + 1)) (only.same k after (omega (arith, before, goes.past.later)) (goes.past.who k before ∙ who)) (goes.back (k + 1) (omega (arith, before))));
}

pub only_later : (a : Course) (from start : ℕ) → from ≤ start → OthersOnlyRead a from → OthersOnlyRead a start
only_later a from start more only = record { same = λ k after before who. only.same k (omega (arith, more, after)) before who }

-- the first and the second part of a call that is undisturbed
pub first_part : (a b c : Course) → Goes b c → Undisturbed a c → Undisturbed a b
first_part a b c q calm = record { told = calm.told; others = only_before b c a.history.last q calm.others }

pub second_part : (a b c : Course) → Goes a b → Undisturbed a c → Undisturbed b c
second_part a b c p calm = record { told = p.past.told ∙ calm.told; others = only_later c a.history.last b.history.last p.past.later calm.others }

-- ---- what is known of a scene

-- what reads show, what a crash may leave, and what of it has all names done
pub record Knows (s : Scene) (S Q R : Files → Type 0) : Type 0 where
  pub shown : S s.files
  pub left : (c : Files) → s.leaves c → Q c
  pub done : (c : Files) → s.named c → R c

-- what reads show, and what a crash may leave
pub record Has (s : Scene) (O P : Files → Type 0) : Type 0 where
  pub shown : O s.files
  pub left : (c : Files) → s.leaves c → P c

-- a course has gone on; what is known of its last scene, and what each moment since has
pub record Carried (old new : Course) (S Q R O P : Files → Type 0) : Type 0 where
  pub past : Goes old new
  pub ours : new.history.ours ≡ true
  pub knows : Knows (last_scene new) S Q R
  pub each : (k : ℕ) → old.history.last ≤ k → k ≤ new.history.last → Has (scene new k) O P

pub knows_still : (a b : Scene) (S Q R : Files → Type 0) → Remains a b → Knows a S Q R → Knows b S Q R
knows_still a b S Q R still knows = record {
  shown = subst S (sym still.shown) knows.shown;
  left = λ c is. knows.left c (still.left c is);
  done = λ c is. knows.done c (still.done c is);
}

has_still : (a b : Scene) (O P : Files → Type 0) → Remains a b → Has a O P → Has b O P
has_still a b O P still has = record { shown = subst O (sym still.shown) has.shown; left = λ c is. has.left c (still.left c is) }

has_known : (s : Scene) (S Q R : Files → Type 0) → Knows s S Q R → Has s S Q
has_known s S Q R knows = record { shown = knows.shown; left = knows.left }

-- what was known of a moment is known after so many steps of others
stays_over : (c : Course) (from n k : ℕ) (S Q R : Files → Type 0) → k ≡ from + n → OthersOnlyRead c from → By readers c.history from k → k ≤ c.history.last → Knows (scene c from) S Q R → Knows (scene c k) S Q R
stays_over c from zero k S Q R at only by within knows = subst (λ (m : ℕ). Knows (scene c m) S Q R) (omega (arith, at)) knows
stays_over c from (suc n) k S Q R at only by within knows =
    let next : from + n + 1 ≡ k = omega (arith, at) in
    let before : Knows (scene c (from + n)) S Q R = stays_over c from n (from + n) S Q R refl only (λ j after below. by j after (omega (arith, below, next))) (omega (arith, within, next)) knows in
    let step : Remains (scene c (from + n)) (scene c (from + n + 1)) = only.same (from + n) (omega arith) (omega (arith, within, next)) (by (from + n) (omega arith) (omega (arith, next))) in
    subst (λ (m : ℕ). Knows (scene c m) S Q R) next (knows_still (scene c (from + n)) (scene c (from + n + 1)) S Q R step before)

pub stays_until : (c : Course) (from to k : ℕ) (S Q R : Files → Type 0) → OthersOnlyRead c from → By readers c.history from to → to ≤ c.history.last → Knows (scene c from) S Q R → from ≤ k → k ≤ to → Knows (scene c k) S Q R
stays_until c from to k S Q R only by within knows after before =
    stays_over c from (k - from) k S Q R (omega (arith, after)) only (λ j late early. by j late (omega (arith, early, before))) (omega (arith, before, within)) knows

-- what is known of the last scene of a course is known of the same moment later on
pub knows_later : (a b : Course) (S Q R : Files → Type 0) → Goes a b → Knows (last_scene a) S Q R → Knows (scene b a.history.last) S Q R
knows_later a b S Q R goes knows = knows_still (scene a a.history.last) (scene b a.history.last) S Q R (goes.kept a.history.last (omega arith)) knows

-- ---- how a course is carried

pub starts : (c : Course) → c.history.ours ≡ true → Carried c c (λ f. f ≡ (last_scene c).files) (last_scene c).leaves (last_scene c).named (λ f. f ≡ (last_scene c).files) (last_scene c).leaves
starts c ours = record {
  past = goes_same c;
  ours = ours;
  knows = record { shown = refl; left = λ f is. is; done = λ f is. is };
  each = λ k after before. subst (λ (m : ℕ). Has (scene c m) (λ f. f ≡ (last_scene c).files) (last_scene c).leaves) (omega (arith, after, before)) (record { shown = refl; left = λ f is. is });
}

readers_by : (old new : Course) (from to : ℕ) → old.history.ours ≡ true → By (label old.history.ours) new.history from to → By readers new.history from to
readers_by old new from to ours by = subst (λ (b : Bool). By (label b) new.history from to) ours by

-- the caller made no step
pub passes : (old new : Course) (S Q R : Files → Type 0) → old.history.ours ≡ true → Goes old new → Passes old.history new.history → OthersOnlyRead new old.history.last → Knows (last_scene old) S Q R → Carried old new S Q R S Q
passes old new S Q R ours goes none only knows =
    let by : By readers new.history old.history.last new.history.last = readers_by old new old.history.last new.history.last ours none.by_others in
    let start : Knows (scene new old.history.last) S Q R = knows_later old new S Q R goes knows in
    record {
      past = goes;
      ours = none.ours ∙ ours;
      knows = stays_until new old.history.last new.history.last new.history.last S Q R only by (omega arith) start goes.past.later (omega arith);
      each = λ k after before. has_known (scene new k) S Q R (stays_until new old.history.last new.history.last k S Q R only by (omega arith) start after before);
    }

-- one step of the caller's, by a rule that leads from what was known to what is known then
pub acts : (rule : Scene → Scene → Type 0) (old new : Course) (S Q R S' Q' R' : Files → Type 0) → old.history.ours ≡ true → new.history.ours ≡ old.history.ours → Goes old new → Acts rule old new → OthersOnlyRead new old.history.last
    → Knows (last_scene old) S Q R → ((k : ℕ) → rule (scene new k) (scene new (k + 1)) → Knows (scene new k) S Q R → Knows (scene new (k + 1)) S' Q' R') → Carried old new S' Q' R' (λ c. S c ⊎ S' c) (λ c. Q c ⊎ Q' c)
acts rule old new S Q R S' Q' R' ours still goes own only knows leads =
    let before : By readers new.history old.history.last own.place = readers_by old new old.history.last own.place ours own.before in
    let behind : By readers new.history (own.place + 1) new.history.last = readers_by old new (own.place + 1) new.history.last ours own.behind in
    let start : Knows (scene new old.history.last) S Q R = knows_later old new S Q R goes knows in
    let there : Knows (scene new own.place) S Q R = stays_until new old.history.last own.place own.place S Q R only before (omega (arith, own.to)) start own.from (omega arith) in
    let next : Knows (scene new (own.place + 1)) S' Q' R' = leads own.place own.step there in
    let only_behind : OthersOnlyRead new (own.place + 1) = only_later new old.history.last (own.place + 1) (omega (arith, own.from)) only in
    record {
      past = goes;
      ours = still ∙ ours;
      knows = stays_until new (own.place + 1) new.history.last new.history.last S' Q' R' only_behind behind (omega arith) next (omega (arith, own.to)) (omega arith);
      each = λ k after below. elim (cases_lt own.place k) [
        | inl late ↦
            let known = stays_until new (own.place + 1) new.history.last k S' Q' R' only_behind behind (omega arith) next (omega (arith, late)) below in
            record { shown = inr known.shown; left = λ c is. inr (known.left c is) }
        | inr early ↦
            let known = stays_until new old.history.last own.place k S Q R only before (omega (arith, own.to)) start after early in
            record { shown = inl known.shown; left = λ c is. inl (known.left c is) }
      ];
    }

-- one part after another
pub goes_on : (a b c : Course) (S Q R O P S' Q' R' O' P' : Files → Type 0) → Carried a b S Q R O P → Carried b c S' Q' R' O' P' → ((f : Files) → O' f → O f) → ((f : Files) → P' f → P f) → Carried a c S' Q' R' O P
goes_on a b c S Q R O P S' Q' R' O' P' first second weaken_shown weaken = record {
  past = goes_trans a b c first.past second.past;
  ours = second.ours;
  knows = second.knows;
  each = λ k after before. elim (cases_lt b.history.last k) [
    | inl late ↦
        let has = second.each k (omega (arith, late)) before in
        record { shown = weaken_shown (scene c k).files has.shown; left = λ f is. weaken f (has.left f is) }
    | inr early ↦ has_still (scene b k) (scene c k) O P (second.past.kept k early) (first.each k after early)
  ];
}

pub weaker : (a b : Course) (S Q R O P S' Q' R' O' P' : Files → Type 0) → ((f : Files) → S f → S' f) → ((f : Files) → Q f → Q' f) → ((f : Files) → R f → R' f) → ((f : Files) → O f → O' f) → ((f : Files) → P f → P' f)
    → Carried a b S Q R O P → Carried a b S' Q' R' O' P'
weaker a b S Q R O P S' Q' R' O' P' shown left done seen each carried = record {
  past = carried.past;
  ours = carried.ours;
  knows = record { shown = shown (last_scene b).files carried.knows.shown; left = λ c is. left c (carried.knows.left c is); done = λ c is. done c (carried.knows.done c is) };
  each = λ k after before. let has = carried.each k after before in record { shown = seen (scene b k).files has.shown; left = λ c is. each c (has.left c is) };
}

-- ---- what the rules lead to

-- the strongest that is known after a change
pub changes : (shows leaves names : Files → Files → Type 0) (a b : Scene) (S Q R : Files → Type 0) → Changes shows leaves names a b → Knows a S Q R
    → Knows b (λ c. (d : Files) × S d × shows d c) (λ c. (d : Files) × Q d × leaves d c) (λ c. (d : Files) × R d × names d c)
changes shows leaves names a b S Q R rule knows = record {
  shown = (a.files, knows.shown, rule.shown);
  left = λ c is. let was = rule.left c is in (was.0, knows.left was.0 was.1, was.2);
  done = λ c is. let was = rule.done c is in (was.0, knows.done was.0 was.1, was.2);
}

-- a file is sure, whose bytes are known
pub syncs : (name bytes : List ℕ) (a b : Scene) (S Q R : Files → Type 0) → ((f : Files) → S f → f name ≡ Some bytes) → Syncs name a b → Knows a S Q R → Knows b S (λ c. Q c × (c name ≡ Some bytes)) R
syncs name bytes a b S Q R known rule knows = record {
  shown = subst S (sym rule.same.shown) knows.shown;
  left = λ c is. (knows.left c (rule.same.left c is), rule.sure bytes c (known a.files knows.shown) is);
  done = λ c is. knows.done c (rule.same.done c is);
}

-- all names are sure
pub syncs_names : (a b : Scene) (S Q R : Files → Type 0) → SyncsNames a b → Knows a S Q R → Knows b S R R
syncs_names a b S Q R rule knows = record {
  shown = subst S (sym rule.same.shown) knows.shown;
  left = λ c is. knows.done c (rule.sure c is);
  done = λ c is. knows.done c (rule.same.done c is);
}
