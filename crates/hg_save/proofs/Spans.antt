-- Where steps keep the bytes that dockets use, the data that dockets name is kept over many of them.
use Rattle.std.proofs.Common.{◌≡◌, ℕ, zero, suc, ◌+◌, ◌-◌, ◌<◌, ◌≤◌, Bool, true, false, cond, List, refl, sym, ◌∙◌, subst, arith, IsTrue, Option, Some, None}
use Rattle.hg_docket.specs.Docket.{docket_of}
use Rattle.hg_shelf.specs.History.{Files, History, Who}
use Rattle.hg_save.specs.Loads.{files_at}
use Rattle.hg_save.specs.Behind.{IsKeepingUsed, IsNotBeyond, KeepsUsed}
use Rattle.hg_save.specs.Others.{HasData, HasFront, IsNotAhead, KeepData, KeepsFront, KeepsStood, StaysFront, UsesData, named_file}
use Rattle.hg_save.specs.Record.{shown_in, id_in}
use Rattle.hg_save.specs.Saved.{used_in}
use Rattle.hg_save.proofs.Names.{never_itself}

-- ---- the front of a file

pub stays_itself : (used : ℕ) (file : Option (List ℕ)) → StaysFront used file file
stays_itself used None = tt
stays_itself used (Some bytes) = λ long. (long, refl)

pub stays_by : (used : ℕ) (old new : Option (List ℕ)) → new ≡ old → StaysFront used old new
stays_by used old new same = subst (StaysFront used old) (sym same) (stays_itself used old)

pub stays_gone : (used : ℕ) (t : Bool) (old : Option (List ℕ)) → StaysFront used old (cond t None old)
stays_gone used true old = tt
stays_gone used false old = stays_itself used old

front_itself : (used : ℕ) (file : Option (List ℕ)) → HasFront used file → KeepsFront used file file
front_itself used None has = absurd has
front_itself used (Some bytes) has = (has, has, refl)

front_on : (used : ℕ) (old mid new : Option (List ℕ)) → KeepsFront used old mid → StaysFront used mid new → KeepsFront used old new
front_on used old mid None keeps stays = tt
front_on used old None (Some new) keeps stays = absurd stays
front_on used None (Some mid) (Some new) keeps stays = absurd keeps
front_on used (Some old) (Some mid) (Some new) keeps stays = let next = stays keeps.1 in (keeps.0, next.0, next.1 ∙ keeps.2)

-- ---- many steps

-- the data that dockets name which have stood since a moment
module _ (h : History) (from : ℕ) (start : HasData (files_at h from)) (keeps : (k : ℕ) → from ≤ k → k < h.last → KeepsStood h from k) where
  has_at : (n k : ℕ) → k ≡ from + n → k ≤ h.last → HasData (files_at h k)
  has_at zero k at within = subst (λ (m : ℕ). HasData (files_at h m)) (omega (arith, at)) start
  has_at (suc n) k at within =
      let next : from + n + 1 ≡ k = omega (arith, at) in
      subst (λ (m : ℕ). HasData (files_at h m)) next ((keeps (from + n) (omega arith) (omega (arith, next, within))).there (has_at n (from + n) refl (omega (arith, next, within))))

  has_from : (k : ℕ) → from ≤ k → k ≤ h.last → HasData (files_at h k)
  has_from k after within = has_at (k - from) k (omega (arith, after)) within

  module _ (k : ℕ) (after : from ≤ k) (uses : UsesData (shown_in (files_at h k))) where
    -- the file of the docket of that moment, at one
    abbrev file_at : ℕ → Option (List ℕ)
    file_at m = named_file (shown_in (files_at h k)) (files_at h m)

    kept_at : (n m : ℕ) → m ≡ k + n → m ≤ h.last → KeepsFront (used_in (files_at h k)) (file_at k) (file_at m)
    kept_at zero m at within =
        subst (λ (j : ℕ). KeepsFront (used_in (files_at h k)) (file_at k) (file_at j)) (omega (arith, at))
        (front_itself (used_in (files_at h k)) (file_at k) (has_from k after (omega (arith, at, within)) uses))
    kept_at (suc n) m at within =
        let next : k + n + 1 ≡ m = omega (arith, at) in
        subst (λ (j : ℕ). KeepsFront (used_in (files_at h k)) (file_at k) (file_at j)) next
        (front_on (used_in (files_at h k)) (file_at k) (file_at (k + n)) (file_at (k + n + 1)) (kept_at n (k + n) refl (omega (arith, next, within)))
        ((keeps (k + n) (omega (arith, after)) (omega (arith, next, within))).kept k after (omega arith) uses))

    kept_from : (m : ℕ) → k ≤ m → m ≤ h.last → KeepsFront (used_in (files_at h k)) (file_at k) (file_at m)
    kept_from m later within = kept_at (m - k) m (omega (arith, later)) within

pub keep_stood : (h : History) (from : ℕ) → IsTrue h.told → HasData (files_at h from) → ((k : ℕ) → from ≤ k → k < h.last → KeepsStood h from k) → KeepData h from
keep_stood h from told start keeps = record {
  told = told;
  there = λ k after within uses. has_from h from start keeps k after within uses;
  kept = λ k m after later within uses. kept_from h from start keeps k after uses m later within;
}

-- ---- the dockets that have stood

-- no docket is beyond itself
not_beyond_itself : (files : Files) → IsNotBeyond files (shown_in files)
not_beyond_itself files = record { ahead = λ n. never_itself n (id_in files); used = λ same. omega arith }

-- what isn't beyond a docket isn't where it stays
pub beyond_still : (x y : Files) → shown_in y ≡ shown_in x → (docket : List ℕ) → IsNotBeyond x docket → IsNotBeyond y docket
beyond_still x y same docket is = record {
  ahead = subst (λ (bytes : List ℕ). IsNotAhead (docket_of bytes).id (docket_of docket).id) (sym same) is.ahead;
  used = subst (λ (bytes : List ℕ). (docket_of docket).id ≡ (docket_of bytes).id → (docket_of docket).used ≤ (docket_of bytes).used) (sym same) is.used;
}

pub keeping_itself : (x : Files) → IsKeepingUsed x x
keeping_itself x = record { kept = λ docket uses beyond. stays_itself (docket_of docket).used (named_file docket x); there = λ has. has; beyond = λ docket is. is }

-- a step that keeps the bytes of all dockets that aren't beyond keeps the data of those that have stood, where none of these is
pub stood_by : (h : History) (from k : ℕ) → IsKeepingUsed (files_at h k) (files_at h (k + 1)) → ((j : ℕ) → from ≤ j → j ≤ k → IsNotBeyond (files_at h k) (shown_in (files_at h j))) → KeepsStood h from k
stood_by h from k step behind = record { kept = λ j after before uses. step.kept (shown_in (files_at h j)) uses (behind j after before); there = step.there }

-- where all steps do, no docket that has stood is beyond
module _ (h : History) (from : ℕ) (keeps : (by : Who) → KeepsUsed by h from) where
  step_at : (k : ℕ) → from ≤ k → k < h.last → IsKeepingUsed (files_at h k) (files_at h (k + 1))
  step_at k after before = (keeps (h.who k)).each k after before refl

  behind_at : (j : ℕ) → from ≤ j → (n k : ℕ) → k ≡ j + n → k ≤ h.last → IsNotBeyond (files_at h k) (shown_in (files_at h j))
  behind_at j after zero k at within = subst (λ (m : ℕ). IsNotBeyond (files_at h m) (shown_in (files_at h j))) (omega (arith, at)) (not_beyond_itself (files_at h j))
  behind_at j after (suc n) k at within =
      let next : j + n + 1 ≡ k = omega (arith, at) in
      subst (λ (m : ℕ). IsNotBeyond (files_at h m) (shown_in (files_at h j))) next
      ((step_at (j + n) (omega (arith, after)) (omega (arith, next, within))).beyond (shown_in (files_at h j)) (behind_at j after n (j + n) refl (omega (arith, next, within))))

  all_stood : (k : ℕ) → from ≤ k → k < h.last → KeepsStood h from k
  all_stood k after before = stood_by h from k (step_at k after before) (λ j since upto. behind_at j since (k - j) k (omega (arith, upto)) (omega (arith, before)))

pub keep_used : (h : History) (from : ℕ) → IsTrue h.told → HasData (files_at h from) → ((by : Who) → KeepsUsed by h from) → KeepData h from
keep_used h from told start keeps = keep_stood h from told start (all_stood h from keeps)
