-- What is kept of the data that dockets name, in the parts of a call.
use Rattle.std.proofs.Common.{ℕ, zero, suc, ◌≡◌, ◌+◌, ◌-◌, ◌<◌, ◌≤◌, IsTrue, refl, sym, ◌∙◌, subst, arith}
use Rattle.hg_docket.specs.Docket.{docket_of}
use Rattle.hg_save.proofs.Spans.{keep_stood, stays_itself}
use Rattle.hg_save.specs.Behind.{KeepsUsed}
use Rattle.hg_save.specs.Loads.{files_at}
use Rattle.hg_save.specs.Others.{HasData, HasFront, KeepData, KeepsFront, KeepsStood, StaysFront, UsesData, named_file, nodes_in}
use Rattle.hg_save.specs.Record.{shown_in}
use Rattle.hg_session.specs.Change.{NoneOurs, up_to}
use Rattle.hg_session.specs.Good.{OthersKeepStood}
use Rattle.hg_shelf.proofs.Histories.{stays_same}
use Rattle.hg_shelf.specs.History.{Extends, Files, History, Who, others, readers, us}
use Rattle.hg_shelf.specs.Images.{Course}
use Rattle.hg_shelf.specs.Polite.{OthersOnlyRead}

module _ (a b : History) (past : Extends a b) where
  there : (k : ℕ) → k ≤ a.last → files_at b k ≡ files_at a k
  there k within = (past.stay k within).shown

  abbrev Has : Files → Type 0
  Has f = UsesData (shown_in f) → HasFront (docket_of (shown_in f)).used (nodes_in f)

  abbrev Keeps : Files → Files → Type 0
  Keeps f g = UsesData (shown_in f) → KeepsFront (docket_of (shown_in f)).used (nodes_in f) (named_file (shown_in f) g)

  -- what is kept throughout was kept before
  pub data_before : (from : ℕ) → KeepData b from → KeepData a from
  data_before from keep = record {
    told = sym past.told ∙ keep.told;
    there = λ k after within. subst Has (there k within) (keep.there k after (omega (arith, within, past.later)));
    kept = λ k m after order within.
        subst (λ (f : Files). Keeps f (files_at a m)) (there k (omega (arith, order, within)))
        (subst (Keeps (files_at b k)) (there m within) (keep.kept k m after order (omega (arith, within, past.later))));
  }

-- and is from a later moment on
pub data_later : (h : History) (from start : ℕ) → from ≤ start → KeepData h from → KeepData h start
data_later h from start order keep = record {
  told = keep.told;
  there = λ k after within. keep.there k (omega (arith, order, after)) within;
  kept = λ k m after between within. keep.kept k m (omega (arith, order, after)) between within;
}

-- a history goes on from each of its moments
pub from_moment : (h : History) (k : ℕ) → k ≤ h.last → Extends (up_to k h) h
from_moment h k within = record { told = refl; later = within; who = λ j below. refl; stay = λ j upto. stays_same (h.at j) }

-- ---- steps of others that keep the data of the dockets that have stood

-- the data of a docket that stood stay from some files to others
abbrev Stays : Files → Files → Files → Type 0
Stays stood before behind = UsesData (shown_in stood) → StaysFront (docket_of (shown_in stood)).used (named_file (shown_in stood) before) (named_file (shown_in stood) behind)

-- they do over a shorter history
pub stood_shorter : (h g : History) (from : ℕ) → Extends h g → OthersKeepStood g from → OthersKeepStood h from
stood_shorter h g from past keep = record { each = λ k after before who. shorter k after before (keep.each k after (omega (arith, before, past.later)) (past.who k before ∙ who)) }
  where
    shown : (k : ℕ) → k ≤ h.last → files_at g k ≡ files_at h k
    shown k within = (past.stay k within).shown

    shorter : (k : ℕ) → from ≤ k → k < h.last → KeepsStood g from k → KeepsStood h from k
    shorter k after before keeps = record {
      kept = λ j since upto.
          subst (λ (f : Files). Stays f (files_at h k) (files_at h (k + 1))) (shown j (omega (arith, upto, before)))
          (subst (λ (f : Files). Stays (files_at g j) f (files_at h (k + 1))) (shown k (omega (arith, before)))
          (subst (λ (f : Files). Stays (files_at g j) (files_at g k) f) (shown (k + 1) (omega (arith, before))) (keeps.kept j since upto)));
      there =
          subst (λ (f : Files). HasData f → HasData (files_at h (k + 1))) (shown k (omega (arith, before)))
          (subst (λ (f : Files). HasData (files_at g k) → HasData f) (shown (k + 1) (omega (arith, before))) keeps.there);
    }

-- and from a later moment on
pub stood_later : (h : History) (from start : ℕ) → from ≤ start → OthersKeepStood h from → OthersKeepStood h start
stood_later h from start order keep = record {
  each = λ k after before who.
      let keeps = keep.each k (omega (arith, order, after)) before who in
      record { kept = λ j since upto. keeps.kept j (omega (arith, order, since)) upto; there = keeps.there };
}

module _ (c : Course) (from : ℕ) (told : IsTrue c.history.told) (only : OthersOnlyRead c from) (keep : OthersKeepStood c.history from) (start : HasData (files_at c.history from)) where
  abbrev h : History
  h = c.history

  -- who only reads keeps it
  read_stood : (k : ℕ) → from ≤ k → k < h.last → h.who k ≡ readers → KeepsStood h from k
  read_stood k after before who = record {
    kept = λ j since upto uses.
        subst (λ (f : Files). StaysFront (docket_of (shown_in (files_at h j))).used (named_file (shown_in (files_at h j)) (files_at h k)) (named_file (shown_in (files_at h j)) f)) (sym (only.same k after before who).shown)
        (stays_itself (docket_of (shown_in (files_at h j))).used (named_file (shown_in (files_at h j)) (files_at h k)));
    there = subst (λ (f : Files). HasData (files_at h k) → HasData f) (sym (only.same k after before who).shown) (λ has. has);
  }

  -- so the data that dockets name are kept up to a moment before which the caller made no step
  pub stood_upto : (k : ℕ) → from ≤ k → k ≤ h.last → NoneOurs h from k → KeepData (up_to k h) from
  stood_upto k later within none = keep_stood (up_to k h) from told start (λ j after before. cut j (step j after before (h.who j) refl))
    where
      cut : (j : ℕ) → KeepsStood h from j → KeepsStood (up_to k h) from j
      cut j keeps = record { kept = keeps.kept; there = keeps.there }

      step : (j : ℕ) → from ≤ j → j < k → (who : Who) → h.who j ≡ who → KeepsStood h from j
      step j after before us who = absurd (none j after before who)
      step j after before readers who = read_stood j after (omega (arith, before, within)) who
      step j after before others who = keep.each j after (omega (arith, before, within)) who

  -- and the data file that the standing docket names is there at each moment, where the caller's steps leave it there
  pub there_upto : KeepsUsed us h from → (k : ℕ) → from ≤ k → k ≤ h.last → HasData (files_at h k)
  there_upto own k later within = upto (k - from) k (omega (arith, later)) within
    where
      step : (j : ℕ) → from ≤ j → j < h.last → (who : Who) → h.who j ≡ who → HasData (files_at h j) → HasData (files_at h (j + 1))
      step j after before us who = (own.each j after before who).there
      step j after before readers who = (read_stood j after before who).there
      step j after before others who = (keep.each j after before who).there

      upto : (n k : ℕ) → k ≡ from + n → k ≤ h.last → HasData (files_at h k)
      upto zero k at within = subst (λ (m : ℕ). HasData (files_at h m)) (omega (arith, at)) start
      upto (suc n) k at within =
          let next : from + n + 1 ≡ k = omega (arith, at) in
          subst (λ (m : ℕ). HasData (files_at h m)) next (step (from + n) (omega arith) (omega (arith, next, within)) (h.who (from + n)) refl (upto n (from + n) refl (omega (arith, next, within))))
