-- The plain store while others add to it.
use Rattle.std.proofs.Common.{ℕ, zero, suc, ◌≡◌, ◌≤◌, List, [], Some, None, refl, sym, ◌∙◌, arith}
use Rattle.std.specs.Prelude.{codes}
use Rattle.hg_flat.specs.Coming.{IsWorked, files_at, history}
use Rattle.hg_shelf.specs.History.{History, now}
use Rattle.hg_shelf.specs.Polite.{KeepsPlain, KeepsThere, StaysPlain}

pub there_stays : (h : History) (from : ℕ) → KeepsThere h from → StaysPlain (now h).files h from
there_stays h from keeps = record { told = keeps.told; each = λ name plain k above upto bytes is. keeps.each name plain k h.last above upto (omega arith) bytes is }

pub plain_stays : (h : History) (from : ℕ) → KeepsPlain h from → StaysPlain (h.at from).files h from
plain_stays h from keeps = record { told = keeps.told; each = λ name plain k above upto bytes is. sym (keeps.each name plain k above upto) ∙ is }

pub plain_there : (h : History) (from : ℕ) → KeepsPlain h from → KeepsThere h from
plain_there h from keeps = record {
  told = keeps.told;
  each = λ name plain k l above order upto bytes is. keeps.each name plain l (omega (arith, above, order)) upto ∙ sym (keeps.each name plain k above (omega (arith, order, upto))) ∙ is;
}

stays_so : (name : List ℕ) (k l : ℕ) → k ≤ l → (bytes : List ℕ) → files_at k name ≡ Some bytes → files_at l name ≡ Some bytes
stays_so name zero l order bytes is = absurd (cc is)
stays_so name (suc k) zero order bytes is = absurd (omega (arith, order))
stays_so name (suc k) (suc l) order bytes is = is

kept : KeepsThere history 0
kept = record { told = refl; each = λ name plain k l above order upto bytes is. stays_so name k l order bytes is }

pub worked : IsWorked
worked = record {
  keeps = kept;
  stays = there_stays history 0 kept;
  comes = λ keeps. let same : Some [] ≡ None = keeps.each (codes "plain/m") refl 1 (omega arith) (omega arith) in absurd (cc same);
}
