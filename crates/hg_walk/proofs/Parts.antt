-- Times that are right over a call: where they are trusted, where there are none, and over parts of it.
use Rattle.std.proofs.Common.{◌≡◌, Some, None, sym, ap, ◌∙◌, subst, arith, true≢false}
use Rattle.std.specs.Prelude.{is_some}
use Rattle.hg_ignore.proofs.Staying.{texts_stay}
use Rattle.hg_mtime.proofs.Tests.{vouch_tells}
use Rattle.hg_tree.specs.Moment.{Moment, stat_at}
use Rattle.hg_compare.specs.Tracked.{tracked_letter}
use Rattle.hg_compare.specs.declared.letter.Letter.TheVariants as a_letter
use Rattle.hg_entry.specs.Table.{marks_of}
use Rattle.hg_base.specs.PathText.{joined}
use Rattle.hg_walk.specs.Laws.{RightInFirst, RightInSecond, TimelessAreRight, TrustedAreRight, UntakenAreRight}
use Rattle.hg_walk.proofs.Cached.{cached_is_listed}
use Rattle.hg_walk.proofs.Vouched.{vouched_is_clean}

pub trusted_are_right : TrustedAreRight
trusted_are_right rows table old new p honest apart trusted = record { clean = vouched_is_clean rows table old new p honest trusted; listed = cached_is_listed rows table old new p honest apart trusted }

some_none : {A : Type 0} (value : A) → Some value ≡ None → ⊥
some_none value is = true≢false (ap is_some is)

pub timeless_are_right : TimelessAreRight
timeless_are_right rows table old new none = record {
  clean = λ k path entry stat from upto is shown vouch.
      let v = vouch_tells entry (is_some (table.sources path)) stat vouch in absurd (some_none v.stamp (sym v.stamp_is ∙ none.entries path entry is));
  listed = λ k dir cache stat state from upto is. absurd (some_none cache (sym is ∙ none.caches dir));
}

pub untaken_are_right : UntakenAreRight
untaken_are_right rows table old new none = record {
  clean = λ k path entry stat from upto is shown vouch. absurd (true≢false (sym vouch ∙ none.entries k path entry stat from upto is shown));
  listed = λ k dir cache stat state from upto is shown kind match given hashed.
      absurd (true≢false (sym match ∙ none.caches k dir cache stat state from upto is shown kind given hashed));
}

pub right_in_first : RightInFirst
right_in_first rows table old mid new p right = record {
  clean = λ k path entry stat from upto is shown vouch.
      let same = p.stay k upto in
      subst (λ (m : Moment). tracked_letter (rows path) (marks_of entry) (is_some (table.sources path)) (m.things path) ≡ Some a_letter.C) same
      (right.clean k path entry stat from (omega (arith, upto, p.later)) is (ap (λ (m : Moment). stat_at m path) same ∙ shown) vouch);
  listed = λ k dir cache stat state from upto is shown kind match given hashed name component there.
      let same = p.stay k upto in
      right.listed k dir cache stat state from (omega (arith, upto, p.later)) is (ap (λ (m : Moment). stat_at m dir) same ∙ shown) kind match (texts_stay mid new state p given) hashed name component
      (ap (λ (m : Moment). is_some (m.things (joined (Some dir) name))) same ∙ there);
}

pub right_in_second : RightInSecond
right_in_second rows table old mid new p right = record {
  clean = λ k path entry stat from. right.clean k path entry stat (omega (arith, from, p.later));
  listed = λ k dir cache stat state from. right.listed k dir cache stat state (omega (arith, from, p.later));
}
