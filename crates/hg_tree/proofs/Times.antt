-- Times with the same seconds and nanoseconds are the same.
use Rattle.std.proofs.Common.{◌≡◌, ◌<◌, ◌^◌, pos, false, sym, ◌∙◌, ap, lit<}
use Rattle.std.proofs.Math.Bridge.{le_prop}
use Rattle.hg_base.specs.declared.time.Time.{Time}
use Rattle.hg_base.specs.declared.stat.Stat.{Stat}
use Rattle.hg_base.specs.declared.stat.Kind.TheVariants as a_kind
use Rattle.hg_tree.specs.declared.thing.Thing.{Thing}
use Rattle.hg_tree.specs.declared.thing.Thing.TheVariants as a_thing
use Rattle.hg_tree.specs.Moment.{stat_of, zero_time}

pub zero_same : (in_second : 0 < 10 ^ 9) → record { seconds = pos 0; nanos = 0; in_second = in_second } ≡ zero_time
zero_same in_second = λ i. record { seconds = pos 0; nanos = 0; in_second = le_prop in_second (lit< tt) i }

-- what a stat shows of an `Other`
abbrev other_at : Time → Stat
other_at time = record { kind = a_kind.Other; exec = false; size = 0; mtime = time }

pub stat_other : (thing : Thing) (mtime : Time) (in_second : 0 < 10 ^ 9) → thing ≡ a_thing.Other
    → other_at (record { seconds = pos 0; nanos = 0; in_second = in_second }) ≡ stat_of thing mtime
stat_other thing mtime in_second is =
    ap other_at (zero_same in_second) ∙ sym (ap (λ (t : Thing). stat_of t mtime) is)
