use Rattle.std.proofs.Common.{set, length, false, ◌<◌, ◌+◌, subst, sym, ap, ◌∙◌, arith, length-set}
use Rattle.std.proofs.lemmas.List.{length-take}
use Rattle.hg_glob.specs.Column.{IsTable}
use Rattle.hg_glob.proofs.Masks.{table_more, put_there, put_nowhere, wide_same, wide_more}
use Rattle.hg_glob.proofs.short.Short.push.Goals as goal
use Rattle.hg_glob.proofs.short.Short.push.Goals.{then-code-lt128, else-code-lt128}

pub invariant_of-self : goal.invariant_of-self
invariant_of-self c =
    let t = c.self.inside in
    let h = c.self.invariant in
    let some : t.count < 63 = omega (arith, length-take t.count t.items, h.few, h.room, ap length c.self.view_is, c.requires) in
    elim c.if-code-lt128.branch [
      | then-code-lt128 w ↦ subst (λ s. IsTable s.items (s.count + 1) s.table s.wide s.below false) (sym w.self-inside-is)
          (table_more t.items t.count c.args.c t.table (set t.table c.args.c w.put.result) t.wide t.wide t.below t.is_ready h some (length-set t.table c.args.c w.put.result ∙ h.words) (wide_same c.args.c t.wide t.count w.if-code-lt128.true)
          (put_there t.table c.args.c w.put.result t.count (omega (arith, h.words, w.if-code-lt128.true)) w.put.ensures))
      | else-code-lt128 w ↦ subst (λ s. IsTable s.items (s.count + 1) s.table s.wide s.below false) (sym w.self-inside-is)
          (table_more t.items t.count c.args.c t.table t.table t.wide w.put-self-inside.result t.below t.is_ready h some h.words (wide_more c.args.c t.wide w.put-self-inside.result t.count w.if-code-lt128.false w.put-self-inside.ensures) (put_nowhere t.table c.args.c t.count w.if-code-lt128.false))
    ]
