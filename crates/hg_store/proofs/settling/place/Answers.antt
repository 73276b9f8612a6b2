use Rattle.std.proofs.Common.{None, inl}
use Rattle.hg_store.specs.Storing.{Keeps}
use Rattle.hg_store.proofs.Leading.{alone_first, alone_second, leads_trans, on_ok, proceeds_call, proceeds_trans}
use Rattle.hg_store.proofs.Placing.{keeps_same, keeps_trans, names_either, rename_leads, renamed_stored}
use Rattle.hg_store.proofs.settling.place.Goals as goal

pub returns-in_err-rename-clause-proceeds : goal.returns-in_err-rename-clause-proceeds
returns-in_err-rename-clause-proceeds g c = proceeds_call c.rename.ensures.kept c.rename.ensures.ours c.rename.ensures.unasked.locks

pub returns-in_err-rename-clause-leads : goal.returns-in_err-rename-clause-leads
returns-in_err-rename-clause-leads g c = λ text alone sure absent apart.
    rename_leads c.args.name.now text _ _ (λ f is. g.met.S.Shelf.named_leaves c.args.shelf.now (g.S.Shelf.history c.args.shelf.now).last f is) alone (returns-in_err-rename-clause-proceeds g c) sure (c.in_err-rename.ensures.perhaps alone.calm.told)

pub returns-clause-proceeds : goal.returns-clause-proceeds
returns-clause-proceeds g c =
    proceeds_trans (proceeds_call c.rename.ensures.kept c.rename.ensures.ours c.rename.ensures.unasked.locks)
    (proceeds_call c.sync_names.ensures.kept c.sync_names.ensures.ours c.sync_names.ensures.unasked.locks)

pub returns-clause-leads : goal.returns-clause-leads
returns-clause-leads g c = λ text alone sure absent apart.
    let p = proceeds_call c.rename.ensures.kept c.rename.ensures.ours c.rename.ensures.unasked.locks in
    let q = proceeds_call c.sync_names.ensures.kept c.sync_names.ensures.ours c.sync_names.ensures.unasked.locks in
    let first = alone_first q alone in
    let second = alone_second p alone in
    leads_trans (Keeps None c.args.name.now text) (keeps_trans None c.args.name.now text) p q
    (rename_leads c.args.name.now text _ _ (λ f is. g.met.S.Shelf.named_leaves c.args.shelf.now (g.S.Shelf.history c.args.shelf.now).last f is) first p sure (inl (c.in_ok-rename.ensures.renamed first.calm.told)))
    (names_either (Keeps None c.args.name.now text) (keeps_same None c.args.name.now text) _ _ second q c.sync_names.result (c.sync_names.ensures.synced second.calm.told) c.sync_names.ensures.unsynced)

pub returns-clause-stored : goal.returns-clause-stored
returns-clause-stored g c = λ text alone sure apart.
    let p = proceeds_call c.rename.ensures.kept c.rename.ensures.ours c.rename.ensures.unasked.locks in
    let q = proceeds_call c.sync_names.ensures.kept c.sync_names.ensures.ours c.sync_names.ensures.unasked.locks in
    let first = alone_first q alone in
    let second = alone_second p alone in
    on_ok c.sync_names.result
    (λ names. renamed_stored c.args.name.now text _ _ _ (λ f is. g.met.S.Shelf.named_leaves c.args.shelf.now (g.S.Shelf.history c.args.shelf.now).last f is) first second p q sure apart (c.in_ok-rename.ensures.renamed first.calm.told) names)
    (c.sync_names.ensures.synced second.calm.told)
