use Rattle.std.proofs.Common.{◌≡◌, ◌⊎◌, IfErr, IfOk, List, None, drop, map, rules, subst}
use Rattle.clap.specs.Words.{found_of, rows_of}
use Rattle.hg_words.specs.Clapped.{Parts, flags_in}
use Rattle.hg_words.specs.Command.{Flag, parted_of, status_flags}
use Rattle.hg_words.specs.declared.fault.WordsFault.TheVariants as a_fault
use Rattle.hg_words.proofs.forms.parted_status.Goals as goal

pub returns-clause-ok : goal.returns-clause-ok
returns-clause-ok c =
    let table_is : flags_in c.as_slice.result.now ≡ status_flags = search rules in
    subst (λ (f : List Flag). IfOk c.parted.result (λ m. Parts f (drop 1 (map (λ word. word.now) c.args.words.now)) (rows_of (found_of m)))) table_is c.parted.ensures.ok

pub returns-clause-err : goal.returns-clause-err
returns-clause-err c =
    let table_is : flags_in c.as_slice.result.now ≡ status_flags = search rules in
    subst
    (λ (f : List Flag). IfErr c.parted.result (λ fault. (fault ≡ a_fault.OutOfMemory) ⊎ ((fault ≡ a_fault.Usage) × (parted_of f (drop 1 (map (λ word. word.now) c.args.words.now)) ≡ None))))
    table_is c.parted.ensures.err
