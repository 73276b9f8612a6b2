-- Files torn by a write: those that a crash of a shelf in memory leaves are among them.
use Rattle.std.proofs.Common.{ℕ, ◌≡◌, refl, sym, subst, List, length, replicate, Option, Some, None}
use Rattle.std.specs.Prelude.{bytes_eq}
use Rattle.std.proofs.lemmas.Bool.{cond-true, cond-false}
use Rattle.std.proofs.lemmas.List.{length-replicate}
use Rattle.hg_shelf.specs.History.{Files}
use Rattle.hg_shelf.specs.Memory.{with_file}
use Rattle.hg_shelf.specs.Rules.{content, overwritten, Torn, TornFile, TornAt}
use Rattle.hg_shelf.specs.Torn.{other_name, same_name, torn_over}

pub torn_filled : (fill : ℕ) (old : List ℕ) (place : ℕ) (bytes : List ℕ) → Torn place (length bytes) old (overwritten old place (replicate (length bytes) fill))
torn_filled fill old place bytes =
    let P : ℕ → Type 0 = λ n. Torn place n old (overwritten old place (replicate (length bytes) fill)) in
    subst P (length-replicate (length bytes) fill) (torn_over old place (replicate (length bytes) fill))

-- a file is torn by putting one that is
pub torn_by : (name new : List ℕ) (place n : ℕ) (files : Files) → Torn place n (content (files name)) new → TornAt name place n files (with_file name new files)
torn_by name new place n files torn = record {
  elsewhere = λ at apart. cond-false _ _ _ (other_name name at apart);
  here =
      let P : Option (List ℕ) → Type 0 = λ file. TornFile place n (files name) file in
      subst P (sym (cond-true (bytes_eq name name) (Some new) (files name) (same_name name))) torn;
}

-- or by leaving it away
pub torn_away : (name : List ℕ) (place n : ℕ) (files : Files) → files name ≡ None → TornAt name place n files files
torn_away name place n files none = record {
  elsewhere = λ at apart. refl;
  here =
      let P : Option (List ℕ) → Type 0 = λ file. TornFile place n (files name) file in
      subst P (sym none) none;
}
