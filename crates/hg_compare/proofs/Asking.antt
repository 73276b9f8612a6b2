-- What was asked of the shelf: the size of the contents, and behind it their bytes.
use Rattle.std.proofs.Common.{◌≡◌, ℕ, zero, suc, ◌-◌, ◌*◌, min, Bool, [], ◌∷◌, ◌++◌, List, Result, Ok, Err, refl, ap, ◌∙◌, arith, inl, inr}
use Rattle.std.specs.List.{AllByRecursion}
use Rattle.std.proofs.lemmas.List.{append_assoc}
use Rattle.hg_shelf.specs.History as shelf
use Rattle.hg_shelf.specs.declared.asked.Asked.{Asked}
use Rattle.hg_shelf.specs.declared.asked.Asked.TheVariants as a_shelf_ask
use Rattle.hg_compare.specs.Pieces.{AsksSize, ReadsTheirs}
use Rattle.hg_compare.specs.Same.{AsksContents, AsksOrFails, IsPieceOf, pieces_from}
use Rattle.hg_compare.specs.Seen.{Compared, HasSize}
use Rattle.hg_compare.specs.declared.fault.CompareFault.{CompareFault}
use Rattle.hg_compare.specs.declared.fault.CompareFault.TheVariants as a_fault
use Rattle.hg_compare.specs.declared.looked.Looked.{Looked}

-- each of some pieces is one
pub pieces_are : (size : ℕ) (name : List ℕ) (k n : ℕ) → AllByRecursion (IsPieceOf name) (pieces_from size name k n)
pieces_are size name k zero = tt
pieces_are size name k (suc n) = (record { number = k; width = min (size - 65536 * k) 65536; few = omega arith; is = refl }, pieces_are size name (suc k) n)

-- the size alone
size_alone : (c : Compared) (size : ℕ) → c.shelf_new.asked ≡ c.shelf_old.asked ++ a_shelf_ask.Size c.name ∷ [] → AsksContents c size
size_alone c size asked = record { pieces = 0; few = omega arith; sized = inl refl; asked = asked }

-- the size could not be asked for
pub asks_failing : (c : Compared) (size : ℕ) (sized : Result Bool CompareFault) (fault : CompareFault) → sized ≡ Err fault → AsksSize c.name c.shelf_old c.shelf_new sized → AsksOrFails c size (Err fault)
asks_failing c size sized fault is (inl both) = let same : fault ≡ a_fault.ShelfFailed = cc (both.0, is) in inl (ap Err same, both.1)
asks_failing c size sized fault is (inr asked) = inr (size_alone c size asked)

-- it is another
pub asks_size : (c : Compared) (size : ℕ) (sized : Result Bool CompareFault) (t : Bool) (result : Result Looked CompareFault) → sized ≡ Ok t → AsksSize c.name c.shelf_old c.shelf_new sized → AsksOrFails c size result
asks_size c size sized t result is (inl both) = absurd (cc (both.0, is))
asks_size c size sized t result is (inr asked) = inr (size_alone c size asked)

-- it is that one, and the bytes were asked for
pub asks_bytes : (c : Compared) (mid : shelf.History) (size : ℕ) (sized : Result Bool CompareFault) (t : Bool) (result : Result Looked CompareFault) → sized ≡ Ok t → AsksSize c.name c.shelf_old mid sized → HasSize c size
    → ReadsTheirs size c.name mid c.shelf_new → AsksOrFails c size result
asks_bytes c mid size sized t result is (inl both) has reads = absurd (cc (both.0, is))
asks_bytes c mid size sized t result is (inr asked) has reads =
    inr (record {
      pieces = reads.pieces;
      few = reads.few;
      sized = inr has;
      asked = reads.asked ∙ ap (λ (l : List Asked). l ++ pieces_from size c.name 0 reads.pieces) asked
          ∙ append_assoc c.shelf_old.asked (a_shelf_ask.Size c.name ∷ []) (pieces_from size c.name 0 reads.pieces);
    })
