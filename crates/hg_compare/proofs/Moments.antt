-- What was seen at the last moment of a part of a call was seen during the call.
use Rattle.std.proofs.Common.{◌≡◌, ℕ, ◌<◌, ◌⊎◌, [], ◌∷◌, ◌++◌, inl, inr, Bool, true, false, not, List, length, take, Option, Some, Ok, refl, sym, ◌∙◌, subst, arith}
use Rattle.std.proofs.lemmas.List.{append-nil, length-take}
use Rattle.std.proofs.lemmas.Slice.Eq.{bytes_eq-Decides}
use Rattle.std.specs.Str.{bytes_eq}
use Rattle.std.specs.Prelude.{IsTrue}
use Rattle.hg_base.specs.declared.id.Id20.{Id20}
use Rattle.hg_shelf.specs.History as shelf
use Rattle.hg_tree.specs.History as tree
use Rattle.hg_tree.specs.Moment.{Moment, bytes_at}
use Rattle.hg_compare.specs.Pieces.{Once, TakesMine, TakesTheirs}
use Rattle.hg_compare.specs.Seen.{Compared, HasPiece, Holds, SeesPiece, Shows}

-- the working copy was so at the last moment
pub shown_last : (c : Compared) (P : Moment → Type 0) → tree.Passes c.tree_old c.tree_new → (IsTrue c.tree_new.told → P (tree.now c.tree_new)) → Shows c P
shown_last c P passes is = record {
  at = c.tree_new.last;
  during = λ told. record { from = passes.past.later; to = omega arith };
  so = λ told. is (passes.past.told ∙ told);
}

-- so was the file
pub held_last : (c : Compared) (P : Option (List ℕ) → Type 0) → shelf.Passes c.shelf_old c.shelf_new → (IsTrue c.shelf_new.told → P ((shelf.now c.shelf_new).files c.name)) → Holds c P
held_last c P passes is = record {
  at = c.shelf_new.last;
  during = λ told. record { from = passes.past.later; to = omega arith };
  so = λ told. is (passes.past.told ∙ told);
}

-- a piece of both
pub piece_last : (c : Compared) (id : Id20) (place width wide n m : ℕ) (mine theirs : List ℕ) → tree.Passes c.tree_old c.tree_new → shelf.Passes c.shelf_old c.shelf_new → width ≡ wide
    → TakesMine c.tree_new c.path place width mine (Ok (Some n)) → TakesTheirs c.shelf_new c.name id place wide theirs (Ok m) → SeesPiece c place width (take n mine) (take m theirs)
piece_last c id place width wide n m mine theirs first second same own other = record {
  mine_was = shown_last c (λ moment. HasPiece place width (take n mine) (bytes_at moment c.path)) first own.1;
  theirs_was = held_last c (HasPiece place width (take m theirs)) second (subst (λ (w : ℕ). IsTrue c.shelf_new.told → HasPiece place w (take m theirs) ((shelf.now c.shelf_new).files c.name)) (sym same) other.1);
}

-- other bytes aren't the same, and bytes that aren't other ones are
pub other_bytes : (xs ys : List ℕ) (ne : Bool) → ne ≡ true → ne ≡ not (bytes_eq xs ys) → xs ≡ ys → ⊥
other_bytes xs ys ne is differs same = let equal = (bytes_eq-Decides xs ys).1 same in absurd (cc (is, differs, equal))

pub same_bytes : (xs ys : List ℕ) (ne : Bool) → ne ≡ false → ne ≡ not (bytes_eq xs ys) → xs ≡ ys
same_bytes xs ys ne is differs = (bytes_eq-Decides xs ys).0 (not_false (bytes_eq xs ys) (sym differs ∙ is))
  where
    not_false : (b : Bool) → not b ≡ false → b ≡ true
    not_false true h = refl
    not_false false h = sym h

-- the same piece of both
pub pieces_same : (c : Compared) (place width : ℕ) (mine theirs : List ℕ) → SeesPiece c place width mine theirs → mine ≡ theirs → SeesPiece c place width mine mine
pieces_same c place width mine theirs pieces same = subst (λ (xs : List ℕ). SeesPiece c place width mine xs) (sym same) pieces

pub shorter : (n : ℕ) (xs : List ℕ) (width : ℕ) → n < width → length (take n xs) < width
shorter n xs width less = let long = length-take n xs in omega (arith, less, long)

-- a call that was noted, or that failed and found no memory to be
pub asked_once : {A : Type 0} (answered : Bool) (ask : A) (old new : List A) → (new ≡ old ++ ask ∷ []) ⊎ ((answered ≡ false) × (new ≡ old)) → Once ask old new
asked_once answered ask old new (inl is) = record { times = 1; few = omega arith; asked = is }
asked_once answered ask old new (inr both) = record { times = 0; few = omega arith; asked = both.1 ∙ sym (append-nil old) }

pub asked_never : {A : Type 0} (ask : A) (list : List A) → Once ask list list
asked_never ask list = record { times = 0; few = omega arith; asked = sym (append-nil list) }
