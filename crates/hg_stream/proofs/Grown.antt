-- A sink grows piece by piece.
use Rattle.std.proofs.Common.{ℕ, List, [], ◌++◌, take, drop, refl, ap, sym, append_assoc, Option, Some, None}
use Rattle.std.proofs.lemmas.List.{append-nil, take-append-drop}
use Rattle.hg_stream.specs.Stream.{Grown, GrownBut}

pub grown_by_nothing : (bytes : Option (List ℕ)) → Grown bytes bytes []
grown_by_nothing None = refl
grown_by_nothing (Some bytes) = ap Some (sym (append-nil bytes))

pub grown_twice : (old mid new : Option (List ℕ)) (front back : List ℕ) → Grown old mid front → Grown mid new back → Grown old new (front ++ back)
grown_twice None mid new front back first second = rw first at second
grown_twice (Some old) mid new front back first second = rw (← append_assoc) (rw first at second)

pub nothing_put : (bytes : Option (List ℕ)) (piece : List ℕ) → GrownBut bytes bytes piece piece
nothing_put bytes piece = record { front = []; parts = refl; grown = grown_by_nothing bytes }

pub more_put : {old mid new : Option (List ℕ)} {piece rest : List ℕ} (n : ℕ) → GrownBut old mid piece rest → Grown mid new (take n rest)
    → GrownBut old new piece (drop n rest)
more_put {rest = rest} n put grown = record {
  front = put.front ++ take n rest;
  parts = rw (append_assoc, take-append-drop) put.parts;
  grown = grown_twice _ _ _ _ _ put.grown grown;
}

pub all_put : {old new : Option (List ℕ)} {piece : List ℕ} → GrownBut old new piece [] → Grown old new piece
all_put put = rw (put.parts, append-nil) put.grown
