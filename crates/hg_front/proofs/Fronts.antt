-- What was put to a stream, as a front of a piece.
use Rattle.std.proofs.Common.{ℕ, List, ◌++◌, Option, Result, Ok, Err, OnErr, ap, sym, ◌∙◌, append_assoc}
use Rattle.hg_stream.specs.Stream.{Grown, GrownBut, GrownByFront}
use Rattle.hg_stream.proofs.Grown.{grown_twice}

-- what is left goes on with a piece, and that was put
pub put_on : (old mid new : Option (List ℕ)) (whole piece rest : List ℕ) → GrownBut old mid whole (piece ++ rest) → Grown mid new piece → GrownBut old new whole rest
put_on old mid new whole piece rest put grown = record {
  front = put.front ++ piece;
  parts = put.parts ∙ sym (append_assoc put.front piece rest);
  grown = grown_twice old mid new put.front piece put.grown grown;
}

-- or a front of it was, which is one of the whole
pub part_put : (old mid new : Option (List ℕ)) (whole piece rest : List ℕ) → GrownBut old mid whole (piece ++ rest) → GrownByFront mid new piece → GrownByFront old new whole
part_put old mid new whole piece rest put (left, part) = (
  left ++ rest,
  record {
    front = put.front ++ part.front;
    parts = put.parts ∙ ap (λ (l : List ℕ). put.front ++ (l ++ rest)) part.parts ∙ ap (λ (l : List ℕ). put.front ++ l) (append_assoc part.front left rest)
        ∙ sym (append_assoc put.front part.front (left ++ rest));
    grown = grown_twice old mid new put.front part.front put.grown part.grown;
  },
)

-- a front of a text is one of what goes on from it
pub front_of : (old new : Option (List ℕ)) (first second : List ℕ) → GrownByFront old new first → GrownByFront old new (first ++ second)
front_of old new first second (rest, but) = (
  rest ++ second,
  record {
    front = but.front;
    parts = ap (λ (l : List ℕ). l ++ second) but.parts ∙ append_assoc but.front rest second;
    grown = but.grown;
  },
)

-- a whole text and a front of the next make one of both
pub then_front : (old mid new : Option (List ℕ)) (first second : List ℕ) → Grown old mid first → GrownByFront mid new second → GrownByFront old new (first ++ second)
then_front old mid new first second grown (rest, but) = (
  rest,
  record {
    front = first ++ but.front;
    parts = ap (λ (l : List ℕ). first ++ l) but.parts ∙ sym (append_assoc first but.front rest);
    grown = grown_twice old mid new first but.front grown but.grown;
  },
)

-- what is so where a call failed
pub at_err : {T E P : Type 0} (r : Result T E) → P → OnErr r P
at_err (Ok x) p = tt
at_err (Err e) p = p
