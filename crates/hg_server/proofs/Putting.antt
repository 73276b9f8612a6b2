-- Bytes that are put in parts.
use Rattle.std.proofs.Common.{ℕ, List, ◌++◌, Option, Result, Ok, Err, OnErr, append_assoc, sym, ap, ◌∙◌}
use Rattle.hg_stream.proofs.Grown.{grown_twice}
use Rattle.hg_stream.specs.Stream.{Grown, GrownBut, GrownByFront}

-- a front of what is put behind a part that was put whole
pub then_front : (old mid new : Option (List ℕ)) (first second : List ℕ) → Grown old mid first → GrownByFront mid new second → GrownByFront old new (first ++ second)
then_front old mid new first second whole (rest, but) = (
  rest,
  record {
    front = first ++ but.front;
    parts = ap (λ (l : List ℕ). first ++ l) but.parts ∙ sym (append_assoc first but.front rest);
    grown = grown_twice old mid new first but.front whole but.grown;
  },
)

-- a front of a part is a front of the whole
pub front_of : (old new : Option (List ℕ)) (first second : List ℕ) → GrownByFront old new first → GrownByFront old new (first ++ second)
front_of old new first second (rest, but) = (
  rest ++ second,
  record {
    front = but.front;
    parts = ap (λ (l : List ℕ). l ++ second) but.parts ∙ append_assoc but.front rest second;
    grown = but.grown;
  },
)

-- one part more of a whole that is put part by part
pub part_put : (old mid new : Option (List ℕ)) (whole part rest : List ℕ) → GrownBut old mid whole (part ++ rest) → Grown mid new part → GrownBut old new whole rest
part_put old mid new whole part rest but grown = record {
  front = but.front ++ part;
  parts = but.parts ∙ sym (append_assoc but.front part rest);
  grown = grown_twice old mid new but.front part but.grown grown;
}

-- and a front of one part more
pub part_begun : (old mid new : Option (List ℕ)) (whole part rest : List ℕ) → GrownBut old mid whole (part ++ rest) → GrownByFront mid new part → GrownByFront old new whole
part_begun old mid new whole part rest but (behind, begun) = (
  behind ++ rest,
  record {
    front = but.front ++ begun.front;
    parts = but.parts ∙ ap (λ (l : List ℕ). but.front ++ (l ++ rest)) begun.parts ∙ ap (λ (l : List ℕ). but.front ++ l) (append_assoc begun.front behind rest)
        ∙ sym (append_assoc but.front begun.front (behind ++ rest));
    grown = grown_twice old mid new but.front begun.front but.grown begun.grown;
  },
)

-- ---- at a failure

pub at_err : {T E P : Type 0} (r : Result T E) → P → OnErr r P
at_err (Ok x) p = tt
at_err (Err e) p = p

pub on_err : {T E P Q : Type 0} (r : Result T E) → OnErr r P → (P → Q) → OnErr r Q
on_err (Ok x) p f = tt
on_err (Err e) p f = f p
