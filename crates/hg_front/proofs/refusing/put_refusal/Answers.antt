use Rattle.std.proofs.Common.{ℕ, ◌≡◌, List, [], codes, ◌++◌, refl, subst}
use Rattle.std.proofs.lemmas.Result.{on_err_weaker}
use Rattle.hg_stream.specs.Stream.{GrownByFront}
use Rattle.hg_stream.proofs.Grown.{grown_twice}
use Rattle.hg_front.specs.Refusing as refusals
use Rattle.hg_front.specs.Refusing.{refusal_lines}
use Rattle.hg_front.specs.Shown.{shown}
use Rattle.hg_front.proofs.Fronts.{at_err, front_of, then_front}
use Rattle.hg_front.proofs.Refusals.{refusal_parts}
use Rattle.hg_front.proofs.refusing.put_refusal.Goals as goal

pub returns-in_err-put_pieces-clause-prefix : goal.returns-in_err-put_pieces-clause-prefix
returns-in_err-put_pieces-clause-prefix g c =
    let why = c.args.refused.why in
    let what = c.args.refused.what.now in
    let head = codes "abort: " ++ (c.front.result.now ++ []) in
    let tail = refusals.behind why ++ (codes "\nhgtrack: " ++ (refusals.next why ++ codes "\n")) in
    let is : head ++ shown what ++ tail ≡ refusal_lines (why, what) = refusal_parts why what c.front.result.now (refusals.behind why) (refusals.next why) c.front.ensures refl refl in
    at_err c.from_residual.result
    (subst (λ (l : List ℕ). GrownByFront (g.O.Sink.bytes c.args.out.now) (g.O.Sink.bytes c.put_pieces.new.out) l) is (front_of _ _ (head ++ shown what) tail (front_of _ _ head (shown what) c.in_err-put_pieces.ensures.prefix)))

pub returns-in_err-put_name-clause-prefix : goal.returns-in_err-put_name-clause-prefix
returns-in_err-put_name-clause-prefix g c =
    let why = c.args.refused.why in
    let what = c.args.refused.what.now in
    let head = codes "abort: " ++ (c.front.result.now ++ []) in
    let tail = refusals.behind why ++ (codes "\nhgtrack: " ++ (refusals.next why ++ codes "\n")) in
    let is : head ++ shown what ++ tail ≡ refusal_lines (why, what) = refusal_parts why what c.front.result.now (refusals.behind why) (refusals.next why) c.front.ensures refl refl in
    at_err c.from_residual-in_err-put_name.result
    (subst (λ (l : List ℕ). GrownByFront (g.O.Sink.bytes c.args.out.now) (g.O.Sink.bytes c.put_name.new.out) l) is (front_of _ _ (head ++ shown what) tail (then_front _ _ _ head (shown what) c.in_ok-put_pieces.ensures.all c.in_err-put_name.ensures.prefix)))

pub returns-clause-prefix : goal.returns-clause-prefix
returns-clause-prefix g c =
    let why = c.args.refused.why in
    let what = c.args.refused.what.now in
    let head = codes "abort: " ++ (c.front.result.now ++ []) in
    let tail = c.behind.result.now ++ (codes "\nhgtrack: " ++ (c.next.result.now ++ codes "\n")) in
    let is : head ++ shown what ++ tail ≡ refusal_lines (why, what) = refusal_parts why what c.front.result.now c.behind.result.now c.next.result.now c.front.ensures c.behind.ensures c.next.ensures in
    on_err_weaker c.put_pieces-2.result
    (λ more. subst (λ (l : List ℕ). GrownByFront (g.O.Sink.bytes c.args.out.now) (g.O.Sink.bytes c.put_pieces-2.new.out) l) is
    (then_front _ _ _ (head ++ shown what) tail (grown_twice _ _ _ head (shown what) c.in_ok-put_pieces.ensures.all c.in_ok-put_name.ensures.all) more))
    c.put_pieces-2.ensures.prefix
