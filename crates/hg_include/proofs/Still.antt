-- Where nobody else steps, each look is of one moment.
use Rattle.std.proofs.Common.{◌≡◌, ℕ, ◌+◌, ◌≤◌, List, [], ◌∷◌, ◌++◌, Option, Result, Ok, Err, IfOk, IfErr, sym, ap, ◌∙◌, arith}
use Rattle.hg_tree.specs.History.{History, IsOurs, Passes, now}
use Rattle.hg_tree.specs.Moment.{Moment, bytes_at, stat_at}
use Rattle.hg_tree.proofs.Spans.{ours_unstepped}
use Rattle.hg_include.specs.declared.fault.IncludeFault.{IncludeFault}
use Rattle.hg_include.specs.declared.fault.IncludeFault.TheVariants as a_fault
use Rattle.hg_include.specs.Answer.{Read}
use Rattle.hg_include.specs.Asking.{Agrees, AreLooks, IsLook, IsRead, Stops, reads_of}
use Rattle.hg_include.specs.Look.{Look, file_size, look_at}
use Rattle.hg_include.specs.Moments.{AsksAll, IsAnswer, known_at}
use Rattle.hg_include.specs.Reading.{Ask, Ended, reading}
use Rattle.hg_include.proofs.Courses.{reads_more}

same_look : (a b : Look) → a.size ≡ b.size → a.bytes ≡ b.bytes → a ≡ b
same_look a b size bytes =
    ap (λ (v : Option ℕ). record { size = v; bytes = a.bytes }) size ∙ ap (λ (v : Option (List ℕ)). record { size = b.size; bytes = v }) bytes

same_moment : (old new : History) (k : ℕ) → Passes old new → new.last ≡ old.last → old.last ≤ k → k ≤ new.last → new.at k ≡ now old
same_moment old new k passes still from upto =
    let here : k ≡ old.last = omega (arith, still, from, upto) in
    ap new.at here ∙ passes.past.stay old.last (omega arith)

look_still : (old new : History) (from : ℕ) (path : List ℕ) (look : Look) → Passes old new → new.last ≡ old.last → old.last ≤ from → IsLook new from path look → look_at (now old) path ≡ look
look_still old new from path look passes still later is =
    let first = same_moment old new is.first passes still (omega (arith, later, is.begun)) (omega (arith, is.order, is.within)) in
    let second = same_moment old new is.second passes still (omega (arith, later, is.begun, is.order)) is.within in
    same_look (look_at (now old) path) look (sym (is.size ∙ ap (λ (m : Moment). file_size (stat_at m path)) first)) (sym (is.bytes ∙ ap (λ (m : Moment). bytes_at m path) second))

pub looks_still : (old new : History) (from n : ℕ) (asks : List Ask) → Passes old new → new.last ≡ old.last → old.last ≤ from → AreLooks new from asks → Agrees (known_at (now old)) n asks
looks_still old new from n [] passes still later looks = tt
looks_still old new from n (ask ∷ asks) passes still later (is, looks) =
    (look_still old new from ask.path ask.look passes still later is, looks_still old new is.second (n + 1) asks passes still (omega (arith, later, is.begun, is.order)) looks)

still_read : (most limit : ℕ) (old new : History) (read : Read) → Passes old new → IsOurs old new → IsRead most limit old new read → IsAnswer (reading most limit (known_at (now old))) (Ok read)
still_read most limit old new read passes ours is =
    let e = is.ends (known_at (now old)) (looks_still old new old.last 0 is.asks passes (ours_unstepped old new passes ours) (omega arith) (is.asked ours.told).looks) in
    (ap (λ (v : Ended). v.so.pieces) e, ap (λ (v : Ended). v.so.warnings) e, ap (λ (v : Ended). v.fault) e)

still_stop : (most limit : ℕ) (old new : History) (fault : IncludeFault) → Passes old new → IsOurs old new → Stops most limit old new fault → IsAnswer (reading most limit (known_at (now old))) (Err fault)
still_stop most limit old new a_fault.OutOfMemory passes ours stops = tt
still_stop most limit old new a_fault.Failed passes ours stops = tt
still_stop most limit old new (a_fault.Bad file what) passes ours stops =
    (stops.ends (known_at (now old)) (looks_still old new old.last 0 stops.asks passes (ours_unstepped old new passes ours) (omega arith) (stops.asked ours.told).looks)).1

pub still_answer : (most limit : ℕ) (old new : History) (r : Result Read IncludeFault) → Passes old new → IfOk r (IsRead most limit old new) → IfErr r (Stops most limit old new) → IsOurs old new
    → IsAnswer (reading most limit (known_at (now old))) r
still_answer most limit old new (Ok read) passes is stops ours = still_read most limit old new read passes ours is
still_answer most limit old new (Err fault) passes is stops ours = still_stop most limit old new fault passes ours stops

-- what was asked is the reads of the reading, or the first of them
asks_stop : (most limit : ℕ) (old new : History) (fault : IncludeFault) → Passes old new → IsOurs old new → Stops most limit old new fault → AsksAll most (reading most limit (known_at (now old))) old new (Err fault)
asks_stop most limit old new a_fault.OutOfMemory passes ours stops =
    let asked = stops.asked ours.told in
    let far = stops.ends (known_at (now old)) (looks_still old new old.last 0 stops.asks passes (ours_unstepped old new passes ours) (omega arith) asked.looks) in
    (reads_of most stops.asks, asked.reads, (reads_of most far.0, ap (reads_of most) far.1 ∙ reads_more most stops.asks far.0))
asks_stop most limit old new a_fault.Failed passes ours stops =
    let asked = stops.asked ours.told in
    let far = stops.ends (known_at (now old)) (looks_still old new old.last 0 stops.asks passes (ours_unstepped old new passes ours) (omega arith) asked.looks) in
    (reads_of most stops.asks, asked.reads, (reads_of most far.0, ap (reads_of most) far.1 ∙ reads_more most stops.asks far.0))
asks_stop most limit old new (a_fault.Bad file what) passes ours stops =
    let asked = stops.asked ours.told in
    let far = stops.ends (known_at (now old)) (looks_still old new old.last 0 stops.asks passes (ours_unstepped old new passes ours) (omega arith) asked.looks) in
    asked.reads ∙ ap (λ v. old.asked ++ reads_of most v) (sym far.0)

pub still_asks : (most limit : ℕ) (old new : History) (r : Result Read IncludeFault) → Passes old new → IfOk r (IsRead most limit old new) → IfErr r (Stops most limit old new) → IsOurs old new
    → AsksAll most (reading most limit (known_at (now old))) old new r
still_asks most limit old new (Ok read) passes is stops ours =
    let asked = is.asked ours.told in
    let e = is.ends (known_at (now old)) (looks_still old new old.last 0 is.asks passes (ours_unstepped old new passes ours) (omega arith) asked.looks) in
    asked.reads ∙ ap (λ v. old.asked ++ reads_of most v) (sym (ap (λ (v : Ended). v.so.asks) e))
still_asks most limit old new (Err fault) passes is stops ours = asks_stop most limit old new fault passes ours stops
