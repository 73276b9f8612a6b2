-- Looks one behind another.
use Rattle.std.proofs.Common.{◌≡◌, ℕ, suc, ◌+◌, ◌≤◌, List, [], ◌∷◌, ◌++◌, length, refl, sym, ap, ◌∙◌, arith, append_assoc, append-nil}
use Rattle.hg_tree.specs.History.{History, Passes}
use Rattle.hg_tree.specs.Moment.{bytes_at, stat_at}
use Rattle.hg_include.specs.Asking.{Agrees, AreLooks, Asks, IsLook, reads_of, reads_of_size}
use Rattle.hg_include.specs.Look.{Look, file_size}
use Rattle.hg_include.specs.Reading.{Ask, Know}

abbrev look_later : (mid new : History) (from : ℕ) (path : List ℕ) (look : Look) → Passes mid new → IsLook mid from path look → IsLook new from path look
look_later mid new from path look passes is = record {
  first = is.first;
  second = is.second;
  begun = is.begun;
  order = is.order;
  within = omega (arith, is.within, passes.past.later);
  size = is.size ∙ sym (ap (λ m. file_size (stat_at m path)) (passes.past.stay is.first (omega (arith, is.order, is.within))));
  bytes = is.bytes ∙ sym (ap (λ m. bytes_at m path) (passes.past.stay is.second is.within));
}

looks_lower : (h : History) (a b : ℕ) (asks : List Ask) → b ≤ a → AreLooks h a asks → AreLooks h b asks
looks_lower h a b [] low looks = omega (arith, low, looks)
looks_lower h a b (ask ∷ asks) low (is, more) =
    (record { first = is.first; second = is.second; begun = omega (arith, low, is.begun); order = is.order; within = is.within; size = is.size; bytes = is.bytes }, more)

looks_more : (mid new : History) (from : ℕ) (xs ys : List Ask) → Passes mid new → AreLooks mid from xs → AreLooks new mid.last ys → AreLooks new from (xs ++ ys)
looks_more mid new from [] ys passes looks more = looks_lower new mid.last from ys looks more
looks_more mid new from (x ∷ xs) ys passes (is, looks) more = (look_later mid new from x.path x.look passes is, looks_more mid new is.second xs ys passes looks more)

pub reads_more : (most : ℕ) (xs ys : List Ask) → reads_of most (xs ++ ys) ≡ reads_of most xs ++ reads_of most ys
reads_more most [] ys = refl
reads_more most (x ∷ xs) ys =
    ap (λ v. reads_of_size most x.path x.look.size ++ v) (reads_more most xs ys) ∙ sym (append_assoc (reads_of_size most x.path x.look.size) (reads_of most xs) (reads_of most ys))

pub asks_more : (most : ℕ) (start old new : History) (xs ys : List Ask) → Passes old new → Asks most start old xs → Asks most old new ys → Asks most start new (xs ++ ys)
asks_more most start old new xs ys passes first second = record {
  looks = looks_more old new start.last xs ys passes first.looks second.looks;
  reads =
      second.reads ∙ ap (λ v. v ++ reads_of most ys) first.reads ∙ append_assoc start.asked (reads_of most xs) (reads_of most ys)
      ∙ sym (ap (λ v. start.asked ++ v) (reads_more most xs ys));
}

pub asks_none : (most : ℕ) (h : History) → Asks most h h []
asks_none most h = record { looks = omega arith; reads = sym (append-nil h.asked) }

-- a way to know that gives what looks gave gives what each of them gave
agrees_from : (know : Know) (n : ℕ) (xs : List Ask) (ask : Ask) → Agrees know n (xs ++ ask ∷ []) → Agrees know n xs × (know (n + length xs) ask.path ≡ ask.look)
agrees_from know n [] ask agrees =
    let none : n + 0 ≡ n = omega arith in
    (tt, ap (λ k. know k ask.path) none ∙ agrees.0)
agrees_from know n (x ∷ xs) ask agrees =
    let later = agrees_from know (n + 1) xs ask agrees.1 in
    let one : n + suc (length xs) ≡ n + 1 + length xs = omega arith in
    ((agrees.0, later.0), ap (λ k. know k ask.path) one ∙ later.1)

pub agrees_last : (know : Know) (xs : List Ask) (ask : Ask) → Agrees know 0 (xs ++ ask ∷ []) → Agrees know 0 xs × (know (length xs) ask.path ≡ ask.look)
agrees_last know xs ask agrees =
    let both = agrees_from know 0 xs ask agrees in
    let none : length xs ≡ 0 + length xs = omega arith in
    (both.0, ap (λ k. know k ask.path) none ∙ both.1)
