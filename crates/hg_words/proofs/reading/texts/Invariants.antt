use Rattle.std.proofs.Common.{◌≡◌, ◌<◌, ◌++◌, ℕ, [], drop, map, get_or, IsUtf8}
use Rattle.hg_words.proofs.reading.texts.Given as goal

-- with what is left, the words so far are all, and each is a text
abbrev pub invariant-loop-i : goal.invariant-loop-i
invariant-loop-i l = record {
  all : map (λ word. word.now) l.all.items ++ drop l.i l.words ≡ l.words;
  texts : (k : ℕ) → k < l.i → IsUtf8 (get_or l.words k []);
}
