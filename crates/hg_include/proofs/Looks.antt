-- Looks at files.
use Rattle.std.proofs.Common.{◌≡◌, ℕ, ◌+◌, ◌<◌, ◌≤◌, inl, inr, Bool, true, false, IsTrue, List, [], ◌∷◌, ◌++◌, length, take, drop, Option, Some, None, Result, Ok, Err, IfOk, IfErr, refl, sym, subst, ap, ◌∙◌, arith, append-nil, IsUtf8, nat_lt}
use Rattle.std.specs.Str.{IsValidUpTo, is_utf8}
use Rattle.std.proofs.Math.Seq.{take-length}
use Rattle.std.proofs.lemmas.Bool.{le-ltb, lt-ltb, ltb-false}
use Rattle.std.proofs.lemmas.List.{length-take}
use Rattle.std.proofs.lemmas.Result.{IfOk-weaker}
use Rattle.std.proofs.lemmas.Str.{IsUtf8-from_is_utf8, is_utf8-from_IsUtf8, utf8_valid_len-IsValidUpTo}
use Rattle.hg_base.specs.Reads.{ReadsBytes}
use Rattle.hg_base.specs.declared.stat.Got.TheVariants as a_got
use Rattle.hg_base.specs.declared.stat.Stat.{Stat}
use Rattle.hg_tree.specs.History.{Asks as Notes, History, Passes, now}
use Rattle.hg_tree.specs.Moment.{bytes_at, stat_at}
use Rattle.hg_tree.specs.declared.asked.Asked.TheVariants as an_ask
use Rattle.hg_include.specs.declared.fault.IncludeFault.{IncludeFault}
use Rattle.hg_include.specs.Asking.{Asks, Fails, Gives, GivesBytes, MayRead, reads_of_size}
use Rattle.hg_include.specs.Look.{Look, file_size, given_by, given_bytes, given_size, given_text}
use Rattle.hg_include.specs.declared.fault.Bad.TheVariants as a_bad
use Rattle.hg_include.specs.declared.look.Given.{Given}
use Rattle.hg_include.specs.declared.look.Given.TheVariants as given

-- bytes that are text, and bytes that are text up to a place
pub text_given : (bytes : List ℕ) → IsUtf8 bytes → given_text bytes ≡ given.There bytes
text_given bytes utf8 = rw (is_utf8-from_IsUtf8 bytes utf8)

no_text : (bytes : List ℕ) (n : ℕ) → IsValidUpTo bytes n → is_utf8 bytes ≡ false
no_text bytes n valid = by_test (is_utf8 bytes) refl
  where
    by_test : (is : Bool) → is_utf8 bytes ≡ is → is_utf8 bytes ≡ false
    by_test false e = e
    by_test true e = absurd (valid.longest (length bytes) valid.short (subst IsUtf8 (sym (take-length bytes)) (IsUtf8-from_is_utf8 bytes e)))

pub refused_given : (bytes : List ℕ) (n : ℕ) → IsValidUpTo bytes n → given_text bytes ≡ given.Refused (a_bad.Text n)
refused_given bytes n valid = rw (no_text bytes n valid) (ap (λ k. given.Refused (a_bad.Text k)) (utf8_valid_len-IsValidUpTo bytes n valid))

-- ---- a read into a buffer of one byte more than is taken

over : (most : ℕ) (bytes : List ℕ) → most < length bytes → given_bytes most (Some bytes) ≡ given.Refused (a_bad.TooLarge (most + 1))
over most bytes more = rw (lt-ltb most (length bytes) more)

longer : (most n : ℕ) (stood : Option (List ℕ)) (old new : List ℕ) → most < n → ReadsBytes stood 0 old new (a_got.Bytes n) → given_bytes most stood ≡ given.Refused (a_bad.TooLarge (most + 1))
longer most n None old new more read = absurd read
longer most n (Some text) old new more read = over most text (omega (arith, more, read.count))

pub over_read : (told : Bool) (most n : ℕ) (stood : Option (List ℕ)) (old new : List ℕ) → length old ≡ most + 1 → most < n → n ≤ length old
    → (IsTrue told → ReadsBytes stood 0 old new (a_got.Bytes n))
    → (bytes : Option (List ℕ)) × (given_bytes most bytes ≡ given.Refused (a_bad.TooLarge n)) × (IsTrue told → bytes ≡ stood)
over_read true most n stood old new room more within read =
    let same : most + 1 ≡ n = omega arith in
    (stood, longer most n stood old new more (read refl) ∙ ap (λ k. given.Refused (a_bad.TooLarge k)) same, λ told. refl)
over_read false most n stood old new room more within read =
    let same : most + 1 ≡ n = omega arith in
    (Some old, over most old (omega arith) ∙ ap (λ k. given.Refused (a_bad.TooLarge k)) same, λ told. absurd (cc told))

take_front : (a b : List ℕ) → take (length a) (a ++ b) ≡ a
take_front [] b = refl
take_front (x ∷ a) b = ap (λ v. x ∷ v) (take_front a b)

-- the front of a list of bytes into which a buffer was written back
pub front_kept : (n len : ℕ) (buf rest : List ℕ) → length buf ≡ len → take n (take len (buf ++ rest)) ≡ take n buf
front_kept n len buf rest e = ap (take n) (ap (λ k. take k (buf ++ rest)) (sym e) ∙ take_front buf rest)

-- a read that was short of its buffer gave the whole
whole_read : (most n : ℕ) (stood : Option (List ℕ)) (old new : List ℕ) → length old ≡ most + 1 → n ≤ most → ReadsBytes stood 0 old new (a_got.Bytes n) → Some (take n new) ≡ stood
whole_read most n None old new room few read = absurd read
whole_read most n (Some text) old new room few read =
    let count : n ≡ length text = omega (arith, read.count, room, few) in
    let filled : new ≡ text ++ drop n old = read.filled ∙ ap (λ k. take k text ++ drop n old) count ∙ ap (λ v. v ++ drop n old) (take-length text) in
    ap Some (ap (take n) filled ∙ ap (λ k. take k (text ++ drop n old)) count ∙ take_front text (drop n old))

pub few_read : (told : Bool) (most n : ℕ) (stood : Option (List ℕ)) (old new kept : List ℕ) (given : Given) → length old ≡ most + 1 → n ≤ most
    → (IsTrue told → ReadsBytes stood 0 old new (a_got.Bytes n)) → kept ≡ take n new → given ≡ given_text kept
    → (bytes : Option (List ℕ)) × (given_bytes most bytes ≡ given) × (IsTrue told → bytes ≡ stood)
few_read told most n stood old new kept given room few read is e =
    let short : length (take n new) ≤ most = omega (arith, length-take n new) in
    let all : given_bytes most (Some (take n new)) ≡ given_text (take n new) = rw (le-ltb most (length (take n new)) short) in
    (Some (take n new), all ∙ ap given_text (sym is) ∙ sym e, λ is_told. whole_read most n stood old new room few (read is_told))

pub absent_read : (stood : Option (List ℕ)) (old new : List ℕ) → ReadsBytes stood 0 old new a_got.Absent → None ≡ stood
absent_read None old new read = refl
absent_read (Some text) old new read = absurd read

pub note_sure : (path : List ℕ) (old new : History) → Notes true (an_ask.Read path ∷ []) old new → new.asked ≡ old.asked ++ an_ask.Read path ∷ []
note_sure path old new (inl e) = e
note_sure path old new (inr p) = absurd (cc p.0)

quiet : (old new : History) → Notes true [] old new → new.asked ≡ old.asked
quiet old new (inl e) = e ∙ append-nil old.asked
quiet old new (inr p) = p.1

-- ---- a stat, and a read behind it

-- one look, at whose end nothing was read
stat_asks : (most : ℕ) (path : List ℕ) (old new : History) (look : Look) → Passes old new → Notes true [] old new
    → look.size ≡ file_size (stat_at (now new) path) → look.bytes ≡ bytes_at (now new) path → reads_of_size most path look.size ≡ []
    → Asks most old new (record { path = path; look = look } ∷ [])
stat_asks most path old new look passes notes size bytes none = record {
  looks = (record { first = new.last; second = new.last; begun = passes.past.later; order = omega arith; within = omega arith; size = size; bytes = bytes }, (omega arith));
  reads = quiet old new notes ∙ sym (append-nil old.asked) ∙ sym (ap (λ v. old.asked ++ (v ++ [])) none);
}

pub none_given : (most : ℕ) (path : List ℕ) (old new : History) (found : Option Stat) → Passes old new → (IsTrue old.told → Notes true [] old new)
    → (IsTrue old.told → found ≡ stat_at (now new) path) → None ≡ file_size found → Gives most path old new given.Missing
unfolding given_by
none_given most path old new found passes notes shown none = record {
  look = record { size = None; bytes = bytes_at (now new) path };
  gives = refl;
  asked = λ told. stat_asks most path old new (record { size = None; bytes = bytes_at (now new) path }) passes (notes told) (none ∙ ap file_size (shown told)) refl refl;
}

pub large_given : (most size : ℕ) (path : List ℕ) (old new : History) (found : Option Stat) → Passes old new → (IsTrue old.told → Notes true [] old new)
    → (IsTrue old.told → found ≡ stat_at (now new) path) → Some size ≡ file_size found → most < size → Gives most path old new (given.Refused (a_bad.TooLarge size))
unfolding given_by
large_given most size path old new found passes notes shown is more = record {
  look = record { size = Some size; bytes = bytes_at (now new) path };
  gives = rw (lt-ltb most size more);
  asked = λ told. stat_asks most path old new (record { size = Some size; bytes = bytes_at (now new) path }) passes (notes told) (is ∙ ap file_size (shown told)) refl (rw (lt-ltb most size more));
}

-- a read behind a stat that showed a file within the size
read_asks : (most size : ℕ) (path : List ℕ) (old mid new : History) (bytes : Option (List ℕ)) → Passes old mid → Passes mid new → Notes true [] old mid
    → Some size ≡ file_size (stat_at (now mid) path) → size ≤ most → bytes ≡ bytes_at (now new) path → new.asked ≡ mid.asked ++ an_ask.Read path ∷ []
    → Asks most old new (record { path = path; look = record { size = Some size; bytes = bytes } } ∷ [])
read_asks most size path old mid new bytes first second notes shown few found read = record {
  looks = (
    record {
      first = mid.last;
      second = new.last;
      begun = first.past.later;
      order = second.past.later;
      within = omega arith;
      size = shown ∙ sym (ap (λ m. file_size (stat_at m path)) (second.past.stay mid.last (omega arith)));
      bytes = found;
    },
    (omega arith),
  );
  reads =
      let one : reads_of_size most path (Some size) ≡ an_ask.Read path ∷ [] = rw (le-ltb most size few) in
      read ∙ ap (λ v. v ++ an_ask.Read path ∷ []) (quiet old mid notes) ∙ sym (ap (λ v. old.asked ++ (v ++ [])) one);
}

pub behind_given : (most size : ℕ) (path : List ℕ) (old mid new : History) (found : Option Stat) (given : Given) → Passes old mid → Passes mid new → (IsTrue old.told → Notes true [] old mid)
    → (IsTrue old.told → found ≡ stat_at (now mid) path) → Some size ≡ file_size found → size ≤ most → GivesBytes most path mid new given → Gives most path old new given
unfolding given_by
behind_given most size path old mid new found given first second notes shown is few gives = record {
  look = record { size = Some size; bytes = gives.bytes };
  gives = rw (le-ltb most size few) gives.gives;
  asked = λ told. read_asks most size path old mid new gives.bytes first second (notes told) (is ∙ ap file_size (shown told)) few (gives.found (first.past.told ∙ told)) (gives.asked (first.past.told ∙ told));
}

pub all_given : (most size : ℕ) (path : List ℕ) (old mid new : History) (found : Option Stat) (r : Result Given IncludeFault) → Passes old mid → Passes mid new → (IsTrue old.told → Notes true [] old mid)
    → (IsTrue old.told → found ≡ stat_at (now mid) path) → Some size ≡ file_size found → size ≤ most → IfOk r (GivesBytes most path mid new) → IfOk r (Gives most path old new)
all_given most size path old mid new found r first second notes shown is few =
    IfOk-weaker r (GivesBytes most path mid new) (Gives most path old new) (λ given gives. behind_given most size path old mid new found given first second notes shown is few gives)

-- where nothing was read no look was whole
pub none_fails : (most : ℕ) (path : List ℕ) (old new : History) → Passes old new → (IsTrue old.told → new.asked ≡ old.asked) → Fails most path old new
none_fails most path old new passes same = record {
  asks = [];
  one = inl refl;
  asked = λ told. record { looks = passes.past.later; reads = same told ∙ sym (append-nil old.asked) };
}

read_fails : (most size : ℕ) (path : List ℕ) (old mid new : History) (found : Option Stat) → Passes old mid → Passes mid new → Passes old new → (IsTrue old.told → Notes true [] old mid)
    → (IsTrue old.told → found ≡ stat_at (now mid) path) → Some size ≡ file_size found → size ≤ most → (told : IsTrue old.told) → MayRead path mid new → Fails most path old new
read_fails most size path old mid new found first second both notes shown is few told (inl e) =
    none_fails most path old new both (λ told. e ∙ quiet old mid (notes told))
read_fails most size path old mid new found first second both notes shown is few told (inr e) = record {
  asks = record { path = path; look = record { size = Some size; bytes = bytes_at (now new) path } } ∷ [];
  one = inr (record { size = Some size; bytes = bytes_at (now new) path }, refl);
  asked = λ told. read_asks most size path old mid new (bytes_at (now new) path) first second (notes told) (is ∙ ap file_size (shown told)) few refl e;
}

pub behind_fails : (told : Bool) (most size : ℕ) (path : List ℕ) (old mid new : History) (found : Option Stat) → old.told ≡ told → Passes old mid → Passes mid new → Passes old new → (IsTrue old.told → Notes true [] old mid)
    → (IsTrue old.told → found ≡ stat_at (now mid) path) → Some size ≡ file_size found → size ≤ most → (IsTrue mid.told → MayRead path mid new) → Fails most path old new
behind_fails true most size path old mid new found e first second both notes shown is few may =
    read_fails most size path old mid new found first second both notes shown is few e (may (first.past.told ∙ e))
behind_fails false most size path old mid new found e first second both notes shown is few may =
    none_fails most path old new both (λ told. absurd (cc (told, e)))

pub all_fail : (most size : ℕ) (path : List ℕ) (old mid new : History) (found : Option Stat) (r : Result Given IncludeFault) → Passes old mid → Passes mid new → Passes old new → (IsTrue old.told → Notes true [] old mid)
    → (IsTrue old.told → found ≡ stat_at (now mid) path) → Some size ≡ file_size found → size ≤ most → (IsTrue mid.told → IfErr r (λ _. MayRead path mid new)) → IfErr r (λ _. Fails most path old new)
all_fail most size path old mid new found (Ok x) first second both notes shown is few may = tt
all_fail most size path old mid new found (Err f) first second both notes shown is few may =
    behind_fails old.told most size path old mid new found refl first second both notes shown is few may

-- a text that is given is within the size, and is text
small_text : (most : ℕ) (bytes text : List ℕ) → length bytes ≤ most → given_text bytes ≡ given.There text → (length text ≤ most) × IsUtf8 text
small_text most bytes text few e = by_test (is_utf8 bytes) refl
  where
    by_test : (is : Bool) → is_utf8 bytes ≡ is → (length text ≤ most) × IsUtf8 text
    by_test true utf8 =
        let same : bytes ≡ text = cc (rw utf8 at e) in
        (subst (λ (v : List ℕ). length v ≤ most) same few, subst IsUtf8 same (IsUtf8-from_is_utf8 bytes utf8))
    by_test false utf8 = absurd (cc (rw utf8 at e))

small_bytes : (most : ℕ) (stood : Option (List ℕ)) (text : List ℕ) → given_bytes most stood ≡ given.There text → (length text ≤ most) × IsUtf8 text
small_bytes most None text e = absurd (cc e)
small_bytes most (Some bytes) text e = by_test (nat_lt most (length bytes)) refl
  where
    by_test : (is : Bool) → nat_lt most (length bytes) ≡ is → (length text ≤ most) × IsUtf8 text
    by_test true is = absurd (cc (rw is at e))
    by_test false is = small_text most bytes text (ltb-false most (length bytes) is) (rw is at e)

small_size : (most : ℕ) (size : Option ℕ) (stood : Option (List ℕ)) (text : List ℕ) → given_size most size stood ≡ given.There text → (length text ≤ most) × IsUtf8 text
small_size most None stood text e = absurd (cc e)
small_size most (Some size) stood text e = by_test (nat_lt most size) refl
  where
    by_test : (is : Bool) → nat_lt most size ≡ is → (length text ≤ most) × IsUtf8 text
    by_test true is = absurd (cc (rw is at e))
    by_test false is = small_bytes most stood text (rw is at e)

pub small : (most : ℕ) (look : Look) (text : List ℕ) → given_by most look ≡ given.There text → (length text ≤ most) × IsUtf8 text
unfolding given_by
small most look text e = small_size most look.size look.bytes text e

-- a look that was whole, of which nothing could be kept
pub kept_fails : (most : ℕ) (path : List ℕ) (old new : History) (given : Given) → Gives most path old new given → Fails most path old new
kept_fails most path old new given gives = record { asks = record { path = path; look = gives.look } ∷ []; one = inr (gives.look, refl); asked = gives.asked }
