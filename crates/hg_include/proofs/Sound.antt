-- What holds of every reading: its texts are within the size, and what it refuses is one of three things.
use Rattle.std.proofs.Common.{◌≡◌, ℕ, zero, suc, ◌+◌, ◌-◌, ◌<◌, ◌≤◌, Bool, true, false, List, [], ◌∷◌, ◌++◌, length, Option, Some, None, Result, Ok, Err, IfOk, IfErr, refl, subst, ap, ◌∙◌, arith, IsUtf8, nat_lt}
use Rattle.std.specs.Str.{is_utf8}
use Rattle.std.specs.Str.Lossy.{utf8_valid_len}
use Rattle.std.proofs.lemmas.Bool.{ltb-false, ltb-true}
use Rattle.std.proofs.lemmas.Str.{utf8_valid_len_le}
use Rattle.hg_tree.specs.History.{History}
use Rattle.hg_include.specs.declared.fault.Bad.{Bad}
use Rattle.hg_include.specs.declared.fault.Bad.TheVariants as a_bad
use Rattle.hg_include.specs.declared.fault.IncludeFault.{IncludeFault}
use Rattle.hg_include.specs.declared.fault.IncludeFault.TheVariants as a_fault
use Rattle.hg_include.specs.declared.look.Given.{Given}
use Rattle.hg_include.specs.declared.look.Given.TheVariants as given
use Rattle.hg_include.specs.declared.name.Target.{Target}
use Rattle.hg_include.specs.declared.piece.Piece.{Piece}
use Rattle.hg_include.specs.Answer.{Read}
use Rattle.hg_include.specs.Asking.{Agrees, IsRead, Stops}
use Rattle.hg_include.specs.Line.{lines_of}
use Rattle.hg_include.specs.Look.{Look, given_by, given_bytes, given_size, given_text, ignore_file}
use Rattle.hg_include.specs.Moments.{AreTexts, IsOfReading, IsRefusable, known_by, look_of}
use Rattle.hg_include.specs.Reading.{Ask, Ended, Know, Refusal, SoFar, Step, Task, begun, in_order, looked, nothing, on_given, on_open, on_step, opened, opens, reading, reads, reads_on, refuses, skips, start, step, tasks_of, warned, warns}
use Rattle.hg_include.proofs.Looks.{small}

-- ---- a way to know that gives what looks gave

agrees_along : (know : ℕ → Look) (n : ℕ) (asks : List Ask) → ((k : ℕ) → know (n + k) ≡ look_of asks k) → Agrees (λ n path. know n) n asks
agrees_along know n [] same = tt
agrees_along know n (ask ∷ asks) same =
    let none : n ≡ n + 0 = omega arith in
    (ap know none ∙ same 0, agrees_along know (n + 1) asks (λ k. let one : n + 1 + k ≡ n + suc k = omega arith in ap know one ∙ same (suc k)))

pub agrees_known : (asks : List Ask) → Agrees (known_by asks) 0 asks
agrees_known asks = agrees_along (look_of asks) 0 asks (λ k. let none : 0 + k ≡ k = omega arith in ap (look_of asks) none)

-- ---- what is refused

refused_text : (most : ℕ) (bytes : List ℕ) (what : Bad) → length bytes ≤ most → given_text bytes ≡ given.Refused what → IsRefusable most what
refused_text most bytes what few e = by_test (is_utf8 bytes) refl
  where
    by_test : (is : Bool) → is_utf8 bytes ≡ is → IsRefusable most what
    by_test true is = absurd (cc (rw is at e))
    by_test false is =
        let same : a_bad.Text (utf8_valid_len bytes) ≡ what = cc (rw is at e) in
        let within : utf8_valid_len bytes ≤ most = omega (arith, few, utf8_valid_len_le bytes) in
        subst (IsRefusable most) same within

refused_bytes : (most : ℕ) (stood : Option (List ℕ)) (what : Bad) → given_bytes most stood ≡ given.Refused what → IsRefusable most what
refused_bytes most None what e = absurd (cc e)
refused_bytes most (Some bytes) what e = by_test (nat_lt most (length bytes)) refl
  where
    by_test : (is : Bool) → nat_lt most (length bytes) ≡ is → IsRefusable most what
    by_test true is =
        let same : a_bad.TooLarge (most + 1) ≡ what = cc (rw is at e) in
        let more : most < most + 1 = omega arith in
        subst (IsRefusable most) same more
    by_test false is = refused_text most bytes what (ltb-false most (length bytes) is) (rw is at e)

refused_size : (most : ℕ) (size : Option ℕ) (stood : Option (List ℕ)) (what : Bad) → given_size most size stood ≡ given.Refused what → IsRefusable most what
refused_size most None stood what e = absurd (cc e)
refused_size most (Some size) stood what e = by_test (nat_lt most size) refl
  where
    by_test : (is : Bool) → nat_lt most size ≡ is → IsRefusable most what
    by_test true is =
        let same : a_bad.TooLarge size ≡ what = cc (rw is at e) in
        subst (IsRefusable most) same (ltb-true most size is)
    by_test false is = refused_bytes most stood what (rw is at e)

refused_look : (most : ℕ) (look : Look) (what : Bad) → given_by most look ≡ given.Refused what → IsRefusable most what
unfolding given_by
refused_look most look what e = refused_size most look.size look.bytes what e

-- ---- each reading

abbrev IsFit : ℕ → Option Refusal → Type 0
IsFit most None = Unit {0}
IsFit most (Some refusal) = IsRefusable most refusal.what

abbrev IsSound : ℕ → Ended → Type 0
IsSound most ended = AreTexts most ended.so.pieces × IsFit most ended.fault

texts_more : (most : ℕ) (pieces : List Piece) (piece : Piece) → AreTexts most pieces → length piece.text ≤ most → IsUtf8 piece.text → AreTexts most (pieces ++ piece ∷ [])
texts_more most [] piece texts few utf8 = (few, utf8, tt)
texts_more most (p ∷ pieces) piece texts few utf8 = (texts.0, texts.1, texts_more most pieces piece texts.2 few utf8)

abbrev DeepSound : ℕ → Option (List Task → SoFar → Ended) → Type 0
DeepSound most None = Unit {0}
DeepSound most (Some deep) = (tasks : List Task) (so : SoFar) → AreTexts most so.pieces → IsSound most (deep tasks so)

given_sound : (most : ℕ) (look : Look) (deep : List Task → SoFar → Ended) → ((tasks : List Task) (so : SoFar) → AreTexts most so.pieces → IsSound most (deep tasks so))
    → (rest : SoFar → Ended) → ((so : SoFar) → AreTexts most so.pieces → IsSound most (rest so))
    → (tasks : List Task) (task : Task) (target : Target) (name : List ℕ) (so : SoFar) (g : Given) → given_by most look ≡ g → AreTexts most so.pieces
    → IsSound most (on_given deep rest tasks task target name so g)
given_sound most look deep d rest r tasks task target name so given.Missing e texts = r (warned task true name so) texts
given_sound most look deep d rest r tasks task target name so (given.Refused what) e texts = (texts, refused_look most look what e)
given_sound most look deep d rest r tasks task target name so (given.There text) e texts =
    let few = small most look text e in
    d (tasks_of target (lines_of text) ++ tasks) (opened target text so) (texts_more most so.pieces (record { file = target.file; base = target.base; text = text }) texts few.0 few.1)

open_sound : (most : ℕ) (know : Know) (deep : Option (List Task → SoFar → Ended)) → DeepSound most deep → (rest : SoFar → Ended) → ((so : SoFar) → AreTexts most so.pieces → IsSound most (rest so))
    → (tasks : List Task) (task : Task) (so : SoFar) (target : Target) (name : List ℕ) → AreTexts most so.pieces → IsSound most (on_open most know deep rest tasks task so target name)
open_sound most know None d rest r tasks task so target name texts = (texts, tt)
open_sound most know (Some deep) d rest r tasks task so target name texts =
    given_sound most (know (length so.asks) target.file) deep d rest r tasks task target name (looked know target.file so) (given_by most (know (length so.asks) target.file)) refl texts

step_sound : (most : ℕ) (know : Know) (deep : Option (List Task → SoFar → Ended)) → DeepSound most deep → (rest : SoFar → Ended) → ((so : SoFar) → AreTexts most so.pieces → IsSound most (rest so))
    → (tasks : List Task) (task : Task) (so : SoFar) (s : Step) → AreTexts most so.pieces → IsSound most (on_step most know deep rest tasks task so s)
step_sound most know deep d rest r tasks task so (warns name) texts = r (warned task false name so) texts
step_sound most know deep d rest r tasks task so refuses texts = (texts, tt)
step_sound most know deep d rest r tasks task so skips texts = r so texts
step_sound most know deep d rest r tasks task so (opens target name) texts = open_sound most know deep d rest r tasks task so target name texts

order_sound : (most : ℕ) (know : Know) (deep : Option (List Task → SoFar → Ended)) → DeepSound most deep → (tasks : List Task) (so : SoFar) → AreTexts most so.pieces → IsSound most (in_order most know deep tasks so)
order_sound most know deep d [] so texts = (texts, tt)
order_sound most know deep d (task ∷ tasks) so texts =
    step_sound most know deep d (λ so. in_order most know deep tasks so) (λ so texts. order_sound most know deep d tasks so texts) tasks task so (step so.pieces task) texts

reads_sound : (most n : ℕ) (know : Know) (tasks : List Task) (so : SoFar) → AreTexts most so.pieces → IsSound most (reads most n know tasks so)
reads_sound most zero know tasks so texts = order_sound most know None tt tasks so texts
reads_sound most (suc n) know tasks so texts = order_sound most know (Some (reads most n know)) (λ tasks so texts. reads_sound most n know tasks so texts) tasks so texts

on_sound : (most limit : ℕ) (know : Know) (tasks : List Task) (so : SoFar) → AreTexts most so.pieces → IsSound most (reads_on most limit know tasks so)
unfolding reads_on
on_sound most limit know tasks so texts = reads_sound most (limit - length so.pieces) know tasks so texts

begun_sound : (most limit : ℕ) (know : Know) (look : Look) (so : SoFar) (g : Given) → given_by most look ≡ g → AreTexts most so.pieces → IsSound most (begun most limit know so g)
begun_sound most limit know look so given.Missing e texts = (texts, tt)
begun_sound most limit know look so (given.Refused what) e texts = (texts, refused_look most look what e)
begun_sound most limit know look so (given.There text) e texts =
    let few = small most look text e in
    on_sound most limit know (tasks_of start (lines_of text)) (opened start text so) (texts_more most so.pieces (record { file = ignore_file; base = None; text = text }) texts few.0 few.1)

pub reading_sound : (most limit : ℕ) (know : Know) → IsSound most (reading most limit know)
unfolding reading
reading_sound most limit know = begun_sound most limit know (know 0 ignore_file) (looked know ignore_file nothing) (given_by most (know 0 ignore_file)) refl tt

pub texts_read : (most limit : ℕ) (old new : History) (r : Result Read IncludeFault) → IfOk r (IsRead most limit old new) → IfOk r (λ read. AreTexts most read.pieces)
texts_read most limit old new (Ok read) is =
    let e = is.ends (known_by is.asks) (agrees_known is.asks) in
    subst (AreTexts most) (ap (λ (v : Ended). v.so.pieces) e) (reading_sound most limit (known_by is.asks)).0
texts_read most limit old new (Err fault) is = tt

kind_of : (most limit : ℕ) (old new : History) (fault : IncludeFault) → Stops most limit old new fault → IsOfReading most fault
kind_of most limit old new a_fault.OutOfMemory stops = tt
kind_of most limit old new a_fault.Failed stops = tt
kind_of most limit old new (a_fault.Bad file what) stops =
    let e = stops.ends (known_by stops.asks) (agrees_known stops.asks) in
    subst (IsFit most) e.1 (reading_sound most limit (known_by stops.asks)).1

pub kinds_read : (most limit : ℕ) (old new : History) (r : Result Read IncludeFault) → IfErr r (Stops most limit old new) → IfErr r (IsOfReading most)
kinds_read most limit old new (Ok read) stops = tt
kinds_read most limit old new (Err fault) stops = kind_of most limit old new fault stops
