-- A script that is run while it's read: nothing yet, one line more, and how it ends.
use Rattle.std.proofs.Common.{◌≡◌, ℕ, ◌+◌, List, [], ◌∷◌, ◌++◌, Option, Some, None, Ok, Err, refl, sym, ap, ◌∙◌, subst, append_assoc, inl, inr}
use Rattle.std.specs.Prelude.{Bool, true, false, IfSome, is_some, max}
use Rattle.std.proofs.lemmas.List.{append-nil}
use Rattle.hg_base.proofs.Runs.{goes_on, no_call, stops_at}
use Rattle.hg_base.specs.Runs.{RunsAll}
use Rattle.hg_lines.specs.Script.{Answers, Reading, Reads, ReadsFrom, Script, all_of, ended, held, script_behind, start}
use Rattle.hg_lines.specs.Turns.{AreFit, AreOf, IsCutOff, IsRefusal, RunsScript, Turn, Line, Refused, turns_from, turns_of}
use Rattle.hg_lines.specs.declared.fault.LineFault.{LineFault}
use Rattle.hg_lines.specs.declared.fault.LineFault.TheVariants as a_fault

-- the turns of a text are those that were made and those of what is still to be read
abbrev pub IsGoing : Option (List ℕ) → Option (List ℕ) → List Turn → Reading → Type 0
IsGoing None None done reading = Unit {0}
IsGoing (Some text) (Some rest) done reading = turns_of text ≡ done ++ turns_from (reading.number + 1) (script_behind reading rest)
IsGoing None (Some rest) done reading = ⊥
IsGoing (Some text) None done reading = ⊥

module _ {D F : Type 0} (Does : Turn → D → D → ℕ → Option F → Type 0) (from : Option (List ℕ)) (old : D) where
  -- a script that was run so far
  pub record Going (now : D) (code : ℕ) (reading : Reading) (left : Option (List ℕ)) : Type 0 where
    pub done : List Turn
    pub ran : RunsAll Does done old now 0 code
    pub fit : (more : List Turn) → AreFit (reading.number + 1) more → AreFit 1 (done ++ more)
    pub told : IsGoing from (all_of reading left) done reading

  going_from : (text : Option (List ℕ)) → IsGoing text (all_of start text) [] start
  going_from None = tt
  going_from (Some text) = refl

  pub begins : Going old 0 start from
  begins = record { done = []; ran = no_call Does old 0; fit = λ more fit. fit; told = going_from from }

  more_told : (text all rest : Option (List ℕ)) (done : List Turn) (reading new : Reading) (line : List ℕ) → new.number ≡ reading.number + 1 → IsGoing text all done reading
      → ReadsFrom reading all new rest (Ok (Some line)) → IsGoing text rest (done ++ Line (reading.number + 1) line ∷ []) new
  more_told None None None done reading new line next going reads = tt
  more_told None None (Some rest) done reading new line next going reads = reads
  more_told None (Some all) rest done reading new line next going reads = absurd going
  more_told (Some text) None rest done reading new line next going reads = absurd going
  more_told (Some text) (Some all) None done reading new line next going reads = reads
  more_told (Some text) (Some all) (Some rest) done reading new line next going reads =
      going ∙ ap (λ (s : Script). done ++ turns_from (reading.number + 1) s) reads.1
      ∙ ap (λ (n : ℕ). done ++ Line (reading.number + 1) line ∷ turns_from (n + 1) (script_behind new rest)) (sym next)
      ∙ sym (append_assoc done (Line (reading.number + 1) line ∷ []) (turns_from (new.number + 1) (script_behind new rest)))

  -- one line more, without a fault
  pub goes : (now next : D) (code status : ℕ) (reading new : Reading) (left rest : Option (List ℕ)) (line : List ℕ) → Going now code reading left → ReadsFrom reading (all_of reading left) new (all_of new rest) (Ok (Some line))
      → Answers reading new (Ok (Some line)) → Does (Line (reading.number + 1) line) now next status None → Going next (max code status) new rest
  goes now next code status reading new left rest line going reads answers does = record {
    done = going.done ++ Line (reading.number + 1) line ∷ [];
    ran = goes_on Does going.done (Line (reading.number + 1) line) old now next 0 code status going.ran does;
    fit = λ more fit. subst (AreFit 1) (sym (append_assoc going.done (Line (reading.number + 1) line ∷ []) more))
        (going.fit (Line (reading.number + 1) line ∷ more) (refl, answers.fine, subst (λ (n : ℕ). AreFit (n + 1) more) answers.number fit));
    told = more_told from (all_of reading left) (all_of new rest) going.done reading new line answers.number going.told reads;
  }

  -- ---- the end

  all_told : (text all rest : Option (List ℕ)) (done : List Turn) (reading new : Reading) → IsGoing text all done reading → ReadsFrom reading all new rest (Ok None) → IfSome text (λ t. AreOf {F = F} (turns_of t) done None)
  all_told None all rest done reading new going reads = tt
  all_told (Some text) None rest done reading new going reads = absurd going
  all_told (Some text) (Some all) None done reading new going reads = absurd reads
  all_told (Some text) (Some all) (Some rest) done reading new going reads =
      sym (going ∙ ap (λ (t : List ℕ). done ++ turns_from (reading.number + 1) (script_behind reading t)) reads.0 ∙ append-nil done)

  none_behind : (front rest : List ℕ) → front ++ rest ≡ [] → rest ≡ []
  none_behind [] rest none = none
  none_behind (b ∷ front) rest none = absurd (cc none)

  none_left : (reading new : Reading) (all left : Option (List ℕ)) → ReadsFrom reading all new (all_of new left) (Ok None) → IfSome left (λ l. l ≡ [])
  none_left reading new all None reads = tt
  none_left reading new None (Some left) reads = absurd reads
  none_left reading new (Some all) (Some left) reads = none_behind (held new) left reads.1

  pub ends : (now : D) (code : ℕ) (reading new : Reading) (left rest : Option (List ℕ)) → Going now code reading left → ReadsFrom reading (all_of reading left) new (all_of new rest) (Ok None) → RunsScript Does from rest old now code None
  ends now code reading new left rest going reads = record {
    turns = going.done;
    runs = going.ran;
    fit = subst (AreFit 1) (append-nil going.done) (going.fit [] tt);
    told = all_told from (all_of reading left) (all_of new rest) going.done reading new going.told reads;
    end = λ none. none_left reading new (all_of reading left) rest reads;
  }

  -- ---- at a fault

  line_told : (text all rest : Option (List ℕ)) (done : List Turn) (reading new : Reading) (line : List ℕ) (fault : F) → IsGoing text all done reading → ReadsFrom reading all new rest (Ok (Some line))
      → IfSome text (λ t. AreOf (turns_of t) (done ++ Line (reading.number + 1) line ∷ []) (Some fault))
  line_told None all rest done reading new line fault going reads = tt
  line_told (Some text) None rest done reading new line fault going reads = absurd going
  line_told (Some text) (Some all) None done reading new line fault going reads = absurd reads
  line_told (Some text) (Some all) (Some rest) done reading new line fault going reads =
      let behind : List Turn = turns_from (reading.number + 1 + 1) (script_behind new rest) in
      inl (behind, going ∙ ap (λ (s : Script). done ++ turns_from (reading.number + 1) s) reads.1 ∙ sym (append_assoc done (Line (reading.number + 1) line ∷ []) behind))

  -- a line met it
  pub stops : (now next : D) (code status : ℕ) (reading new : Reading) (left rest : Option (List ℕ)) (line : List ℕ) (fault : F) → Going now code reading left
      → ReadsFrom reading (all_of reading left) new (all_of new rest) (Ok (Some line)) → Answers reading new (Ok (Some line)) → Does (Line (reading.number + 1) line) now next status (Some fault)
      → RunsScript Does from rest old next status (Some fault)
  stops now next code status reading new left rest line fault going reads answers does = record {
    turns = going.done ++ Line (reading.number + 1) line ∷ [];
    runs = stops_at Does going.done [] (Line (reading.number + 1) line) old now next code status fault going.ran does;
    fit = going.fit (Line (reading.number + 1) line ∷ []) (refl, answers.fine, tt);
    told = line_told from (all_of reading left) (all_of new rest) going.done reading new line fault going.told reads;
    end = λ none. absurd (cc none);
  }

  cut_told : (text all : Option (List ℕ)) (done : List Turn) (reading : Reading) (met : LineFault) (fault : F) → IsGoing text all done reading → IsCutOff met
      → IfSome text (λ t. AreOf (turns_of t) (done ++ Refused met ∷ []) (Some fault))
  cut_told None all done reading met fault going cut = tt
  cut_told (Some text) None done reading met fault going cut = absurd going
  cut_told (Some text) (Some all) done reading met fault going cut = inr (done, met, (turns_from (reading.number + 1) (script_behind reading all), going), cut, refl)

  refused_told : (text all : Option (List ℕ)) (done : List Turn) (reading : Reading) (met : LineFault) (fault : F) → IsGoing text all done reading
      → ((t : List ℕ) → all ≡ Some t → script_behind reading t ≡ ended (Some met)) → IfSome text (λ t. AreOf (turns_of t) (done ++ Refused met ∷ []) (Some fault))
  refused_told None all done reading met fault going so = tt
  refused_told (Some text) None done reading met fault going so = absurd going
  refused_told (Some text) (Some all) done reading met fault going so =
      inl ([], going ∙ ap (λ (s : Script). done ++ turns_from (reading.number + 1) s) (so all refl) ∙ sym (append-nil (done ++ Refused met ∷ [])))

  ends_so : (reading new : Reading) (all rest : Option (List ℕ)) (met : LineFault) → ((a r : List ℕ) → Reads reading a new r (Err met) → script_behind reading a ≡ ended (Some met))
      → ReadsFrom reading all new rest (Err met) → (t : List ℕ) → all ≡ Some t → script_behind reading t ≡ ended (Some met)
  ends_so reading new None rest met so reads t is = absurd (cc is)
  ends_so reading new (Some all) None met so reads t is = absurd reads
  ends_so reading new (Some all) (Some rest) met so reads t is =
      let same : all ≡ t = cc is in
      ap (script_behind reading) (sym same) ∙ so all rest reads

  fault_told : (text all rest : Option (List ℕ)) (done : List Turn) (reading new : Reading) (met : LineFault) (fault : F) → IsGoing text all done reading → ReadsFrom reading all new rest (Err met)
      → IfSome text (λ t. AreOf (turns_of t) (done ++ Refused met ∷ []) (Some fault))
  fault_told text all rest done reading new a_fault.OutOfMemory fault going reads = cut_told text all done reading a_fault.OutOfMemory fault going (inl refl)
  fault_told text all rest done reading new a_fault.Failed fault going reads = cut_told text all done reading a_fault.Failed fault going (inr refl)
  fault_told text all rest done reading new (a_fault.Line n) fault going reads = refused_told text all done reading (a_fault.Line n) fault going (ends_so reading new all rest (a_fault.Line n) (λ a r read. read.1) reads)
  fault_told text all rest done reading new (a_fault.Text n) fault going reads = refused_told text all done reading (a_fault.Text n) fault going (ends_so reading new all rest (a_fault.Text n) (λ a r read. read.1) reads)
  fault_told text all rest done reading new (a_fault.TooLarge size) fault going reads = refused_told text all done reading (a_fault.TooLarge size) fault going (ends_so reading new all rest (a_fault.TooLarge size) (λ a r read. read.1) reads)

  refusal_of : (reading new : Reading) (met : LineFault) → Answers reading new (Err met) → IsRefusal (reading.number + 1) met
  refusal_of reading new a_fault.OutOfMemory answers = tt
  refusal_of reading new a_fault.Failed answers = tt
  refusal_of reading new (a_fault.Line n) answers = answers.1
  refusal_of reading new (a_fault.Text n) answers = answers.1
  refusal_of reading new (a_fault.TooLarge size) answers = answers.1

  -- the reading met it
  pub refuses : (now next : D) (code status : ℕ) (reading new : Reading) (left rest : Option (List ℕ)) (met : LineFault) (fault : F) → Going now code reading left
      → ReadsFrom reading (all_of reading left) new (all_of new rest) (Err met) → Answers reading new (Err met) → Does (Refused met) now next status (Some fault) → RunsScript Does from rest old next status (Some fault)
  refuses now next code status reading new left rest met fault going reads answers does = record {
    turns = going.done ++ Refused met ∷ [];
    runs = stops_at Does going.done [] (Refused met) old now next code status fault going.ran does;
    fit = going.fit (Refused met ∷ []) (refusal_of reading new met answers, refl);
    told = fault_told from (all_of reading left) (all_of new rest) going.done reading new met fault going.told reads;
    end = λ none. absurd (cc none);
  }

  -- the same by whether there is a fault at all
  pub stops_with : (now next : D) (code status : ℕ) (reading new : Reading) (left rest : Option (List ℕ)) (line : List ℕ) (fault : Option F) → is_some fault ≡ true → Going now code reading left
      → ReadsFrom reading (all_of reading left) new (all_of new rest) (Ok (Some line)) → Answers reading new (Ok (Some line)) → Does (Line (reading.number + 1) line) now next status fault
      → RunsScript Does from rest old next status fault
  stops_with now next code status reading new left rest line None some going reads answers does = absurd (cc some)
  stops_with now next code status reading new left rest line (Some fault) some going reads answers does = stops now next code status reading new left rest line fault going reads answers does

  pub refuses_with : (now next : D) (code status : ℕ) (reading new : Reading) (left rest : Option (List ℕ)) (met : LineFault) (fault : Option F) → is_some fault ≡ true → Going now code reading left
      → ReadsFrom reading (all_of reading left) new (all_of new rest) (Err met) → Answers reading new (Err met) → Does (Refused met) now next status fault → RunsScript Does from rest old next status fault
  refuses_with now next code status reading new left rest met None some going reads answers does = absurd (cc some)
  refuses_with now next code status reading new left rest met (Some fault) some going reads answers does = refuses now next code status reading new left rest met fault going reads answers does

  pub goes_with : (now next : D) (code status : ℕ) (reading new : Reading) (left rest : Option (List ℕ)) (line : List ℕ) (fault : Option F) → is_some fault ≡ false → Going now code reading left
      → ReadsFrom reading (all_of reading left) new (all_of new rest) (Ok (Some line)) → Answers reading new (Ok (Some line)) → Does (Line (reading.number + 1) line) now next status fault → Going next (max code status) new rest
  goes_with now next code status reading new left rest line None none going reads answers does = goes now next code status reading new left rest line going reads answers does
  goes_with now next code status reading new left rest line (Some fault) none going reads answers does = absurd (cc none)

  -- there was no memory to begin with
  pub fails_first : (next : D) (status : ℕ) (rest : Option (List ℕ)) (fault : F) → Does (Refused a_fault.OutOfMemory) old next status (Some fault) → RunsScript Does from rest old next status (Some fault)
  fails_first next status rest fault does = record {
    turns = Refused a_fault.OutOfMemory ∷ [];
    runs = stops_at Does [] [] (Refused a_fault.OutOfMemory) old old next 0 status fault (no_call Does old 0) does;
    fit = (tt, refl);
    told = cut_told from (all_of start from) [] start a_fault.OutOfMemory fault (going_from from) (inl refl);
    end = λ none. absurd (cc none);
  }

  pub fails_with : (next : D) (status : ℕ) (rest : Option (List ℕ)) (fault : Option F) → is_some fault ≡ true → Does (Refused a_fault.OutOfMemory) old next status fault → RunsScript Does from rest old next status fault
  fails_with next status rest None some does = absurd (cc some)
  fails_with next status rest (Some fault) some does = fails_first next status rest fault does
