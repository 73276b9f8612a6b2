-- Requests that are served one after another: none yet, one more, and how it ends.
use Rattle.std.proofs.Common.{◌≡◌, ℕ, ◌+◌, ◌≤◌, List, [], ◌∷◌, ◌++◌, length, Option, Result, Some, None, Ok, Err, flat_map, refl, sym, ap, ◌∙◌, subst, append_assoc, arith, inr}
use Rattle.std.proofs.lemmas.Grind.{flat_map-append}
use Rattle.std.proofs.lemmas.List.{append-nil, length-append}
use Rattle.hg_base.specs.Fault.{Rose}
use Rattle.hg_base.specs.Runs.{RunsEach}
use Rattle.hg_stream.proofs.Grown.{grown_twice}
use Rattle.hg_stream.specs.Stream.{Grown, GrownByFront}
use Rattle.hg_server.proofs.Reading.{took_nothing, took_twice}
use Rattle.hg_server.proofs.Writing.{whole_not_refused}
use Rattle.hg_server.specs.Failing.{FailsAs}
use Rattle.hg_server.specs.Protocol.{answer, hello, request}
use Rattle.hg_server.specs.Replies.{Replies, Responds, Step}
use Rattle.hg_server.specs.Requests.{Reads, Says, Took, refusal}
use Rattle.hg_server.specs.Serving.{Ends, Exchange, IsCutOff, IsLeft, IsRun, Puts, Serves, answered, asked}
use Rattle.hg_server.specs.declared.fault.ServeFault.{ServeFault}
use Rattle.hg_server.specs.declared.fault.ServeFault.TheVariants as a_fault

-- ---- one exchange more

flat_more : {X : Type 0} (f : X → List ℕ) (xs : List X) (x : X) → flat_map f (xs ++ x ∷ []) ≡ flat_map f xs ++ f x
flat_more f xs x = flat_map-append f xs (x ∷ []) ∙ ap (λ (l : List ℕ). flat_map f xs ++ l) (append-nil (f x))

chain_more : {C D : Type 0} (Does : C → D → D → Type 0) (calls : List C) (call : C) (old mid new : D) → RunsEach Does calls old mid → Does call mid new → RunsEach Does (calls ++ call ∷ []) old new
chain_more {D = D} Does [] call old mid new runs does = (new, subst (λ (d : D). Does call d new) runs does, refl)
chain_more Does (one ∷ calls) call old mid new runs does = (runs.0, runs.1, chain_more Does calls call runs.0 mid new runs.2 does)

none_some : {fault : ServeFault} → None ≡ Some fault → ⊥
none_some e = cc e

-- ---- counts of failures

pub fails_later : {T : Type 0} (before mid now : ℕ) (result : Result T ServeFault) (own : ServeFault) → mid ≡ before → FailsAs mid now result own → FailsAs before now result own
fails_later before mid now result own same fails = record {
  rose = λ is. subst (λ (n : ℕ). Rose n now) same (fails.rose is);
  quiet = λ other. fails.quiet other ∙ same;
}

pub fails_not : {T : Type 0} (before now : ℕ) (result : Result T ServeFault) (own : ServeFault) → now ≡ before → (result ≡ Err own → ⊥) → FailsAs before now result own
fails_not before now result own same other = record { rose = λ is. absurd (other is); quiet = λ no_own. same }

module _ {R : Type 0} (step : Step R) (from old : Option (List ℕ)) (before : R) where
  -- what was served so far
  pub record Going (left now : Option (List ℕ)) (reached : R) (served : ℕ) : Type 0 where
    pub exchanges : List Exchange
    pub count : length exchanges ≡ served
    pub few : served ≤ 4294967296
    pub runs : RunsEach (IsRun step) exchanges before reached
    pub took : Took from left (asked exchanges)
    pub puts : Grown old now (hello ++ answered exchanges)

  pub begins : (now : Option (List ℕ)) → Grown old now hello → Going from now before 0
  begins now put = record {
    exchanges = [];
    count = refl;
    few = omega arith;
    runs = refl;
    took = took_nothing from;
    puts = subst (λ (l : List ℕ). Grown old now l) (sym (append-nil hello)) put;
  }

  asks_more : (exchanges : List Exchange) (e : Exchange) (part : List ℕ) → part ≡ request e.text → asked exchanges ++ part ≡ asked (exchanges ++ e ∷ [])
  asks_more exchanges e part is = ap (λ (l : List ℕ). asked exchanges ++ l) is ∙ sym (flat_more (λ x. request x.text) exchanges e)

  answers_more : (exchanges : List Exchange) (e : Exchange) → (hello ++ answered exchanges) ++ answer e.out e.err e.status ≡ hello ++ answered (exchanges ++ e ∷ [])
  answers_more exchanges e =
      append_assoc hello (answered exchanges) (answer e.out e.err e.status) ∙ ap (λ (l : List ℕ). hello ++ l) (sym (flat_more (λ x. answer x.out x.err x.status) exchanges e))

  module _ (served : ℕ) (left to now : Option (List ℕ)) (mid : R) (going : Going left now mid served) where
    -- ---- a request that was read

    module _ (next : Option (List ℕ)) (after : R) (words : List (List ℕ)) (reads : Reads (served + 1) left to (Ok (Some words))) where
      exchanged : (out err : List ℕ) (status : ℕ) → step mid words out err status after
          → RunsEach (IsRun step) (going.exchanges ++ record { text = reads.says.0; out = out; err = err; status = status } ∷ []) before after
      exchanged out err status run =
          chain_more (IsRun step) going.exchanges (record { text = reads.says.0; out = out; err = err; status = status }) before mid after going.runs
          (record { fit = reads.says.2; ran = subst (λ (w : List (List ℕ)). step mid w out err status after) reads.says.4 run })

      taken : (out err : List ℕ) (status : ℕ) → Took from to (asked (going.exchanges ++ record { text = reads.says.0; out = out; err = err; status = status } ∷ []))
      taken out err status =
          subst (λ (l : List ℕ). Took from to l) (asks_more going.exchanges (record { text = reads.says.0; out = out; err = err; status = status }) reads.part reads.says.1)
          (took_twice from left to (asked going.exchanges) reads.part going.took reads.took)

      pub goes : Replies step words mid after (Grown now next) → Going to next after (served + 1)
      goes replies =
          let e : Exchange = record { text = reads.says.0; out = replies.out; err = replies.err; status = replies.status } in
          record {
            exchanges = going.exchanges ++ e ∷ [];
            count = length-append going.exchanges (e ∷ []) ∙ ap (λ (n : ℕ). n + 1) going.count;
            few = reads.says.3;
            runs = exchanged replies.out replies.err replies.status replies.run;
            took = taken replies.out replies.err replies.status;
            puts = subst (λ (l : List ℕ). Grown old next l) (answers_more going.exchanges e)
                (grown_twice old now next (hello ++ answered going.exchanges) (answer replies.out replies.err replies.status) going.puts replies.puts);
          }

      cut : (exchanges : List Exchange) (e : Exchange) → Grown old now (hello ++ answered exchanges) → GrownByFront now next (answer e.out e.err e.status) → IsCutOff (exchanges ++ e ∷ []) old next
      cut [] e put (rest, but) = (but.front, rest, [], e, refl, but.parts, grown_twice old now next (hello ++ answered []) but.front put but.grown)
      cut (x ∷ exchanges) e put (rest, but) = (but.front, rest, x ∷ exchanges, e, refl, but.parts, grown_twice old now next (hello ++ answered (x ∷ exchanges)) but.front put but.grown)

      -- the sink failed in its answer
      cut_off : Replies step words mid after (GrownByFront now next) → Serves step from to old next before after (Err a_fault.OutFailed)
      cut_off replies =
          let e : Exchange = record { text = reads.says.0; out = replies.out; err = replies.err; status = replies.status } in
          record {
            exchanges = going.exchanges ++ e ∷ [];
            reached = after;
            part = [];
            runs = exchanged replies.out replies.err replies.status replies.run;
            left = refl;
            few = omega (arith, length-append going.exchanges (e ∷ []), going.count, reads.says.3);
            took = subst (λ (l : List ℕ). Took from to l) (sym (append-nil (asked (going.exchanges ++ e ∷ [])))) (taken replies.out replies.err replies.status);
            within = omega arith;
            puts = cut going.exchanges e going.puts replies.puts;
            ends = refl;
          }

      -- there was no memory for its run
      lacks : next ≡ now → Serves step from to old next before after (Err a_fault.OutOfMemory)
      lacks same =
          let low : length going.exchanges + 1 ≤ 4294967296 = omega (arith, going.count, reads.says.3) in
          let none : refusal (length going.exchanges + 1) reads.part ≡ None =
          ap (refusal (length going.exchanges + 1)) reads.says.1 ∙ whole_not_refused (length going.exchanges + 1) reads.says.0 low reads.says.2 in
          record {
            exchanges = going.exchanges;
            reached = mid;
            part = reads.part;
            runs = going.runs;
            left = λ short. absurd (none_some (sym none ∙ short));
            few = omega (arith, going.count, going.few);
            took = took_twice from left to (asked going.exchanges) reads.part going.took reads.took;
            within = reads.within;
            puts = subst (λ (o : Option (List ℕ)). Grown old o (hello ++ answered going.exchanges)) (sym same) going.puts;
            ends = inr none;
          }

      pub unanswered : (fault : ServeFault) → Responds step words mid after now next (Err fault) → Serves step from to old next before after (Err fault)
      unanswered a_fault.OutOfMemory responds = lacks responds
      unanswered a_fault.InFailed responds = absurd responds
      unanswered a_fault.OutFailed responds = cut_off responds
      unanswered (a_fault.ServerCommand m) responds = absurd responds
      unanswered (a_fault.ServerShort m) responds = absurd responds
      unanswered (a_fault.ServerTooLarge m size) responds = absurd responds
      unanswered (a_fault.ServerText m) responds = absurd responds
      unanswered a_fault.ServerLimit responds = absurd responds

    -- ---- no request that was read

    pub ends_well : Reads (served + 1) left to (Ok None) → Serves step from to old now before mid (Ok served)
    ends_well reads = record {
      exchanges = going.exchanges;
      reached = mid;
      part = reads.part;
      runs = going.runs;
      left = refl;
      few = omega (arith, going.count, going.few);
      took = took_twice from left to (asked going.exchanges) reads.part going.took reads.took;
      within = reads.within;
      puts = going.puts;
      ends = (sym going.count, reads.says.0, reads.says.1);
    }

    module _ (fault : ServeFault) (reads : Reads (served + 1) left to (Err fault)) where
      refuses : IsLeft (length going.exchanges + 1) reads.part mid mid (Err fault) → Puts going.exchanges old now (Err fault) → Ends served reads.part to (Err fault) → Serves step from to old now before mid (Err fault)
      refuses stays puts ends = record {
        exchanges = going.exchanges;
        reached = mid;
        part = reads.part;
        runs = going.runs;
        left = stays;
        few = omega (arith, going.count, going.few);
        took = took_twice from left to (asked going.exchanges) reads.part going.took reads.took;
        within = reads.within;
        puts = puts;
        ends = subst (λ (k : ℕ). Ends k reads.part to (Err fault)) (sym going.count) ends;
      }

    pub unread : (fault : ServeFault) → Reads (served + 1) left to (Err fault) → Serves step from to old now before mid (Err fault)
    unread a_fault.OutOfMemory reads = refuses a_fault.OutOfMemory reads (λ short. refl) going.puts reads.says
    unread a_fault.InFailed reads = refuses a_fault.InFailed reads refl going.puts reads.says
    unread a_fault.OutFailed reads = absurd reads.says
    unread (a_fault.ServerCommand m) reads = refuses (a_fault.ServerCommand m) reads refl going.puts reads.says
    unread (a_fault.ServerShort m) reads = refuses (a_fault.ServerShort m) reads refl going.puts reads.says
    unread (a_fault.ServerTooLarge m size) reads = refuses (a_fault.ServerTooLarge m size) reads refl going.puts reads.says
    unread (a_fault.ServerText m) reads = refuses (a_fault.ServerText m) reads refl going.puts reads.says
    unread a_fault.ServerLimit reads = refuses a_fault.ServerLimit reads refl going.puts reads.says

  -- the sink failed before any request
  pub unbegun : (now : Option (List ℕ)) → GrownByFront old now hello → Serves step from from old now before before (Err a_fault.OutFailed)
  unbegun now put = record {
    exchanges = [];
    reached = before;
    part = [];
    runs = refl;
    left = refl;
    few = omega arith;
    took = took_nothing from;
    within = omega arith;
    puts = put;
    ends = refl;
  }

-- the fault of a sink is none of reading, and that of a source none of an answer
pub not_output : (n : ℕ) (left to : Option (List ℕ)) (fault : ServeFault) → Reads n left to (Err fault) → fault ≡ a_fault.OutFailed → ⊥
not_output n left to fault reads is = subst (λ (f : ServeFault). Says n reads.part to (Err f)) is reads.says

pub not_input : {R : Type 0} (step : Step R) (words : List (List ℕ)) (before after : R) (old new : Option (List ℕ)) (fault : ServeFault) → Responds step words before after old new (Err fault) → fault ≡ a_fault.InFailed → ⊥
not_input step words before after old new fault responds is = subst (λ (f : ServeFault). Responds step words before after old new (Err f)) is responds
