-- What a load asks for, from what its steps ask for.
use Rattle.std.proofs.Common.{◌≡◌, ◌==◌, Bool, ℕ, true, false, min, List, [], ◌∷◌, ◌++◌, length, Vec, Global, Option, Some, None, Result, Ok, Err, refl, sym, ap, ◌∙◌, subst, arith}
use Rattle.std.specs.Prelude.{if◌then◌else◌, IsTrue}
use Rattle.std.proofs.lemmas.Bool.{ne_eqb}
use Rattle.std.proofs.lemmas.List.{append-nil}
use Rattle.hg_docket.specs.Docket.{Contents, docket_of, docket_refusal}
use Rattle.hg_docket.specs.declared.fault.DocketFault.{DocketFault}
use Rattle.hg_shelf.specs.Asks.{Asks, AsksFrontOf, AsksInOrder}
use Rattle.hg_shelf.specs.History.{Files, History, Passes, now}
use Rattle.hg_shelf.specs.Reads.{size_of}
use Rattle.hg_shelf.specs.declared.asked.Asked.{Asked}
use Rattle.hg_shelf.specs.declared.asked.Asked.TheVariants as an_ask
use Rattle.hg_shelf.proofs.Asks.{front_first, front_longer, front_none, order_next}
use Rattle.hg_save.specs.Asked.{AsksAsOf, AsksByFiles, TellsDocket, asks_by, data_asks, docket_ask, file_asks, named_asks, used_asks}
use Rattle.hg_save.specs.Loads.{NamedFinds, files_at}
use Rattle.hg_save.specs.Record.{data_name, docket_in}
use Rattle.hg_save.proofs.Others.{fault_of}
use Rattle.hg_save.specs.declared.load_fault.LoadFault.{LoadFault}
use Rattle.hg_save.specs.declared.load_fault.LoadFault.TheVariants as a_fault
use Rattle.hg_save.specs.declared.loaded.Loaded.{Loaded}

abbrev AsksData : (Files → List Asked) → History → History → Result (Vec ℕ Global) LoadFault → Type 0
AsksData asks_of old new result = AsksByFiles asks_of old new result

abbrev AsksNamed : (Files → List Asked) → History → History → Result Loaded LoadFault → Type 0
AsksNamed asks_of old new result = AsksByFiles asks_of old new result

-- ---- a data file

used_sized : (id : List ℕ) (used size want : ℕ) (file : Option (List ℕ)) → Some size ≡ size_of file → want ≡ min size used → an_ask.Read (data_name id) 0 want ∷ [] ≡ used_asks id used file
used_sized id used size want None is same = absurd (cc is)
used_sized id used size want (Some bytes) is same =
    let len : size ≡ length bytes = cc is in
    ap (λ (n : ℕ). an_ask.Read (data_name id) 0 n ∷ []) (same ∙ ap (λ (n : ℕ). min n used) len)

-- its size was asked for, and no bytes
pub asks_unread : (id : List ℕ) (used : ℕ) (t : Bool) (old new : History) (fault : LoadFault) → Passes old new → Asks t (an_ask.Size (data_name id) ∷ []) old new → AsksData (file_asks id used) old new (Err fault)
asks_unread id used t old new fault passes asked = record {
  at = new.last;
  during = record { from = passes.past.later; to = omega arith };
  asks = front_first t (an_ask.Size (data_name id)) (used_asks id used (files_at new new.last (data_name id))) old new asked;
}

-- its size was answered, and its bytes were asked for
pub asks_sized : (id name : List ℕ) (used size want : ℕ) (old mid new : History) (result : Result (Vec ℕ Global) LoadFault) → Passes old mid → Passes mid new → name ≡ data_name id → Some size ≡ size_of ((now mid).files name)
    → want ≡ min size used → mid.asked ≡ old.asked ++ an_ask.Size (data_name id) ∷ [] → AsksInOrder (an_ask.Read (data_name id) 0 want ∷ []) mid new result → AsksData (file_asks id used) old new result
asks_sized id name used size want old mid new result first second named sized least asked rest =
    let same : files_at new mid.last ≡ (now mid).files = (second.past.stay mid.last (omega arith)).shown in
    let is : Some size ≡ size_of (files_at new mid.last (data_name id)) = sized ∙ ap (λ (n : List ℕ). size_of ((now mid).files n)) named ∙ sym (ap (λ (f : Files). size_of (f (data_name id))) same) in
    record {
      at = mid.last;
      during = record { from = first.past.later; to = second.past.later };
      asks = subst (λ (l : List Asked). AsksInOrder (an_ask.Size (data_name id) ∷ l) old new result) (used_sized id used size want (files_at new mid.last (data_name id)) is least)
          (order_next (an_ask.Size (data_name id)) (an_ask.Read (data_name id) 0 want ∷ []) old mid new result asked rest);
    }

-- ---- the data file of a docket

-- one that uses none
pub asks_unused : (docket : Contents) (h : History) (nodes : Vec ℕ Global) → (docket.used == 0) ≡ true → AsksData (data_asks docket) h h (Ok nodes)
asks_unused docket h nodes none = record {
  at = h.last;
  during = record { from = omega arith; to = omega arith };
  asks = sym (append-nil h.asked) ∙ ap (λ (t : Bool). h.asked ++ (if t then [] else file_asks docket.id docket.used (files_at h h.last))) (sym none);
}

-- one that uses some
pub asks_used : (docket : Contents) (id : List ℕ) (old new : History) (result : Result (Vec ℕ Global) LoadFault) → (docket.used ≡ 0 → ⊥) → docket.id ≡ id → AsksData (file_asks id docket.used) old new result → AsksData (data_asks docket) old new result
asks_used docket id old new result used same by = record {
  at = by.at;
  during = by.during;
  asks = subst (λ (l : List Asked). AsksInOrder l old new result)
      (ap (λ (i : List ℕ). file_asks i docket.used (files_at new by.at)) (sym same) ∙ sym (ap (λ (t : Bool). if t then [] else file_asks docket.id docket.used (files_at new by.at)) (ne_eqb docket.used 0 used))) by.asks;
}

-- a docket that is refused
pub asks_refused : (bytes : List ℕ) (h : History) (fault : LoadFault) → AsksNamed (named_asks bytes) h h (Err fault)
asks_refused bytes h fault = record {
  at = h.last;
  during = record { from = omega arith; to = omega arith };
  asks = front_none (named_asks bytes (files_at h h.last)) h h refl;
}

-- one that isn't: what comes of the data file's bytes changes no ask
pub asks_sound : (bytes : List ℕ) (docket : Contents) (old new : History) (part : Result (Vec ℕ Global) LoadFault) (result : Result Loaded LoadFault) → docket_refusal bytes ≡ None → docket ≡ docket_of bytes
    → ((asks : List Asked) → AsksInOrder asks old new part → AsksInOrder asks old new result) → AsksData (data_asks docket) old new part → AsksNamed (named_asks bytes) old new result
asks_sound bytes docket old new part result sound same carry by = record {
  at = by.at;
  during = by.during;
  asks = subst (λ (l : List Asked). AsksInOrder l old new result)
      (ap (λ (d : Contents). data_asks d (files_at new by.at)) same ∙ sym (ap (λ (refusal : Option DocketFault). asks_by refusal (docket_of bytes) (files_at new by.at)) sound))
      (carry (data_asks docket (files_at new by.at)) by.asks);
}

pub named_id : (t : Bool) (bytes id : List ℕ) → IsTrue t → Some id ≡ (if t then Some bytes else None) → bytes ≡ id
named_id true bytes id is same = let there : id ≡ bytes = cc same in sym there
named_id false bytes id is same = absurd (cc is)

-- the docket couldn't be read
pub unread_asks : (old new : History) (fault : LoadFault) → Passes old new → fault ≡ a_fault.Failed → AsksFrontOf (docket_ask ∷ []) old new → AsksAsOf old new (Err fault)
unread_asks old new fault passes is front = record {
  at = new.last;
  during = record { from = passes.past.later; to = omega arith };
  seen = new.last;
  later = omega arith;
  upto = omega arith;
  asks = front_longer (docket_ask ∷ []) (named_asks (docket_in (files_at new new.last)) (files_at new new.last)) old new front;
  docket = subst (λ (f : LoadFault). TellsDocket (Err f) (docket_in (files_at new new.last))) (sym is) tt;
}

-- what was answered tells of the docket that was read
told_docket : (old new : History) (bytes : List ℕ) (result : Result Loaded LoadFault) → NamedFinds old new bytes result → TellsDocket result bytes
told_docket old new bytes (Ok loaded) finds = finds.answer.docket
told_docket old new bytes (Err (a_fault.Docket fault)) finds = fault_of bytes (files_at new finds.at) fault (docket_refusal bytes) refl finds.answer
told_docket old new bytes (Err (a_fault.DataGone ids)) finds = finds.answer.1
told_docket old new bytes (Err a_fault.OutOfMemory) finds = tt
told_docket old new bytes (Err a_fault.Failed) finds = tt

pub read_asks : (old mid new : History) (bytes : List ℕ) (result : Result Loaded LoadFault) → Passes old mid → Passes mid new → mid.asked ≡ old.asked ++ docket_ask ∷ [] → bytes ≡ docket_in (now mid).files
    → AsksNamed (named_asks bytes) mid new result → NamedFinds mid new bytes result → AsksAsOf old new result
read_asks old mid new bytes result first second asked is rest finds =
    let same : bytes ≡ docket_in (files_at new mid.last) = is ∙ sym (ap docket_in (second.past.stay mid.last (omega arith)).shown) in
    record {
      at = mid.last;
      during = record { from = first.past.later; to = second.past.later };
      seen = rest.at;
      later = rest.during.from;
      upto = rest.during.to;
      asks = subst (λ (b : List ℕ). AsksInOrder (docket_ask ∷ named_asks b (files_at new rest.at)) old new result) same
          (order_next docket_ask (named_asks bytes (files_at new rest.at)) old mid new result asked rest.asks);
      docket = subst (TellsDocket result) same (told_docket mid new bytes result finds);
    }
