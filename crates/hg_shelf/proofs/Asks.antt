-- What was asked over spans of a history: nothing, one thing, and one span behind another.
use Rattle.std.proofs.Common.{◌≡◌, Bool, true, ℕ, zero, suc, List, [], ◌∷◌, ◌++◌, take, length, refl, ap, sym, ◌∙◌, inl, inr, arith, Result, Ok, Err}
use Rattle.std.specs.List.{AllByRecursion}
use Rattle.std.proofs.lemmas.List.{append-nil, append_assoc, take_all}
use Rattle.hg_shelf.specs.Asks.{Asks, AsksFrontOf, AsksInOrder, AsksNothing, AsksOnly}
use Rattle.hg_shelf.specs.History.{History}
use Rattle.hg_shelf.specs.declared.asked.Asked.{Asked}

-- ---- nothing

pub nothing_same : (h : History) → AsksNothing h h
nothing_same h = record { asked = refl; locks = refl }

pub nothing_trans : (a b c : History) → AsksNothing a b → AsksNothing b c → AsksNothing a c
nothing_trans a b c p q = record { asked = q.asked ∙ p.asked; locks = q.locks ∙ p.locks }

-- ---- some asks from their front on

pub front_none : (asks : List Asked) (old new : History) → new.asked ≡ old.asked → AsksFrontOf asks old new
front_none asks old new same = record { some = 0; made = same ∙ sym (append-nil old.asked) }

pub front_all : (asks : List Asked) (old new : History) → new.asked ≡ old.asked ++ asks → AsksFrontOf asks old new
front_all asks old new made = record { some = length asks; made = made ∙ ap (λ (l : List Asked). old.asked ++ l) (sym (take_all (length asks) asks (omega arith))) }

-- a call that answered was noted
pub answered : (asks : List Asked) (old new : History) → Asks true asks old new → new.asked ≡ old.asked ++ asks
answered asks old new (inl made) = made
answered asks old new (inr (none, same)) = absurd (cc none)

-- the first of some asks, whether it was answered or not
pub front_first : (t : Bool) (ask : Asked) (more : List Asked) (old new : History) → Asks t (ask ∷ []) old new → AsksFrontOf (ask ∷ more) old new
front_first t ask more old new (inl made) = record { some = 1; made = made }
front_first t ask more old new (inr (none, same)) = front_none (ask ∷ more) old new same

-- the rest of them behind the first, which was answered
pub front_next : (ask : Asked) (more : List Asked) (a b c : History) → b.asked ≡ a.asked ++ ask ∷ [] → AsksFrontOf more b c → AsksFrontOf (ask ∷ more) a c
front_next ask more a b c first rest = record {
  some = suc rest.some;
  made = rest.made ∙ ap (λ (l : List Asked). l ++ take rest.some more) first ∙ append_assoc a.asked (ask ∷ []) (take rest.some more);
}

longer_front : (n : ℕ) (asks more : List Asked) → (m : ℕ) × (take n asks ≡ take m (asks ++ more))
longer_front zero asks more = (0, refl)
longer_front (suc n) [] more = (0, refl)
longer_front (suc n) (ask ∷ asks) more = let rest = longer_front n asks more in (suc rest.0, ap (λ (l : List Asked). ask ∷ l) rest.1)

-- the first so many of some asks are the first so many of those with more behind them
pub front_longer : (asks more : List Asked) (old new : History) → AsksFrontOf asks old new → AsksFrontOf (asks ++ more) old new
front_longer asks more old new front =
    let longer = longer_front front.some asks more in
    record { some = longer.0; made = front.made ∙ ap (λ (l : List Asked). old.asked ++ l) longer.1 }

-- ---- asks of a call that may fail

-- all of them were made, whatever came of them
pub order_made : {T E : Type 0} (asks : List Asked) (old new : History) (r : Result T E) → new.asked ≡ old.asked ++ asks → AsksInOrder asks old new r
order_made asks old new (Ok x) made = made
order_made asks old new (Err e) made = front_all asks old new made

pub order_front : {T E : Type 0} (asks : List Asked) (old new : History) (r : Result T E) → AsksInOrder asks old new r → AsksFrontOf asks old new
order_front asks old new (Ok x) made = front_all asks old new made
order_front asks old new (Err e) front = front

-- behind a first ask that was answered
pub made_next : (ask : Asked) (more : List Asked) (a b c : History) → b.asked ≡ a.asked ++ ask ∷ [] → c.asked ≡ b.asked ++ more → c.asked ≡ a.asked ++ ask ∷ more
made_next ask more a b c first made = made ∙ ap (λ (l : List Asked). l ++ more) first ∙ append_assoc a.asked (ask ∷ []) more

pub order_next : {T E : Type 0} (ask : Asked) (more : List Asked) (a b c : History) (r : Result T E) → b.asked ≡ a.asked ++ ask ∷ [] → AsksInOrder more b c r → AsksInOrder (ask ∷ more) a c r
order_next ask more a b c (Ok x) first made = made_next ask more a b c first made
order_next ask more a b c (Err e) first front = front_next ask more a b c first front

-- ---- asks of a kind

module _ (Kind : Asked → Type 0) where
  pub each_append : (some more : List Asked) → AllByRecursion Kind some → AllByRecursion Kind more → AllByRecursion Kind (some ++ more)
  each_append [] more first second = second
  each_append (ask ∷ some) more first second = (first.0, each_append some more first.1 second)

  pub each_front : (n : ℕ) (asks : List Asked) → AllByRecursion Kind asks → AllByRecursion Kind (take n asks)
  each_front zero asks all = tt
  each_front (suc n) [] all = tt
  each_front (suc n) (ask ∷ asks) all = (all.0, each_front n asks all.1)

  pub only_none : (old new : History) → new.asked ≡ old.asked → AsksOnly Kind old new
  only_none old new same = record { more = []; made = same ∙ sym (append-nil old.asked); each = tt }

  pub only_trans : (a b c : History) → AsksOnly Kind a b → AsksOnly Kind b c → AsksOnly Kind a c
  only_trans a b c p q = record {
    more = p.more ++ q.more;
    made = q.made ∙ ap (λ (l : List Asked). l ++ q.more) p.made ∙ append_assoc a.asked p.more q.more;
    each = each_append p.more q.more p.each q.each;
  }

  pub only_front : (asks : List Asked) (old new : History) → AsksFrontOf asks old new → AllByRecursion Kind asks → AsksOnly Kind old new
  only_front asks old new front all = record { more = take front.some asks; made = front.made; each = each_front front.some asks all }
