-- What calls on the new file alone lead to.
use Rattle.std.proofs.Common.{◌≡◌, ◌≤◌, ℕ, ◌+◌, ◌-◌, List, [], ◌++◌, length, take, drop, replicate, Option, Some, None, Bool, cond, refl, sym, ◌∙◌, ap, subst, arith, inl, inr, ◌⊎◌, Result, Ok, Err}
use Rattle.std.specs.Result.{OnErr, OnOk}
use Rattle.std.proofs.lemmas.List.{append-nil, take_all, drop_all}
use Rattle.hg_shelf.specs.History.{Files, Passes}
use Rattle.hg_shelf.specs.Images.{Acts, Course, Scene, last_scene, scene}
use Rattle.hg_shelf.specs.Rules.{Changes, Perhaps, Removes, Surely, Syncs, Tears, TornAt, TornFile, Writes, Written, content, overwritten, without}
use Rattle.hg_shelf.specs.Torn.{other_name, same_name}
use Rattle.hg_shelf.proofs.Scenes.{acts, starts, syncs}
use Rattle.hg_store.specs.Storing.{ButNew, IsAlone, IsCleared, IsLaid, IsSure, Leads, Proceeds, new_name}
use Rattle.hg_store.proofs.Reading.{take_piece}
use Rattle.hg_store.proofs.Leading.{Moves, Shown, moved_leads, passed, passed_leads, stepped}

pub but_same : (f : Files) → ButNew f f
but_same f = record { others = λ at apart. refl }

pub but_trans : (d e f : Files) → ButNew d e → ButNew e f → ButNew d f
but_trans d e f first second = record { others = λ at apart. second.others at apart ∙ first.others at apart }

-- ---- a removal

without_but : (d f : Files) → Surely (without new_name) d f → ButNew d f
without_but d f is = record { others = λ at apart. is at ∙ ap (λ (t : Bool). cond t None (d at)) (other_name new_name at apart) }

perhaps_but : (d f : Files) → Perhaps (without new_name) d f → ButNew d f
perhaps_but d f (inl same) = record { others = λ at apart. same at }
perhaps_but d f (inr gone) = without_but d f gone

without_gone : (d f : Files) → Surely (without new_name) d f → f new_name ≡ None
without_gone d f is = is new_name ∙ ap (λ (t : Bool). cond t None (d new_name)) (same_name new_name)

removed : (a b : Course) → IsAlone a b → Proceeds a b → Acts (Removes new_name) a b → Moves (Surely (without new_name)) (Perhaps (without new_name)) (Surely (without new_name)) a b
removed a b alone p own = stepped (Removes new_name) (Surely (without new_name)) (Perhaps (without new_name)) (Surely (without new_name)) a b alone p own (λ k same rule. rule)

pub remove_leads : (a b : Course) → IsAlone a b → Proceeds a b → Acts (Removes new_name) a b ⊎ Passes a.history b.history → Leads ButNew a b
remove_leads a b alone p (inl own) =
    moved_leads ButNew (Surely (without new_name)) (Perhaps (without new_name)) (Surely (without new_name)) a b (removed a b alone p own) but_same
    (λ f is. without_but (last_scene a).files f is) (λ d f was is. perhaps_but d f is) (λ d f was is. without_but d f is)
remove_leads a b alone p (inr none) = passed_leads ButNew a b but_same (passed a b alone p.goes none)

pub removed_cleared : (a b : Course) → IsAlone a b → Proceeds a b → Acts (Removes new_name) a b → IsCleared b
removed_cleared a b alone p own =
    let carried = removed a b alone p own in
    record {
      shown = without_gone (last_scene a).files (last_scene b).files carried.knows.shown;
      done = λ f is. let was = carried.knows.done f is in without_gone was.0 f was.2;
    }

-- ---- a write

torn_itself : (place n : ℕ) (file : Option (List ℕ)) → TornFile place n file file
torn_itself place n None = refl
torn_itself place n (Some bytes) = record { before = λ m near within. refl; after = refl; no_shorter = omega arith; no_longer = omega arith }

torn_but : (place n : ℕ) (d f : Files) → TornAt new_name place n d f → ButNew d f
torn_but place n d f is = record { others = is.elsewhere }

written_but : (place : ℕ) (bytes : List ℕ) (d f : Files) → Written new_name place bytes d f → ButNew d f
written_but place bytes d f is = record { others = is.elsewhere }

wrote : (place : ℕ) (bytes : List ℕ) (a b : Course) → IsAlone a b → Proceeds a b → Acts (Writes new_name place bytes) a b
    → Moves (Written new_name place bytes) (TornAt new_name place (length bytes)) (TornAt new_name place (length bytes)) a b
wrote place bytes a b alone p own =
    stepped (Writes new_name place bytes) (Written new_name place bytes) (TornAt new_name place (length bytes)) (TornAt new_name place (length bytes)) a b alone p own (λ k same rule. rule)

pub wrote_leads : (place : ℕ) (bytes : List ℕ) (a b : Course) → IsAlone a b → Proceeds a b → Acts (Writes new_name place bytes) a b → Leads ButNew a b
wrote_leads place bytes a b alone p own =
    moved_leads ButNew (Written new_name place bytes) (TornAt new_name place (length bytes)) (TornAt new_name place (length bytes)) a b (wrote place bytes a b alone p own) but_same
    (λ f is. written_but place bytes (last_scene a).files f is) (λ d f was is. torn_but place (length bytes) d f is) (λ d f was is. torn_but place (length bytes) d f is)

pub tore_leads : (place : ℕ) (bytes : List ℕ) (a b : Course) → IsAlone a b → Proceeds a b → Acts (Tears new_name place bytes) a b ⊎ Passes a.history b.history → Leads ButNew a b
tore_leads place bytes a b alone p (inl own) =
    let torn : Files → Files → Type 0 = TornAt new_name place (length bytes) in
    moved_leads ButNew torn torn torn a b (stepped (Tears new_name place bytes) torn torn torn a b alone p own (λ k same rule. rule)) but_same
    (λ f is. torn_but place (length bytes) (last_scene a).files f is) (λ d f was is. torn_but place (length bytes) d f is) (λ d f was is. torn_but place (length bytes) d f is)
tore_leads place bytes a b alone p (inr none) = passed_leads ButNew a b but_same (passed a b alone p.goes none)

-- a write at the end puts bytes behind
over_end : (old bytes : List ℕ) (place : ℕ) → length old ≡ place → overwritten old place bytes ≡ old ++ bytes
over_end old bytes place at =
    let front : take place old ≡ old = take_all place old (omega (arith, at)) in
    let none : place - length old ≡ 0 = omega (arith, at) in
    let rest : drop (place + length bytes) old ≡ [] = drop_all (place + length bytes) old (omega (arith, at)) in
    ap (λ (xs : List ℕ). xs ++ replicate (place - length old) 0 ++ bytes ++ drop (place + length bytes) old) front
    ∙ ap (λ (n : ℕ). old ++ replicate n 0 ++ bytes ++ drop (place + length bytes) old) none
    ∙ ap (λ (xs : List ℕ). old ++ [] ++ bytes ++ xs) rest
    ∙ append-nil (old ++ [] ++ bytes)
    ∙ ap (λ (xs : List ℕ). xs ++ bytes) (append-nil old)

pub wrote_there : (place : ℕ) (bytes text : List ℕ) (a b : Course) → IsAlone a b → Proceeds a b → Acts (Writes new_name place bytes) a b → IsLaid text a → length text ≡ place → (last_scene b).files new_name ≡ Some (text ++ bytes)
wrote_there place bytes text a b alone p own laid at =
    let here : (last_scene b).files new_name ≡ Some (overwritten (content ((last_scene a).files new_name)) place bytes) = (wrote place bytes a b alone p own).knows.shown.here in
    here ∙ ap (λ (old : List ℕ). Some (overwritten old place bytes)) laid ∙ ap Some (over_end text bytes place at)

-- a text of some bytes stands there once it is laid
pub there_laid : (text : List ℕ) (len : ℕ) (file : Option (List ℕ)) → content file ≡ text → length text ≡ len → (len ≡ 0 → ⊥) → file ≡ Some text
there_laid text len None laid long some = absurd (some (sym long ∙ ap length (sym laid)))
there_laid text len (Some bytes) laid long some = ap Some laid

-- ---- a sync

sync_change : (a b : Scene) → Syncs new_name a b → Changes (λ d f. f ≡ d) (λ d f. f ≡ d) (λ d f. f ≡ d) a b
sync_change a b rule = record { shown = rule.same.shown; left = λ f is. (f, rule.same.left f is, refl); done = λ f is. (f, rule.same.done f is, refl) }

same_but : (d f : Files) → f ≡ d → ButNew d f
same_but d f is = subst (ButNew d) (sym is) (but_same d)

pub sync_leads : (a b : Course) → IsAlone a b → Proceeds a b → Acts (Syncs new_name) a b ⊎ Passes a.history b.history → Leads ButNew a b
sync_leads a b alone p (inl own) =
    let same : Files → Files → Type 0 = λ d f. f ≡ d in
    moved_leads ButNew same same same a b (stepped (Syncs new_name) same same same a b alone p own (λ k is rule. sync_change (scene b k) (scene b (k + 1)) rule)) but_same
    (λ f is. same_but (last_scene a).files f is) (λ d f was is. same_but d f is) (λ d f was is. same_but d f is)
sync_leads a b alone p (inr none) = passed_leads ButNew a b but_same (passed a b alone p.goes none)

pub sync_sure : (text : List ℕ) (a b : Course) → IsAlone a b → Proceeds a b → Acts (Syncs new_name) a b → (last_scene a).files new_name ≡ Some text → IsSure new_name text b
sync_sure text a b alone p own there =
    let known : (f : Files) → Shown a f → f new_name ≡ Some text = λ f is. ap (λ (g : Files). g new_name) is ∙ there in
    let carried = acts (Syncs new_name) a b (Shown a) (last_scene a).leaves (last_scene a).named (Shown a) (λ f. (last_scene a).leaves f × (f new_name ≡ Some text)) (last_scene a).named alone.ours p.ours p.goes own alone.calm.others (starts a alone.ours).knows
    (λ k rule knows. syncs new_name text (scene b k) (scene b (k + 1)) (Shown a) (last_scene a).leaves (last_scene a).named known rule knows) in
    record { shown = known (last_scene b).files carried.knows.shown; left = λ f is. (carried.knows.left f is).1 }

pub write_leads : {T E : Type 0} (place : ℕ) (bytes : List ℕ) (a b : Course) → IsAlone a b → Proceeds a b → (r : Result T E) → OnOk r (Acts (Writes new_name place bytes) a b) → OnErr r (Acts (Tears new_name place bytes) a b ⊎ Passes a.history b.history) → Leads ButNew a b
write_leads place bytes a b alone p (Ok x) done torn = wrote_leads place bytes a b alone p done
write_leads place bytes a b alone p (Err e) done torn = tore_leads place bytes a b alone p torn

pub sealed_leads : {T E : Type 0} (a b : Course) → IsAlone a b → Proceeds a b → (r : Result T E) → OnOk r (Acts (Syncs new_name) a b) → OnErr r (Passes a.history b.history) → Leads ButNew a b
sealed_leads a b alone p (Ok x) done none = sync_leads a b alone p (inl done)
sealed_leads a b alone p (Err e) done none = sync_leads a b alone p (inr none)

pub laid_more : (place next : ℕ) (text piece had : List ℕ) → place ≤ next → piece ≡ take (next - place) (drop place text) → had ≡ take place text ++ piece → had ≡ take next text
laid_more place next text piece had below is laid = laid ∙ ap (λ (xs : List ℕ). take place text ++ xs) is ∙ sym (take_piece place (next - place) next text (omega (arith, below)))
