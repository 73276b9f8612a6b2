-- Where a publication may end: what it has led to there, with its own steps.
use Rattle.std.proofs.Common.{◌≡◌, ◌∙◌, ℕ, ◌≤◌, List, length, codes, IsSome, IsTrue, Some, Result, Ok, Err}
use Rattle.std.specs.Result.{OnOk}
use Rattle.hg_append.specs.declared.encoding.Encoded.{Encoded}
use Rattle.hg_docket.specs.Docket.{docket_of}
use Rattle.hg_shelf.specs.History.{Files}
use Rattle.hg_shelf.specs.Images.{Course, Goes, last_scene, scene}
use Rattle.hg_shelf.specs.Polite.{Undisturbed}
use Rattle.hg_shelf.specs.Rules.{Perhaps, TornAt, content, moved, overwritten}
use Rattle.hg_shelf.proofs.Scenes.{first_part, goes_trans, second_part}
use Rattle.hg_save.specs.Leads.{Clears, IsDone, IsSure, IsWhole, Leads, OnceBy, OwnSteps, ShowsEither, StepBy}
use Rattle.hg_save.specs.Others.{IsOrderly}
use Rattle.hg_save.specs.Over.{IsPut}
use Rattle.hg_save.specs.Record.{IsReadable, data_name, id_in}
use Rattle.hg_save.specs.Saved.{HoldsExactly, IsOver, Stands, name_after, new_docket, published}
use Rattle.hg_save.specs.Behind.{IsFree}
use Rattle.hg_save.specs.declared.loaded.Loaded.{Loaded}
use Rattle.hg_save.proofs.Ends.{Led, anew_by, behind_by, crash_by, has_place, intact_by, latest_by, latest_near, led_before, led_behind, led_cleared, names_by, not_after_new, shown_by, solid_by, torn_by}
use Rattle.hg_save.proofs.Keeping.{Keeping, keep_cleared, keep_data_file, keep_docket, keep_moved, keeping_along, keeps}
use Rattle.hg_save.proofs.Orderly.{clear_steps, data_steps, docket_steps, orderly_along, orderly_keeps, set_at, swap_steps}
use Rattle.hg_save.proofs.Own.{steps_on}
use Rattle.hg_save.proofs.Readings.{HasPlace}
use Rattle.hg_save.proofs.Turning.{Turned, turned_four, turned_one, turned_three, turned_two}
use Rattle.hg_save.proofs.Stages.{IsWritten, exact_done, holds_exactly, is_written, prepares_one, prepares_two}

-- ---- what the parts say

-- a file is written, and made sure or not
pub record Puts (name : List ℕ) (place : ℕ) (bytes : List ℕ) (a b : Course) : Type 0 where
  pub goes : Goes a b
  pub leads : Undisturbed a b → Leads (TornAt name place (length bytes)) a b
  pub either : Undisturbed a b → ShowsEither a b
  pub steps : Undisturbed a b → OwnSteps (StepBy (TornAt name place (length bytes))) a b

-- the docket takes its place, or not
pub record Swaps (c d : Course) : Type 0 where
  pub goes : Goes c d
  pub leads : Undisturbed c d → IsSome ((last_scene c).files new_docket) → Leads (Perhaps (moved new_docket (codes "dirstate"))) c d
  pub either : Undisturbed c d → ShowsEither c d
  pub whole : Undisturbed c d → IsSome ((last_scene c).files new_docket) → IsWhole (moved new_docket (codes "dirstate")) c d
  pub steps : Undisturbed c d → IsSome ((last_scene c).files new_docket) → OwnSteps (OnceBy (last_scene c) (moved new_docket (codes "dirstate"))) c d

-- the old data file goes, or not
pub record Ceases (id next : List ℕ) (d z : Course) : Type 0 where
  pub goes : Goes d z
  pub leads : Undisturbed d z → Leads (Clears id next) d z
  pub either : Undisturbed d z → ShowsEither d z
  pub steps : Undisturbed d z → OwnSteps (StepBy (Clears id next)) d z

-- ---- what they have led to

-- no docket that a crash may leave names an identifier that comes after this one
abbrev IsLast : List ℕ → Course → Type 0
IsLast id a = (d : Files) → (last_scene a).leaves d → (n : ℕ) → name_after n id ≡ Some (id_in d) → ⊥

pub record Ended (loaded nodes : List ℕ) (new : Encoded) (a z : Course) : Type 0 where
  pub led : Led loaded new a z
  pub turned : Turned new a z
  pub keeping : Stands loaded (last_scene a) → HasPlace nodes new (last_scene a).files → OwnSteps Keeping a z
  pub orderly : IsFree new (last_scene a) → IsLast new.id a → HasPlace nodes new (last_scene a).files → IsReadable (published nodes new) → OwnSteps IsOrderly a z

module _ (loaded nodes : List ℕ) (new : Encoded) (over : IsOver loaded nodes new) (a b : Course) (one : Puts (data_name new.id) new.place new.bytes.items a b) where
  -- the data file is written
  pub ended_one : Undisturbed a b → Ended loaded nodes new a b
  ended_one calm =
      let prepares = prepares_one new a b one.goes (one.leads calm) in
      record {
        led = led_before loaded new a b one.goes.past.later prepares;
        turned = turned_one new a b (one.leads calm) (one.either calm);
        keeping = λ stands front. keep_data_file loaded nodes new over a stands front b prepares (one.steps calm);
        orderly = λ free none front sound. data_steps loaded nodes new over a front free b prepares (one.steps calm);
      }

  -- and the docket beside the old one
  module _ (c : Course) (two : Puts new_docket 0 new.docket.items b c) where
    start : Goes a c
    start = goes_trans a b c one.goes two.goes

    pub ended_two : Undisturbed a c → Ended loaded nodes new a c
    ended_two calm =
        let first : Undisturbed a b = first_part a b c two.goes calm in
        let second : Undisturbed b c = second_part a b c one.goes calm in
        let before = ended_one first in
        record {
          led = led_before loaded new a c start.past.later (prepares_two new a b one.goes c two.goes (one.leads first) (two.leads second));
          turned = turned_two new a b c one.goes two.goes (one.leads first) (two.leads second) (before.turned) (two.either second);
          keeping = λ stands front. steps_on Keeping a b c keeping_along (before.keeping stands front) two.goes (keep_docket (length new.docket.items) b c (two.steps second));
          orderly = λ free none front sound. steps_on IsOrderly a b c orderly_along (before.orderly free none front sound) two.goes (docket_steps (length new.docket.items) b c (two.steps second));
        }

    -- and both are sure
    module _ (data_sure : Undisturbed a b → IsSure (data_name new.id) (overwritten (content ((last_scene a).files (data_name new.id))) new.place new.bytes.items) b)
        (docket_sure : Undisturbed b c → IsSure new_docket (overwritten (content ((last_scene b).files new_docket)) 0 new.docket.items) c) where
      written : Undisturbed a c → IsWritten new a c
      written calm =
          let first : Undisturbed a b = first_part a b c two.goes calm in
          let second : Undisturbed b c = second_part a b c one.goes calm in
          is_written new a b c one.goes two.goes (one.leads first) (two.leads second) (data_sure first) (docket_sure second)

      module _ (d : Course) (three : Swaps c d) (there : (k : ℕ) → k ≤ d.history.last → IsTrue d.history.told → (scene d k).leaves (scene d k).files) where
        pub ended_three : Undisturbed a d → Ended loaded nodes new a d
        ended_three calm =
            let first : Undisturbed a c = first_part a c d three.goes calm in
            let second : Undisturbed c d = second_part a c d start calm in
            let wrote = written first in
            let before = ended_two first in
            let told : IsTrue d.history.told = three.goes.past.told ∙ start.past.told ∙ calm.told in
            record {
              led = led_behind loaded nodes new over a c d start three.goes wrote (three.leads second wrote.there) (three.whole second wrote.there);
              turned = turned_three new a c d start three.goes wrote (three.leads second wrote.there) before.turned (three.either second);
              keeping = λ stands front. steps_on Keeping a c d keeping_along (before.keeping stands front) three.goes (keep_moved loaded nodes new over a stands front c d start wrote (three.steps second wrote.there));
              orderly = λ free none front sound.
                  steps_on IsOrderly a c d orderly_along (before.orderly free none front sound) three.goes
                  (swap_steps loaded nodes new over a front c d (λ k within. there k within told) (set_at loaded nodes new over a front c start free none wrote) sound (three.steps second wrote.there));
            }

        -- and the docket has its place
        module _ (done : Undisturbed c d → IsSome ((last_scene c).files new_docket) → IsDone (moved new_docket (codes "dirstate")) c d) (z : Course) (four : Ceases (docket_of loaded).id new.id d z) where
          front_goes : Goes a d
          front_goes = goes_trans a c d start three.goes

          is_done : Undisturbed a d → IsDone (moved new_docket (codes "dirstate")) c d
          is_done calm = done (second_part a c d start calm) (written (first_part a c d three.goes calm)).there

          exact_at : Undisturbed a d → HoldsExactly new a d
          exact_at calm = exact_done loaded nodes new over a c d start three.goes (written (first_part a c d three.goes calm)) (is_done calm)

          pub ended_four : Undisturbed a z → Ended loaded nodes new a z
          ended_four calm =
              let first : Undisturbed a d = first_part a d z four.goes calm in
              let second : Undisturbed d z = second_part a d z front_goes calm in
              let before = ended_three first in
              let exact = exact_at first in
              record {
                led = led_cleared loaded nodes new over a d z front_goes four.goes before.led exact (four.leads second);
                turned =
                    let wrote = written (first_part a c d three.goes first) in
                    turned_four new a c d start three.goes wrote (three.leads (second_part a c d start first) wrote.there) (docket_of loaded).id z four.goes front_goes (four.leads second) before.turned (four.either second);
                keeping = λ stands front. steps_on Keeping a d z keeping_along (before.keeping stands front) four.goes (keep_cleared loaded nodes new over (last_scene a).files d z exact.shown (four.leads second) (four.steps second));
                orderly = λ free none front sound.
                    steps_on IsOrderly a d z orderly_along (before.orderly free none front sound) four.goes (clear_steps loaded nodes new over a front d z exact.left (four.leads second) (four.steps second));
              }

          pub exact_four : Undisturbed a z → HoldsExactly new a z
          exact_four calm =
              let first : Undisturbed a d = first_part a d z four.goes calm in
              holds_exactly loaded nodes new over a d z four.goes (exact_at first) (four.leads (second_part a d z front_goes calm))

-- ---- what that says of the whole

module _ (loaded : Loaded) (new : Encoded) (over : IsOver loaded.shown.items loaded.nodes.items new) (a z : Course) (there : (last_scene a).leaves (last_scene a).files) (ended : Ended loaded.shown.items loaded.nodes.items new a z) where
  pub is_put : IsPut loaded new a z
  is_put =
      let docket : List ℕ = loaded.shown.items in
      let nodes : List ℕ = loaded.nodes.items in
      let led = ended.led in
      record {
        crash = λ free has. crash_by docket nodes new over a z led free (has_place loaded new over (last_scene a) has);
        shown = λ free has. shown_by docket nodes new over a z led free (has_place loaded new over (last_scene a) has);
        torn = torn_by docket nodes new over a z led;
        once = ended.turned;
        named = names_by docket nodes new over a z led there;
        anew = anew_by docket nodes new over a z led;
        behind = behind_by docket nodes new over a z led;
        latest = λ stands latest. latest_by docket nodes new over a z led (not_after_new loaded new over (last_scene a) stands latest) (latest_near loaded new over (last_scene a) stands latest) latest;
        intact = intact_by docket nodes new over a z led;
        solid = solid_by docket nodes new over a z led;
        orderly = λ base sound. orderly_keeps a z (ended.orderly base.free (not_after_new loaded new over (last_scene a) base.stands base.latest) (has_place loaded new over (last_scene a) base.nodes) sound);
        keeping = λ stands has. keeps a z (ended.keeping stands (has_place loaded new over (last_scene a) has));
      }

-- where something holds in any case
pub on_ok : {T E P : Type 0} (r : Result T E) → P → OnOk r P
on_ok (Ok x) is = is
on_ok (Err e) is = tt
