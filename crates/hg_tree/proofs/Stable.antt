-- Faces that can't differ are the same.
use Rattle.std.proofs.Common.{ℕ, zero, suc, ◌≡◌, ◌<◌, ◌^◌, Bool, true, false, eqb, List, Option, Some, None, refl, sym, ap, ◌∙◌, subst, true≢false}
use Rattle.std.specs.Prelude.{ℤ}
use Rattle.std.specs.Bool.{Decides}
use Rattle.std.specs.Str.{bytes_eq}
use Rattle.std.specs.Ordering.{int_eq}
use Rattle.std.proofs.Math.Bridge.{le_prop}
use Rattle.std.proofs.lemmas.Bool.Decides.{Decides-eqb, Decides-int_eq}
use Rattle.std.proofs.lemmas.Slice.Eq.{bytes_eq-Decides}
use Rattle.hg_base.specs.declared.time.Time.{Time}
use Rattle.hg_base.specs.declared.stat.Kind.{Kind}
use Rattle.hg_base.specs.declared.stat.Kind.TheVariants as a_kind
use Rattle.hg_tree.specs.Honest.{Face}

-- what a test decides holds where it can't fail
stable : {P : Type 0} (test : Bool) → Decides test P → ¬ (¬ P) → P
stable true decides h = decides.0 refl
stable false decides h = absurd (h (λ p. true≢false (sym (decides.1 p))))

kind_number : Option Kind → ℕ
kind_number None = 0
kind_number (Some a_kind.File) = 1
kind_number (Some a_kind.Link) = 2
kind_number (Some a_kind.Dir) = 3
kind_number (Some a_kind.Other) = 4

numbered : ℕ → Option Kind
numbered zero = None
numbered (suc zero) = Some a_kind.File
numbered (suc (suc zero)) = Some a_kind.Link
numbered (suc (suc (suc zero))) = Some a_kind.Dir
numbered (suc (suc (suc (suc n)))) = Some a_kind.Other

number_of_kind : (kind : Option Kind) → numbered (kind_number kind) ≡ kind
unfolding kind_number numbered
number_of_kind None = refl
number_of_kind (Some a_kind.File) = refl
number_of_kind (Some a_kind.Link) = refl
number_of_kind (Some a_kind.Dir) = refl
number_of_kind (Some a_kind.Other) = refl

stable_kind : (a b : Option Kind) → ¬ (¬ (a ≡ b)) → a ≡ b
stable_kind a b h =
    let same : kind_number a ≡ kind_number b =
    stable (eqb (kind_number a) (kind_number b)) (Decides-eqb (kind_number a) (kind_number b)) (λ differs. h (λ e. differs (ap kind_number e))) in
    sym (number_of_kind a) ∙ ap numbered same ∙ number_of_kind b

-- times with the same seconds and nanoseconds are one
pub time_same : (a b : Time) → a.seconds ≡ b.seconds → a.nanos ≡ b.nanos → a ≡ b
time_same a b seconds nanos = at b.nanos (sym nanos) b.in_second
  where
    at : (n : ℕ) → n ≡ a.nanos → (below : n < 10 ^ 9) → a ≡ record { seconds = b.seconds; nanos = n; in_second = below }
    at n e below =
        subst (λ (m : ℕ). (small : m < 10 ^ 9) → a ≡ record { seconds = b.seconds; nanos = m; in_second = small }) (sym e)
        (λ small i. record { seconds = seconds i; nanos = a.nanos; in_second = le_prop a.in_second small i }) below

stable_time : (a b : Option Time) → ¬ (¬ (a ≡ b)) → a ≡ b
stable_time None None h = refl
stable_time None (Some b) h = absurd (h (λ e. cc))
stable_time (Some a) None h = absurd (h (λ e. cc))
stable_time (Some a) (Some b) h =
    ap Some (time_same a b
    (stable (int_eq a.seconds b.seconds) (Decides-int_eq a.seconds b.seconds) (λ differs. h (λ e. differs (ap seconds_of e))))
    (stable (eqb a.nanos b.nanos) (Decides-eqb a.nanos b.nanos) (λ differs. h (λ e. differs (ap nanos_of e)))))
  where
    seconds_of : Option Time → ℤ
    seconds_of None = a.seconds
    seconds_of (Some t) = t.seconds

    nanos_of : Option Time → ℕ
    nanos_of None = a.nanos
    nanos_of (Some t) = t.nanos

pub stable_face : (a b : Face) → ¬ (¬ (a ≡ b)) → a ≡ b
stable_face a b h =
    let kind : a.kind ≡ b.kind = stable_kind a.kind b.kind (λ differs. h (λ e. differs (ap (λ (f : Face). f.kind) e))) in
    let bytes : a.bytes ≡ b.bytes = stable (bytes_eq a.bytes b.bytes) (bytes_eq-Decides a.bytes b.bytes) (λ differs. h (λ e. differs (ap (λ (f : Face). f.bytes) e))) in
    let time : a.time ≡ b.time = stable_time a.time b.time (λ differs. h (λ e. differs (ap (λ (f : Face). f.time) e))) in
    let names : (name : List ℕ) → a.names name ≡ b.names name =
    λ name. stable_names (a.names name) (b.names name) (λ differs. h (λ e. differs (ap (λ (f : Face). f.names name) e))) in
    λ i. record { kind = kind i; bytes = bytes i; time = time i; names = λ name. names name i }
  where
    stable_names : (x y : Bool) → ¬ (¬ (x ≡ y)) → x ≡ y
    stable_names true true h = refl
    stable_names false false h = refl
    stable_names true false h = absurd (h true≢false)
    stable_names false true h = absurd (h (λ e. true≢false (sym e)))
