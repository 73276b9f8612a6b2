-- A request as a client writes it: read from its first byte on, it isn't refused.
use Rattle.std.proofs.Common.{◌≡◌, ℕ, ◌+◌, ◌≤◌, min, Bool, true, cond, not, ◌&&◌, eqb, List, [], ◌++◌, length, take, Some, None, refl, sym, ap, ◌∙◌, subst, arith, bytes_eq}
use Rattle.std.specs.Str.{is_utf8}
use Rattle.std.proofs.lemmas.Bool.{le-ltb}
use Rattle.std.proofs.lemmas.List.{append-nil, length-append}
use Rattle.std.proofs.lemmas.Nat.{from_be_bytes-to_be_bytes_4}
use Rattle.std.proofs.Math.Seq.{take-append_seam}
use Rattle.hg_server.proofs.Heads.{last_of}
use Rattle.hg_server.specs.Protocol.{IsFit, line, request}
use Rattle.hg_server.specs.Requests.{agrees, refusal, size_in, text_in}
use Rattle.hg_server.specs.declared.fault.ServeFault.TheVariants as a_fault

module _ (text more : List ℕ) (short : length text ≤ 1048576) where
  pub long : length (request text ++ more) ≡ 15 + length text + length more
  long = omega (arith, length-append (request text) more)

  pub agreed : agrees (request text ++ more) ≡ true
  agreed =
      let all : min (length (request text ++ more)) 11 ≡ 11 = omega (arith, long) in
      subst (λ (n : ℕ). bytes_eq (take n (request text ++ more)) (take n line) ≡ true) (sym all) refl

  pub sized : size_in (request text ++ more) ≡ length text
  sized = from_be_bytes-to_be_bytes_4 (length text) (omega (arith, short))

  pub texted : text_in (request text ++ more) ≡ text
  texted = ap (λ (n : ℕ). take n (text ++ more)) sized ∙ take-append_seam text more

pub not_refused : (n : ℕ) (text more : List ℕ) → n ≤ 4294967296 → IsFit text → refusal n (request text ++ more) ≡ None
not_refused n text more low fit =
    last_of _ _ _ _ _ _ _ _ _ _ _ (ap (λ (b : Bool). b && not (eqb (length (request text ++ more)) 0)) (le-ltb 4294967296 n low)) (ap not (agreed text more fit.short))
    (le-ltb (length (request text ++ more)) 15 (omega (arith, long text more fit.short)))
    (le-ltb 1048576 (size_in (request text ++ more)) (omega (arith, sized text more fit.short, fit.short)))
    (le-ltb (length (request text ++ more)) (15 + size_in (request text ++ more)) (omega (arith, sized text more fit.short, long text more fit.short)))
    ∙ ap (λ (l : List ℕ). cond (is_utf8 l) None (Some (a_fault.ServerText n))) (texted text more fit.short) ∙ ap (λ (b : Bool). cond b None (Some (a_fault.ServerText n))) fit.utf8

pub whole_not_refused : (n : ℕ) (text : List ℕ) → n ≤ 4294967296 → IsFit text → refusal n (request text) ≡ None
whole_not_refused n text low fit = ap (refusal n) (sym (append-nil (request text))) ∙ not_refused n text [] low fit
