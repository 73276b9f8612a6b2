-- A text read from its end.
use Rattle.std.proofs.Common.{◌≡◌, ℕ, ◌-◌, Bool, true, false, not, ◌==◌, ◌&&◌, List, [], ◌∷◌, ◌++◌, reverse, length, get_or, take, chars, encode_utf8, encode_utf8_all, IsUtf8, Some, None, refl, sym, ap, subst, ◌∙◌, append_assoc, append-nil, arith, eq-eqb}
use Rattle.std.specs.Char.{IsScalar}
use lib.Utf8.{scalars}
use Rattle.std.proofs.lemmas.Bool.{false≢true}
use Rattle.std.proofs.lemmas.Bool.Decides.{not_from_Decides}
use Rattle.std.proofs.lemmas.List.{reverse-append}
use Rattle.std.proofs.Math.Seq.{take-append_seam}
use Rattle.std.proofs.lemmas.Str.{chars-encodes, chars-append, IsUtf8-take, IsCharBoundary-at_seam, chars-nil}
use Rattle.hg_glob.specs.Accepted.{Accepts}
use Rattle.hg_glob.specs.Part.{Reading, Frame, reading, opened, parted}
use Rattle.hg_glob.specs.Refusal.{closers}
use Rattle.hg_glob.specs.Row.{first, turned, no_mark}
use Rattle.hg_glob.specs.declared.part.Part.TheVariants as a_part
use Rattle.hg_glob.specs.declared.part.Part.{Part}
use Rattle.hg_glob.specs.declared.mark.Mark.{Mark}
use Rattle.hg_glob.proofs.Rows.{RowIs}
use Rattle.hg_glob.proofs.Turns.{turned_is, first_is}

opened_len : (r : Reading) (frames : List Frame) → r.frames ≡ frames → length (opened r frames).frames ≡ length frames - 1
opened_len r [] h = ap length h
opened_len r (f ∷ frames) h = omega arith

parted_len : (r : Reading) (frames : List Frame) → r.frames ≡ frames → length (parted r frames).frames ≡ length frames
parted_len r [] h = ap length h
parted_len r (f ∷ frames) h = refl

-- no match begins behind a slash of the text
abbrev pub NoneBegins : Bool → List Part → List ℕ → Type 0
NoneBegins inner parts t = (x y : List ℕ) → t ≡ x ++ 47 ∷ y → Accepts inner (reading parts) y → ⊥

-- the marks are those over the end that was read, and in front of it the rest of the text is left
pub record ReadBack (inner rooted : Bool) (parts : List Part) (text : List ℕ) (marks : List Mark) (rest : List ℕ) (read : List ℕ) : Type 0 where
  pub row : RowIs inner parts marks (reverse read)
  pub unbegun : rooted ≡ false → NoneBegins inner parts (reverse read)
  pub text_is : rest ++ encode_utf8_all (reverse read) ≡ text
  pub scalars_are : scalars (reverse read) ≡ true

pub reverse_more : (read : List ℕ) (c : ℕ) → reverse (read ++ c ∷ []) ≡ c ∷ reverse read
reverse_more read c = reverse-append read (c ∷ [])

none_in_nothing : (inner : Bool) (parts : List Part) → NoneBegins inner parts []
none_in_nothing inner parts [] y e h = cc e
none_in_nothing inner parts (d ∷ x) y e h = cc e

none_more : (inner : Bool) (parts : List Part) (c : ℕ) (t : List ℕ) → NoneBegins inner parts t → (c ≡ 47 → Accepts inner (reading parts) t → ⊥) → NoneBegins inner parts (c ∷ t)
none_more inner parts c t unbegun here [] y e h =
    let same : y ≡ t = cc e in
    let slash : c ≡ 47 = cc e in
    here slash (subst (Accepts inner (reading parts)) same h)
none_more inner parts c t unbegun here (d ∷ x) y e h = unbegun x y (cc e) h

pub back_first : (inner rooted : Bool) (parts : List Part) (text : List ℕ) (old marks : List Mark) (rest : List ℕ) → marks ≡ (turned inner None parts old).marks → rest ≡ text → ReadBack inner rooted parts text marks rest []
back_first inner rooted parts text old marks rest marks_are whole = record {
  row = subst (λ ms. RowIs inner parts ms []) (sym marks_are) (turned_is inner None [] parts old tt).row;
  unbegun = λ _. none_in_nothing inner parts;
  text_is = append-nil rest ∙ whole;
  scalars_are = refl;
}

pub both_true : (a b : Bool) → a ≡ true → b ≡ true → (a && b) ≡ true
both_true a b p q = ap (λ v. v && b) p ∙ q

not_begun : (slash rooted here : Bool) → (slash && not rooted && here) ≡ false → rooted ≡ false → slash ≡ true → here ≡ false
not_begun true true here h free slash = absurd (false≢true (sym free))
not_begun true false here h free slash = h
not_begun false rooted here h free slash = absurd (false≢true slash)

pub back_text : (text before rest : List ℕ) (t : List ℕ) (c : ℕ) → before ++ encode_utf8_all t ≡ text → before ≡ rest ++ encode_utf8 c → rest ++ encode_utf8_all (c ∷ t) ≡ text
back_text text before rest t c whole split = sym (append_assoc rest (encode_utf8 c) (encode_utf8_all t)) ∙ ap (λ v. v ++ encode_utf8_all t) (sym split) ∙ whole

pub back_more : (inner rooted : Bool) (parts : List Part) (text : List ℕ) (old marks : List Mark) (before rest : List ℕ) (read : List ℕ) (c : ℕ) → ReadBack inner rooted parts text old before read → before ≡ rest ++ encode_utf8 c → IsScalar c
    → (c == 47 && not rooted && (first old).here) ≡ false → marks ≡ (turned inner (Some c) parts old).marks → ReadBack inner rooted parts text marks rest (read ++ c ∷ [])
back_more inner rooted parts text old marks before rest read c h split scalar unbegun marks_are =
    let turn = turned_is inner (Some c) (reverse read) parts old h.row in
    let here = first_is inner parts old (reverse read) h.row in
    record {
      row = subst (λ ms. RowIs inner parts ms (reverse (read ++ c ∷ []))) (sym marks_are) (subst (λ t. RowIs inner parts (turned inner (Some c) parts old).marks t) (sym (reverse_more read c)) turn.row);
      unbegun = λ free. subst (NoneBegins inner parts) (sym (reverse_more read c))
          (none_more inner parts c (reverse read) (h.unbegun free) (λ slash. not_from_Decides (first old).here here (not_begun (c == 47) rooted (first old).here unbegun free (eq-eqb c 47 slash))));
      text_is = ap (λ t. rest ++ encode_utf8_all t) (reverse_more read c) ∙ back_text text before rest (reverse read) c h.text_is split;
      scalars_are = ap scalars (reverse_more read c) ∙ both_true _ (scalars (reverse read)) scalar h.scalars_are;
    }

-- the characters that are left are those in front of what was read
pub back_chars : (text rest : List ℕ) (t : List ℕ) → IsUtf8 text → rest ++ encode_utf8_all t ≡ text → scalars t ≡ true → chars text ≡ chars rest ++ t
back_chars text rest t utf8 whole scalar =
    let seam = IsCharBoundary-at_seam text rest (encode_utf8_all t) (sym whole) (t, (scalar, refl)) in
    let cut : take (length rest) text ≡ rest = ap (take (length rest)) (sym whole) ∙ take-append_seam rest (encode_utf8_all t) in
    let rest_utf8 : IsUtf8 rest = subst IsUtf8 cut (IsUtf8-take text (length rest) utf8 seam) in
    ap chars (sym whole) ∙ chars-append rest (encode_utf8_all t) rest_utf8 ∙ ap (λ v. chars rest ++ v) (chars-encodes t scalar)

pub none_left : (rest : List ℕ) → length rest ≡ 0 → rest ≡ []
none_left [] h = refl
none_left (b ∷ rest) h = absurd (omega arith)

-- all was read
pub back_all : (inner rooted : Bool) (parts : List Part) (text : List ℕ) (marks : List Mark) (rest read : List ℕ) → ReadBack inner rooted parts text marks rest read → IsUtf8 text → length rest ≡ 0 → chars text ≡ reverse read
back_all inner rooted parts text marks rest read h utf8 none =
    back_chars text rest (reverse read) utf8 h.text_is h.scalars_are ∙ ap (λ v. chars v ++ reverse read) (none_left rest none) ∙ ap (λ v. v ++ reverse read) chars-nil

pub first_at : (marks : List Mark) → get_or marks 0 no_mark ≡ first marks
first_at [] = refl
first_at (m ∷ marks) = refl

-- as many braces around as end without a beginning
pub frames_len : (parts : List Part) → length (reading parts).frames ≡ closers parts
frames_len [] = refl
frames_len (a_part.Literal c ∷ parts) = frames_len parts
frames_len (a_part.One ∷ parts) = frames_len parts
frames_len (a_part.Class negated ∷ parts) = frames_len parts
frames_len (a_part.Range at low high ∷ parts) = frames_len parts
frames_len (a_part.Star ∷ parts) = frames_len parts
frames_len (a_part.Any ∷ parts) = frames_len parts
frames_len (a_part.Slashes ∷ parts) = frames_len parts
frames_len (a_part.Open at ∷ parts) = opened_len (reading parts) (reading parts).frames refl ∙ ap (λ n. n - 1) (frames_len parts)
frames_len (a_part.Comma ∷ parts) = parted_len (reading parts) (reading parts).frames refl ∙ frames_len parts
frames_len (a_part.Close ∷ parts) = omega (arith, frames_len parts)

no_frames : (frames : List Frame) → length frames ≡ 0 → frames ≡ []
no_frames [] h = refl
no_frames (f ∷ frames) h = absurd (omega arith)

pub frames_none : (parts : List Part) → closers parts ≡ 0 → (reading parts).frames ≡ []
frames_none parts h = no_frames (reading parts).frames (frames_len parts ∙ h)
