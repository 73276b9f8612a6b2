-- Where a glob stands in a path, by the ends of the path that it accepts.
use Rattle.std.proofs.Common.{◌≡◌, ℕ, Bool, true, false, not, ◌&&◌, ◌==◌, ◌⊎◌, inl, inr, List, [], ◌∷◌, ◌++◌, reverse, length, get_or, chars, encode_utf8, IsUtf8, refl, sym, ap, subst, ◌∙◌, append_assoc, eqb-true, leb-true, nat_le}
use Rattle.std.specs.Bool.{Decides}
use Rattle.std.specs.Char.{IsScalar}
use lib.Utf8.{scalars}
use Rattle.std.proofs.lemmas.Bool.{false≢true}
use Rattle.hg_glob.specs.Pattern.{InGlob}
use Rattle.hg_glob.specs.Accepted.{Accepts, Follows, Ends}
use Rattle.hg_glob.specs.Part.{reading}
use Rattle.hg_glob.specs.Line.{IsFront, IsBack, Stands}
use Rattle.hg_glob.specs.Refusal.{closers}
use Rattle.hg_glob.specs.Row.{first, no_mark, OffBelow}
use Rattle.hg_glob.specs.declared.part.Part.{Part}
use Rattle.hg_glob.specs.declared.mark.Mark.{Mark}
use Rattle.hg_glob.proofs.Turns.{first_is, AreOff, are_off, off_in_front}
use Rattle.hg_glob.proofs.Ends.{ReadBack, NoneBegins, back_chars, back_text, back_all, first_at, frames_none, both_true}

ends_back : (inner : Bool) (t : List ℕ) → Ends inner t → IsBack inner t
ends_back false [] h = refl
ends_back false (c ∷ t) h = absurd (false≢true h)
ends_back true [] h = inl refl
ends_back true (c ∷ t) h = inr (t, ap (λ v. v ∷ t) (eqb-true c 47 h))

back_ends : (inner : Bool) (t : List ℕ) → IsBack inner t → Ends inner t
back_ends false t h = subst (Ends false) (sym h) tt
back_ends true t (inl h) = subst (Ends true) (sym h) tt
back_ends true t (inr (below, h)) = subst (Ends true) (sym h) refl

pub front_nothing : (rooted : Bool) → IsFront rooted []
front_nothing true = refl
front_nothing false = inl refl

-- the glob stands where it accepts an end of the path
pub stands_from : (inner rooted : Bool) (parts : List Part) (path a t : List ℕ) → closers parts ≡ 0 → path ≡ a ++ t → IsFront rooted a → Accepts inner (reading parts) t → Stands inner rooted (reading parts).pattern path
stands_from inner rooted parts path a t none e in_front (b, c, split, i, k) =
    (a, b, c, e ∙ ap (λ v. a ++ v) split, in_front, i, ends_back inner c (subst (λ fs. Follows inner fs c) (frames_none parts none) k))

pub accepts_behind : (inner : Bool) (parts : List Part) (b c : List ℕ) → closers parts ≡ 0 → InGlob (reading parts).pattern b → IsBack inner c → Accepts inner (reading parts) (b ++ c)
accepts_behind inner parts b c none i back = (b, c, refl, i, subst (λ fs. Follows inner fs c) (sym (frames_none parts none)) (back_ends inner c back))

-- one end of a path is an end of the other
pub ends_of_one : (a s b t : List ℕ) → a ++ s ≡ b ++ t → ((xs : List ℕ) × (s ≡ xs ++ t)) ⊎ ((ys : List ℕ) × (t ≡ ys ++ s))
ends_of_one [] s b t e = inl (b, e)
ends_of_one (x ∷ a) s [] t e = inr (x ∷ a, sym e)
ends_of_one (x ∷ a) s (y ∷ b) t e = ends_of_one a s b t (cc e)

-- at a slash: a match begins behind it
begun_parts : (slash rooted here : Bool) → (slash && not rooted && here) ≡ true → (slash ≡ true) × (rooted ≡ false) × (here ≡ true)
begun_parts true true here h = absurd (false≢true h)
begun_parts true false here h = (refl, refl, h)
begun_parts false rooted here h = absurd (false≢true h)

pub line_begins : (inner rooted : Bool) (parts : List Part) (text : List ℕ) (marks : List Mark) (before rest read : List ℕ) (c : ℕ) → closers parts ≡ 0 → IsUtf8 text → ReadBack inner rooted parts text marks before read → before ≡ rest ++ encode_utf8 c → IsScalar c
    → (c == 47 && not rooted && (first marks).here) ≡ true → Stands inner rooted (reading parts).pattern (chars text)
line_begins inner rooted parts text marks before rest read c none utf8 h split scalar begun =
    let now = begun_parts (c == 47) rooted (first marks).here begun in
    let slash : c ≡ 47 = eqb-true c 47 now.0 in
    let t : List ℕ = reverse read in
    let whole : chars text ≡ chars rest ++ c ∷ t = back_chars text rest (c ∷ t) utf8 (back_text text before rest t c h.text_is split) (both_true _ (scalars t) scalar h.scalars_are) in
    let cut : chars text ≡ (chars rest ++ 47 ∷ []) ++ t = whole ∙ ap (λ v. chars rest ++ v ∷ t) slash ∙ sym (append_assoc (chars rest) (47 ∷ []) t) in
    let in_front : IsFront rooted (chars rest ++ 47 ∷ []) = subst (λ r. IsFront r (chars rest ++ 47 ∷ [])) (sym now.1) (inr (chars rest, refl)) in
    stands_from inner rooted parts (chars text) (chars rest ++ 47 ∷ []) t none cut in_front ((first_is inner parts marks t h.row).0 now.2)

-- no mark is left, and none began: the glob stands nowhere
over_at : (parts : List Part) (pre t end : List ℕ) (marks : List Mark) (path : List ℕ) (unbegun : NoneBegins false parts t) → path ≡ pre ++ t → ((xs : List ℕ) → Accepts false (reading parts) (xs ++ t) → ⊥) → (dir : List ℕ) → path ≡ dir ++ 47 ∷ end → Accepts false (reading parts) end → ⊥
over_at parts pre t end marks path unbegun whole off dir e h = at_split (ends_of_one dir (47 ∷ end) pre t (sym e ∙ whole))
  where
    at_end : (xs : List ℕ) → 47 ∷ end ≡ xs ++ t → ⊥
    at_end [] same = unbegun [] end (sym same) h
    at_end (d ∷ xs) same =
        let longer : end ≡ xs ++ t = cc same in
        off xs (subst (Accepts false (reading parts)) longer h)

    at_split : ((xs : List ℕ) × (47 ∷ end ≡ xs ++ t)) ⊎ ((ys : List ℕ) × (t ≡ ys ++ 47 ∷ end)) → ⊥
    at_split (inl (xs, same)) = at_end xs same
    at_split (inr (ys, same)) = unbegun ys end same h

over_rooted : (parts : List Part) (pre t path end : List ℕ) → path ≡ pre ++ t → ((xs : List ℕ) → Accepts false (reading parts) (xs ++ t) → ⊥) → path ≡ end → Accepts false (reading parts) end → ⊥
over_rooted parts pre t path end whole off same h = off pre (subst (Accepts false (reading parts)) (sym same ∙ whole) h)

over_from : (rooted : Bool) (parts : List Part) (pre t path a end : List ℕ) (marks : List Mark) → (rooted ≡ false → NoneBegins false parts t) → path ≡ pre ++ t → ((xs : List ℕ) → Accepts false (reading parts) (xs ++ t) → ⊥)
    → path ≡ a ++ end → IsFront rooted a → Accepts false (reading parts) end → ⊥
over_from true parts pre t path a end marks unbegun whole off e in_front h = over_rooted parts pre t path end whole off (e ∙ ap (λ v. v ++ end) in_front) h
over_from false parts pre t path a end marks unbegun whole off e (inl nothing) h = over_rooted parts pre t path end whole off (e ∙ ap (λ v. v ++ end) nothing) h
over_from false parts pre t path a end marks unbegun whole off e (inr (dir, slash)) h =
    over_at parts pre t end marks path (unbegun refl) whole off dir (e ∙ ap (λ v. v ++ end) slash ∙ append_assoc dir (47 ∷ []) end) h

over_whole : (rooted : Bool) (parts : List Part) (text : List ℕ) (marks : List Mark) (rest read : List ℕ) → closers parts ≡ 0 → IsUtf8 text → ReadBack false rooted parts text marks rest read → AreOff marks
    → Stands false rooted (reading parts).pattern (chars text) → ⊥
over_whole rooted parts text marks rest read none utf8 h off (a, b, c, e, in_front, i, back) =
    over_from rooted parts (chars rest) (reverse read) (chars text) a (b ++ c) marks h.unbegun (back_chars text rest (reverse read) utf8 h.text_is h.scalars_are)
    (λ xs. off_in_front parts xs (reverse read) marks h.row off) e in_front (accepts_behind false parts b c none i back)

pub line_over : (inner rooted : Bool) (parts : List Part) (text : List ℕ) (marks : List Mark) (rest read : List ℕ) (low : ℕ) → closers parts ≡ 0 → IsUtf8 text → ReadBack inner rooted parts text marks rest read → OffBelow low marks
    → (not inner && nat_le (length marks) low) ≡ true → Stands inner rooted (reading parts).pattern (chars text) → ⊥
line_over true rooted parts text marks rest read low none utf8 h below over s = absurd (false≢true over)
line_over false rooted parts text marks rest read low none utf8 h below over s = over_whole rooted parts text marks rest read none utf8 h (are_off low marks below (leb-true (length marks) low over)) s

-- all was read: the first mark answers for the whole path, and no match began before
whole_from : (inner rooted : Bool) (parts : List Part) (path a end : List ℕ) → (rooted ≡ false → NoneBegins inner parts path) → path ≡ a ++ end → IsFront rooted a → Accepts inner (reading parts) end → Accepts inner (reading parts) path
whole_from inner true parts path a end unbegun e in_front h = subst (Accepts inner (reading parts)) (sym (e ∙ ap (λ v. v ++ end) in_front)) h
whole_from inner false parts path a end unbegun e (inl nothing) h = subst (Accepts inner (reading parts)) (sym (e ∙ ap (λ v. v ++ end) nothing)) h
whole_from inner false parts path a end unbegun e (inr (dir, slash)) h = absurd (unbegun refl dir end (e ∙ ap (λ v. v ++ end) slash ∙ append_assoc dir (47 ∷ []) end) h)

pub line_read : (inner rooted : Bool) (parts : List Part) (text : List ℕ) (marks : List Mark) (rest read : List ℕ) → closers parts ≡ 0 → IsUtf8 text → ReadBack inner rooted parts text marks rest read → length rest ≡ 0
    → Decides (get_or marks 0 no_mark).here (Stands inner rooted (reading parts).pattern (chars text))
line_read inner rooted parts text marks rest read none utf8 h done =
    let all = back_all inner rooted parts text marks rest read h utf8 done in
    let here = first_is inner parts marks (reverse read) h.row in
    let at = ap (λ (m : Mark). m.here) (first_at marks) in (
      λ e. stands_from inner rooted parts (chars text) [] (chars text) none refl (front_nothing rooted) (subst (Accepts inner (reading parts)) (sym all) (here.0 (sym at ∙ e))),
      λ (a, b, c, e, in_front, i, back). at ∙ here.1 (subst (Accepts inner (reading parts)) all
          (whole_from inner rooted parts (chars text) a (b ++ c) (λ free. subst (NoneBegins inner parts) (sym all) (h.unbegun free)) e in_front (accepts_behind inner parts b c none i back))),
    )
