-- Globs that are asked one after another: what is left of the list, and what is known at its end so far.
use Rattle.std.proofs.Common.{◌≡◌, ℕ, suc, ◌+◌, ◌<◌, ◌≤◌, Bool, false, ◌↔◌, inl, inr, List, [], ◌∷◌, map, length, get_or, drop, reverse, chars, IsTrue, refl, sym, ap, subst, ◌∙◌, arith, drop-cons}
use Rattle.std.proofs.lemmas.Bool.{false≢true}
use Rattle.std.proofs.lemmas.List.{drop_all, get_or_default, get_or-map, length-map}
use Rattle.hg_glob.specs.Part.{Reading, glob_of, reading}
use Rattle.hg_glob.specs.Line.{Stands}
use Rattle.hg_glob.specs.Many.{SomeStands, SharesEnd, SharedBehind, AreShared, last_parts, parts_in}
use Rattle.hg_glob.specs.Trail.{column_at, TrailIs}
use Rattle.hg_glob.specs.declared.part.Part.{Part}
use Rattle.hg_glob.specs.declared.fork.Column.{Column}
use Rattle.hg_glob.specs.declared.globs.GlobLine.{GlobLine}
use Rattle.hg_glob.proofs.Bounding.{glob_closed}
use Rattle.hg_glob.proofs.Dead.{dead_stands, none_stands, column_out}
use Rattle.hg_glob.proofs.Far.{reaches_shared, out_accepts}
use Rattle.hg_glob.specs.Kept.{HasEnd}
use Rattle.hg_glob.specs.Reach.{ReachIs, reach_at, ReachesAre}
use Rattle.hg_glob.specs.declared.fork.Reach.{Reach}
use Rattle.hg_glob.proofs.Trails.{trail_shared}

-- no end of a long path is accepted
abbrev pub IsOut : Reach → Type 0
IsOut reach = (reach.now ≡ 0) × (reach.beyond ≡ false)

-- the line's glob stands in a path of these characters
abbrev pub LineStands : GlobLine → List ℕ → Type 0
LineStands line text = Stands false line.rooted (glob_of (chars line.glob)) text

-- the line at a place
abbrev pub line_at : List GlobLine → ℕ → GlobLine
line_at lines i = get_or lines i (record { rooted = false; glob = [] })

-- no end of the path is accepted from the last parts on, outside braces
abbrev pub IsOver : Column → Type 0
IsOver column = (column.depth ≡ 0) × (column.now ≡ 0)

-- of all lines those from the place on are left
abbrev pub Left : List GlobLine → List ℕ → ℕ → Type 0
Left lines path i = SomeStands lines path ↔ SomeStands (drop i lines) path

-- the lines in front of the place don't stand, and of the one before it the last parts' columns are kept
pub record Gone (xs : List ℕ) (lines : List GlobLine) (row : List (List Part)) (shared : List ℕ) (i len : ℕ) (columns : List Column) (is_over : Bool) : Type 0 where
  pub behind : List Part
  pub trail : TrailIs xs behind len columns
  pub counts : SharedBehind behind (drop i row) (drop i shared)
  pub over : IsTrue is_over → IsOver (column_at columns len)
  pub same : (path : List ℕ) → chars path ≡ reverse xs → Left lines path i

behind_len : (before : List Part) (row : List (List Part)) (shared : List ℕ) → SharedBehind before row shared → length shared ≡ length row
behind_len before [] shared h = ap length h
behind_len before (parts ∷ row) [] h = absurd h
behind_len before (parts ∷ row) (count ∷ shared) h = ap suc (behind_len parts row shared h.1)

pub row_len : (lines : List GlobLine) (row : List (List Part)) → row ≡ map parts_in lines → length row ≡ length lines
row_len lines row row_is = ap length row_is ∙ length-map lines parts_in

pub shared_len : (lines : List GlobLine) (row : List (List Part)) (shared : List ℕ) → row ≡ map parts_in lines → AreShared row shared → length shared ≡ length lines
shared_len lines row shared row_is h = behind_len [] row shared h ∙ row_len lines row row_is

pub gone_first : (xs : List ℕ) (lines : List GlobLine) (row : List (List Part)) (shared : List ℕ) (columns : List Column) → AreShared row shared → TrailIs xs [] 0 columns → Gone xs lines row shared 0 0 columns false
gone_first xs lines row shared columns h trail = record {
  behind = [];
  trail = trail;
  counts = h;
  over = λ e. absurd (false≢true e);
  same = λ path e. (λ s. s, λ s. s);
}

-- the line at a place is what is read there
at_place : (lines : List GlobLine) (i : ℕ) → i < length lines → line_at lines i ≡ get_or lines i (line_at lines i)
at_place lines i inside = get_or_default lines i (record { rooted = false; glob = [] }) (line_at lines i) inside

pub read_at : (lines : List GlobLine) (i : ℕ) (line : GlobLine) → i < length lines → get_or lines i line ≡ line_at lines i
read_at lines i line inside = get_or_default lines i line (record { rooted = false; glob = [] }) inside

-- the parts at a place of the row are those of the line there
pub parts_at_place : (lines : List GlobLine) (row : List (List Part)) (parts : List Part) (i : ℕ) → row ≡ map parts_in lines → i < length lines → parts ≡ get_or row i [] → parts ≡ parts_in (line_at lines i)
parts_at_place lines row parts i row_is inside is = is ∙ ap (λ v. get_or v i []) row_is ∙ get_or-map parts_in lines i (record { rooted = false; glob = [] }) [] inside

-- so what is said of these parts is said of the line
pub stands_at_place : (lines : List GlobLine) (i : ℕ) (line : GlobLine) (parts : List Part) (text : List ℕ) → line ≡ line_at lines i → parts ≡ parts_in (line_at lines i) → Stands false line.rooted (reading parts).pattern text ↔ LineStands (line_at lines i) text
stands_at_place lines i line parts text line_is parts_are =
    let Of : GlobLine → List Part → Type 0 = λ l ps. Stands false l.rooted (reading ps).pattern text in
    let here : GlobLine = line_at lines i in (
      λ s. subst (λ ps. Of here ps) parts_are (subst (λ l. Of l parts) line_is s),
      λ s. subst (λ l. Of l parts) (sym line_is) (subst (λ ps. Of here ps) (sym parts_are) s),
    )

cut_at : {A : Type 0} (all : List A) (i : ℕ) (here d : A) → i < length all → here ≡ get_or all i d → drop i all ≡ here ∷ drop (i + 1) all
cut_at all i here d inside is =
    let next : suc i ≡ i + 1 = omega arith in
    drop-cons all i d inside ∙ ap (λ v. v ∷ drop (suc i) all) (sym is) ∙ ap (λ n. here ∷ drop n all) next

-- what the next list has in common with what stands before it, and those behind it with it
abbrev NextShares : List Part → List Part → List (List Part) → ℕ → List ℕ → Type 0
NextShares before parts more count counts = SharesEnd count before parts × SharedBehind parts more counts

next_shares : (before : List Part) (left : List (List Part)) (shared : List ℕ) (parts : List Part) (more : List (List Part)) (count : ℕ) (counts : List ℕ) → left ≡ parts ∷ more → shared ≡ count ∷ counts → SharedBehind before left shared → NextShares before parts more count counts
next_shares before left shared parts more count counts left_is shared_is h =
    let one : SharedBehind before (parts ∷ more) shared = subst (λ v. SharedBehind before v shared) left_is h in
    let both : SharedBehind before (parts ∷ more) (count ∷ counts) = subst (λ v. SharedBehind before (parts ∷ more) v) shared_is one in
    both

next_at : (row : List (List Part)) (shared : List ℕ) (i : ℕ) (behind parts : List Part) → SharedBehind behind (drop i row) (drop i shared) → i < length row → i < length shared → parts ≡ get_or row i []
    → NextShares behind parts (drop (i + 1) row) (get_or shared i 0) (drop (i + 1) shared)
next_at row shared i behind parts h inside counted is =
    next_shares behind (drop i row) (drop i shared) parts (drop (i + 1) row) (get_or shared i 0) (drop (i + 1) shared) (cut_at row i parts [] inside is) (cut_at shared i (get_or shared i 0) 0 counted refl) h

-- a line that doesn't stand is left behind
left_behind : (line : GlobLine) (all left more : List GlobLine) (path : List ℕ) → left ≡ line ∷ more → (LineStands line (chars path) → ⊥) → SomeStands all path ↔ SomeStands left path → SomeStands all path ↔ SomeStands more path
left_behind line all left more path is none so_far =
    let P : List GlobLine → Type 0 = λ v. SomeStands v path in
    let past : SomeStands (line ∷ more) path → SomeStands more path = elim [ inl s ↦ absurd (none s) | inr s ↦ s ] in (
      λ s. past (subst P is (so_far.0 s)),
      λ s. so_far.1 (subst P (sym is) (inr s)),
    )

pub line_past : (lines : List GlobLine) (path : List ℕ) (i : ℕ) (line : GlobLine) → i < length lines → line ≡ get_or lines i line → (LineStands line (chars path) → ⊥) → Left lines path i → Left lines path (i + 1)
line_past lines path i line inside is none so_far = left_behind line lines (drop i lines) (drop (i + 1) lines) path (cut_at lines i line line inside is) none so_far

pub line_found : (lines : List GlobLine) (path : List ℕ) (i : ℕ) (line : GlobLine) → i < length lines → line ≡ get_or lines i line → LineStands line (chars path) → Left lines path i → SomeStands lines path
line_found lines path i line inside is s so_far = so_far.1 (subst (λ v. SomeStands v path) (sym (cut_at lines i line line inside is)) (inl s))

pub line_none : (lines : List GlobLine) (path : List ℕ) (i : ℕ) → length lines ≤ i → Left lines path i → SomeStands lines path → ⊥
line_none lines path i all so_far s = subst (λ v. SomeStands v path) (drop_all i lines all) (so_far.0 s)

-- the next line was looked at, and doesn't stand
pub gone_more : (xs : List ℕ) (lines : List GlobLine) (row : List (List Part)) (shared : List ℕ) (i was len : ℕ) (old columns : List Column) (was_over is_over : Bool) (parts : List Part) → Gone xs lines row shared i was old was_over → i < length lines → i < length row → i < length shared
    → parts ≡ get_or row i [] → TrailIs xs parts len columns → (IsTrue is_over → IsOver (column_at columns len)) → (LineStands (line_at lines i) (reverse xs) → ⊥) → Gone xs lines row shared (i + 1) len columns is_over
gone_more xs lines row shared i was len old columns was_over is_over parts h inside laid counted is trail over none = record {
  behind = parts;
  trail = trail;
  counts = (next_at row shared i h.behind parts h.counts laid counted is).1;
  over = over;
  same = λ path e. line_past lines path i (line_at lines i) inside (at_place lines i inside) (λ s. none (subst (LineStands (line_at lines i)) e s)) (h.same path e);
}

-- what a line has in common with the one before it is known
pub trail_next : (xs : List ℕ) (lines : List GlobLine) (row : List (List Part)) (shared : List ℕ) (i len n : ℕ) (columns : List Column) (is_over : Bool) (parts : List Part) → Gone xs lines row shared i len columns is_over → i < length row → i < length shared → parts ≡ get_or row i []
    → n ≤ len → n ≤ get_or shared i 0 → TrailIs xs parts n columns
trail_next xs lines row shared i len n columns is_over parts h laid counted is few common =
    trail_shared xs h.behind parts (get_or shared i 0) len n columns h.trail (next_at row shared i h.behind parts h.counts laid counted is).0 few common

-- no end is accepted from parts that the line has, so it doesn't stand
pub over_stands : (xs : List ℕ) (line : GlobLine) (parts : List Part) (len : ℕ) (columns : List Column) → parts ≡ parts_in line → TrailIs xs parts len columns → IsOver (column_at columns len) → LineStands line (reverse xs) → ⊥
over_stands xs line parts len columns is trail over s =
    let column : Column = column_at columns len in
    let h : TrailIs xs (parts_in line) len columns = subst (λ v. TrailIs xs v len columns) is trail in
    dead_stands xs line.rooted (parts_in line) len column.now column.hit (h.at len (omega arith) over.0) over.1 (glob_closed line.glob (parts_in line) refl) s

-- it needn't even be looked at
pub gone_over : (xs : List ℕ) (lines : List GlobLine) (row : List (List Part)) (shared : List ℕ) (i len : ℕ) (columns : List Column) (is_over : Bool) → Gone xs lines row shared i len columns is_over → row ≡ map parts_in lines → i < length lines → i < length shared → IsTrue is_over → len ≤ get_or shared i 0
    → Gone xs lines row shared (i + 1) len columns is_over
gone_over xs lines row shared i len columns is_over h row_is inside counted over common =
    let parts : List Part = get_or row i [] in
    let laid : i < length row = omega (arith, row_len lines row row_is) in
    let trail : TrailIs xs parts len columns = trail_next xs lines row shared i len len columns is_over parts h laid counted refl (omega arith) common in
    gone_more xs lines row shared i len len columns columns is_over is_over parts h inside laid counted refl trail h.over (over_stands xs (line_at lines i) parts len columns (parts_at_place lines row parts i row_is inside refl) trail (h.over over))

-- the next line stands
pub found_line : (xs : List ℕ) (lines : List GlobLine) (row : List (List Part)) (shared : List ℕ) (i len : ℕ) (columns : List Column) (is_over : Bool) (path : List ℕ) → Gone xs lines row shared i len columns is_over → i < length lines → chars path ≡ reverse xs
    → LineStands (line_at lines i) (reverse xs) → SomeStands lines path
found_line xs lines row shared i len columns is_over path h inside e s =
    line_found lines path i (line_at lines i) inside (at_place lines i inside) (subst (LineStands (line_at lines i)) (sym e) s) (h.same path e)

-- no line is left
pub none_left : (xs : List ℕ) (lines : List GlobLine) (row : List (List Part)) (shared : List ℕ) (i len : ℕ) (columns : List Column) (is_over : Bool) (path : List ℕ) → Gone xs lines row shared i len columns is_over → length lines ≤ i → chars path ≡ reverse xs → SomeStands lines path → ⊥
none_left xs lines row shared i len columns is_over path h all e s = line_none lines path i all (h.same path e) s

-- of a long path: the lines in front of the place don't stand, and of the one before it the last parts' columns are kept
pub record GoneFar (path xs : List ℕ) (lines : List GlobLine) (row : List (List Part)) (shared : List ℕ) (i len : ℕ) (reaches : List Reach) (is_over : Bool) : Type 0 where
  pub behind : List Part
  pub trail : ReachesAre (chars path) xs behind len reaches
  pub counts : SharedBehind behind (drop i row) (drop i shared)
  pub over : IsTrue is_over → IsOut (reach_at reaches len)
  pub same : Left lines path i

pub far_first : (path xs : List ℕ) (lines : List GlobLine) (row : List (List Part)) (shared : List ℕ) (reaches : List Reach) → AreShared row shared → ReachesAre (chars path) xs [] 0 reaches → GoneFar path xs lines row shared 0 0 reaches false
far_first path xs lines row shared reaches h trail = record {
  behind = [];
  trail = trail;
  counts = h;
  over = λ e. absurd (false≢true e);
  same = (λ s. s, λ s. s);
}

pub far_next : (path xs : List ℕ) (lines : List GlobLine) (row : List (List Part)) (shared : List ℕ) (i len n : ℕ) (reaches : List Reach) (is_over : Bool) (parts : List Part) → GoneFar path xs lines row shared i len reaches is_over → i < length row → i < length shared → parts ≡ get_or row i []
    → n ≤ len → n ≤ get_or shared i 0 → ReachesAre (chars path) xs parts n reaches
far_next path xs lines row shared i len n reaches is_over parts h laid counted is few common =
    reaches_shared (chars path) xs h.behind parts (get_or shared i 0) len n reaches h.trail (next_at row shared i h.behind parts h.counts laid counted is).0 few common

pub far_more : (path xs : List ℕ) (lines : List GlobLine) (row : List (List Part)) (shared : List ℕ) (i was len : ℕ) (old reaches : List Reach) (was_over is_over : Bool) (parts : List Part) → GoneFar path xs lines row shared i was old was_over → i < length lines → i < length row → i < length shared
    → parts ≡ get_or row i [] → ReachesAre (chars path) xs parts len reaches → (IsTrue is_over → IsOut (reach_at reaches len)) → (LineStands (line_at lines i) (chars path) → ⊥) → GoneFar path xs lines row shared (i + 1) len reaches is_over
far_more path xs lines row shared i was len old reaches was_over is_over parts h inside laid counted is trail over none = record {
  behind = parts;
  trail = trail;
  counts = (next_at row shared i h.behind parts h.counts laid counted is).1;
  over = over;
  same = line_past lines path i (line_at lines i) inside (at_place lines i inside) none h.same;
}

pub out_stands : (path xs : List ℕ) (line : GlobLine) (parts : List Part) (len : ℕ) (reaches : List Reach) → HasEnd (chars path) (reverse xs) → parts ≡ parts_in line → ReachesAre (chars path) xs parts len reaches → IsOut (reach_at reaches len) → LineStands line (chars path) → ⊥
out_stands path xs line parts len reaches last is trail over s =
    let r : Reading = reading (last_parts len (parts_in line)) in
    let reach : Reach = reach_at reaches len in
    let h : ReachesAre (chars path) xs (parts_in line) len reaches = subst (λ v. ReachesAre (chars path) xs v len reaches) is trail in
    let at : ReachIs (chars path) xs r reach = h.at len (omega arith) in
    none_stands (chars path) line.rooted (parts_in line) len (column_out xs r reach.now reach.hit at.near) (λ a rest e accepted. out_accepts (chars path) xs r reach rest last at over.0 over.1 (a, e) accepted) (glob_closed line.glob (parts_in line) refl) s

pub far_over : (path xs : List ℕ) (lines : List GlobLine) (row : List (List Part)) (shared : List ℕ) (i len : ℕ) (reaches : List Reach) (is_over : Bool) → HasEnd (chars path) (reverse xs) → GoneFar path xs lines row shared i len reaches is_over → row ≡ map parts_in lines → i < length lines
    → i < length shared → IsTrue is_over → len ≤ get_or shared i 0 → GoneFar path xs lines row shared (i + 1) len reaches is_over
far_over path xs lines row shared i len reaches is_over last h row_is inside counted over common =
    let parts : List Part = get_or row i [] in
    let laid : i < length row = omega (arith, row_len lines row row_is) in
    let trail : ReachesAre (chars path) xs parts len reaches = far_next path xs lines row shared i len len reaches is_over parts h laid counted refl (omega arith) common in
    far_more path xs lines row shared i len len reaches reaches is_over is_over parts h inside laid counted refl trail h.over (out_stands path xs (line_at lines i) parts len reaches last (parts_at_place lines row parts i row_is inside refl) trail (h.over over))
