-- A plain text is a path.
use Rattle.std.proofs.Common.{◌≡◌, ℕ, zero, suc, ◌+◌, ◌-◌, ◌<◌, ◌≤◌, inl, inr, Bool, true, false, cond, not, ◌&&◌, ◌||◌, List, [], ◌∷◌, length, take, drop, get_or, refl, sym, ap, ◌∙◌, arith, eqb, leb, ltb, ne_eqb, true≢false}
use Rattle.std.specs.Prelude.{codes}
use Rattle.std.specs.List.{list_all, onto_first}
use Rattle.std.specs.Str.{IsAscii, IsUtf8, bytes_eq, is_utf8}
use Rattle.std.proofs.lemmas.Bool.{and_from, and_parts, cases_lt, le-leb, leb-true, lt-leb, ltb-true, not-true, not_from_false, or_parts, or_from}
use Rattle.std.proofs.Math.Bool.{and-true, and_assoc}
use Rattle.std.proofs.Math.Seq.{drop-cons}
use Rattle.std.proofs.lemmas.List.{take-take}
use Rattle.std.proofs.lemmas.Str.{IsUtf8-from_ascii, is_utf8-from_IsUtf8}
use Rattle.hg_base.specs.PathText.{components, has_nul, has_slash, is_component, is_path, is_reserved}
use Rattle.hg_base.proofs.Paths.{path_from}
use Rattle.hg_manifest.specs.Front.{is_plain_byte, is_plain_from, is_plain_front}
use Rattle.hg_manifest.specs.Line.{is_file_path}

-- ---- one byte

pub record PlainByte (begins : Bool) (b : ℕ) : Type 0 where
  pub some : 1 ≤ b
  pub ascii : b < 128
  pub first : begins ≡ true → (eqb b 47 ≡ false) × (eqb b 46 ≡ false)

plain_byte : (begins : Bool) (b : ℕ) → is_plain_byte begins b ≡ true → PlainByte begins b
plain_byte begins b h =
    let outer = and_parts (leb 1 b && ltb b 128) (not (begins && (eqb b 47 || eqb b 46))) h in
    let inner = and_parts (leb 1 b) (ltb b 128) outer.0 in
    record { some = leb-true 1 b inner.0; ascii = ltb-true b 128 inner.1; first = λ at. firsts begins at (not-true (begins && (eqb b 47 || eqb b 46)) outer.1) }
  where
    firsts : (t : Bool) → t ≡ true → (t && (eqb b 47 || eqb b 46)) ≡ false → (eqb b 47 ≡ false) × (eqb b 46 ≡ false)
    firsts true at none = or_parts (eqb b 47) (eqb b 46) none
    firsts false at none = absurd (cc at)

plain_parts : (begins : Bool) (b : ℕ) (text : List ℕ) → is_plain_from begins (b ∷ text) ≡ true → PlainByte begins b × (is_plain_from (eqb b 47) text ≡ true)
plain_parts begins b text h = let both = and_parts (is_plain_byte begins b) (is_plain_from (eqb b 47) text) h in (plain_byte begins b both.0, both.1)

-- ---- UTF-8

plain_ascii : (begins : Bool) (text : List ℕ) → is_plain_from begins text ≡ true → IsAscii text
plain_ascii begins [] h = λ i. omega arith
plain_ascii begins (b ∷ text) h = ascii_at (plain_ascii (eqb b 47) text (plain_parts begins b text h).1)
  where
    ascii_at : IsAscii text → (i : ℕ) → get_or (b ∷ text) i 0 < 128
    ascii_at more zero = (plain_parts begins b text h).0.ascii
    ascii_at more (suc i) = more i

pub plain_utf8 : (text : List ℕ) → is_plain_from true text ≡ true → IsUtf8 text
plain_utf8 text h = IsUtf8-from_ascii text (plain_ascii true text h)

-- ---- components

-- what may stand behind the first byte of a component
pub record IsTail (name : List ℕ) : Type 0 where
  pub nul : has_nul name ≡ false
  pub slash : has_slash name ≡ false

tail_more : (b : ℕ) (name : List ℕ) → 1 ≤ b → eqb b 47 ≡ false → IsTail name → IsTail (b ∷ name)
tail_more b name some other tail = record { nul = or_from (eqb b 0) (has_nul name) (ne_eqb b 0 (λ e. omega (arith, some, e))) tail.nul; slash = or_from (eqb b 47) (has_slash name) other tail.slash }

-- a component that begins with no dot
pub record IsHead (name : List ℕ) : Type 0 where
  pub component : is_component name ≡ true
  pub own : bytes_eq name (codes ".hg") ≡ false

-- two texts that begin with other bytes
other_first : (a b : ℕ) (x y : List ℕ) → eqb a b ≡ false → bytes_eq (a ∷ x) (b ∷ y) ≡ false
other_first a b x y other = ap (λ (t : Bool). t && bytes_eq x y) other

head_from : (b : ℕ) (name : List ℕ) → eqb b 46 ≡ false → IsTail (b ∷ name) → IsHead (b ∷ name)
head_from b name other tail = record {
  component =
      not_from_false _
      (or_from _ (has_slash (b ∷ name))
      (or_from _ (has_nul (b ∷ name))
      (or_from _ (bytes_eq (b ∷ name) (codes ".."))
      (or_from _ (bytes_eq (b ∷ name) (codes ".")) (ne_eqb (length (b ∷ name)) 0 (λ e. omega (arith, e))) (other_first b 46 name [] other))
      (other_first b 46 name (46 ∷ []) other))
      tail.nul)
      tail.slash);
  own = other_first b 46 name (104 ∷ 103 ∷ []) other;
}

-- the pieces of a plain text: the first one is a component where it begins there, and the others are
pub record Pieces (begins : Bool) (text : List ℕ) (pieces : List (List ℕ)) : Type 0 where
  pub first : List ℕ
  pub rest : List (List ℕ)
  pub whole : pieces ≡ first ∷ rest
  pub tail : IsTail first
  pub head : begins ≡ true → IsHead first
  pub others : list_all is_component rest ≡ true
  pub few : length pieces ≤ length text + 1

pieces_of : (begins : Bool) (text : List ℕ) → is_plain_from begins text ≡ true → Pieces begins text (components text)
pieces_of begins [] h = record { first = []; rest = []; whole = refl; tail = record { nul = refl; slash = refl }; head = λ at. absurd (true≢false (sym at ∙ not-true begins h)); others = refl; few = omega arith }
pieces_of begins (b ∷ text) h = tested (eqb b 47) refl (pieces_of (eqb b 47) text (plain_parts begins b text h).1)
  where
    tested : (t : Bool) → eqb b 47 ≡ t → Pieces (eqb b 47) text (components text) → Pieces begins (b ∷ text) (cond t ([] ∷ components text) (onto_first b (components text)))
    tested true slash p =
        let parts = plain_parts begins b text h in
        let head = p.head slash in record {
          first = [];
          rest = components text;
          whole = refl;
          tail = record { nul = refl; slash = refl };
          head = λ at. absurd (true≢false (sym slash ∙ (parts.0.first at).0));
          others = ap (list_all is_component) p.whole ∙ and_from (is_component p.first) (list_all is_component p.rest) head.component p.others;
          few = omega (arith, p.few);
        }
    tested false other p =
        let parts = plain_parts begins b text h in
        let tail = tail_more b p.first parts.0.some other p.tail in record {
          first = b ∷ p.first;
          rest = p.rest;
          whole = ap (onto_first b) p.whole;
          tail = tail;
          head = λ at. head_from b p.first (parts.0.first at).1 tail;
          others = p.others;
          few = omega (arith, p.few, ap length (ap (onto_first b) p.whole), ap length p.whole);
        }

pub plain_path : (text : List ℕ) → is_plain_from true text ≡ true → length text < 2048 → is_path text ≡ true
plain_path text h short =
    let p = pieces_of true text h in
    let head = p.head refl in
    path_from text (record {
      short = omega (arith, short);
      pieces = ap (list_all is_component) p.whole ∙ and_from (is_component p.first) (list_all is_component p.rest) head.component p.others;
      own = ap is_reserved p.whole ∙ head.own;
      shallow = omega (arith, short, p.few);
    })

pub plain_file_path : (text : List ℕ) → is_plain_from true text ≡ true → length text < 2048 → is_file_path text ≡ true
plain_file_path text h short = and_from (is_utf8 text) (is_path text) (is_utf8-from_IsUtf8 text (plain_utf8 text h)) (plain_path text h short)

-- ---- as far as a text goes

-- what a text begins with, in a window of the text
pub front_window : (text path : List ℕ) (n : ℕ) → take (length path) text ≡ path → length path ≤ n → take (length path) (take n text) ≡ path
front_window text path n is short = take-take (length path) n text short ∙ is

-- a byte more of a window, or none where enough was looked at
pub front_step : (len i b : ℕ) (rest : List ℕ) (begins : Bool)
    → is_plain_front begins (take (len - i) (b ∷ rest)) ≡ ((leb len i || is_plain_byte begins b) && is_plain_front (eqb b 47) (take (len - (i + 1)) rest))
front_step len i b rest begins = elim (cases_lt i len) [
  | inl before ↦
      let more : len - i ≡ suc (len - (i + 1)) = omega (arith, before) in
      ap (λ (n : ℕ). is_plain_front begins (take n (b ∷ rest))) more
      ∙ ap (λ (t : Bool). (t || is_plain_byte begins b) && is_plain_front (eqb b 47) (take (len - (i + 1)) rest)) (sym (lt-leb len i before))
  | inr past ↦
      let none : len - i ≡ 0 = omega (arith, past) in
      let over : len - (i + 1) ≡ 0 = omega (arith, past) in
      ap (λ (n : ℕ). is_plain_front begins (take n (b ∷ rest))) none
      ∙ ap (λ (n : ℕ). is_plain_front (eqb b 47) (take n rest)) (sym over)
      ∙ ap (λ (t : Bool). (t || is_plain_byte begins b) && is_plain_front (eqb b 47) (take (len - (i + 1)) rest)) (sym (le-leb len i past))
]

pub window_more : (window : List ℕ) (len i at : ℕ) (plain begins now : Bool) → i < length window → at ≡ i → now ≡ is_plain_byte begins (get_or window i 0)
    → is_plain_front true (take len window) ≡ (plain && is_plain_front begins (take (len - i) (drop i window)))
    → is_plain_front true (take len window) ≡ (plain && (leb len at || now) && is_plain_front (eqb (get_or window i 0) 47) (take (len - (i + 1)) (drop (i + 1) window)))
window_more window len i at plain begins now less same is so_far =
    let b = get_or window i 0 in
    let rest = drop (i + 1) window in
    let end = is_plain_front (eqb b 47) (take (len - (i + 1)) rest) in
    let next : suc i ≡ i + 1 = omega arith in
    let there : drop i window ≡ b ∷ rest = drop-cons window i 0 less ∙ ap (λ (n : ℕ). b ∷ drop n window) next in
    so_far
    ∙ ap (λ (l : List ℕ). plain && is_plain_front begins (take (len - i) l)) there
    ∙ ap (λ (t : Bool). plain && t) (front_step len i b rest begins)
    ∙ sym (and_assoc plain (leb len i || is_plain_byte begins b) end)
    ∙ ap (λ (n : ℕ). plain && (leb len n || is_plain_byte begins b) && end) (sym same)
    ∙ ap (λ (t : Bool). plain && (leb len at || t) && end) (sym is)

end_after : (begins : Bool) (b : ℕ) (text : List ℕ) → is_plain_from begins (b ∷ text) ≡ (is_plain_front begins (b ∷ text) && not (eqb (get_or (b ∷ text) (length text) 0) 47))
end_after begins b [] = ap (λ (t : Bool). t && not (eqb b 47)) (sym (and-true (is_plain_byte begins b)))
end_after begins b (c ∷ text) =
    ap (λ (t : Bool). is_plain_byte begins b && t) (end_after (eqb b 47) c text)
    ∙ sym (and_assoc (is_plain_byte begins b) (is_plain_front (eqb b 47) (c ∷ text)) (not (eqb (get_or (c ∷ text) (length text) 0) 47)))

-- such a text is plain where it doesn't end with a slash
pub plain_end : (text : List ℕ) → 0 < length text → is_plain_from true text ≡ (is_plain_front true text && not (eqb (get_or text (length text - 1) 0) 47))
plain_end [] some = absurd (omega (arith, some))
plain_end (b ∷ text) some = end_after true b text ∙ ap (λ (n : ℕ). is_plain_front true (b ∷ text) && not (eqb (get_or (b ∷ text) n 0) 47)) (omega arith)
