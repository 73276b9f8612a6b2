-- What a load finds, from what its reads find.
use Rattle.std.proofs.Common.{ℕ, ◌≡◌, ◌<◌, ◌≤◌, ◌==◌, Bool, true, false, cond, min, List, [], ◌∷◌, ◌++◌, map, length, take, drop, Vec, Global, Option, Some, None, option_map, Result, Ok, Err, codes, refl, sym, ap, ◌∙◌, subst, inl, inr, ◌⊎◌, arith}
use Rattle.std.specs.List.{AllByRecursion}
use Rattle.std.specs.Result.{IfOk}
use Rattle.std.proofs.Math.Seq.{take-append_seam}
use Rattle.std.proofs.lemmas.List.{length-take, take-append-le, take-take, take_all, take_min}
use Rattle.std.proofs.lemmas.Bool.{cases_eq}
use Rattle.hg_base.specs.declared.stat.Got.TheVariants as a_got
use Rattle.hg_docket.specs.Docket.{Contents, docket_of, docket_refusal}
use Rattle.hg_docket.specs.declared.fault.DocketFault.{DocketFault}
use Rattle.hg_entry.specs.Table.{Table}
use Rattle.hg_image.specs.Reading.{RecordFault, data_reading, docket_reading, of_data, reading_of, sound_reading, table_of}
use Rattle.hg_image.specs.Reading as a_record_fault
use Rattle.hg_image.specs.declared.fault.NodeFault.{NodeFault}
use Rattle.hg_image.specs.declared.fault.NodeFault.TheVariants as a_node
use Rattle.hg_shelf.specs.History.{Extends, Files, History, Passes, now}
use Rattle.hg_base.specs.Reads.{ReadsBytes}
use Rattle.hg_shelf.specs.Reads.{size_of}
use Rattle.hg_shelf.proofs.Histories.{extends_trans}
use Rattle.hg_shelf.specs.Rules.{content}
use Rattle.hg_save.proofs.Tails.{front_same, short_of}
use Rattle.hg_save.specs.Record.{data_in, data_name, docket_in, id_in, named_reading, needed_in, record_in}
use Rattle.hg_save.specs.Loads.{Answers, Covers, DataFinds, DataFindsDuring, During, FileFinds, FileFindsDuring, FrontFinds, IsTry, IsUnread, Loads, NamedFinds, ReadsAsOf, ReadsUsed, Tries, Try, bytes_of, files_at, found_by, id_by}
use Rattle.hg_save.specs.declared.load_fault.LoadFault.{LoadFault}
use Rattle.hg_save.specs.declared.load_fault.LoadFault.TheVariants as a_fault
use Rattle.hg_save.specs.declared.loaded.Loaded.{Loaded}

-- ---- the front of a file

-- n bytes from the front, as a read gives them
front : (bytes old new : List ℕ) (n : ℕ) → n ≤ length bytes → new ≡ take n bytes ++ drop n old → take n new ≡ take n bytes
front bytes old new n enough filled =
    let len : length (take n bytes) ≡ n = omega (arith, length-take n bytes, enough) in
    ap (take n) filled ∙ subst (λ (k : ℕ). take k (take n bytes ++ drop n old) ≡ take n bytes) len (take-append_seam (take n bytes) (drop n old))

docket_front : (file : Option (List ℕ)) (old new : List ℕ) (n : ℕ) → length old ≡ 512 → ReadsBytes file 0 old new (a_got.Bytes n) → take n new ≡ take 512 (content file)
docket_front None old new n room reads = absurd reads
docket_front (Some bytes) old new n room reads =
    front bytes old new n (omega (arith, reads.count)) reads.filled ∙ ap (λ (k : ℕ). take k bytes) (omega (arith, reads.count, room)) ∙ take_min 512 bytes

-- a docket that was read
pub docket_read : (files : Files) (old new : List ℕ) (n : ℕ) → length old ≡ 512 → ReadsBytes (files (codes "dirstate")) 0 old new (a_got.Bytes n) → take n new ≡ docket_in files
docket_read files old new n room reads = docket_front (files (codes "dirstate")) old new n room reads

-- ---- the data file

-- a file that had fewer bytes than are used, and has more by now
record IsCut (used : ℕ) (a b nodes : List ℕ) : Type 0 where
  pub many : length nodes ≡ length a
  pub short : length a < used
  pub front : nodes ≡ take (length a) b

cover_by : (used n : ℕ) (a b nodes : List ℕ) → n ≡ min (min (length a) used) (length b) → nodes ≡ take n b → (n ≡ min used (length b)) ⊎ (n ≡ min used (length b) → ⊥)
    → (nodes ≡ take used b) ⊎ IsCut used a b nodes
cover_by used n a b nodes count is (inl whole) = inl (is ∙ ap (λ (k : ℕ). take k b) whole ∙ take_min used b)
cover_by used n a b nodes count is (inr part) = inr (record {
  many = ap length is ∙ omega (arith, length-take n b, count, part);
  short = omega (arith, count, part);
  front = is ∙ ap (λ (k : ℕ). take k b) (omega (arith, count, part));
})

-- the size that was asked and the bytes that were read later cover the file at one of the two moments
cover : (used n : ℕ) (a b nodes : List ℕ) → n ≡ min (min (length a) used) (length b) → nodes ≡ take n b → (nodes ≡ take used b) ⊎ IsCut used a b nodes
cover used n a b nodes count is = cover_by used n a b nodes count is (cases_eq n (min used (length b)))

during_last : (old new : History) → Extends old new → During old new new.last
during_last old new past = record { from = past.later; to = omega arith }

size_some : (file : Option (List ℕ)) (size : ℕ) → Some size ≡ size_of file → (bytes : List ℕ) × (file ≡ Some bytes) × (length bytes ≡ size)
size_some None size is = absurd (cc (is))
size_some (Some bytes) size is = (bytes, refl, cc (is))

size_none : (file : Option (List ℕ)) → None ≡ size_of file → file ≡ None
size_none None is = refl
size_none (Some bytes) is = absurd (cc (is))

absent : (file : Option (List ℕ)) (old new : List ℕ) → ReadsBytes file 0 old new a_got.Absent → file ≡ None
absent None old new reads = refl
absent (Some bytes) old new reads = absurd reads

-- the file was absent when its size was asked
pub gone_sized : (old new : History) (id name : List ℕ) (used : ℕ) (fault : LoadFault) → Passes old new → name ≡ data_name id → None ≡ size_of ((now new).files name) → fault ≡ a_fault.DataGone (id ∷ []) → FileFindsDuring old new id used (Err fault)
gone_sized old new id name used fault passes named size is = record {
  at = new.last;
  file = during_last old new passes.past;
  finds = subst (λ (f : LoadFault). FileFinds new new.last id used (Err f) (files_at new new.last (data_name id))) (sym is) (refl, ap (now new).files (sym named) ∙ size_none ((now new).files name) size);
}

-- memory or the shelf failed
pub file_free : (old new : History) (id : List ℕ) (used : ℕ) (fault : LoadFault) → Extends old new → (fault ≡ a_fault.OutOfMemory) ⊎ (fault ≡ a_fault.Failed) → FileFindsDuring old new id used (Err fault)
file_free old new id used fault past free = record {
  at = new.last;
  file = during_last old new past;
  finds =
      elim free [
        | inl memory ↦ subst (λ (f : LoadFault). FileFinds new new.last id used (Err f) (files_at new new.last (data_name id))) (sym memory) tt
        | inr failed ↦ subst (λ (f : LoadFault). FileFinds new new.last id used (Err f) (files_at new new.last (data_name id))) (sym failed) tt
      ];
}

read_by : (old mid new : History) (id : List ℕ) (used : ℕ) (a b nodes : List ℕ) → Passes old mid → Passes mid new → (now mid).files (data_name id) ≡ Some a → (now new).files (data_name id) ≡ Some b
    → (nodes ≡ take used b) ⊎ IsCut used a b nodes → FileFindsDuring old new id used (Ok nodes)
read_by old mid new id used a b nodes first second sized there (inl whole) = record {
  at = new.last;
  file = during_last old new (extends_trans old mid new first.past second.past);
  finds = subst (FileFinds new new.last id used (Ok nodes)) (sym there) (inl whole);
}
read_by old mid new id used a b nodes first second sized there (inr cut) = record {
  at = mid.last;
  file = record { from = first.past.later; to = second.past.later };
  finds =
      subst (FileFinds new mid.last id used (Ok nodes)) (sym (ap (λ (f : Files). f (data_name id)) (second.past.stay mid.last (omega arith)).shown ∙ sized))
      (inr (record {
        short = cut.short;
        many = cut.many;
        at = new.last;
        since = second.past.later;
        upto = omega arith;
        later = b;
        there = there;
        front = cut.front;
      }));
}

-- what is cut off a vector whose front was read
pub cut_front : (n len : ℕ) (after rest : List ℕ) → n ≤ len → n ≤ length after → take n (take len (after ++ rest)) ≡ take n after
cut_front n len after rest within there = take-take n len (after ++ rest) within ∙ take-append-le n after rest there

-- the front of a file, as it was read
pub front_read : (file : Option (List ℕ)) (id : List ℕ) (want n : ℕ) (buffer after nodes : List ℕ) → length buffer ≡ want → ReadsBytes file 0 buffer after (a_got.Bytes n) → nodes ≡ take n after → FrontFinds id want (Ok nodes) file
front_read None id want n buffer after nodes room reads is = absurd reads
front_read (Some bytes) id want n buffer after nodes room reads is =
    is ∙ front bytes buffer after n (omega (arith, reads.count)) reads.filled ∙ ap (λ (k : ℕ). take k bytes) (omega (arith, reads.count, room))

pub front_gone : (file : Option (List ℕ)) (id : List ℕ) (want : ℕ) (buffer after : List ℕ) (fault : LoadFault) → fault ≡ a_fault.DataGone (id ∷ []) → ReadsBytes file 0 buffer after a_got.Absent → FrontFinds id want (Err fault) file
front_gone file id want buffer after fault is reads =
    subst (λ (f : LoadFault). FrontFinds id want (Err f) file) (sym is) (refl, absent file buffer after reads)

pub front_free : (file : Option (List ℕ)) (id : List ℕ) (want : ℕ) (result : Result (Vec ℕ Global) LoadFault) (fault : LoadFault) → result ≡ Err fault → fault ≡ a_fault.OutOfMemory → FrontFinds id want (bytes_of result) file
front_free file id want result fault is memory =
    subst (λ (r : Result (Vec ℕ Global) LoadFault). FrontFinds id want (bytes_of r) file) (sym is) (subst (λ (f : LoadFault). FrontFinds id want (Err f) file) (sym memory) tt)

rest_by : (old mid new : History) (id : List ℕ) (used size want : ℕ) (result : Result (List ℕ) LoadFault) (file : Option (List ℕ)) → Passes old mid → Passes mid new
    → (bytes : List ℕ) × ((now mid).files (data_name id) ≡ Some bytes) × (length bytes ≡ size) → want ≡ min size used → (now new).files (data_name id) ≡ file → FrontFinds id want result file → FileFindsDuring old new id used result
rest_by old mid new id used size want (Ok nodes) None first second a is there finds = absurd finds
rest_by old mid new id used size want (Ok nodes) (Some bytes) first second a is there finds =
    read_by old mid new id used a.0 bytes nodes first second a.1 there (cover used (min want (length bytes)) a.0 bytes nodes (omega (arith, is, a.2)) finds)
rest_by old mid new id used size want (Err fault) file first second a is there finds = record {
  at = new.last;
  file = during_last old new (extends_trans old mid new first.past second.past);
  finds = subst (IsUnread id fault) (sym there) finds;
}

-- the rest of a file whose size was asked
pub file_rest : (old mid new : History) (id name : List ℕ) (used size want : ℕ) (result : Result (List ℕ) LoadFault) → Passes old mid → Passes mid new → name ≡ data_name id → Some size ≡ size_of ((now mid).files name)
    → want ≡ min size used → FrontFinds id want result ((now new).files (data_name id)) → FileFindsDuring old new id used result
file_rest old mid new id name used size want result first second named sized is finds =
    rest_by old mid new id used size want result ((now new).files (data_name id)) first second
    (size_some ((now mid).files (data_name id)) size (sized ∙ ap (λ (n : List ℕ). size_of ((now mid).files n)) named)) is refl finds

-- ---- what the bytes lead to

covers_same : (h : History) (at : ℕ) (d : Contents) (nodes bytes : List ℕ) → Covers h at d.id d.used nodes bytes → data_reading d nodes ≡ data_reading d bytes
covers_same h at d nodes bytes (inl is) = ap (data_reading d) is ∙ front_same d bytes
covers_same h at d nodes bytes (inr is) =
    short_of d nodes (omega (arith, is.many, is.short)) ∙ ap (λ (n : ℕ). Err (a_node.DataShort n d.used)) is.many ∙ sym (short_of d bytes is.short)

-- ---- the data file that a docket names

-- where no byte is used
pub unused : (h : History) (d : Contents) → (d.used == 0) ≡ true → DataFindsDuring h h d (Ok [])
unused h d none = record {
  at = h.last;
  file = record { from = omega arith; to = omega arith };
  finds = subst (λ (b : Bool). DataFinds d (Ok []) (cond b (Some []) (files_at h h.last (data_name d.id)))) (sym none) refl;
  nodes = subst (λ (b : Bool). ReadsUsed h h.last d [] (cond b (Some []) (files_at h h.last (data_name d.id)))) (sym none) (inl (sym (take_all d.used [] (omega arith))));
}

data_by : (h : History) (at : ℕ) (d : Contents) (result : Result (List ℕ) LoadFault) (file : Option (List ℕ)) → FileFinds h at d.id d.used result file → DataFinds d result file
data_by h at d (Ok nodes) None finds = absurd finds
data_by h at d (Ok nodes) (Some bytes) finds = covers_same h at d nodes bytes finds
data_by h at d (Err fault) file finds = finds

nodes_by : (h : History) (at : ℕ) (d : Contents) (result : Result (List ℕ) LoadFault) (file : Option (List ℕ)) → FileFinds h at d.id d.used result file → IfOk result (λ nodes. ReadsUsed h at d nodes file)
nodes_by h at d (Ok nodes) None finds = absurd finds
nodes_by h at d (Ok nodes) (Some bytes) finds = finds
nodes_by h at d (Err fault) file finds = tt

-- where some are
pub used : (old new : History) (d : Contents) (id : List ℕ) (result : Result (List ℕ) LoadFault) → (d.used == 0) ≡ false → id ≡ d.id → FileFindsDuring old new id d.used result → DataFindsDuring old new d result
used old new d id result some same finds =
    let there : data_in d (files_at new finds.at) ≡ files_at new finds.at (data_name d.id) = ap (λ (b : Bool). cond b (Some []) (files_at new finds.at (data_name d.id))) some in
    let found : FileFinds new finds.at d.id d.used result (files_at new finds.at (data_name d.id)) =
    subst (λ (n : List ℕ). FileFinds new finds.at n d.used result (files_at new finds.at (data_name n))) same finds.finds in
    record {
      at = finds.at;
      file = finds.file;
      finds = subst (DataFinds d result) (sym there) (data_by new finds.at d result (files_at new finds.at (data_name d.id)) found);
      nodes = subst (λ (file : Option (List ℕ)). IfOk result (λ nodes. ReadsUsed new finds.at d nodes file)) (sym there) (nodes_by new finds.at d result (files_at new finds.at (data_name d.id)) found);
    }

-- ---- by the docket's bytes

-- a reading by what is wrong with the docket
by_refusal : List ℕ → Files → Option DocketFault → Option (Result Table RecordFault)
by_refusal bytes files refusal = option_map (λ nodes. docket_reading refusal (data_reading (docket_of bytes) nodes)) (needed_in refusal (docket_of bytes) files)

pub named_refused : (bytes : List ℕ) (files : Files) (fault : DocketFault) → docket_refusal bytes ≡ Some fault → named_reading bytes files ≡ Some (Err (a_record_fault.Docket fault))
unfolding by_refusal
named_refused bytes files fault is = ap (by_refusal bytes files) is

pub named_sound : (bytes : List ℕ) (files : Files) (d : Contents) → docket_refusal bytes ≡ None → d ≡ docket_of bytes → named_reading bytes files ≡ option_map (λ nodes. of_data (data_reading d nodes)) (data_in d files)
unfolding by_refusal
named_sound bytes files d sound is = ap (by_refusal bytes files) sound ∙ ap (λ (c : Contents). option_map (λ nodes. of_data (data_reading c nodes)) (data_in c files)) (sym is)

-- a docket with a fault
pub named_fault : (h : History) (bytes : List ℕ) (fault : DocketFault) → docket_refusal bytes ≡ Some fault → NamedFinds h h bytes (Err (a_fault.Docket fault))
named_fault h bytes fault is = record {
  at = h.last;
  file = record { from = omega arith; to = omega arith };
  answer = named_refused bytes (files_at h h.last) fault is;
  nodes = tt;
}

unread_by : (bytes : List ℕ) (d : Contents) (fault : LoadFault) (file : Option (List ℕ)) → IsUnread d.id fault file → Answers (Err fault) bytes (d.id ∷ []) (option_map (λ nodes. of_data (data_reading d nodes)) file)
unread_by bytes d a_fault.OutOfMemory file unread = tt
unread_by bytes d a_fault.Failed file unread = tt
unread_by bytes d (a_fault.DataGone ids) file unread = (ap (option_map (λ (nodes : List ℕ). of_data (data_reading d nodes))) unread.1, unread.0)
unread_by bytes d (a_fault.Docket fault) file unread = absurd unread

-- the answer by the docket's bytes
named_by : (bytes : List ℕ) (files : Files) (d : Contents) (fault : LoadFault) → docket_refusal bytes ≡ None → d ≡ docket_of bytes
    → Answers (Err fault) bytes (d.id ∷ []) (option_map (λ nodes. of_data (data_reading d nodes)) (data_in d files)) → Answers (Err fault) bytes ((docket_of bytes).id ∷ []) (named_reading bytes files)
named_by bytes files d fault sound is answer =
    subst (λ (l : List ℕ). Answers (Err fault) bytes (l ∷ []) (named_reading bytes files)) (ap (λ (c : Contents). c.id) is)
    (subst (Answers (Err fault) bytes (d.id ∷ [])) (sym (named_sound bytes files d sound is)) answer)

-- the data file was not read
pub named_unread : (old new : History) (bytes : List ℕ) (d : Contents) (fault : LoadFault) → docket_refusal bytes ≡ None → d ≡ docket_of bytes → DataFindsDuring old new d (Err fault) → NamedFinds old new bytes (Err fault)
named_unread old new bytes d fault sound is finds = record {
  at = finds.at;
  file = finds.file;
  answer = named_by bytes (files_at new finds.at) d fault sound is (unread_by bytes d fault (data_in d (files_at new finds.at)) finds.finds);
  nodes = tt;
}

-- there was no memory for what was read
pub named_memory : (old new : History) (bytes : List ℕ) → Extends old new → NamedFinds old new bytes (Err a_fault.OutOfMemory)
named_memory old new bytes past = record { at = new.last; file = during_last old new past; answer = tt; nodes = tt }

read_of : (d : Contents) (nodes : List ℕ) (file : Option (List ℕ)) → DataFinds d (Ok nodes) file → option_map (λ nodes. of_data (data_reading d nodes)) file ≡ Some (of_data (data_reading d nodes))
read_of d nodes None finds = absurd finds
read_of d nodes (Some bytes) finds = ap (λ (r : Result Table NodeFault). Some (of_data r)) (sym finds)

sound_read : (bytes nodes : List ℕ) (d : Contents) → docket_refusal bytes ≡ None → d ≡ docket_of bytes → of_data (data_reading d nodes) ≡ reading_of bytes nodes
sound_read bytes nodes d sound is =
    ap (λ (c : Contents). of_data (data_reading c nodes)) is ∙ sym (ap (λ (r : Option DocketFault). docket_reading r (data_reading (docket_of bytes) nodes)) sound)

-- the data file was read
pub named_read : (old new : History) (bytes nodes : List ℕ) (d : Contents) (loaded : Loaded) → docket_refusal bytes ≡ None → d ≡ docket_of bytes → DataFindsDuring old new d (Ok nodes)
    → loaded.docket.items ≡ bytes → loaded.shown.items ≡ bytes → loaded.nodes.items ≡ nodes → NamedFinds old new bytes (Ok loaded)
named_read old new bytes nodes d loaded sound is finds docket shown kept = record {
  at = finds.at;
  file = finds.file;
  answer = record {
    docket = docket;
    shown = shown;
    reading =
        named_sound bytes (files_at new finds.at) d sound is ∙ read_of d nodes (data_in d (files_at new finds.at)) finds.finds
        ∙ ap (λ (r : Result Table RecordFault). Some r) (sound_read bytes nodes d sound is ∙ (λ i. reading_of (sym shown i) (sym kept i)));
  };
  nodes = subst (ReadsAsOf new finds.at (docket_of bytes)) (sym kept) (subst (λ (c : Contents). ReadsAsOf new finds.at c nodes) is finds.nodes);
}

-- ---- the whole load

-- a load by one try
one_try : (old new : History) (tried : Try) (result : Result Loaded LoadFault) → IsTry old new tried → Answers result (docket_in (files_at new tried.docket)) (id_by new tried ∷ []) (found_by new tried)
    → IfOk result (λ loaded. ReadsAsOf new tried.file (docket_of (docket_in (files_at new tried.docket))) loaded.nodes.items) → Loads old new (tried ∷ []) result
one_try old new tried result within answer nodes =
    record {
      tried = record { earlier = []; last = tried; whole = refl; few = omega arith; within = (within, tt); order = tt; gone = tt };
      answer = answer;
      nodes = nodes;
    }

-- the docket was read, and then the rest
pub loaded : (old mid new : History) (bytes : List ℕ) (result : Result Loaded LoadFault) → Passes old mid → Passes mid new → bytes ≡ docket_in (now mid).files → NamedFinds mid new bytes result
    → (tried : Try) × Loads old new (tried ∷ []) result
loaded old mid new bytes result first second is finds =
    let tried : Try = record { docket = mid.last; file = finds.at } in
    let same : bytes ≡ docket_in (files_at new mid.last) = is ∙ ap docket_in (sym (second.past.stay mid.last (omega arith)).shown) in (
      tried,
      one_try old new tried result
          (record {
            docket = record { from = first.past.later; to = second.past.later };
            file = record { from = omega (arith, first.past.later, finds.file.from); to = finds.file.to };
            order = finds.file.from;
          })
          (subst (λ (l : List ℕ). Answers result l ((docket_of l).id ∷ []) (named_reading l (files_at new finds.at))) same finds.answer)
          (subst (λ (l : List ℕ). IfOk result (λ loaded. ReadsAsOf new finds.at (docket_of l) loaded.nodes.items)) same finds.nodes),
    )

-- the docket could not be read
pub unloaded : (old new : History) (fault : LoadFault) → Passes old new → fault ≡ a_fault.Failed → (tried : Try) × Loads old new (tried ∷ []) (Err fault)
unloaded old new fault passes failed =
    let tried : Try = record { docket = new.last; file = new.last } in (
      tried,
      one_try old new tried (Err fault)
          (record { docket = during_last old new passes.past; file = during_last old new passes.past; order = omega arith })
          (subst (λ (f : LoadFault). Answers (Err f) (docket_in (files_at new new.last)) (id_by new tried ∷ []) (found_by new tried)) (sym failed) tt)
          tt,
    )

-- ---- where the shelf made no step

one_moment : (old new : History) (k : ℕ) → Extends old new → new.last ≡ old.last → During old new k → files_at new k ≡ (now old).files
one_moment old new k past none during =
    let same : k ≡ old.last = omega (arith, during.from, during.to, none) in
    ap (files_at new) same ∙ (past.stay old.last (omega arith)).shown

last_of : (P : Try → Type 0) (earlier : List Try) (last : Try) → AllByRecursion P (earlier ++ last ∷ []) → P last
last_of P [] last all = all.0
last_of P (one ∷ earlier) last all = last_of P earlier last all.1

pub same_ids : (old new : History) (tries : List Try) → Extends old new → new.last ≡ old.last → AllByRecursion (IsTry old new) tries → map (id_by new) tries ≡ map (λ tried. id_in (now old).files) tries
same_ids old new [] past none within = refl
same_ids old new (one ∷ more) past none within = λ i. id_in (one_moment old new one.docket past none within.0.docket i) ∷ same_ids old new more past none within.1 i

-- where the shelf made no step, the last try found the record as it stands there
pub unstepped_found : (old new : History) (tries : List Try) → Extends old new → new.last ≡ old.last → (t : Tries old new tries) → found_by new t.last ≡ record_in (now old).files (now old).files
unstepped_found old new tries past none t =
    let within : IsTry old new t.last = last_of (IsTry old new) t.earlier t.last (subst (AllByRecursion (IsTry old new)) t.whole t.within) in
    λ i. record_in (one_moment old new t.last.docket past none within.docket i) (one_moment old new t.last.file past none within.file i)

-- ---- over a longer call

found_same : (mid new : History) (tried : Try) → Extends mid new → tried.docket ≤ mid.last → tried.file ≤ mid.last → found_by new tried ≡ found_by mid tried
found_same mid new tried second docket file = λ i. record_in ((second.stay tried.docket docket).shown i) ((second.stay tried.file file).shown i)

try_longer : (old mid new : History) (tried : Try) → Extends mid new → IsTry old mid tried → IsTry old new tried
try_longer old mid new tried second is = record {
  docket = record { from = is.docket.from; to = omega (arith, is.docket.to, second.later) };
  file = record { from = is.file.from; to = omega (arith, is.file.to, second.later) };
  order = is.order;
}

pub within_longer : (old mid new : History) (tries : List Try) → Extends mid new → AllByRecursion (IsTry old mid) tries → AllByRecursion (IsTry old new) tries
within_longer old mid new [] second within = tt
within_longer old mid new (one ∷ more) second within = (try_longer old mid new one second within.0, within_longer old mid new more second within.1)

pub front_of : (P : Try → Type 0) (earlier : List Try) (last : Try) → AllByRecursion P (earlier ++ last ∷ []) → AllByRecursion P earlier
front_of P [] last all = tt
front_of P (one ∷ earlier) last all = (all.0, front_of P earlier last all.1)

pub gone_longer : (old mid new : History) (tries : List Try) → Extends mid new → AllByRecursion (IsTry old mid) tries → AllByRecursion (λ tried. found_by mid tried ≡ None) tries → AllByRecursion (λ tried. found_by new tried ≡ None) tries
gone_longer old mid new [] second within gone = tt
gone_longer old mid new (one ∷ more) second within gone = (found_same mid new one second within.0.docket.to within.0.file.to ∙ gone.0, gone_longer old mid new more second within.1 gone.1)

pub last_within : (old mid : History) (tries : List Try) (t : Tries old mid tries) → IsTry old mid t.last
last_within old mid tries t = last_of (IsTry old mid) t.earlier t.last (subst (AllByRecursion (IsTry old mid)) t.whole t.within)

-- the tries of a load, where the shelf is asked more behind it
abbrev pub tries_longer : (old mid new : History) (tries : List Try) → Extends mid new → Tries old mid tries → Tries old new tries
tries_longer old mid new tries second t = record {
  earlier = t.earlier;
  last = t.last;
  whole = t.whole;
  few = t.few;
  within = within_longer old mid new tries second t.within;
  order = t.order;
  gone = gone_longer old mid new t.earlier second (front_of (IsTry old mid) t.earlier t.last (subst (AllByRecursion (IsTry old mid)) t.whole t.within)) t.gone;
}

pub found_longer : (old mid new : History) (tries : List Try) → Extends mid new → (t : Tries old mid tries) → found_by new t.last ≡ found_by mid t.last
found_longer old mid new tries second t = let is = last_within old mid tries t in found_same mid new t.last second is.docket.to is.file.to
