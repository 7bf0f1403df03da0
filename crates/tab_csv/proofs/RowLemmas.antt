-- Rows, one behind the other, and the records of one key.
use Rattle.std.proofs.Common.{ℕ, zero, suc, ◌≡◌, ◌≢◌, ◌+◌, ◌-◌, ◌<◌, ◌≤◌, Bool, true, false, cond, List, [], ◌∷◌, ◌++◌, length, get_or, take, drop, Option, Some, None, refl, sym, ap, subst, ◌∙◌, arith, append_assoc, append-nil, drop-cons}
use Rattle.std.specs.Prelude.{reverse, pos, Result, Ok, Err, OnOk}
use Rattle.std.specs.List.{flat_map}
use Rattle.std.specs.Io.KnownBytes.{Appends, Keeps, append_known}
use Rattle.std.proofs.KnownBytes.{Appends-trans, Appends-nil}
use Rattle.std.proofs.Math.Seq.{take-suc}
use Rattle.std.proofs.lemmas.List.{get_or-reverse, get_or-take, get_or-drop, length-drop, length-take-le, length-reverse, reverse-append, take_all, drop_all}
use Rattle.csv.specs.Writing.{default_writer, fields_written, has_written, writer_setup, writer_under, writer_pending, text_written, row_text}
use Rattle.csv.specs.declared.writer.Writer.{Writer}
use Rattle.csv.specs.declared.writer.WriterBuilder.{WriterBuilder}
use Rattle.csv.specs.declared.writer.QuoteStyle.TheVariants as style
use Rattle.tab_io.proofs.Each.{flat_map-append}
use Rattle.tab_key.specs.Records.{Record}
use Rattle.tab_key.specs.declared.key.Kind.TheVariants.{Put}
use Rattle.tab_csv.specs.CsvTexts.{csv_row, goes_on, older_first, record_fields, same_key}
use Rattle.tab_csv.specs.Rows.{IsBetweenRows, Writes, TableSoFar, run_of, run_text, goes_on_at, head_goes_on}

pub nothing_written : {W : Type 0} (contents : W → Option (List ℕ)) (w : Writer W) → IsBetweenRows w → Writes contents w w []
nothing_written contents w ready = record { bytes = Appends-nil (text_written contents w); between = ready }

pub more_written : {W : Type 0} (contents : W → Option (List ℕ)) (a b c : Writer W) (t u : List ℕ) → Writes contents a b t → Writes contents b c u → Writes contents a c (t ++ u)
more_written contents a b c t u p q = record { bytes = Appends-trans (text_written contents a) (text_written contents b) (text_written contents c) t u p.bytes q.bytes; between = q.between }

-- a row, as `write_fields` says of it
pub row_written : {W : Type 0} (contents : W → Option (List ℕ)) (old new : Writer W) (fields : List (List ℕ)) → IsBetweenRows old
    → (fields_written old ≡ 0 → has_written old ≡ false → (writer_setup old).style ≢ style.NonNumeric
    → Appends (text_written contents old) (text_written contents new) (row_text (writer_setup old) fields))
    → fields_written new ≡ 0 → has_written new ≡ false → writer_setup new ≡ writer_setup old → Writes contents old new (csv_row fields)
row_written contents old new fields ready bytes ended clean setup =
    let plain : (writer_setup old).style ≢ style.NonNumeric = rw ready.setup (λ e. cc e) in
    record {
      bytes = subst (λ (cfg : WriterBuilder). Appends (text_written contents old) (text_written contents new) (row_text cfg fields)) ready.setup (bytes ready.fields ready.wrote plain);
      between = record { fields = ended; wrote = clean; setup = setup ∙ ready.setup };
    }

-- the texts of some items were written, and then that of the next one
pub each_written : {X W : Type 0} (contents : W → Option (List ℕ)) (a b c : Writer W) (f : X → List ℕ) (xs : List X) (i : ℕ) (d : X) → i < length xs
    → Writes contents a b (flat_map f (take i xs)) → Writes contents b c (f (get_or xs i d)) → Writes contents a c (flat_map f (take (i + 1) xs))
each_written contents a b c f xs i d lt p q =
    let more : i + 1 ≡ suc i = omega arith in
    let text : flat_map f (take (i + 1) xs) ≡ flat_map f (take i xs) ++ f (get_or xs i d) =
    ap (λ n. flat_map f (take n xs)) more ∙ ap (flat_map f) (take-suc xs i d lt) ∙ flat_map-append f (take i xs) (get_or xs i d ∷ []) ∙ ap (λ t. flat_map f (take i xs) ++ t) (append-nil (f (get_or xs i d))) in
    subst (λ t. Writes contents a c t) (sym text) (more_written contents a b c (flat_map f (take i xs)) (f (get_or xs i d)) p q)

-- ---- the records of one key
-- one of a run
pub run_at : (rs : List Record) (begin end i : ℕ) (d : Record) → i < end - begin → end ≤ length rs → get_or rs (end - 1 - i) d ≡ get_or (run_of rs begin end) i d
run_at rs begin end i d lt fits =
    let s : List Record = take (end - begin) (drop begin rs) in
    let long : length s ≡ end - begin = length-take-le (end - begin) (drop begin rs) (omega (arith, length-drop begin rs, fits)) in
    let j : ℕ = end - begin - 1 - i in
    let below : j < end - begin = omega (arith, lt) in
    let at : end - 1 - i ≡ begin + j = omega (arith, lt) in
    sym (get_or-reverse s i d (omega (arith, lt, long)) ∙ ap (λ n. get_or s (n - 1 - i) d) long ∙ get_or-take (end - begin) (drop begin rs) j d below ∙ get_or-drop begin rs j d ∙ ap (λ n. get_or rs n d) (sym at))

-- a run with one more record
pub run_more : (rs : List Record) (begin index : ℕ) (d : Record) → begin ≤ index → index < length rs → run_of rs begin (index + 1) ≡ get_or rs index d ∷ run_of rs begin index
run_more rs begin index d le lt =
    let xs : List Record = drop begin rs in
    let j : ℕ = index - begin in
    let count : index + 1 - begin ≡ suc j = omega (arith, le) in
    let at : begin + j ≡ index = omega (arith, le) in
    let within : j < length xs = omega (arith, length-drop begin rs, le, lt) in
    let r : get_or xs j d ≡ get_or rs index d = get_or-drop begin rs j d ∙ ap (λ n. get_or rs n d) at in
    ap (λ n. reverse (take n xs)) count ∙ ap reverse (take-suc xs j d within) ∙ reverse-append (take j xs) (get_or xs j d ∷ []) ∙ ap (λ x. x ∷ reverse (take j xs)) r

-- where a record doesn't go on, the run ends before it; else it has one more
pub run_step : (rs : List Record) (begin index : ℕ) → begin ≤ index → index < length rs
    → older_first (run_of rs begin index) (drop index rs)
    ≡ cond (goes_on_at rs begin index) [] (run_of rs begin index) ++ older_first (run_of rs (cond (goes_on_at rs begin index) begin index) (index + 1)) (drop (index + 1) rs)
run_step rs begin index le lt =
    let d : Record = record { key = record { row = []; family = []; qualifier = []; label = []; timestamp = pos 0 }; kind = Put; value = []; seq = 0; idx = 0 } in
    let run : List Record = run_of rs begin index in
    let r : Record = get_or rs index d in
    let next : suc index ≡ index + 1 = omega arith in
    let rest : List Record = drop (index + 1) rs in
    let cut : drop index rs ≡ r ∷ rest = drop-cons rs index d lt ∙ ap (λ n. r ∷ drop n rs) next in
    let longer : run_of rs begin (index + 1) ≡ r ∷ run = run_more rs begin index d le lt in
    let alone : run_of rs index (index + 1) ≡ r ∷ run_of rs index index = run_more rs index index d (omega arith) lt in
    let nothing : index - index ≡ 0 = omega arith in
    let empty : run_of rs index index ≡ [] = ap (λ n. reverse (take n (drop index rs))) nothing in
    let single : run_of rs index (index + 1) ≡ r ∷ [] = alone ∙ ap (λ x. r ∷ x) empty in
    let test : goes_on_at rs begin index ≡ goes_on run r = ap (λ xs. head_goes_on run xs) cut in
    let by_test : (b : Bool) → cond b (older_first (r ∷ run) rest) (run ++ older_first (r ∷ []) rest) ≡ cond b [] run ++ older_first (run_of rs (cond b begin index) (index + 1)) rest =
    λ b. elim b as (λ b. cond b (older_first (r ∷ run) rest) (run ++ older_first (r ∷ []) rest) ≡ cond b [] run ++ older_first (run_of rs (cond b begin index) (index + 1)) rest) [
      | true ↦ ap (λ x. older_first x rest) (sym longer)
      | false ↦ ap (λ x. run ++ older_first x rest) (sym single)
    ] in
    ap (older_first run) cut ∙ by_test (goes_on run r) ∙ ap (λ b. cond b [] run ++ older_first (run_of rs (cond b begin index) (index + 1)) rest) (sym test)

-- no record goes on with none
pub none_goes_on : (rs : List Record) (index : ℕ) → goes_on_at rs index index ≡ false
none_goes_on rs index =
    let nothing : index - index ≡ 0 = omega arith in
    let empty : run_of rs index index ≡ [] = ap (λ n. reverse (take n (drop index rs))) nothing in
    ap (λ run. head_goes_on run (drop index rs)) empty ∙ none (drop index rs)
  where
    none : (xs : List Record) → head_goes_on [] xs ≡ false
    none [] = refl
    none (x ∷ xs) = refl

-- one goes on where it has the key of the one before it
pub goes_on_by_key : (rs : List Record) (begin index : ℕ) (p q : Record) → begin < index → index < length rs → p ≡ get_or rs (index - 1) p → q ≡ get_or rs index q
    → same_key p q ≡ goes_on_at rs begin index
goes_on_by_key rs begin index p q before lt first second =
    let last : ℕ = index - 1 in
    let at : last + 1 ≡ index = omega (arith, before) in
    let run : run_of rs begin index ≡ get_or rs last p ∷ run_of rs begin last =
    ap (run_of rs begin) (sym at) ∙ run_more rs begin last p (omega (arith, before)) (omega (arith, before, lt)) in
    let cut : drop index rs ≡ get_or rs index q ∷ drop (suc index) rs = drop-cons rs index q lt in
    ap (λ x. same_key x q) first ∙ ap (same_key (get_or rs last p)) second ∙ sym (ap (λ xs. head_goes_on xs (drop index rs)) run ∙ ap (head_goes_on (get_or rs last p ∷ run_of rs begin last)) cut)

pub on_ok : {T E : Type 0} {P Q : Type 0} (r : Result T E) → (P → Q) → OnOk r P → OnOk r Q
on_ok (Ok x) f p = f p
on_ok (Err e) f p = p

pub cond_below : (b : Bool) (m n : ℕ) → m ≤ n → cond b m n ≤ n + 1
cond_below true m n le = omega (arith, le)
cond_below false m n le = omega arith

-- ---- what is written of a table
-- a run, and one more of it
pub run_written : {W : Type 0} (contents : W → Option (List ℕ)) (a b c : Writer W) (table : List ℕ) (rs : List Record) (begin end i : ℕ) (r : Record)
    → i < end - begin → end ≤ length rs → r ≡ get_or rs (end - 1 - i) r → Writes contents a b (run_text table (take i (run_of rs begin end)))
    → Writes contents b c (csv_row (record_fields table r)) → Writes contents a c (run_text table (take (i + 1) (run_of rs begin end)))
run_written contents a b c table rs begin end i r lt fits is before this =
    let f : Record → List ℕ = λ r. csv_row (record_fields table r) in
    let run : List Record = run_of rs begin end in
    let s : List Record = take (end - begin) (drop begin rs) in
    let long : length run ≡ end - begin = length-reverse s ∙ length-take-le (end - begin) (drop begin rs) (omega (arith, length-drop begin rs, fits)) in
    let same : r ≡ get_or run i r = is ∙ run_at rs begin end i r lt fits in
    each_written contents a b c f run i r (omega (arith, lt, long)) before (subst (λ (x : Record). Writes contents b c (f x)) same this)

-- .. and all of it
pub run_ended : {W : Type 0} (contents : W → Option (List ℕ)) (a b : Writer W) (table : List ℕ) (rs : List Record) (begin end i : ℕ)
    → end - begin ≤ i → end ≤ length rs → Writes contents a b (run_text table (take i (run_of rs begin end))) → Writes contents a b (run_text table (run_of rs begin end))
run_ended contents a b table rs begin end i past fits all =
    let s : List Record = take (end - begin) (drop begin rs) in
    let long : length (run_of rs begin end) ≡ end - begin = length-reverse s ∙ length-take-le (end - begin) (drop begin rs) (omega (arith, length-drop begin rs, fits)) in
    subst (λ (run : List Record). Writes contents a b (run_text table run)) (take_all i (run_of rs begin end) (omega (arith, past, long))) all

-- a record that goes on leaves all as it is
pub kept_on : {W : Type 0} (contents : W → Option (List ℕ)) (a : Writer W) (table : List ℕ) (rs : List Record) (begin index : ℕ) → goes_on_at rs begin index ≡ true → IsBetweenRows a
    → (begin ≡ cond (goes_on_at rs begin index) begin index) × Writes contents a a (run_text table (cond (goes_on_at rs begin index) [] (run_of rs begin index)))
kept_on contents a table rs begin index is ready = (
  ap (λ b. cond b begin index) (sym is),
  subst (λ (b : Bool). Writes contents a a (run_text table (cond b [] (run_of rs begin index)))) (sym is) (nothing_written contents a ready),
)

-- before another one the run is written
pub run_out : {W : Type 0} (contents : W → Option (List ℕ)) (a b : Writer W) (table : List ℕ) (rs : List Record) (begin index : ℕ) → goes_on_at rs begin index ≡ false
    → Writes contents a b (run_text table (run_of rs begin index))
    → (index ≡ cond (goes_on_at rs begin index) begin index) × Writes contents a b (run_text table (cond (goes_on_at rs begin index) [] (run_of rs begin index)))
run_out contents a b table rs begin index is written = (
  ap (λ b. cond b begin index) (sym is),
  subst (λ (x : Bool). Writes contents a b (run_text table (cond x [] (run_of rs begin index)))) (sym is) written,
)

pub table_begun : {W : Type 0} (contents : W → Option (List ℕ)) (a : Writer W) (table : List ℕ) (rs : List Record) → IsBetweenRows a → TableSoFar contents a a table rs 0 0
table_begun contents a table rs ready = (omega arith, [], nothing_written contents a ready, refl)

pub table_more : {W : Type 0} (contents : W → Option (List ℕ)) (a b c : Writer W) (table : List ℕ) (rs : List Record) (begin index next : ℕ) → index < length rs
    → TableSoFar contents a b table rs begin index
    → (next ≡ cond (goes_on_at rs begin index) begin index) × Writes contents b c (run_text table (cond (goes_on_at rs begin index) [] (run_of rs begin index)))
    → TableSoFar contents a c table rs next (index + 1)
table_more contents a b c table rs begin index next lt so step =
    let (le, done, written, left) = so in
    let (is, this) = step in
    let f : Record → List ℕ = λ r. csv_row (record_fields table r) in
    let test : Bool = goes_on_at rs begin index in
    let x : List Record = cond test [] (run_of rs begin index) in
    let rest : ℕ → List Record = λ n. older_first (run_of rs n (index + 1)) (drop (index + 1) rs) in (
      subst (λ (n : ℕ). n ≤ index + 1) (sym is) (cond_below test begin index le),
      done ++ x,
      subst (λ (t : List ℕ). Writes contents a c t) (sym (flat_map-append f done x)) (more_written contents a b c (run_text table done) (run_text table x) written this),
      ap (λ n. (done ++ x) ++ rest n) is ∙ append_assoc done x (rest (cond test begin index)) ∙ ap (λ t. done ++ t) (sym (run_step rs begin index le lt)) ∙ left,
    )

pub table_ended : {W E : Type 0} (contents : W → Option (List ℕ)) (a b c : Writer W) (table : List ℕ) (rs : List Record) (begin index end : ℕ) (r : Result (Unit {0}) E) → index ≡ end → end ≡ length rs
    → TableSoFar contents a b table rs begin index → OnOk r (Writes contents b c (run_text table (run_of rs begin end))) → OnOk r (Writes contents a c (run_text table (older_first [] rs)))
table_ended contents a b c table rs begin index end r same all so last =
    let (le, done, written, left) = so in
    let f : Record → List ℕ = λ r. csv_row (record_fields table r) in
    let run : List Record = run_of rs begin end in
    let none : drop index rs ≡ [] = drop_all index rs (omega (arith, same, all)) in
    let whole : done ++ run ≡ older_first [] rs = ap (λ n. done ++ run_of rs begin n) (sym same) ∙ sym (ap (λ xs. done ++ older_first (run_of rs begin index) xs) none) ∙ left in
    on_ok r (λ w. subst (λ (xs : List Record). Writes contents a c (run_text table xs)) whole
    (subst (λ (t : List ℕ). Writes contents a c t) (sym (flat_map-append f done run)) (more_written contents a b c (run_text table done) (run_text table run) written w))) last

-- ---- the whole
append_none : (known : Option (List ℕ)) → append_known known [] ≡ known
append_none None = refl
append_none (Some bytes) = ap (λ x. Some x) (append-nil bytes)

appends_kept : (a b c : Option (List ℕ)) (t : List ℕ) → Appends a b t → Keeps b c → Appends a c t
appends_kept None b c t p q = tt
appends_kept (Some x) None c t p q = absurd p
appends_kept (Some x) (Some y) None t p q = absurd q
appends_kept (Some x) (Some y) (Some z) t p q = q ∙ p

-- what a writer of rows wrote stands in the writer that it gives back
pub given_back : {W : Type 0} (contents : W → Option (List ℕ)) (first last : W) (a b : Writer W) (text : List ℕ) → writer_under a ≡ first → writer_pending a ≡ []
    → Writes contents a b text → Keeps (text_written contents b) (contents last) → Appends (contents first) (contents last) text
given_back contents first last a b text under pending written kept =
    let begun : text_written contents a ≡ contents first =
    ap (λ u. append_known (contents u) (writer_pending a)) under ∙ ap (append_known (contents first)) pending ∙ append_none (contents first) in
    subst (λ (known : Option (List ℕ)). Appends known (contents last) text) begun (appends_kept (text_written contents a) (text_written contents b) (contents last) text written.bytes kept)
