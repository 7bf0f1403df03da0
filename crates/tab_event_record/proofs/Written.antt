-- What fits is read as it is written.
use Rattle.std.proofs.Common.{◌≡◌, ℕ, suc, ◌+◌, ◌<◌, ◌^◌, List, [], ◌∷◌, ◌++◌, length, Some, refl, sym, ap, ◌∙◌, arith, append-nil}
use Rattle.std.proofs.lemmas.List.{length-append}
use Rattle.tab_key.specs.Names.{IsName}
use Rattle.tab_cells.specs.declared.compaction.Compaction.{Compaction}
use Rattle.tab_cells.specs.declared.compaction.Compaction.TheVariants.{Minor, Partial, Full}
use Rattle.tab_history.specs.declared.event.Act.{Act}
use Rattle.tab_history.specs.declared.event.Act.TheVariants as act
use Rattle.tab_history.specs.declared.event.Given.{Given}
use Rattle.tab_history.specs.declared.event.Given.TheVariants.{InSlot, ByHand}
use Rattle.tab_codec.specs.Parts.{IsBytes}
use Rattle.tab_codec.specs.Reading.{u64_at, field_at, name_at}
use Rattle.tab_codec.specs.Spelling.{u8, u64, field}
use Rattle.tab_codec.proofs.Coded.{coded_u64, coded_field, coded_name}
use Rattle.tab_wire.specs.Forms.{IsRequest}
use Rattle.tab_wire.specs.declared.request.Request.TheVariants as asks
use Rattle.tab_wire.proofs.RequestLaw.{requests_are_forms}
use Rattle.tab_event_record.specs.Fitting.{FitsGiven, FitsAct}
use Rattle.tab_event_record.specs.Records.{kind_number, body_bytes, act_of, act_in, split_at, begin_at, install_at}
use Rattle.tab_event_record.proofs.Spelled.{field_long, spelled}

-- ---- bodies
framed : (op : ℕ) (fields : List ℕ) (a : Act) → IsBytes (suc op ∷ fields) → IsRequest (suc op ∷ fields) (asks.Act a) → act_in (suc op ∷ fields) ≡ Some a
unfolding act_in
framed op fields a bytes asked = ap act_of ((requests_are_forms (suc op ∷ fields) (asks.Act a) bytes).1 asked)

u64_read : (n : ℕ) → n < 2 ^ 64 → u64_at (u64 n) ≡ Some (n, [])
u64_read n low = ap u64_at (sym (append-nil (u64 n))) ∙ coded_u64.complete (u64 n) [] n (refl, low)

field_read : (text rest : List ℕ) → length text < 2 ^ 32 → field_at (field text ++ rest) ≡ Some (text, rest)
field_read text rest low = coded_field.complete (field text) rest text (refl, low)

name_read : (name rest : List ℕ) → IsName name → name_at (field name ++ rest) ≡ Some (name, rest)
name_read name rest is = coded_name.complete (field name) rest name (refl, is)

split_read : (t row : List ℕ) (limit : ℕ) → IsName t → length row < 2 ^ 32 → limit < 2 ^ 64 → act_in (body_bytes (act.SplitBySize t row limit)) ≡ Some (act.SplitBySize t row limit)
unfolding act_in split_at
split_read t row limit name low long = rw (name_read t (field row ++ u64 limit) name, field_read row (u64 limit) low, u64_read limit long) refl

begin_read : (t row : List ℕ) (kind : Compaction) → IsName t → length row < 2 ^ 32 → act_in (body_bytes (act.Begin t row kind)) ≡ Some (act.Begin t row kind)
unfolding act_in begin_at
begin_read t row Minor name low = rw (name_read t (field row ++ u8 0) name, field_read row (u8 0) low) refl
begin_read t row Partial name low = rw (name_read t (field row ++ u8 1) name, field_read row (u8 1) low) refl
begin_read t row Full name low = rw (name_read t (field row ++ u8 2) name, field_read row (u8 2) low) refl

install_read : (t : List ℕ) (source : Given) → IsName t → FitsGiven source → act_in (body_bytes (act.Install t source)) ≡ Some (act.Install t source)
unfolding act_in install_at
install_read t (InSlot n) name low = rw (name_read t (0 ∷ u64 n) name, u64_read n low) refl
install_read t (ByHand n) name low = rw (name_read t (1 ∷ u64 n) name, u64_read n low) refl

row_short : (t row more : List ℕ) (m n : ℕ) → length (m ∷ n ∷ (field t ++ (field row ++ more))) < 2 ^ 32 → length row < 2 ^ 32
row_short t row more m n low =
    let both : length (field t ++ (field row ++ more)) ≡ length (field t) + length (field row ++ more) = length-append (field t) (field row ++ more) in
    let one : length (field row ++ more) ≡ length (field row) + length more = length-append (field row) more in
    omega (arith, low, both, one, field_long row)

-- what fits is read as it is written
pub written : (a : Act) → FitsAct a → length (body_bytes a) < 2 ^ 32 → IsBytes (body_bytes a) → act_in (body_bytes a) ≡ Some a
unfolding act_in
written act.Save fits low bytes = refl
written act.Load fits low bytes = refl
written (act.SplitBySize t row limit) fits low bytes = split_read t row limit fits.0 (row_short t row (u64 limit) 0 1 low) fits.1
written (act.Begin t row kind) fits low bytes = begin_read t row kind fits (row_short t row (u8 (kind_number kind)) 0 4 low)
written (act.Install t source) fits low bytes = install_read t source fits.0 fits.1
written a fits low bytes = framed _ _ a bytes (spelled a tt fits low)
