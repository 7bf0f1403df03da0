-- Worked examples, computed: what is done to the tablets of one table, and what is told.
use Rattle.std.specs.Prelude.{◌≡◌, ℕ, ℤ, pos, List, [], ◌∷◌, ◌++◌, ◌+◌, Option, Some, None, codes, refl, length, map, slice_get, option_to_list}
use Rattle.tab_key.specs.Records.{Cell}
use Rattle.tab_key.specs.Order.{column_cmp, key_cmp, place_cmp, newer_cmp}
use Rattle.tab_key.specs.Kept.{same_column, hides, is_deleted, outranks, is_kept}
use Rattle.tab_key.specs.declared.key.Kind.{Kind}
use Rattle.tab_key.specs.declared.key.Kind.TheVariants.{Put, Delete}
use Rattle.tab_label.specs.Grammar.{is_term_byte}
use Rattle.tab_label.specs.Machine.{step, ending}
use Rattle.tab_label.specs.Reading.{reads_on, label_of}
use Rattle.tab_policy.specs.declared.permission.Permission.TheVariants.{OfTable}
use Rattle.tab_policy.specs.declared.permission.TablePermission.TheVariants as table
use Rattle.tab_cells.specs.declared.compaction.Compaction.{Compaction}
use Rattle.tab_cells.specs.declared.compaction.Compaction.TheVariants.{Minor, Partial, Full}
use Rattle.tab_cells.specs.Written.{records_of}
use Rattle.tab_cells.specs.Cells.{matches, cells}
use Rattle.tab_cells.specs.Merged.{is_first_marker, survives, merged}
use Rattle.tab_tablets.specs.Sizes.{encoded_size}
use Rattle.tab_key.specs.Same.{same_record}
use Rattle.tab_tablets.specs.Sources.{Sorted, same_contents}
use Rattle.tab_tablets.specs.Plans.{plan}
use Rattle.tab_tablets.specs.Tablets.{Tablet, new_tablet}
use Rattle.tab_history.specs.Settings.{Settings, made_with}
use Rattle.tab_history.specs.Bases.{new_policy}
use Rattle.tab_history.specs.Answers.{Told, told_begun}
use Rattle.tab_history.specs.declared.event.TimeMode.TheVariants.{Any, Server}
use Rattle.tab_history.specs.declared.event.Extent.TheVariants as extent
use Rattle.tab_history.specs.declared.event.Act.{Act}
use Rattle.tab_history.specs.declared.event.Act.TheVariants.{Open, Write, Status, Flush, Compact, AddSplit, SplitBySize, Splits, Begin, Install}
use Rattle.tab_history.specs.declared.event.Given.TheVariants.{InSlot, ByHand}
use Rattle.tab_history.specs.declared.split_fault.SplitFault.{SplitFault}
use Rattle.tab_history.specs.declared.split_fault.SplitFault.TheVariants.{Present, Small, OneRow}
use Rattle.tab_history.specs.declared.reply.Refusal.{Refusal}
use Rattle.tab_history.specs.declared.reply.Refusal.TheVariants.{NoMemory, PermissionDenied, Stale, BadSplit}
use Rattle.tab_history.specs.declared.reply.Reply.TheVariants.{Done, Refused, Batch, Counted, Rows, Nothing}
use Rattle.tab_history.specs.ExampleWords.{t, f, q, everywhere}
use Rattle.tab_tablets.specs.ByRow.{records_of_all}
use Rattle.tab_tablets.specs.Parts.{TabletMerge}
use Rattle.tab_store.specs.Stores.{TableContents, CoreContents, tablets_in}
use Rattle.tab_store.specs.Stepping.{TableWork, work_of, lays, job_by, told_exactly, laid_exactly, laid_told, tablet_told, job_told, handed}
use Rattle.tab_store.specs.Chains.{given_in}
use Rattle.tab_store.specs.Due.{due_in, target_of}
use Rattle.tab_tablets.specs.declared.DueKind.TheVariants as due

-- names what the examples look into
everything : ℕ
unfolding is_term_byte step ending reads_on label_of column_cmp key_cmp place_cmp newer_cmp same_column hides is_deleted outranks is_kept matches cells records_of is_first_marker survives merged encoded_size same_record same_contents plan lays
everything = 0

-- ---- words for the examples
-- one table in use: its settings, the clock, the numbers of the next write, the next tablet and the next job, its tablets, the merges that were
-- begun, and what was told, the newest last
record Shop : Type 0 where
  settings : Settings
  now : ℤ
  next : ℕ
  tablet : ℕ
  job : ℕ
  tablets : List Tablet
  begun : List TabletMerge
  said : List Told

-- as a core that has no other table
abbrev core_of : Shop → CoreContents
core_of s = record { clock = s.now; next = s.next; policy = new_policy; tables = record { name = t; settings = s.settings; tablets = s.tablets } ∷ []; tablet = s.tablet; job = s.job }

-- what was told, but for what went well without more
abbrev plainly : Told → List Told
plainly Done = []
plainly reply = reply ∷ []

abbrev number_after : Act → ℕ → ℕ
number_after (Write t m) n = n + 1
number_after act n = n

-- what an act whose answer is plain is told, where memory doesn't lack
abbrev telling : Act → Told → Shop → Told
telling act plain s = told_exactly (core_of s) s.now (given_in s.begun act) act plain

-- after an act whose answer is plain, and which was told this
abbrev acted : Act → Told → Told → Shop → Shop
acted act plain told s =
    let work : TableWork = work_of (given_in s.begun act) act in
    record s {
      tablets = laid_told told (core_of s) s.now (given_in s.begun act) act plain t;
      tablet = tablet_told told work s.tablet;
      job = job_told told s.job;
      begun = s.begun ++ option_to_list (handed told (job_by (core_of s) s.now work));
      said = s.said ++ plainly told;
    }

-- what can be done
data Deed : Type 0 where
  -- an act that no check refuses
  Do : Act → Deed
  -- one that a check refuses
  Denied : Refusal → Act → Deed
  -- one for which memory lacks
  Lacking : Act → Deed
  -- the clock moves
  At : ℤ → Deed
  -- a scan of all rows
  Scan : Deed

abbrev doing : Deed → Shop → Shop
doing (Do act) s = record (acted act Done (telling act Done s) s) { next = number_after act s.next }
doing (Denied r act) s = acted act (Refused r) (telling act (Refused r) s) s
doing (Lacking act) s = acted act Done (Refused NoMemory) s
doing (At now) s = record s { now = now }
doing Scan s = record s { said = s.said ++ Batch (cells (records_of_all s.tablets) s.settings.versions (record { bounds = everywhere; columns = []; authorizations = [] })) ∷ [] }

abbrev doing_all : List Deed → Shop → Shop
doing_all [] s = s
doing_all (d ∷ ds) s = doing_all ds (doing d s)

-- a new table
abbrev shop : Settings → Shop
shop settings = record { settings = settings; now = pos 0; next = 0; tablet = 1; job = 0; tablets = new_tablet 0 None ∷ []; begun = []; said = [] }

-- what is told of these deeds on a new table
abbrev told_of_all : Settings → List Deed → List Told
told_of_all settings ds = (doing_all ds (shop settings)).said

-- where late writes are taken, and one version is shown, or two
abbrev on_any : List Deed → List Told
on_any = told_of_all (made_with Any 1)

abbrev on_two : List Deed → List Told
on_two = told_of_all (made_with Any 2)

-- where the table gives the timestamps
abbrev on_server : List Deed → List Told
on_server = told_of_all (made_with Server 1)

abbrev write : List ℕ → Kind → Option ℤ → List ℕ → Deed
write row kind ts value = Do (Write t (record { row = row; updates = record { kind = kind; family = f; qualifier = q; label = []; timestamp = ts; value = value } ∷ [] }))

-- a put of a row at a time
abbrev put : List ℕ → ℕ → List ℕ → Deed
put row ts value = write row Put (Some (pos ts)) value

-- a put of v at 1
abbrev one : List ℕ → Deed
one row = put row 1 (codes "v")

abbrev flush : Act
flush = Flush t

abbrev major : Act
major = Compact t extent.Full

abbrev partly : Act
partly = Compact t extent.Partial

abbrev status : Deed
status = Do (Status t)

abbrev counts : ℕ → ℕ → ℕ → Told
counts tablets sources records = Counted (record { tablets = tablets; sources = sources; records = records })

abbrev cell : List ℕ → ℕ → List ℕ → Cell
cell row ts value = record { key = record { row = row; family = f; qualifier = q; label = []; timestamp = pos ts }; value = value }

-- ---- what is merged
-- three tables of one size are merged, two aren't
partial_rule : on_any (one (codes "a") ∷ Do flush ∷ one (codes "b") ∷ Do flush ∷ Do partly ∷ status ∷ one (codes "c") ∷ Do flush ∷ Do partly ∷ status ∷ []) ≡ counts 1 2 2 ∷ counts 1 1 3 ∷ []
unfolding everything
partial_rule = refl

-- a full compaction merges what was written, runs and tables; what nothing is merged of stays as it is
full_merges_all : on_any (Do major ∷ status ∷ one (codes "a") ∷ Do flush ∷ one (codes "b") ∷ Do major ∷ status ∷ []) ≡ counts 1 0 0 ∷ counts 1 1 2 ∷ []
unfolding everything
full_merges_all = refl

-- the small tables are merged, and the output comes last, behind the large one
abbrev table_lengths : List Deed → List (List ℕ)
table_lengths ds = map (λ (x : Tablet). map (λ (s : Sorted). length s.records) x.sources.tables) (doing_all ds (shop (made_with Any 1))).tablets

output_comes_last : table_lengths (one (codes "a") ∷ Do flush ∷ put (codes "b") 1 (codes "thirty-five bytes of value, or more") ∷ Do flush ∷ one (codes "c") ∷ Do flush ∷ one (codes "d") ∷ Do flush ∷ Do partly ∷ []) ≡ (1 ∷ 3 ∷ []) ∷ []
unfolding everything
output_comes_last = refl

-- ---- delete markers
-- a marker outlives a full compaction where late writes are taken
marker_stays : on_any (write (codes "r") Delete (Some (pos 5)) [] ∷ Do major ∷ put (codes "r") 4 (codes "v") ∷ Scan ∷ Do major ∷ Scan ∷ status ∷ []) ≡ Batch [] ∷ Batch [] ∷ counts 1 1 1 ∷ []
unfolding everything
marker_stays = refl

-- and goes where the clock has passed it
marker_goes : on_server (At (pos 5) ∷ write (codes "r") Put None (codes "v") ∷ write (codes "r") Delete None [] ∷ Do major ∷ write (codes "r") Put None (codes "w") ∷ Scan ∷ At (pos 6) ∷ Do major ∷ write (codes "r") Put None (codes "x") ∷ Scan ∷ []) ≡ Batch [] ∷ Batch (cell (codes "r") 6 (codes "x") ∷ []) ∷ []
unfolding everything
marker_goes = refl

-- a partial compaction keeps it even there
partial_keeps : on_server (write (codes "rr") Delete None [] ∷ Do flush ∷ one (codes "a") ∷ Do flush ∷ one (codes "b") ∷ Do flush ∷ At (pos 9) ∷ Do partly ∷ status ∷ Do major ∷ status ∷ []) ≡ counts 1 1 3 ∷ counts 1 1 2 ∷ []
unfolding everything
partial_keeps = refl

-- ---- versions
-- two puts of one key are two versions, before and after compactions
abbrev two_puts : List Deed
two_puts = put (codes "r") 7 (codes "x") ∷ Do flush ∷ put (codes "r") 7 (codes "y") ∷ Scan ∷ Do flush ∷ Scan ∷ Do major ∷ Scan ∷ []

one_version : on_any two_puts ≡ Batch (cell (codes "r") 7 (codes "y") ∷ []) ∷ Batch (cell (codes "r") 7 (codes "y") ∷ []) ∷ Batch (cell (codes "r") 7 (codes "y") ∷ []) ∷ []
unfolding everything
one_version = refl

two_versions : on_two two_puts ≡ Batch (cell (codes "r") 7 (codes "y") ∷ cell (codes "r") 7 (codes "x") ∷ []) ∷ Batch (cell (codes "r") 7 (codes "y") ∷ cell (codes "r") 7 (codes "x") ∷ []) ∷ Batch (cell (codes "r") 7 (codes "y") ∷ cell (codes "r") 7 (codes "x") ∷ []) ∷ []
unfolding everything
two_versions = refl

-- ---- freezes
abbrev opening : Act
opening = Open (record { table = t; bounds = everywhere; columns = []; authorizations = [] })

-- an Open freezes what was written, where there is any; a Status doesn't
open_freezes : on_any (one (codes "a") ∷ status ∷ Do opening ∷ status ∷ Do opening ∷ status ∷ []) ≡ counts 1 0 1 ∷ counts 1 1 1 ∷ counts 1 1 1 ∷ []
unfolding everything
open_freezes = refl

-- a compaction that merges nothing freezes too
partial_freezes : on_any (one (codes "a") ∷ Do partly ∷ status ∷ []) ≡ counts 1 1 1 ∷ []
unfolding everything
partial_freezes = refl

-- one that is refused freezes nothing
abbrev denied : Refusal
denied = PermissionDenied (OfTable table.AlterTable t)

refused_freezes_nothing : on_any (one (codes "a") ∷ Denied denied flush ∷ Denied denied major ∷ status ∷ []) ≡ Refused denied ∷ Refused denied ∷ counts 1 0 1 ∷ []
unfolding everything
refused_freezes_nothing = refl

-- nor does one for which memory lacks: the tablets are as they were
lacking_freezes_nothing : on_any (one (codes "a") ∷ Do flush ∷ one (codes "b") ∷ Lacking major ∷ status ∷ Do major ∷ status ∷ []) ≡ Refused NoMemory ∷ counts 1 1 2 ∷ counts 1 1 2 ∷ []
unfolding everything
lacking_freezes_nothing = refl

-- ---- splits
abbrev split : List ℕ → Deed
split row = Do (AddSplit t row)

abbrev halve : List ℕ → ℕ → Deed
halve row limit = Do (SplitBySize t row limit)

abbrev ends : Deed
ends = Do (Splits t)

abbrev refused : SplitFault → Told
refused why = Refused (BadSplit why)

-- the row of a split goes to the lower tablet, and what lies behind it to the upper one
split_keeps : on_any (one (codes "m") ∷ put (codes "m" ++ 0 ∷ []) 1 (codes "w") ∷ split (codes "m") ∷ ends ∷ Scan ∷ split (codes "m") ∷ ends ∷ status ∷ [])
    ≡ Rows (codes "m" ∷ []) ∷ Batch (cell (codes "m") 1 (codes "v") ∷ cell (codes "m" ++ 0 ∷ []) 1 (codes "w") ∷ []) ∷ refused Present ∷ Rows (codes "m" ∷ []) ∷ counts 2 2 2 ∷ []
unfolding everything
split_keeps = refl

-- so does what is written later
writes_part : table_lengths (split (codes "m") ∷ one (codes "a") ∷ one (codes "m") ∷ one (codes "n") ∷ Do flush ∷ []) ≡ (2 ∷ []) ∷ (1 ∷ []) ∷ []
unfolding everything
writes_part = refl

-- by size: in the middle of the records, if the tables are large enough and there are two rows
by_size : on_any (one (codes "a") ∷ one (codes "b") ∷ one (codes "c") ∷ one (codes "d") ∷ Do flush ∷ halve (codes "a") 100000 ∷ halve (codes "a") 1 ∷ ends ∷ status ∷ halve (codes "a") 1 ∷ ends ∷ halve (codes "d") 1 ∷ [])
    ≡ refused Small ∷ Rows (codes "c" ∷ []) ∷ counts 2 2 4 ∷ Rows (codes "b" ∷ codes "c" ∷ []) ∷ refused OneRow ∷ []
unfolding everything
by_size = refl

-- a table keeps its whole size in both tablets, a tablet without tables has none, and no limit is below that
whole_sizes : on_any (halve (codes "a") 1 ∷ halve (codes "a") 0 ∷ one (codes "a") ∷ one (codes "b") ∷ Do flush ∷ split (codes "c") ∷ halve (codes "d") 1 ∷ []) ≡ refused Small ∷ refused OneRow ∷ refused OneRow ∷ []
unfolding everything
whole_sizes = refl

-- a split that is refused freezes nothing, and so does one for which memory lacks; one that is done freezes the tablet
split_freezes : on_any (one (codes "a") ∷ halve (codes "a") 1 ∷ halve (codes "a") 0 ∷ Lacking (AddSplit t (codes "b")) ∷ status ∷ split (codes "b") ∷ status ∷ one (codes "a") ∷ split (codes "b") ∷ status ∷ [])
    ≡ refused Small ∷ refused OneRow ∷ Refused NoMemory ∷ counts 1 0 1 ∷ counts 2 2 1 ∷ refused Present ∷ counts 2 2 2 ∷ []
unfolding everything
split_freezes = refl

-- it leaves the tablets of other rows alone
others_stay : on_any (split (codes "b") ∷ one (codes "a") ∷ one (codes "c") ∷ status ∷ split (codes "aa") ∷ status ∷ ends ∷ []) ≡ counts 2 0 2 ∷ counts 3 2 2 ∷ Rows (codes "aa" ∷ codes "b" ∷ []) ∷ []
unfolding everything
others_stay = refl

-- the tablets of a split get the next numbers, the lower one first
abbrev numbers_after : List Deed → List ℕ
numbers_after ds = map (λ (x : Tablet). x.number) (doing_all ds (shop (made_with Any 1))).tablets

are_numbered : numbers_after (split (codes "m") ∷ split (codes "m") ∷ split (codes "a") ∷ []) ≡ 3 ∷ 4 ∷ 2 ∷ []
unfolding everything
are_numbered = refl

-- ---- compactions in parts
abbrev begin : List ℕ → Compaction → Deed
begin row kind = Do (Begin t row kind)

abbrev install : ℕ → Deed
install slot = Do (Install t (InSlot slot))

-- what is written while a merge is made stays beside what it makes
beside_a_merge : on_any (one (codes "a") ∷ begin (codes "a") Full ∷ put (codes "a") 2 (codes "w") ∷ put (codes "a") 0 (codes "o") ∷ install 0 ∷ status ∷ Scan ∷ [])
    ≡ told_begun ∷ counts 1 1 3 ∷ Batch (cell (codes "a") 2 (codes "w") ∷ []) ∷ []
unfolding everything
beside_a_merge = refl

-- and so does what was frozen since; an install freezes nothing
frozen_since : on_any (one (codes "a") ∷ begin (codes "a") Full ∷ one (codes "b") ∷ Do opening ∷ one (codes "c") ∷ install 0 ∷ status ∷ Do flush ∷ status ∷ []) ≡ told_begun ∷ counts 1 2 3 ∷ counts 1 2 3 ∷ []
unfolding everything
frozen_since = refl

nothing_to_merge : on_any (begin (codes "a") Full ∷ begin (codes "a") Minor ∷ []) ≡ Nothing ∷ Nothing ∷ []
unfolding everything
nothing_to_merge = refl

-- they are numbered as they begin; one that finds nothing to merge gets no number
begun_are_numbered : map (λ (m : TabletMerge). m.merge.number) (doing_all (one (codes "a") ∷ begin (codes "a") Minor ∷ begin (codes "a") Partial ∷ begin (codes "a") Full ∷ []) (shop (made_with Any 1))).begun ≡ 0 ∷ 1 ∷ []
unfolding everything
begun_are_numbered = refl

-- one that finds nothing to merge freezes its tablet too, and no other one; one for which memory lacks freezes nothing, and begins nothing
begin_freezes : on_any (split (codes "m") ∷ one (codes "a") ∷ one (codes "n") ∷ Lacking (Begin t (codes "a") Full) ∷ install 0 ∷ status ∷ begin (codes "a") Partial ∷ status ∷ [])
    ≡ Refused NoMemory ∷ Refused (Stale 0) ∷ counts 2 0 2 ∷ Nothing ∷ counts 2 1 2 ∷ []
unfolding everything
begin_freezes = refl

-- a tablet that was split since is gone, and so are its merges
split_since : on_any (one (codes "a") ∷ one (codes "b") ∷ begin (codes "a") Full ∷ split (codes "a") ∷ install 0 ∷ Scan ∷ status ∷ [])
    ≡ told_begun ∷ Refused (Stale 0) ∷ Batch (cell (codes "a") 1 (codes "v") ∷ cell (codes "b") 1 (codes "v") ∷ []) ∷ counts 2 2 2 ∷ []
unfolding everything
split_since = refl

-- one that another split left has its merges still
split_beside : on_any (split (codes "m") ∷ one (codes "a") ∷ begin (codes "a") Minor ∷ split (codes "x") ∷ install 0 ∷ status ∷ []) ≡ told_begun ∷ counts 3 1 1 ∷ []
unfolding everything
split_beside = refl

-- of two merges of one run the second is stale
one_of_two : on_any (one (codes "a") ∷ begin (codes "a") Minor ∷ begin (codes "a") Full ∷ install 0 ∷ install 1 ∷ status ∷ []) ≡ told_begun ∷ told_begun ∷ Refused (Stale 1) ∷ counts 1 1 1 ∷ []
unfolding everything
one_of_two = refl

-- a flush that merges takes the minor merge under way away, and no other
flush_takes_away : on_any (one (codes "a") ∷ begin (codes "a") Minor ∷ Do flush ∷ begin (codes "a") Full ∷ one (codes "b") ∷ Do flush ∷ install 0 ∷ install 1 ∷ status ∷ [])
    ≡ told_begun ∷ told_begun ∷ Refused (Stale 2) ∷ counts 1 2 2 ∷ []
unfolding everything
flush_takes_away = refl

-- an older merge isn't the one under way, though its inputs are there; it takes that one away
twice_begun : on_any (one (codes "a") ∷ begin (codes "a") Full ∷ one (codes "b") ∷ begin (codes "a") Full ∷ install 0 ∷ status ∷ install 1 ∷ status ∷ []) ≡ told_begun ∷ told_begun ∷ Refused (Stale 2) ∷ counts 1 2 2 ∷ Refused (Stale 2) ∷ counts 1 2 2 ∷ []
unfolding everything
twice_begun = refl

-- unless it equals that one: then it installs
equal_merge : on_any (one (codes "a") ∷ begin (codes "a") Full ∷ begin (codes "a") Full ∷ install 0 ∷ status ∷ install 1 ∷ []) ≡ told_begun ∷ told_begun ∷ counts 1 1 1 ∷ Refused (Stale 1) ∷ []
unfolding everything
equal_merge = refl

-- where memory lacks for an install, the merge under way stays
lacking_install : on_any (one (codes "a") ∷ begin (codes "a") Full ∷ Lacking (Install t (InSlot 0)) ∷ install 0 ∷ install 0 ∷ []) ≡ told_begun ∷ Refused NoMemory ∷ Refused (Stale 1) ∷ []
unfolding everything
lacking_install = refl

-- ---- merges from elsewhere
-- a row, and a merge of it under way
abbrev under_way : Shop
under_way = doing_all (one (codes "a") ∷ begin (codes "a") Full ∷ []) (shop (made_with Any 1))

-- a merge of another table: of a tablet with the same number, of the same kind, floor and versions, and of another record
abbrev stranger : Option TabletMerge
stranger = slice_get (doing_all (put (codes "a") 2 (codes "x") ∷ begin (codes "a") Full ∷ []) (shop (made_with Any 1))).begun 0

-- its contents are others, so it is stale
stranger_is_stale : told_exactly (core_of under_way) (pos 0) stranger (Install t (ByHand 0)) Done ≡ Refused (Stale 1)
unfolding everything
stranger_is_stale = refl

-- the table beside another one, whose tablet has the next number
abbrev u : List ℕ
u = codes "u"

abbrev two_tables : CoreContents
two_tables = record (core_of under_way) { tables = record { name = t; settings = made_with Any 1; tablets = under_way.tablets } ∷ record { name = u; settings = made_with Any 1; tablets = new_tablet 1 None ∷ [] } ∷ [] }

-- an install into the other table is stale, with no source, and changes no tablet of either
other_table : told_exactly two_tables (pos 0) (slice_get under_way.begun 0) (Install u (ByHand 0)) Done ≡ Refused (Stale 0)
unfolding everything
other_table = refl

other_table_stays : laid_exactly two_tables (pos 0) (slice_get under_way.begun 0) (Install u (ByHand 0)) Done u ≡ tablets_in two_tables u
unfolding everything
other_table_stays = refl

first_table_stays : laid_exactly two_tables (pos 0) (slice_get under_way.begun 0) (Install u (ByHand 0)) Done t ≡ under_way.tablets
unfolding everything
first_table_stays = refl

-- ---- work that is due
abbrev tables_after : List Deed → List TableContents
tables_after ds = (core_of (doing_all ds (shop (made_with Any 1)))).tables

-- three tables of one size are to be merged, in the lower tablet first; a table keeps its whole size in both
partial_is_due : due_in (tables_after (one (codes "b") ∷ Do flush ∷ one (codes "c") ∷ Do flush ∷ one (codes "d") ∷ Do flush ∷ split (codes "a") ∷ [])) ≡ Some (record { kind = due.Partial; tablet = 1 })
unfolding everything due_in
partial_is_due = refl

nothing_is_due : due_in (tables_after (one (codes "b") ∷ Do flush ∷ one (codes "c") ∷ Do flush ∷ [])) ≡ None
unfolding everything due_in
nothing_is_due = refl

-- a tablet with tables of these sizes
abbrev sized : ℕ → List ℕ → Tablet
sized number sizes = record (new_tablet number None) { sources = record { runs = []; tables = map (λ n. record { records = []; size = n }) sizes } }

abbrev table_of : List ℕ → List Tablet → TableContents
table_of name ts = record { name = name; settings = made_with Any 1; tablets = ts }

-- tables of so many bytes are to be split
split_is_due : due_in (table_of t (sized 4 (16777215 ∷ []) ∷ sized 5 (16777216 ∷ []) ∷ []) ∷ table_of u (sized 6 (16777216 ∷ []) ∷ []) ∷ []) ≡ Some (record { kind = due.Split; tablet = 5 })
unfolding everything due_in
split_is_due = refl

-- once nothing is to be merged, in whichever table
merges_come_first : due_in (table_of t (sized 5 (16777216 ∷ []) ∷ []) ∷ table_of u (sized 6 (0 ∷ []) ∷ sized 7 (0 ∷ 0 ∷ []) ∷ []) ∷ []) ≡ Some (record { kind = due.Partial; tablet = 7 })
unfolding everything due_in
merges_come_first = refl

-- the least row of a tablet is that behind the end row before it; a tablet that was split is gone
target_is : map (λ number. target_of (record { kind = due.Minor; tablet = number }) (tables_after (one (codes "b") ∷ split (codes "a") ∷ []))) (0 ∷ 1 ∷ 2 ∷ []) ≡ None ∷ Some (t, []) ∷ Some (t, codes "a" ++ 0 ∷ []) ∷ []
unfolding everything
target_is = refl
