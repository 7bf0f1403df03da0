-- To be believed by whoever relies on it. What an event does to the tablets of a core, exactly, and what it is told where histories leave that open.
use Rattle.std.specs.Prelude.{◌≡◌, ◌⊎◌, ℕ, ℤ, List, [], ◌∷◌, true, cond, Option, Some, None, map, bytes_eq}
use Rattle.std.specs.Int.{int_max}
use Rattle.tab_key.specs.declared.limited_part.LimitedPart.TheVariants.{Numbers}
use Rattle.tab_mutation.specs.Mutations.{Mutation}
use Rattle.tab_cells.specs.Written.{mutation_records}
use Rattle.tab_cells.specs.declared.compaction.Compaction.{Compaction}
use Rattle.tab_cells.specs.declared.compaction.Compaction.TheVariants.{Minor, Partial, Full}
use Rattle.tab_tablets.specs.Sources.{left_by}
use Rattle.tab_tablets.specs.Merges.{Merge}
use Rattle.tab_tablets.specs.Tablets.{Tablet, new_tablet, next_number, written, frozen, capture, compacted}
use Rattle.tab_tablets.specs.Spared.{spared}
use Rattle.tab_tablets.specs.ByRow.{at_row, ends_of}
use Rattle.tab_tablets.specs.Splits.{splits, halves}
use Rattle.tab_tablets.specs.Parts.{TabletMerge, begun_at, begins_at, installs_in}
use Rattle.tab_tablets.specs.declared.Installed.{Installed}
use Rattle.tab_tablets.specs.declared.Installed.TheVariants as installed
use Rattle.tab_tablets.specs.declared.splitting.Split.{Split}
use Rattle.tab_tablets.specs.declared.splitting.Split.TheVariants as split
use Rattle.tab_history.specs.Settings.{Settings, made_with}
use Rattle.tab_history.specs.Held.{floor_of}
use Rattle.tab_history.specs.Answers.{Told, told_begun, MayTell, event_answer}
use Rattle.tab_history.specs.Histories.{Entry}
use Rattle.tab_history.specs.Legal.{takes_memory}
use Rattle.tab_history.specs.Chains.{GoesRight}
use Rattle.tab_history.specs.declared.event.TimeMode.TheVariants.{Any}
use Rattle.tab_history.specs.declared.event.Extent.{Extent}
use Rattle.tab_history.specs.declared.event.Extent.TheVariants as extent
use Rattle.tab_history.specs.declared.event.Act.{Act}
use Rattle.tab_history.specs.declared.event.Act.TheVariants.{Open, Write, CreateTable, DropTable, Status, Flush, Compact, AddSplit, SplitBySize, Splits, Begin, Install}
use Rattle.tab_history.specs.declared.event.Event.{Event}
use Rattle.tab_history.specs.declared.event.Step.TheVariants.{Event as IsEvent}
use Rattle.tab_history.specs.declared.split_fault.SplitFault.TheVariants as fault
use Rattle.tab_history.specs.declared.reply.Refusal.TheVariants.{NoMemory, TooLarge, Stale, BadSplit}
use Rattle.tab_history.specs.declared.reply.Reply.TheVariants.{Done, Refused, Counted, Rows, Begun, Nothing}
use Rattle.tab_store.specs.Stores.{TableContents, CoreContents, base_of, NamesRise, table_in, tablets_found, tablets_in, counts_of}

-- ---- what an act asks of the tables
-- what is done with the tablets of a table that is there
pub data TabletWork : Type 0 where
  -- each is frozen
  Freezing : TabletWork
  -- the mutation is written to the one that holds its row
  Writing : Mutation → TabletWork
  -- each is compacted
  Compacting : Compaction → TabletWork
  -- they are counted
  Counting : TabletWork
  -- the one that holds the row is split there
  Splitting : List ℕ → TabletWork
  -- the one that holds the row is split in the middle of what it holds, if its sorted tables come to the limit, in bytes
  Halving : List ℕ → ℕ → TabletWork
  -- their end rows are told
  Listing : TabletWork
  -- a merge of this kind begins in the one that holds the row
  Beginning : List ℕ → Compaction → TabletWork
  -- the merge that came is installed, if one came
  Installing : Option TabletMerge → TabletWork

-- what is done with tables
pub data TableWork : Type 0 where
  -- nothing that concerns tablets
  Aside : TableWork
  -- a table of this name is made
  Making : List ℕ → TableWork
  -- the table of this name is dropped
  Dropping : List ℕ → TableWork
  -- work on the tablets of the table of this name
  On : List ℕ → TabletWork → TableWork

-- the compaction that an extent names
abbrev pub kind_of : Extent → Compaction
kind_of extent.Partial = Partial
kind_of extent.Full = Full

-- what an act asks, once no check refuses it; with an Install comes a merge
abbrev pub work_of : Option TabletMerge → Act → TableWork
work_of given (Open scan) = On scan.table Freezing
work_of given (Write t m) = On t (Writing m)
work_of given (CreateTable t time n) = Making t
work_of given (DropTable t) = Dropping t
work_of given (Status t) = On t Counting
work_of given (Flush t) = On t (Compacting Minor)
work_of given (Compact t e) = On t (Compacting (kind_of e))
work_of given (AddSplit t row) = On t (Splitting row)
work_of given (SplitBySize t row limit) = On t (Halving row limit)
work_of given (Splits t) = On t Listing
work_of given (Begin t row kind) = On t (Beginning row kind)
work_of given (Install t by) = On t (Installing given)
work_of given act = Aside

-- ---- what that does to the tablets of one table
-- what an event finds beside the tablets: the settings of the table, the clock with the event's moment in it, and the numbers of the next
-- write, the next tablet and the next job
pub record WorkContext : Type 0 where
  pub settings : Settings
  pub now : ℤ
  pub next : ℕ
  pub tablet : ℕ
  pub job : ℕ

-- below this time the table takes no update any more
abbrev pub floor_at : WorkContext → ℤ
floor_at p = floor_of p.settings.time p.now p.settings.horizon

-- what is told of a split that ended so, where the answer of histories is this one
abbrev pub told_split : Told → Split → Told
told_split plain split.Done = plain
told_split plain split.Present = Refused (BadSplit fault.Present)
told_split plain split.Small = Refused (BadSplit fault.Small)
told_split plain split.OneRow = Refused (BadSplit fault.OneRow)
told_split plain split.Full = Refused (TooLarge Numbers)

-- the same with the tablets that it left
abbrev pub laid_split : Told → Split × List Tablet → Told × List Tablet
laid_split plain s = (told_split plain s.0, s.1)

-- what is told of a merge that began
abbrev pub told_job : Option TabletMerge → Told
told_job None = Nothing
told_job (Some m) = told_begun

-- what is told of an install that ended so
abbrev pub told_install : Told → Installed → Told
told_install plain installed.Done = plain
told_install plain (installed.Stale n) = Refused (Stale n)

-- the merge that came is installed, with what is told; where none came there is none to install
abbrev pub laid_install : Told → Option TabletMerge → List Tablet → Told × List Tablet
laid_install plain None ts = (Refused (Stale 0), ts)
laid_install plain (Some m) ts = (told_install plain (installs_in m ts).0, (installs_in m ts).1)

-- the merge that begins, if any does
abbrev pub begun_by : WorkContext → TabletWork → List Tablet → Option TabletMerge
begun_by p (Beginning row kind) ts = begun_at row p.job kind (floor_at p) p.settings.versions ts
begun_by p Freezing ts = None
begun_by p (Writing m) ts = None
begun_by p (Compacting kind) ts = None
begun_by p Counting ts = None
begun_by p (Splitting row) ts = None
begun_by p (Halving row limit) ts = None
begun_by p Listing ts = None
begun_by p (Installing given) ts = None

-- what is told of the work, where the answer of histories is this one, and the tablets afterwards
unfoldable pub lays : WorkContext → TabletWork → Told → List Tablet → Told × List Tablet
lays p Freezing plain ts = (plain, map frozen ts)
lays p (Writing m) plain ts = (plain, at_row m.row (λ t. written (mutation_records p.next p.now m) t ∷ []) ts)
lays p (Compacting kind) plain ts = (plain, map (compacted kind (floor_at p) p.settings.versions) ts)
lays p Counting plain ts = (Counted (counts_of ts), ts)
lays p (Splitting row) plain ts = laid_split plain (splits row p.tablet ts)
lays p (Halving row limit) plain ts = laid_split plain (halves row limit p.tablet ts)
lays p Listing plain ts = (Rows (ends_of ts), ts)
lays p (Beginning row kind) plain ts = (told_job (begun_by p (Beginning row kind) ts), begins_at row p.job kind (floor_at p) p.settings.versions ts)
lays p (Installing given) plain ts = laid_install plain given ts

-- ---- and to all tables
-- what a table is set to; where there is none, no one looks at this
abbrev pub settings_found : Option TableContents → Settings
settings_found None = made_with Any 1
settings_found (Some t) = t.settings

-- the place of a table
abbrev pub place_of : CoreContents → ℤ → Option TableContents → WorkContext
place_of h now t = record { settings = settings_found t; now = now; next = h.next; tablet = h.tablet; job = h.job }

-- what is told of the work on a table, and its tablets afterwards
abbrev pub lays_in : CoreContents → ℤ → TabletWork → Told → Option TableContents → Told × List Tablet
lays_in h now work plain t = lays (place_of h now t) work plain (tablets_found t)

-- what is told of the work
abbrev pub told_by : CoreContents → ℤ → TableWork → Told → Told
told_by h now Aside plain = plain
told_by h now (Making t) plain = plain
told_by h now (Dropping t) plain = plain
told_by h now (On t work) plain = (lays_in h now work plain (table_in h t)).0

-- the tablets of the table q afterwards: a table that is made has one, that of all rows
abbrev pub laid_by : CoreContents → ℤ → TableWork → Told → List ℕ → List Tablet
laid_by h now Aside plain q = tablets_in h q
laid_by h now (Making t) plain q = cond (bytes_eq t q) (new_tablet h.tablet None ∷ []) (tablets_in h q)
laid_by h now (Dropping t) plain q = cond (bytes_eq t q) [] (tablets_in h q)
laid_by h now (On t work) plain q = cond (bytes_eq t q) (lays_in h now work plain (table_in h q)).1 (tablets_in h q)

-- the merge that the work begins, if any
abbrev pub job_by : CoreContents → ℤ → TableWork → Option TabletMerge
job_by h now Aside = None
job_by h now (Making t) = None
job_by h now (Dropping t) = None
job_by h now (On t work) = begun_by (place_of h now (table_in h t)) work (tablets_in h t)

-- ---- numbers
-- how many tablets are numbered by work that was done: one of a table that is made, two of a split
abbrev pub tablets_numbered : TableWork → ℕ → ℕ
tablets_numbered Aside number = number
tablets_numbered (Making t) number = next_number number
tablets_numbered (Dropping t) number = number
tablets_numbered (On t (Splitting row)) number = next_number (next_number number)
tablets_numbered (On t (Halving row limit)) number = next_number (next_number number)
tablets_numbered (On t Freezing) number = number
tablets_numbered (On t (Writing m)) number = number
tablets_numbered (On t (Compacting kind)) number = number
tablets_numbered (On t Counting) number = number
tablets_numbered (On t Listing) number = number
tablets_numbered (On t (Beginning row kind)) number = number
tablets_numbered (On t (Installing given)) number = number

-- the number of the next tablet once that was told; only what was done numbers any
abbrev pub tablet_told : Told → TableWork → ℕ → ℕ
tablet_told Done work number = tablets_numbered work number
tablet_told told work number = number

-- the number of the next job, and the job that is handed out
abbrev pub job_told : Told → ℕ → ℕ
job_told (Begun job) number = next_number number
job_told told number = number

abbrev pub handed : Told → Option TabletMerge → Option TabletMerge
handed (Begun job) begun = begun
handed told begun = None

-- ---- the exact step
-- what an event is told whose answer is this one: a refusal, or what the tablets give
abbrev pub told_exactly : CoreContents → ℤ → Option TabletMerge → Act → Told → Told
told_exactly h now given act (Refused r) = Refused r
told_exactly h now given act plain = told_by h now (work_of given act) plain

-- the tablets of the table q after an event whose answer is this one: where a check refuses it they are as they were
abbrev pub laid_exactly : CoreContents → ℤ → Option TabletMerge → Act → Told → List ℕ → List Tablet
laid_exactly h now given act (Refused r) q = tablets_in h q
laid_exactly h now given act plain q = laid_by h now (work_of given act) plain q

-- the same once it was told this: where memory lacked they are wholly as they were, and not frozen either
abbrev pub laid_told : Told → CoreContents → ℤ → Option TabletMerge → Act → Told → List ℕ → List Tablet
laid_told (Refused NoMemory) h now given act plain q = tablets_in h q
laid_told told h now given act plain q = laid_exactly h now given act plain q

-- At this clock, an act whose answer is plain is told so, hands out this job, and leaves the tablets so; with an Install came this merge.
pub record LaysExactly (old : CoreContents) (now : ℤ) (given : Option TabletMerge) (act : Act) (plain told : Told) (job : Option TabletMerge) (new : CoreContents) : Type 0 where
  -- it is told what the tablets give, unless memory lacked and it takes some
  pub answers : (told ≡ told_exactly old now given act plain) ⊎ ((takes_memory act ≡ true) × (told ≡ Refused NoMemory))
  -- the job that is handed out is the merge that was begun
  pub hands : job ≡ handed told (job_by old now (work_of given act))
  -- the tablets of each table are those that it leaves
  pub tablets : (q : List ℕ) → tablets_in new q ≡ laid_told told old now given act plain q
  -- the tables lie in the order of their names
  pub names : NamesRise new
  -- tablets and jobs are numbered one after another
  pub tablet : new.tablet ≡ tablet_told told (work_of given act) old.tablet
  pub number : new.job ≡ job_told told old.job

-- the clock, with an event's moment in it
abbrev pub now_at : CoreContents → Event → ℤ
now_at h e = int_max h.clock e.moment

-- the answer to an event by what histories see of the core
abbrev pub plain_answer : CoreContents → Event → Told
plain_answer h e = event_answer (base_of h) [] (now_at h e) e.user e.act

-- the entry of an event
abbrev pub entry_of : Event → Told → Entry
entry_of event told = record { step = IsEvent event; reply = told }

-- An event, with the merge that came with it, is told, and does, what the tablets give; and as histories see it, it is a right step.
pub record StepsExactly (old : CoreContents) (given : Option TabletMerge) (event : Event) (told : Told) (job : Option TabletMerge) (new : CoreContents) : Type 0 where
  pub right : GoesRight (base_of old) (entry_of event told) (base_of new)
  pub exact : LaysExactly old (now_at old event) given event.act (plain_answer old event) told job new

-- ---- The law: what an event is told exactly is one of the answers that histories allow.
abbrev pub TellsLegally : Type 0
TellsLegally = (h : CoreContents) (now : ℤ) (given : Option TabletMerge) (act : Act) (plain : Told) → MayTell act plain (told_by h now (work_of given act) plain)

-- ---- The law: a merge that a compaction makes finds its inputs among the sources, so where there is anything to merge it is merged.
-- and what is left are the sources that the compaction spares
abbrev pub CapturesAreThere : Type 0
CapturesAreThere = (number : ℕ) (kind : Compaction) (floor : ℤ) (n : ℕ) (t : Tablet) (m : Merge) → capture number kind floor n t ≡ Some m → left_by m.inputs (frozen t).sources ≡ Some (spared kind (frozen t).sources)
