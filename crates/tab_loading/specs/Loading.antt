-- To be believed by whoever relies on it. What loading a core does.
use Rattle.std.specs.Prelude.{◌≡◌, List, map, Result, Ok, Err, ⊤}
use Rattle.std.specs.List.{fold}
use Rattle.tab_io.specs.declared.reading.Input.{Ghosts}
use Rattle.tab_store.specs.Restored.{restored}
use Rattle.tab_store.specs.Stores.{TableContents, CoreContents}
use Rattle.tab_image.specs.Loading.{AreRead}
use Rattle.tab_image.specs.Streams.{ReadFailed}
use Rattle.tab_image.specs.declared.fault.ImageFault.TheVariants as fault
use Rattle.tab_image.specs.declared.fault.LoadFault.{LoadFault}
use Rattle.tab_image.specs.declared.fault.LoadFault.TheVariants as load
use Rattle.tab_image.specs.declared.image.Image.{Image}
use Rattle.tab_image.specs.declared.table.ImageTable.{ImageTable}
use Rattle.tab_saving.specs.ImageOf.{IsImageOf}
use Rattle.tab_loading.specs.Tables.{NumberedTable, number_behind, numbered_from}

-- Of each table the tablets end at the rows that the image says, and each holds the records of its rows as one sorted table, or has no
-- source where there are none. They are numbered from 0 on, table after table, and no merge of them is under way.
abbrev pub AreLaid : List TableContents → List ImageTable → Type 0
AreLaid tables said = map (λ (t : TableContents). t.tablets) tables ≡ map (λ (t : NumberedTable). restored t.number t.table.head.ends t.table.records) (numbered_from 0 said)

-- the next tablet gets the number behind all of theirs, and the next job the first one
pub record CountsOn (h : CoreContents) (said : List ImageTable) : Type 0 where
  pub tablet : h.tablet ≡ fold number_behind 0 said
  pub job : h.job ≡ 0

-- A core was made: the bytes, if they are known, spell an image, and it is the image of the core. No read failed.
pub record HasLoaded {R : Type 0} (g : Ghosts R) (old new : R) (h : CoreContents) : Type 0 where
  pub image : Image
  pub read : AreRead (g.remaining old) (Ok image)
  pub of : IsImageOf h image
  pub laid : AreLaid h.tables image.tables
  pub counts : CountsOn h image.tables
  pub faults : g.faults new ≡ g.faults old

-- a core was made; or the bytes are no image, and it is told why; or a read failed; or memory lacked, which says nothing of the bytes
abbrev pub LoadsCore : {R : Type 0} → Ghosts R → R → R → Result CoreContents LoadFault → Type 0
LoadsCore g old new (Ok h) = HasLoaded g old new h
LoadsCore g old new (Err (load.Version n)) = AreRead (g.remaining old) (Err (fault.Version n))
LoadsCore g old new (Err load.Bad) = AreRead (g.remaining old) (Err fault.Bad)
LoadsCore g old new (Err load.Io) = ReadFailed g old new
LoadsCore g old new (Err load.NoMemory) = ⊤
