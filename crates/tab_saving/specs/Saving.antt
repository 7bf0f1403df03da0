-- To be believed by whoever relies on it. What saving a core does.
use Rattle.std.specs.Prelude.{Result, OnOk}
use Rattle.tab_io.specs.declared.writing.Output.{Ghosts}
use Rattle.tab_store.specs.Stores.{CoreContents}
use Rattle.tab_saving.specs.Existence.{core_bytes, HasImage}
use Rattle.tab_saving.specs.Saves.{Saves}
use Rattle.tab_saving.specs.declared.fault.SaveFault.{SaveFault}

-- the bytes of the core were put, or a beginning of them, and a write failed or memory lacked; where all were put, they are its image
pub record SavesImage {W : Type 0} (g : Ghosts W) (old new : W) (h : CoreContents) (result : Result (Unit {0}) SaveFault) : Type 0 where
  pub put : Saves g old new (core_bytes h) result
  pub image : OnOk result (HasImage h)
