-- To be believed by whoever relies on it. When a core has an image, and what is written of it.
use Rattle.std.specs.Prelude.{ℕ, List}
use Rattle.tab_store.specs.Stores.{CoreContents}
use Rattle.tab_core.specs.Stepping.{IsCore}
use Rattle.tab_image.specs.Images.{IsImage, written_version}
use Rattle.tab_image.specs.Spelling.{image_bytes}
use Rattle.tab_saving.specs.ImageOf.{HaveOwnNames, core_image, IsImageOf}
use Rattle.tab_saving.specs.Typed.{IsTyped}

-- the bytes that are written of a core, whether or not it has an image
abbrev pub core_bytes : CoreContents → List ℕ
core_bytes h = image_bytes written_version (core_image h)

-- the core has an image, and these bytes are one that says it
pub record HasImage (h : CoreContents) : Type 0 where
  pub of : IsImageOf h (core_image h)
  pub spelled : IsImage written_version (core_bytes h) (core_image h)

-- ---- The law: a core has one where no two of its users have one name, and its parts are of their types, with fewer than 2^64 records in
-- each table.
abbrev pub CoresHaveImages : Type 0
CoresHaveImages = (h : CoreContents) → IsCore h → HaveOwnNames h.policy → IsTyped h → HasImage h
