-- To be believed by whoever relies on it. Cores of one image answer all that follows alike; and a core has one image, if it has one, which is a definite one.
use Rattle.std.specs.Prelude.{◌≡◌, ◌↔◌, List}
use Rattle.tab_history.specs.Histories.{Entry, World, world_of}
use Rattle.tab_history.specs.Legal.{Legal}
use Rattle.tab_history.specs.Refinement.{Refines, GoOnAlike}
use Rattle.tab_store.specs.Stores.{CoreContents, base_of}
use Rattle.tab_core.specs.Stepping.{IsCore}
use Rattle.tab_image.specs.declared.image.Image.{Image}
use Rattle.tab_saving.specs.ImageOf.{HaveOwnNames, core_image, IsImageOf}

-- each of two worlds refines the other, and the same runs are legal from both, with the same sessions
pub record AnswerAlike (v w : World) : Type 0 where
  pub refines : Refines v w
  pub refined : Refines w v
  pub runs : (es : List Entry) → (Legal v es → Legal w es × GoOnAlike v w es) × (Legal w es → Legal v es × GoOnAlike v w es)

-- ---- The law: two cores of one image do.
abbrev pub CoresOfOneImage : Type 0
CoresOfOneImage = (h k : CoreContents) (image : Image) → IsCore h → IsCore k → IsImageOf h image → IsImageOf k image → AnswerAlike (world_of (base_of h)) (world_of (base_of k))

-- ---- The law: a core has one image.
abbrev pub OneImageEach : Type 0
OneImageEach = (h : CoreContents) (image other : Image) → IsImageOf h image → IsImageOf h other → image ≡ other

-- ---- The law: it is this one, and a core has it exactly where no two of its users have one name.
abbrev pub ImagesAreThis : Type 0
ImagesAreThis = (h : CoreContents) (image : Image) → IsImageOf h image ↔ ((image ≡ core_image h) × HaveOwnNames h.policy)
