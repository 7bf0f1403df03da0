-- For proofs. What is written for an image is an image, and the only spelling of it.
use Rattle.std.specs.Prelude.{ℕ, ◌≡◌, List}
use Rattle.tab_image.specs.declared.image.Image.{Image}
use Rattle.tab_image.specs.Images.{Fits, IsSane, IsImage, written_version}
use Rattle.tab_image.specs.Spelling.{image_bytes}

-- ---- The law: in a version an image has one spelling, and these are its bytes.
abbrev pub OneSpelling : Type 0
OneSpelling = (version : ℕ) (bytes : List ℕ) (image : Image) → IsImage version bytes image → bytes ≡ image_bytes version image

-- ---- The law: where an image fits the types of the code and all conditions hold, what is written for it is an image, and says it.
abbrev pub WhatFitsIsSpelled : Type 0
WhatFitsIsSpelled = (image : Image) → Fits written_version image → IsSane image → IsImage written_version (image_bytes written_version image) image
