-- For proofs. What reading a whole image from an input does.
use Rattle.std.specs.Prelude.{ℕ, ◌≡◌, List, [], ◌∷◌, Option, Some, None, Result, Ok, Err, ⊤}
use Rattle.tab_io.specs.declared.reading.Input.{Ghosts}
use Rattle.tab_codec.specs.Reading.{Reader, only_if, bytes_at, u16_at}
use Rattle.tab_image.specs.declared.fault.ImageFault.{ImageFault}
use Rattle.tab_image.specs.declared.fault.ImageFault.TheVariants as fault
use Rattle.tab_image.specs.declared.fault.LoadFault.{LoadFault}
use Rattle.tab_image.specs.declared.fault.LoadFault.TheVariants as load
use Rattle.tab_image.specs.declared.unread.Unread.{Unread}
use Rattle.tab_image.specs.declared.unread.Unread.TheVariants as unread
use Rattle.tab_image.specs.declared.image.Image.{Image}
use Rattle.tab_image.specs.Conditions.{is_sane}
use Rattle.tab_image.specs.Images.{magic, IsSane}
use Rattle.tab_image.specs.Reading.{◌>>=◌, made, picked_by, same_as, body_at, image_of}
use Rattle.tab_image.specs.Streams.{ReadFailed}

-- ---- an image in the order in which it is read
unfoldable pub magic_at : Reader (Unit {0})
magic_at = picked_by (same_as magic) (bytes_at 6)

-- the six bytes, and the version
unfoldable pub version_at : Reader ℕ
version_at = do
  magic ← magic_at
  u16_at

-- the end of all bytes
abbrev pub end_at : Reader (Unit {0})
end_at [] = Some (tt, [])
end_at (b ∷ bytes) = None

-- what stands behind the version, and nothing behind it
unfoldable pub alone_at : ℕ → Reader Image
alone_at version = do
  image ← body_at version
  end ← end_at
  made image

-- .. where the conditions hold
unfoldable pub sane_at : ℕ → Reader Image
sane_at version = picked_by (only_if is_sane) (alone_at version)

-- ---- what is told
-- why no image was read, said to whoever asked for one
abbrev pub told : Unread → LoadFault
told unread.Bad = load.Bad
told unread.Io = load.Io
told unread.NoMemory = load.NoMemory

-- known bytes are read so
abbrev pub AreRead : Option (List ℕ) → Result Image ImageFault → Type 0
AreRead None read = ⊤
AreRead (Some bytes) read = image_of bytes ≡ read

-- the image was read, all conditions hold of it, and no read failed
pub record HasLoaded {R : Type 0} (g : Ghosts R) (old new : R) (image : Image) : Type 0 where
  pub bytes : AreRead (g.remaining old) (Ok image)
  pub sane : IsSane image
  pub faults : g.faults new ≡ g.faults old

-- the image was read; or the bytes are none, and it is told why; or a read failed; or memory lacked, which says nothing of the bytes
abbrev pub Loads : {R : Type 0} → Ghosts R → R → R → Result Image LoadFault → Type 0
Loads g old new (Ok image) = HasLoaded g old new image
Loads g old new (Err (load.Version n)) = AreRead (g.remaining old) (Err (fault.Version n))
Loads g old new (Err load.Bad) = AreRead (g.remaining old) (Err fault.Bad)
Loads g old new (Err load.Io) = ReadFailed g old new
Loads g old new (Err load.NoMemory) = ⊤
