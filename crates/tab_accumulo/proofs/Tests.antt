-- Tests that hold together.
use Rattle.std.proofs.Common.{◌≡◌, true, false, Bool, refl}
use Rattle.std.specs.Prelude.{◌&&◌}

pub both : (x y : Bool) → (x && y) ≡ true → (x ≡ true) × (y ≡ true)
both true y is = (refl, is)
both false y is = absurd cc
