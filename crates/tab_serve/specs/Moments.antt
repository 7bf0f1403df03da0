-- To be believed by whoever relies on it. Moments out of a list.
use Rattle.std.specs.Prelude.{ℤ, pos, ◌≡◌, ◌+◌, nat_lt, length, slice_get, unwrap_or, if◌then◌else◌}
use Rattle.tab_serve.specs.declared.listed.ListedMoments.{ListedMoments}

-- the moment at the list's place, or 0 where there is none
abbrev pub listed_now : ListedMoments → ℤ
listed_now l = unwrap_or (slice_get l.moments.items l.at) (pos 0)

-- the next place, or the last one again
abbrev pub listed_after : ListedMoments → ListedMoments → Type 0
listed_after old new = (new.moments.items ≡ old.moments.items) × (new.at ≡ (if nat_lt (old.at + 1) (length old.moments.items) then old.at + 1 else old.at))
