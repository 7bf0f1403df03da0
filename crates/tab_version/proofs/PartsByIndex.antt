-- Parts of a list by their indexes.
use Rattle.std.proofs.Common.{◌≡◌, ℕ, ◌+◌, ◌-◌, ◌<◌, ◌≤◌, ◌==◌, List, [], ◌∷◌, false, ◌∙◌, ap, length, take, arith, length-drop, length-take}
use Rattle.std.specs.Prelude.{slice_index_or}
use Rattle.std.proofs.lemmas.List.{get_or-drop, get_or-take}
use mathlib.Core.Bool.{true≢false}
use Rattle.tab_key.specs.Records.{Record}
use Rattle.tab_mem.specs.Lists.{part}

pub length_part : (from end : ℕ) (rs : List Record) → end ≤ length rs → length (part from end rs) ≡ end - from
length_part from end rs le = omega (arith, length-drop from (take end rs), length-take end rs)

pub part_at : (from end : ℕ) (rs : List Record) (i : ℕ) (u : Record) → from + i < end → slice_index_or (part from end rs) i u ≡ slice_index_or rs (from + i) u
part_at from end rs i u lt = get_or-drop from (take end rs) i u ∙ get_or-take end rs (from + i) u lt

-- a part that has a record
pub some_part : (from end : ℕ) (rs us : List Record) → end ≤ length rs → part from end rs ≡ us → (length us == 0) ≡ false → from < end
some_part from end rs us le e none = go us none (omega (arith, length_part from end rs le, ap length e))
  where
    go : (us : List Record) → (length us == 0) ≡ false → end - from ≡ length us → from < end
    go [] z n = absurd (true≢false z)
    go (u ∷ us) z n = omega (arith, n)
