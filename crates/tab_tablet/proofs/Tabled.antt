-- Records that are made a sorted table.
use Rattle.std.proofs.Common.{◌≡◌, List, [], ◌∷◌, true, false, ◌==◌, refl, sym, ◌∙◌, ap, subst, length, append-nil}
use Rattle.std.proofs.lemmas.Bool.Decides.{Decides-eqb}
use Rattle.std.proofs.lemmas.List.{nil_from_length}
use mathlib.Core.Bool.{true≢false}
use Rattle.tab_key.specs.Records.{Record}
use Rattle.tab_key.specs.Sorted.{IsDistinct}
use Rattle.tab_cells.proofs.Rising.{rising_distinct}
use Rattle.tab_iter.specs.Lists.{IsRising}
use Rattle.tab_version.specs.Sources.{Sources, built, records_of}
use Rattle.tab_tablet.specs.Tablets.{table_of}

abbrev pub with_table_of : List Record → Sources
with_table_of us = record { runs = []; tables = table_of us }

pub tabled_none : (us : List Record) (s : Sources) → (length us == 0) ≡ true → s ≡ record { runs = []; tables = [] } → s ≡ with_table_of us
tabled_none us s e is = is ∙ ap with_table_of (sym (nil_from_length us ((Decides-eqb (length us) 0).0 e)))

pub tabled_some : (us : List Record) (s : Sources) → (length us == 0) ≡ false → s ≡ record { runs = []; tables = built us ∷ [] } → s ≡ with_table_of us
tabled_some [] s some is = absurd (true≢false some)
tabled_some (u ∷ us) s some is = is

-- they are held once
records_are : (us : List Record) → records_of (with_table_of us) ≡ us
records_are [] = refl
records_are (u ∷ us) = append-nil (u ∷ us)

pub tabled_distinct : (us : List Record) (s : Sources) → s ≡ with_table_of us → IsRising us → IsDistinct (records_of s)
tabled_distinct us s is rising = subst (λ (x : Sources). IsDistinct (records_of x)) (sym is) (subst IsDistinct (sym (records_are us)) (rising_distinct us rising))
