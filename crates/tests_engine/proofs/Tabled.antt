-- Clips of runs, the last one as one of a table.
use Rattle.std.proofs.Common.{◌≡◌, List, ◌++◌, sym, ◌∙◌, ap, map}
use Rattle.tab_key.specs.Records.{Record}
use Rattle.tab_iter.specs.Bags.{flat}
use Rattle.tab_version.specs.Sources.{Sorted, Sources, records_of}
use Rattle.tab_version.proofs.Gathering.{flat_both}

pub same_records : (s : Sources) (runs new last : List (List Record)) (ts : List Sorted) → s ≡ record { runs = new; tables = ts } → map (λ (t : Sorted). t.records) ts ≡ last → runs ≡ new ++ last → records_of s ≡ flat runs
same_records s runs new last ts e t r = ap records_of e ∙ ap (λ l. flat new ++ flat l) t ∙ sym (flat_both new last) ∙ ap flat (sym r)
