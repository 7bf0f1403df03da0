-- No marker that an act writes has a value, and so none that it adds to a table.
use Rattle.std.proofs.Common.{◌≡◌, inl, inr, ℕ, List, [], ◌∷◌, subst}
use Rattle.std.specs.Prelude.{ℤ, map, reverse}
use Rattle.std.specs.List.{AllByRecursion}
use Rattle.tab_key.specs.Records.{Record}
use Rattle.tab_key.specs.Sorted.{IsIn}
use Rattle.tab_key.specs.declared.key.Kind.TheVariants.{Delete}
use Rattle.tab_mutation.specs.Mutations.{Update, IsBare}
use Rattle.tab_cells.specs.Written.{TimedUpdate, timed, records_of}
use Rattle.tab_history.specs.declared.event.Act.{Act}
use Rattle.tab_history.specs.declared.event.Act.TheVariants.{Write}
use Rattle.tab_store.specs.Stores.{CoreContents}
use Rattle.tab_store.proofs.Staying.{AddedHave}
use Rattle.tab_store.proofs.WellFormed.{all_reverse}
use Rattle.tab_core.specs.Bounded.{IsBareRecord, WritesBare}

abbrev IsBareTimed : TimedUpdate → Type 0
IsBareTimed p = p.kind ≡ Delete → p.value ≡ []

bare_timed : (clock : ℤ) (us : List Update) → AllByRecursion IsBare us → AllByRecursion IsBareTimed (map (timed clock) us)
bare_timed clock [] a = tt
bare_timed clock (u ∷ us) a = (a.0, bare_timed clock us a.1)

bare_records : (seq : ℕ) (row : List ℕ) (ps : List TimedUpdate) → AllByRecursion IsBareTimed ps → (u : Record) → IsIn (records_of seq row ps) u → IsBareRecord u
unfolding records_of
bare_records seq row [] a u h = absurd h
bare_records seq row (p ∷ ps) a u (inl e) = subst IsBareRecord e a.0
bare_records seq row (p ∷ ps) a u (inr h) = bare_records seq row ps a.1 u h

pub added_bare : (old : CoreContents) (now : ℤ) (act : Act) → WritesBare act → AddedHave IsBareRecord old now act
added_bare old now (Write t m) bare = λ s e u i. bare_records old.next m.row (reverse (map (timed now) m.updates)) (all_reverse IsBareTimed (map (timed now) m.updates) (bare_timed now m.updates bare)) u i
added_bare old now _ bare = tt
