-- A table that was lent.
use Rattle.std.proofs.Common.{◌≡◌, ℕ, length, true, cond, List, Some, None, sym, ap, ◌∙◌, Option, OnSome, MutBor}
use Rattle.std.specs.Prelude.{map, is_some}
use Rattle.std.specs.Map.{keys_of, set_value}
use Rattle.std.specs.Option.{option_copied_mut}
use Rattle.std.specs.Ordering.{is_eq}
use Rattle.std.specs.List.Sorted.{IsStrictlySortedBy}
use Rattle.std.proofs.lemmas.Map.Steps.{set_value_same}
use Rattle.tab_key.specs.Bytes.{bytes_cmp}
use Rattle.tab_policy.specs.Entries.{at_name}
use Rattle.tab_policy.proofs.NameLemmas.{same_name}
use Rattle.tab_store.specs.Tables.{TableState, named_table}
use Rattle.tab_store.specs.Lending.{Leaves}
use Rattle.tab_store.proofs.Named.{Entries, table_found, table_renewed, count_kept, rises}

-- what is left where it was lent out of this map
pub leaves : (name : List ℕ) (old new : Entries) (table : TableState) (lent : Option (MutBor TableState)) → option_copied_mut lent ≡ at_name name old → new ≡ set_value (λ m. is_eq (bytes_cmp name m)) old table → length new ≡ length old
    → (is_some (at_name name old) ≡ true → (q : List ℕ) → at_name q new ≡ cond (is_eq (bytes_cmp name q)) (Some table) (at_name q old)) → IsStrictlySortedBy bytes_cmp (keys_of new) → OnSome lent (Leaves name (map named_table old) table (map named_table new))
leaves name old new table None is set count puts ordered = tt
leaves name old new table (Some lent) is set count puts ordered = record {
  tables = table_renewed old new name (Some table) (λ q. puts (ap is_some (sym is)) q ∙ ap (λ b. cond b (Some table) (at_name q old)) (same_name name q));
  count = count_kept old new count;
  names = rises new ordered;
  same = λ had. ap (map named_table) (set ∙ set_value_same (λ m. is_eq (bytes_cmp name m)) old table (sym (table_found old name) ∙ had));
}
