-- The image of a core fits the types of the code, and so what is written for it is an image. What is known of a core's parts by their
-- types, and that no table has too many records, is asked for.
use Rattle.std.proofs.Common.{◌≡◌, ℕ, ◌<◌, ◌≤◌, ◌^◌, Bool, true, false, cond, List, [], ◌∷◌, length, map, sym, subst, arith}
use Rattle.std.specs.Prelude.{filter}
use Rattle.std.specs.List.{AllByRecursion, list_any}
use Rattle.std.proofs.lemmas.List.{length-map}
use mathlib.Core.Bool.{true≢false}
use Rattle.tab_key.specs.Names.{IsName}
use Rattle.tab_key.specs.Sorted.{sorted}
use Rattle.tab_key.proofs.Rising.{in_to, all_sorted}
use Rattle.tab_policy.specs.Permissions.{all_table}
use Rattle.tab_policy.specs.Sets.{table_contains}
use Rattle.tab_policy.specs.Holders.{AreUsers, has_any}
use Rattle.tab_policy.specs.declared.sets.TablePermissions.{TablePermissions}
use Rattle.tab_codec.specs.Parts.{bits_number, table_bits}
use Rattle.tab_store.specs.ByRow.{records_of_all}
use Rattle.tab_store.specs.Limits.{IsWellFormed, AreLimited}
use Rattle.tab_store.specs.Stores.{TableContents, CoreContents}
use Rattle.tab_core.specs.Stepping.{IsCore}
use Rattle.tab_image.specs.Images.{FitsUser, FitsRight, FitsRecord, FitsTable, Fits, IsImage, written_version}
use Rattle.tab_image.specs.Spelling.{image_bytes}
use Rattle.tab_image.specs.declared.table.ImageRight.{ImageRight}
use Rattle.tab_image.proofs.ImageLaw.{what_fits_is_spelled}
use Rattle.tab_saving.specs.ImageOf.{user_of, right_of, rights_of, table_of, image_with}
use Rattle.tab_saving.specs.Typed.{IsTypedUser, IsTypedRecord, IsTypedTable, AreTypedClocks}
use Rattle.tab_saving.proofs.OneList.{all_users, rights_some}
use Rattle.tab_saving.proofs.Sane.{map_all, of_map, all_members, all_found, few_names, sane_with}

-- ---- bits
any_bit : (bs : List Bool) → list_any (λ (b : Bool). b) bs ≡ true → 0 < bits_number bs
any_bit [] e = absurd (true≢false (sym e))
any_bit (true ∷ bs) e = omega arith
any_bit (false ∷ bs) e = let more : 0 < bits_number bs = any_bit bs e in omega (arith, more)

some_bits : (s : TablePermissions) → has_any s ≡ true → 0 < table_bits s
some_bits s e = any_bit (map (table_contains s) all_table) e

few_filtered : (p : ImageRight → Bool) (xs : List ImageRight) → length (filter p xs) ≤ length xs
few_filtered p [] = omega arith
few_filtered p (x ∷ xs) = go (p x) (few_filtered p xs)
  where
    go : (v : Bool) → length (filter p xs) ≤ length xs → length (cond v (x ∷ filter p xs) (filter p xs)) ≤ length (x ∷ xs)
    go true le = omega (arith, le)
    go false le = omega (arith, le)

both : {A : Type 0} (P Q R : A → Type 0) → ((x : A) → P x → Q x → R x) → (xs : List A) → AllByRecursion P xs → AllByRecursion Q xs → AllByRecursion R xs
both P Q R f [] a b = tt
both P Q R f (x ∷ xs) a b = (f x a.0 b.0, both P Q R f xs a.1 b.1)

-- ---- a core
module _ (h : CoreContents) (names : List (List ℕ)) (users : AreUsers h.policy names) (core : IsCore h) (typed : AllByRecursion (IsTypedUser h.policy) names) (tables : AllByRecursion IsTypedTable h.tables) where
  fits_rights : (t : List ℕ) → AllByRecursion FitsRight (rights_of h.policy names t)
  fits_rights t = both (λ (r : ImageRight). IsName r.user) (λ (r : ImageRight). has_any r.held ≡ true) FitsRight (λ r n e. record { user = n; some = some_bits r.held e }) (rights_of h.policy names t)
      (of_map IsName (λ (r : ImageRight). r.user) (rights_of h.policy names t) (all_users h.policy t IsName names (named names typed)))
      (rights_some h.policy t names)
    where
      named : (ns : List (List ℕ)) → AllByRecursion (IsTypedUser h.policy) ns → AllByRecursion IsName ns
      named [] a = tt
      named (n ∷ ns) a = (a.0.name, named ns a.1)

  few_rights : (t : List ℕ) → length (rights_of h.policy names t) < 2 ^ 32
  few_rights t =
      let kept = few_filtered (λ (r : ImageRight). has_any r.held) (map (right_of h.policy t) names) in
      let all : length (map (right_of h.policy t) names) ≡ length names = length-map names (right_of h.policy t) in
      let few = few_names h names users core in omega (arith, kept, all, few)

  fits_table : (t : TableContents) → IsTypedTable t → AreLimited t.tablets → FitsTable written_version (table_of h.policy names t)
  fits_table t is limits = record {
    head = record {
      name = is.head.name;
      versions = is.head.versions;
      constraints = is.head.constraints;
      horizon = is.head.horizon;
      rights = fits_rights t.name;
      rights_few = few_rights t.name;
      ends = limits.ends.short;
      ends_few = limits.ends.few;
    };
    records = both IsTypedRecord IsWellFormed FitsRecord (λ u n w. record { short = w.short; numbers = n }) (sorted (records_of_all t.tablets)) is.records.numbers
        (all_sorted IsWellFormed (records_of_all t.tablets) (all_members IsWellFormed (records_of_all t.tablets) (λ u i. limits.records u (in_to (records_of_all t.tablets) u i))));
    records_few = is.records.few;
  }

  fits_tables : AllByRecursion (λ t. FitsTable written_version (table_of h.policy names t)) h.tables
  fits_tables = both IsTypedTable (λ t. AreLimited t.tablets) (λ t. FitsTable written_version (table_of h.policy names t)) fits_table h.tables tables
      (all_found (λ t. AreLimited t.tablets) h.tables core.store.names core.store.limits)

  pub fits_with : AreTypedClocks h → Fits written_version (image_with h names)
  fits_with numbers = record {
    clock = numbers.clock;
    next = numbers.next;
    users = map_all (IsTypedUser h.policy) FitsUser (user_of h.policy) (λ n is. record { name = is.name; rising = is.rising }) names typed;
    users_few = subst (λ n. n < 2 ^ 32) (sym (length-map names (user_of h.policy))) (few_names h names users core);
    tables = map_all (λ t. FitsTable written_version (table_of h.policy names t)) (FitsTable written_version) (table_of h.policy names) (λ t fits. fits) h.tables fits_tables;
    tables_few = subst (λ n. n < 2 ^ 32) (sym (length-map h.tables (table_of h.policy names))) core.limits.tables;
  }

  -- what is written for the image of the core is an image
  pub spelled_with : AreTypedClocks h → IsImage written_version (image_bytes written_version (image_with h names)) (image_with h names)
  spelled_with numbers = what_fits_is_spelled (image_with h names) (fits_with numbers) (sane_with h names users core)
