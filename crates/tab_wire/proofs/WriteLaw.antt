-- The Write frame over the codec: an update, a mutation, and what a Write asks.
use Rattle.std.proofs.Common.{◌≡◌, ℕ, ℤ, ◌+◌, ◌≤◌, ◌<◌, ◌^◌, List, [], ◌++◌, length, Option, Some, None, FitsSigned, refl, sym, ap, subst, arith}
use Rattle.std.specs.Int.{w64}
use Rattle.std.specs.List.{AllByRecursion}
use Rattle.std.proofs.lemmas.List.{length-append}
use Rattle.tab_key.specs.declared.key.Kind.{Kind}
use Rattle.tab_key.specs.declared.key.Kind.TheVariants.{Delete, Put}
use Rattle.tab_mutation.specs.Mutations.{Update}
use Rattle.tab_codec.specs.Parts.{kind_byte}
use Rattle.tab_codec.specs.Reading.{u32_at, i64_at, field_at, kind_at}
use Rattle.tab_codec.specs.Exactness.{Exact}
use Rattle.tab_codec.specs.Spelling.{Spells, u8, u32, i64, field, counted, FitsOptional}
use Rattle.tab_codec.specs.Codes.{Codes}
use Rattle.tab_codec.proofs.Exact.{exact_as, exact_given}
use Rattle.tab_codec.proofs.Coded.{codes, coded_as, coded_next, coded_last, coded_u32, coded_i64, coded_field, coded_counted, coded_optional}
use Rattle.tab_codec.proofs.ChoiceCode.{coded_kind}
use Rattle.tab_wire.specs.FrameReading.{value_at, timestamp_at, update_at, updates_at, mutation_at}
use Rattle.tab_wire.specs.FrameParts.{FitsValue, FitsUpdate, FitsMutation, timestamp_bytes, value_part, update_bytes, mutation_bytes}

coded_timestamp : Exact timestamp_at (Spells timestamp_bytes (FitsOptional (λ t. FitsSigned w64 t)))
unfolding timestamp_at
coded_timestamp = coded_optional i64_at i64 (λ t. FitsSigned w64 t) coded_i64

coded_value : (k : Kind) → Exact (value_at k) (Spells (value_part k) (FitsValue k))
coded_value Delete = exact_as (Spells (value_part Delete) (FitsValue Delete)) (exact_given []) (λ bytes v is. (is.0, sym is.1)) (λ bytes v is. (is.0, sym is.1))
coded_value Put = coded_field

coded_update : Exact update_at (Spells update_bytes FitsUpdate)
unfolding update_at
coded_update = coded_as update_bytes FitsUpdate
    (coded_next (λ u. u.kind) (λ u. Unit {0}) kind_at (λ k. u8 (kind_byte k)) _ _ _ _ coded_kind (λ kind.
    coded_next (λ u. u.family) _ field_at field _ _ _ _ coded_field (λ family.
    coded_next (λ u. u.qualifier) _ field_at field _ _ _ _ coded_field (λ qualifier.
    coded_next (λ u. u.label) _ field_at field _ _ _ _ coded_field (λ label.
    coded_next (λ u. u.timestamp) _ timestamp_at timestamp_bytes _ _ _ _ coded_timestamp (λ timestamp.
    coded_as (λ u. value_part u.kind u.value) (λ u. FitsValue u.kind u.value × (((((Unit {0} × (u.kind ≡ kind)) × (u.family ≡ family)) × (u.qualifier ≡ qualifier)) × (u.label ≡ label)) × (u.timestamp ≡ timestamp)))
    (coded_last (λ value. record { kind = kind; family = family; qualifier = qualifier; label = label; timestamp = timestamp; value = value }) (λ u. u.value) (λ u. ((((Unit {0} × (u.kind ≡ kind)) × (u.family ≡ family)) × (u.qualifier ≡ qualifier)) × (u.label ≡ label)) × (u.timestamp ≡ timestamp)) (value_at kind) (value_part kind) (FitsValue kind) (coded_value kind)
    (λ value. refl) (λ value. (((((tt, refl), refl), refl), refl), refl))
    (λ u k. let a = sym k.0.0.0.0.1 in let b = sym k.0.0.0.1 in let c = sym k.0.0.1 in let d = sym k.0.1 in let e = sym k.1 in (λ i. record { kind = a i; family = b i; qualifier = c i; label = d i; timestamp = e i; value = u.value })))
    (λ u f. let k = sym f.1.0.0.0.0.1 in (ap (λ (z : Kind). value_part z u.value) k, (subst (λ (z : Kind). FitsValue z u.value) k f.0, f.1)))
    (λ u f. let k = f.1.0.0.0.0.1 in (ap (λ (z : Kind). value_part z u.value) k, (subst (λ (z : Kind). FitsValue z u.value) k f.0, f.1)))))))))
    (λ u f. (refl, record { family = f.0.1.0; qualifier = f.0.1.1.0; label = f.0.1.1.1.0; timestamp = f.0.1.1.1.1.0; value = f.0.1.1.1.1.1 }))
    (λ u f. (refl, ((tt, (f.family, (f.qualifier, (f.label, (f.timestamp, f.value))))), tt)))

-- an update has at least 14 bytes
field_long : (text more : List ℕ) → length (field text ++ more) ≡ 4 + length text + length more
unfolding u32
field_long text more = omega (arith, length-append (u32 (length text) ++ text) more, length-append (u32 (length text)) text)

stamp_some : (o : Option ℤ) (more : List ℕ) → 1 ≤ length (timestamp_bytes o ++ more)
stamp_some None more = omega arith
stamp_some (Some t) more = omega arith

update_long : (u : Update) → FitsUpdate u → 14 ≤ length (update_bytes u)
update_long u fits =
    let v = value_part u.kind u.value in
    let l = timestamp_bytes u.timestamp ++ v in
    omega (arith, field_long u.family (field u.qualifier ++ (field u.label ++ l)), field_long u.qualifier (field u.label ++ l), field_long u.label l, stamp_some u.timestamp v)

coded_updates : Exact updates_at (Spells (counted update_bytes) (λ us. (length us < 2 ^ 32) × AllByRecursion FitsUpdate us))
unfolding updates_at
coded_updates = coded_counted u32_at u32 (λ n. n < 2 ^ 32) 14 update_at update_bytes FitsUpdate coded_u32 coded_update update_long

pub coded_mutation : Exact mutation_at (Spells mutation_bytes FitsMutation)
unfolding mutation_at
coded_mutation = coded_as mutation_bytes FitsMutation
    (coded_next (λ m. m.row) (λ m. Unit {0}) field_at field _ _ _ _ coded_field (λ row.
    coded_last (λ updates. record { row = row; updates = updates }) (λ m. m.updates) _ updates_at (counted update_bytes) _ coded_updates (λ updates. refl) (λ updates. (tt, refl))
    (λ m k. let a = sym k.1 in (λ i. record { row = a i; updates = m.updates }))))
    (λ m f. (refl, record { row = f.0.0; few = f.0.1.0; updates = f.0.1.1 }))
    (λ m f. (refl, ((f.row, (f.few, f.updates)), tt)))

pub mutations_are_coded : Codes mutation_at mutation_bytes FitsMutation
mutations_are_coded = codes mutation_at mutation_bytes FitsMutation coded_mutation
