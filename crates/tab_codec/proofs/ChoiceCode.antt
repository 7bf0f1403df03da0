-- What a byte or a number decides, as codecs: kinds, times, numbers of versions, and sets of constraints.
use Rattle.std.proofs.Common.{◌≡◌, ◌-◌, ◌≤◌, true, sym, ap, ◌∙◌, arith}
use Rattle.tab_rules.specs.Constraints.{constraint_number, constraint_set_of}
use Rattle.tab_rules.proofs.OneForm.{one_form}
use Rattle.tab_history.specs.Settings.{is_version_count}
use Rattle.tab_codec.specs.Parts.{kind_byte, time_byte, has_bit, constraint_bits}
use Rattle.tab_codec.specs.Reading.{u8_at, kind_at, time_at, versions_at, constraints_at}
use Rattle.tab_codec.specs.Exactness.{Exact}
use Rattle.tab_codec.specs.Spelling.{Spells, u8, u32}
use Rattle.tab_codec.proofs.Exact.{exact_as, exact_u8}
use Rattle.tab_codec.proofs.TagLaw.{exact_kind, exact_time, version_is, version_passes, exact_versions, exact_constraints}
use Rattle.tab_codec.proofs.BitLaw.{bits_are_sets}

pub coded_u8 : Exact u8_at (Spells u8 (λ n. Unit {0}))
coded_u8 = exact_as (Spells u8 (λ n. Unit {0})) exact_u8 (λ bytes n is. (is, tt)) (λ bytes n is. is.0)

pub coded_kind : Exact kind_at (Spells (λ k. u8 (kind_byte k)) (λ k. Unit {0}))
coded_kind = exact_as (Spells (λ k. u8 (kind_byte k)) (λ k. Unit {0})) exact_kind (λ bytes k is. (is, tt)) (λ bytes k is. is.0)

pub coded_time : Exact time_at (Spells (λ t. u8 (time_byte t)) (λ t. Unit {0}))
coded_time = exact_as (Spells (λ t. u8 (time_byte t)) (λ t. Unit {0})) exact_time (λ bytes t is. (is, tt)) (λ bytes t is. is.0)

pub coded_versions : Exact versions_at (Spells u32 (λ n. is_version_count n ≡ true))
unfolding u32
coded_versions = exact_as (Spells u32 (λ n. is_version_count n ≡ true)) exact_versions
    (λ bytes n is. (is.0.0, version_passes n is.1 is.2))
    (λ bytes n is. let v = version_is n is.1 in let most : n ≤ 1000 = v.1 in ((is.0, omega (arith, most)), v.0, v.1))

pub coded_constraints : Exact constraints_at (Spells (λ cs. u8 (constraint_bits cs)) (λ cs. constraint_set_of cs ≡ cs))
coded_constraints = exact_as (Spells (λ cs. u8 (constraint_bits cs)) (λ cs. constraint_set_of cs ≡ cs)) exact_constraints
    (λ bytes cs is. (
      is.1 ∙ ap u8 (sym (bits_are_sets.constraint_again is.0 is.2) ∙ ap constraint_bits (sym is.3)),
      ap constraint_set_of is.3 ∙ one_form (λ c. has_bit is.0 (constraint_number c - 1)) ∙ sym is.3,
    ))
    (λ bytes cs is. (constraint_bits cs, is.0, bits_are_sets.constraint_small cs, sym (bits_are_sets.constraint_back cs is.1)))
