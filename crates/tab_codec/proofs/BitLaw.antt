-- Bits and sets of permissions.
use Rattle.std.proofs.Common.{◌≡◌, ℕ, zero, suc, ◌-◌, ◌/◌, ◌%◌, ◌<◌, ◌==◌, Bool, true, false, cond, List, refl, ◌∙◌, arith}
use Rattle.std.specs.Prelude.{filter}
use Rattle.std.proofs.lemmas.Bool.Decides.{nat_tests}
use Rattle.tab_rules.specs.Constraints.{constraint_number, all_constraints, is_set, constraint_set_of}
use Rattle.tab_rules.specs.declared.constraint.Constraint.{Constraint}
use Rattle.tab_rules.specs.declared.constraint.Constraint.TheVariants.{KeySize, Alphanumeric, Numeric, Visibility}
use Rattle.tab_policy.specs.declared.sets.SystemPermissions.{SystemPermissions}
use Rattle.tab_policy.specs.declared.sets.TablePermissions.{TablePermissions}
use Rattle.tab_codec.specs.Parts.{has_bit, system_in, system_bits, table_in, table_bits, constraints_in, constraint_bits, BitsAreSets}

-- a bit, as a number
bit : (m : ℕ) → cond ((m % 2) == 1) 1 0 ≡ m % 2
bit m = elim ((m % 2) == 1) as (λ b. ((m % 2) == 1) ≡ b → cond b 1 0 ≡ m % 2) [
  | true ↦ λ e. grind (arith, nat_tests)
  | false ↦ λ e. grind (arith, nat_tests)
] refl

table_again : (n : ℕ) → n < 32 → table_bits (table_in n) ≡ n
table_again n lt = omega (arith, bit (n / 1), bit (n / 2), bit (n / 4), bit (n / 8), bit (n / 16))

system_again : (n : ℕ) → n < 256 → system_bits (system_in n) ≡ n
system_again n lt = omega (arith, bit (n / 1), bit (n / 2), bit (n / 4), bit (n / 8), bit (n / 16), bit (n / 32), bit (n / 64), bit (n / 128))

abbrev value : Bool → ℕ
value b = cond b 1 0

small : (b : Bool) → value b < 2
small true = omega arith
small false = omega arith

-- a number whose last bit this is
tells : (b : Bool) (m : ℕ) → m % 2 ≡ value b → ((m % 2) == 1) ≡ b
tells true m e = grind (arith, nat_tests)
tells false m e = grind (arith, nat_tests)

system_small : (s : SystemPermissions) → system_bits s < 256
system_small s = omega (arith, small s.grant, small s.create_table, small s.drop_table, small s.alter_table, small s.create_user, small s.drop_user, small s.alter_user, small s.system)

table_small : (s : TablePermissions) → table_bits s < 32
table_small s = omega (arith, small s.read, small s.write, small s.alter_table, small s.grant, small s.drop_table)

system_0 : (s : SystemPermissions) → has_bit (system_bits s) 0 ≡ s.grant
system_0 s = tells s.grant (system_bits s / 1) (omega (arith, small s.grant, small s.create_table, small s.drop_table, small s.alter_table, small s.create_user, small s.drop_user, small s.alter_user, small s.system))

system_1 : (s : SystemPermissions) → has_bit (system_bits s) 1 ≡ s.create_table
system_1 s = tells s.create_table (system_bits s / 2) (omega (arith, small s.grant, small s.create_table, small s.drop_table, small s.alter_table, small s.create_user, small s.drop_user, small s.alter_user, small s.system))

system_2 : (s : SystemPermissions) → has_bit (system_bits s) 2 ≡ s.drop_table
system_2 s = tells s.drop_table (system_bits s / 4) (omega (arith, small s.grant, small s.create_table, small s.drop_table, small s.alter_table, small s.create_user, small s.drop_user, small s.alter_user, small s.system))

system_3 : (s : SystemPermissions) → has_bit (system_bits s) 3 ≡ s.alter_table
system_3 s = tells s.alter_table (system_bits s / 8) (omega (arith, small s.grant, small s.create_table, small s.drop_table, small s.alter_table, small s.create_user, small s.drop_user, small s.alter_user, small s.system))

system_4 : (s : SystemPermissions) → has_bit (system_bits s) 4 ≡ s.create_user
system_4 s = tells s.create_user (system_bits s / 16) (omega (arith, small s.grant, small s.create_table, small s.drop_table, small s.alter_table, small s.create_user, small s.drop_user, small s.alter_user, small s.system))

system_5 : (s : SystemPermissions) → has_bit (system_bits s) 5 ≡ s.drop_user
system_5 s = tells s.drop_user (system_bits s / 32) (omega (arith, small s.grant, small s.create_table, small s.drop_table, small s.alter_table, small s.create_user, small s.drop_user, small s.alter_user, small s.system))

system_6 : (s : SystemPermissions) → has_bit (system_bits s) 6 ≡ s.alter_user
system_6 s = tells s.alter_user (system_bits s / 64) (omega (arith, small s.grant, small s.create_table, small s.drop_table, small s.alter_table, small s.create_user, small s.drop_user, small s.alter_user, small s.system))

system_7 : (s : SystemPermissions) → has_bit (system_bits s) 7 ≡ s.system
system_7 s = tells s.system (system_bits s / 128) (omega (arith, small s.grant, small s.create_table, small s.drop_table, small s.alter_table, small s.create_user, small s.drop_user, small s.alter_user, small s.system))

system_back : (s : SystemPermissions) → system_in (system_bits s) ≡ s
system_back s = λ i. record {
  grant = system_0 s i;
  create_table = system_1 s i;
  drop_table = system_2 s i;
  alter_table = system_3 s i;
  create_user = system_4 s i;
  drop_user = system_5 s i;
  alter_user = system_6 s i;
  system = system_7 s i;
}

table_0 : (s : TablePermissions) → has_bit (table_bits s) 0 ≡ s.read
table_0 s = tells s.read (table_bits s / 1) (omega (arith, small s.read, small s.write, small s.alter_table, small s.grant, small s.drop_table))

table_1 : (s : TablePermissions) → has_bit (table_bits s) 1 ≡ s.write
table_1 s = tells s.write (table_bits s / 2) (omega (arith, small s.read, small s.write, small s.alter_table, small s.grant, small s.drop_table))

table_2 : (s : TablePermissions) → has_bit (table_bits s) 2 ≡ s.alter_table
table_2 s = tells s.alter_table (table_bits s / 4) (omega (arith, small s.read, small s.write, small s.alter_table, small s.grant, small s.drop_table))

table_3 : (s : TablePermissions) → has_bit (table_bits s) 3 ≡ s.grant
table_3 s = tells s.grant (table_bits s / 8) (omega (arith, small s.read, small s.write, small s.alter_table, small s.grant, small s.drop_table))

table_4 : (s : TablePermissions) → has_bit (table_bits s) 4 ≡ s.drop_table
table_4 s = tells s.drop_table (table_bits s / 16) (omega (arith, small s.read, small s.write, small s.alter_table, small s.grant, small s.drop_table))

table_back : (s : TablePermissions) → table_in (table_bits s) ≡ s
table_back s = λ i. record { read = table_0 s i; write = table_1 s i; alter_table = table_2 s i; grant = table_3 s i; drop_table = table_4 s i }

-- ---- constraints
constraint_small : (cs : List Constraint) → constraint_bits cs < 16
constraint_small cs = omega (arith, small (is_set cs KeySize), small (is_set cs Alphanumeric), small (is_set cs Numeric), small (is_set cs Visibility))

has_constraint : (cs : List Constraint) (c : Constraint) → has_bit (constraint_bits cs) (constraint_number c - 1) ≡ is_set cs c
has_constraint cs KeySize = tells (is_set cs KeySize) (constraint_bits cs / 1) (omega (arith, small (is_set cs KeySize), small (is_set cs Alphanumeric), small (is_set cs Numeric), small (is_set cs Visibility)))
has_constraint cs Alphanumeric = tells (is_set cs Alphanumeric) (constraint_bits cs / 2) (omega (arith, small (is_set cs KeySize), small (is_set cs Alphanumeric), small (is_set cs Numeric), small (is_set cs Visibility)))
has_constraint cs Numeric = tells (is_set cs Numeric) (constraint_bits cs / 4) (omega (arith, small (is_set cs KeySize), small (is_set cs Alphanumeric), small (is_set cs Numeric), small (is_set cs Visibility)))
has_constraint cs Visibility = tells (is_set cs Visibility) (constraint_bits cs / 8) (omega (arith, small (is_set cs KeySize), small (is_set cs Alphanumeric), small (is_set cs Numeric), small (is_set cs Visibility)))

constraint_back : (cs : List Constraint) → constraint_set_of cs ≡ cs → constraints_in (constraint_bits cs) ≡ cs
constraint_back cs is = (λ i. filter (λ c. has_constraint cs c i) all_constraints) ∙ is

-- each number of four bits is the bits of its constraints
constraint_again : (n : ℕ) → n < 16 → constraint_bits (constraints_in n) ≡ n
constraint_again zero lt = refl
constraint_again (suc zero) lt = refl
constraint_again (suc (suc zero)) lt = refl
constraint_again (suc (suc (suc zero))) lt = refl
constraint_again (suc (suc (suc (suc zero)))) lt = refl
constraint_again (suc (suc (suc (suc (suc zero))))) lt = refl
constraint_again (suc (suc (suc (suc (suc (suc zero)))))) lt = refl
constraint_again (suc (suc (suc (suc (suc (suc (suc zero))))))) lt = refl
constraint_again (suc (suc (suc (suc (suc (suc (suc (suc zero)))))))) lt = refl
constraint_again (suc (suc (suc (suc (suc (suc (suc (suc (suc zero))))))))) lt = refl
constraint_again (suc (suc (suc (suc (suc (suc (suc (suc (suc (suc zero)))))))))) lt = refl
constraint_again (suc (suc (suc (suc (suc (suc (suc (suc (suc (suc (suc zero))))))))))) lt = refl
constraint_again (suc (suc (suc (suc (suc (suc (suc (suc (suc (suc (suc (suc zero)))))))))))) lt = refl
constraint_again (suc (suc (suc (suc (suc (suc (suc (suc (suc (suc (suc (suc (suc zero))))))))))))) lt = refl
constraint_again (suc (suc (suc (suc (suc (suc (suc (suc (suc (suc (suc (suc (suc (suc zero)))))))))))))) lt = refl
constraint_again (suc (suc (suc (suc (suc (suc (suc (suc (suc (suc (suc (suc (suc (suc (suc zero))))))))))))))) lt = refl
constraint_again (suc (suc (suc (suc (suc (suc (suc (suc (suc (suc (suc (suc (suc (suc (suc (suc n)))))))))))))))) lt = absurd (omega (arith, lt))

pub bits_are_sets : BitsAreSets
bits_are_sets = record { system_back = system_back; system_again = system_again; table_back = table_back; table_again = table_again; constraint_back = constraint_back; constraint_again = constraint_again; system_small = system_small; table_small = table_small; constraint_small = constraint_small }
