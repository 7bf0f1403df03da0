-- Sets made of bits, one after another.
use Rattle.std.proofs.Common.{◌≡◌, ℕ, zero, suc, ◌<◌, Bool, true, List, refl, sym, ◌∙◌, arith}
use Rattle.tab_key.specs.Bytes.{bytes_cmp}
use Rattle.tab_label.specs.Sets.{set_of}
use Rattle.tab_label.proofs.SetLemmas.{set_is}
use Rattle.tab_image.specs.Conditions.{rises}
use Rattle.tab_image.proofs.Rising.{bytes_rise}
use Rattle.std.specs.Prelude.{if◌then◌else◌}
use Rattle.tab_policy.specs.declared.permission.SystemPermission.{SystemPermission}
use Rattle.tab_policy.specs.declared.permission.SystemPermission.TheVariants as system
use Rattle.tab_policy.specs.declared.permission.TablePermission.{TablePermission}
use Rattle.tab_policy.specs.declared.permission.TablePermission.TheVariants as table
use Rattle.tab_policy.specs.declared.sets.SystemPermissions.{SystemPermissions}
use Rattle.tab_policy.specs.declared.sets.TablePermissions.{TablePermissions}
use Rattle.tab_policy.specs.Permissions.{same_system, same_table}
use Rattle.tab_policy.specs.Sets.{system_contains, table_contains}
use Rattle.tab_rules.specs.Constraints.{constraint_set_of}
use Rattle.tab_codec.specs.Parts.{constraints_in}

-- one set is the other with this member, or without it
abbrev pub SystemStep : SystemPermission → Bool → SystemPermissions → SystemPermissions → Type 0
SystemStep q held s t = (p : SystemPermission) → system_contains t p ≡ (if same_system q p then held else system_contains s p)

pub system_steps : (n a b c d e f g r : SystemPermissions) (h0 h1 h2 h3 h4 h5 h6 h7 : Bool) → SystemStep system.Grant h0 n a → SystemStep system.CreateTable h1 a b → SystemStep system.DropTable h2 b c → SystemStep system.AlterTable h3 c d
    → SystemStep system.CreateUser h4 d e → SystemStep system.DropUser h5 e f → SystemStep system.AlterUser h6 f g → SystemStep system.System h7 g r
    → r ≡ record { grant = h0; create_table = h1; drop_table = h2; alter_table = h3; create_user = h4; drop_user = h5; alter_user = h6; system = h7 }
system_steps n a b c d e f g r h0 h1 h2 h3 h4 h5 h6 h7 s0 s1 s2 s3 s4 s5 s6 s7 = λ i. record {
  grant = (s7 system.Grant ∙ s6 system.Grant ∙ s5 system.Grant ∙ s4 system.Grant ∙ s3 system.Grant ∙ s2 system.Grant ∙ s1 system.Grant ∙ s0 system.Grant) i;
  create_table = (s7 system.CreateTable ∙ s6 system.CreateTable ∙ s5 system.CreateTable ∙ s4 system.CreateTable ∙ s3 system.CreateTable ∙ s2 system.CreateTable ∙ s1 system.CreateTable) i;
  drop_table = (s7 system.DropTable ∙ s6 system.DropTable ∙ s5 system.DropTable ∙ s4 system.DropTable ∙ s3 system.DropTable ∙ s2 system.DropTable) i;
  alter_table = (s7 system.AlterTable ∙ s6 system.AlterTable ∙ s5 system.AlterTable ∙ s4 system.AlterTable ∙ s3 system.AlterTable) i;
  create_user = (s7 system.CreateUser ∙ s6 system.CreateUser ∙ s5 system.CreateUser ∙ s4 system.CreateUser) i;
  drop_user = (s7 system.DropUser ∙ s6 system.DropUser ∙ s5 system.DropUser) i;
  alter_user = (s7 system.AlterUser ∙ s6 system.AlterUser) i;
  system = s7 system.System i;
}

abbrev pub TableStep : TablePermission → Bool → TablePermissions → TablePermissions → Type 0
TableStep q held s t = (p : TablePermission) → table_contains t p ≡ (if same_table q p then held else table_contains s p)

pub table_steps : (n a b c d r : TablePermissions) (h0 h1 h2 h3 h4 : Bool) → TableStep table.Read h0 n a → TableStep table.Write h1 a b → TableStep table.AlterTable h2 b c → TableStep table.Grant h3 c d → TableStep table.DropTable h4 d r
    → r ≡ record { read = h0; write = h1; alter_table = h2; grant = h3; drop_table = h4 }
table_steps n a b c d r h0 h1 h2 h3 h4 s0 s1 s2 s3 s4 = λ i. record {
  read = (s4 table.Read ∙ s3 table.Read ∙ s2 table.Read ∙ s1 table.Read ∙ s0 table.Read) i;
  write = (s4 table.Write ∙ s3 table.Write ∙ s2 table.Write ∙ s1 table.Write) i;
  alter_table = (s4 table.AlterTable ∙ s3 table.AlterTable ∙ s2 table.AlterTable) i;
  grant = (s4 table.Grant ∙ s3 table.Grant) i;
  drop_table = s4 table.DropTable i;
}

-- constraints by their bits are a set in its one form
pub constraints_one_form : (n : ℕ) → n < 16 → constraint_set_of (constraints_in n) ≡ constraints_in n
constraints_one_form zero lt = refl
constraints_one_form (suc zero) lt = refl
constraints_one_form (suc (suc zero)) lt = refl
constraints_one_form (suc (suc (suc zero))) lt = refl
constraints_one_form (suc (suc (suc (suc zero)))) lt = refl
constraints_one_form (suc (suc (suc (suc (suc zero))))) lt = refl
constraints_one_form (suc (suc (suc (suc (suc (suc zero)))))) lt = refl
constraints_one_form (suc (suc (suc (suc (suc (suc (suc zero))))))) lt = refl
constraints_one_form (suc (suc (suc (suc (suc (suc (suc (suc zero)))))))) lt = refl
constraints_one_form (suc (suc (suc (suc (suc (suc (suc (suc (suc zero))))))))) lt = refl
constraints_one_form (suc (suc (suc (suc (suc (suc (suc (suc (suc (suc zero)))))))))) lt = refl
constraints_one_form (suc (suc (suc (suc (suc (suc (suc (suc (suc (suc (suc zero))))))))))) lt = refl
constraints_one_form (suc (suc (suc (suc (suc (suc (suc (suc (suc (suc (suc (suc zero)))))))))))) lt = refl
constraints_one_form (suc (suc (suc (suc (suc (suc (suc (suc (suc (suc (suc (suc (suc zero))))))))))))) lt = refl
constraints_one_form (suc (suc (suc (suc (suc (suc (suc (suc (suc (suc (suc (suc (suc (suc zero)))))))))))))) lt = refl
constraints_one_form (suc (suc (suc (suc (suc (suc (suc (suc (suc (suc (suc (suc (suc (suc (suc zero))))))))))))))) lt = refl
constraints_one_form (suc (suc (suc (suc (suc (suc (suc (suc (suc (suc (suc (suc (suc (suc (suc (suc n)))))))))))))))) lt = absurd (omega (arith, lt))

-- what rises is a set in its one form
pub rising_one_form : (texts : List (List ℕ)) → rises bytes_cmp texts ≡ true → set_of texts ≡ texts
rising_one_form texts up = sym (set_is texts texts ((bytes_rise texts).0 up) (λ t. (λ h. h, λ h. h)))

pub ruleset sets = (rising_one_form)
