-- For proofs. The parts of what stands between quotes, in the code.
use Rattle.std.specs.Prelude.{ℕ, List, ◌∷◌}
use Rattle.std.specs.List.{flat_map}
use Rattle.tab_accumulo.specs.Words.{shell_bytes, term_bytes}
use Rattle.tab_accumulo.specs.declared.quoting.QuotedPart.{QuotedPart}
use Rattle.tab_accumulo.specs.declared.quoting.QuotedPart.TheVariants.{Fixed, Bytes, Term, Later}

abbrev pub quoted_part : QuotedPart → List ℕ
quoted_part (Fixed fixed) = fixed.now
quoted_part (Bytes bytes) = shell_bytes bytes.now
quoted_part (Term term) = term_bytes term.now
quoted_part (Later terms) = flat_map (λ v. 44 ∷ term_bytes v.items) terms.now
