-- For proofs. Updates in a body of bytes.
use Rattle.std.specs.Prelude.{ℕ, List, ◌≤◌, length}
use Rattle.std.specs.List.{slice_range}
use Rattle.tab_mutation.specs.Mutations.{Update}
use Rattle.tab_mutation.specs.declared.update_span.UpdateSpan.{UpdateSpan}

-- the update whose parts lie there
abbrev pub update_in : List ℕ → UpdateSpan → Update
update_in body p = record {
  kind = p.kind;
  family = slice_range body p.start p.family_end;
  qualifier = slice_range body p.family_end p.qualifier_end;
  label = slice_range body p.qualifier_end p.label_end;
  timestamp = p.timestamp;
  value = slice_range body p.label_end p.end;
}

-- the parts lie one after another, in the body
pub record IsWithin (body : List ℕ) (p : UpdateSpan) : Type 0 where
  pub family : p.start ≤ p.family_end
  pub qualifier : p.family_end ≤ p.qualifier_end
  pub label : p.qualifier_end ≤ p.label_end
  pub value : p.label_end ≤ p.end
  pub whole : p.end ≤ length body
