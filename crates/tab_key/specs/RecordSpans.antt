-- For proofs. Where the parts of records lie in a body of bytes.
use Rattle.std.specs.Prelude.{ℕ, List, ◌++◌, ◌≤◌, length}
use Rattle.std.specs.List.{slice_range}
use Rattle.tab_key.specs.Records as view
use Rattle.tab_key.specs.declared.record_span.RecordSpan.{RecordSpan}

-- the record whose parts lie there
abbrev pub record_in : List ℕ → RecordSpan → view.Record
record_in body p = record {
  key = record {
    row = slice_range body p.start p.row_end;
    family = slice_range body p.row_end p.family_end;
    qualifier = slice_range body p.family_end p.qualifier_end;
    label = slice_range body p.qualifier_end p.label_end;
    timestamp = p.timestamp;
  };
  kind = p.kind;
  value = slice_range body p.label_end p.end;
  seq = p.seq;
  idx = p.idx;
}

-- the parts lie one after another, in the body
pub record IsWithin (body : List ℕ) (p : RecordSpan) : Type 0 where
  pub row : p.start ≤ p.row_end
  pub family : p.row_end ≤ p.family_end
  pub qualifier : p.family_end ≤ p.qualifier_end
  pub label : p.qualifier_end ≤ p.label_end
  pub value : p.label_end ≤ p.end
  pub whole : p.end ≤ length body

-- the parts of a record, one after another
abbrev pub packed : view.Record → List ℕ
packed r = r.key.row ++ r.key.family ++ r.key.qualifier ++ r.key.label ++ r.value
