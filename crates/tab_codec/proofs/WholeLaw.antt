-- All parts are read exactly where they stand.
use Rattle.tab_codec.specs.Exactness.{PartsAreExact}
use Rattle.tab_codec.proofs.Exact.{exact_u8, exact_u16, exact_u32, exact_u64}
use Rattle.tab_codec.proofs.PartLaw.{exact_i64, exact_field, exact_name, exact_list}
use Rattle.tab_codec.proofs.TagLaw.{exact_bound, exact_bounds, exact_kind, exact_time, exact_versions, exact_constraints}

pub parts_are_exact : PartsAreExact
parts_are_exact = record {
  byte = exact_u8;
  u16 = exact_u16;
  u32 = exact_u32;
  u64 = exact_u64;
  i64 = exact_i64;
  field = exact_field;
  name = exact_name;
  list = exact_list;
  bound = exact_bound;
  bounds = exact_bounds;
  kind = exact_kind;
  time = exact_time;
  versions = exact_versions;
  constraints = exact_constraints;
}
