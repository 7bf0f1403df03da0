-- The sources up to here have sought.
use Rattle.std.proofs.Common.{◌≡◌, ℕ, ◌<◌, [], map, get_or}
use Rattle.tab_key.specs.KeyOf.{key_of}
use Rattle.tab_iter.specs.Lists.{from_key}
use Rattle.tab_iter.proofs.merging.seek_all.Given as goal

abbrev pub invariant-loop-i : goal.invariant-loop-i
invariant-loop-i g l = record {
  whole : map g.S.Source.whole l.sources ≡ map g.S.Source.whole l.initial.sources;
  rest : (k : ℕ) → k < l.i → get_or (map g.S.Source.rest l.sources) k [] ≡ from_key (key_of l.key) (get_or (map g.S.Source.whole l.initial.sources) k []);
}
