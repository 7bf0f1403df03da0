-- What is left where records are taken from the end.
use Rattle.std.proofs.Common.{◌≡◌, ◌<◌, ◌≤◌, ◌+◌, ◌*◌, ℕ, zero, suc, List, [], ◌∷◌, sym, subst, length, take, min, arith, get_or}
use Rattle.std.specs.List.{AllByRecursion}
use Rattle.std.proofs.lemmas.List.{get_or-take, length-take, take-map}
use Rattle.tab_key.specs.Encoding.{record_at, records_at, IsAt}
use Rattle.tab_key.specs.Records.{Record}
use Rattle.tab_key.specs.RowPrefix.{IsRowPrefix}
use Rattle.tab_iter.specs.Lists.{HasI64Timestamps}
use Rattle.tab_mem.specs.RowIndex.{IsRowIndex}
use Rattle.tab_mem.specs.Lists.{IsIndexed}
use Rattle.tab_mem.proofs.Parts.{part_timestamps}

-- the first n records have the first k numbers for their index
module _ (ns : List ℕ) (rs : List Record) (n k : ℕ) (most : n ≤ 16 * k) (least : 16 * k < n + 16) (h : IsRowIndex ns rs) where
  few_numbers : length (take k ns) ≡ min k (length ns)
  few_numbers = length-take k ns

  few_records : length (take n rs) ≡ min n (length rs)
  few_records = length-take n rs

  each : (j d : ℕ) (u : Record) → j < length (take k ns) → IsRowPrefix (get_or (take k ns) j d) (get_or (take n rs) (16 * j) u).key.row
  each j d u lt =
      let first : j < k = omega (arith, lt, few_numbers) in
      let low : j < length ns = omega (arith, lt, few_numbers) in
      let inside : 16 * j < n = omega (arith, first, least) in
      subst (λ (m : ℕ). IsRowPrefix m (get_or (take n rs) (16 * j) u).key.row) (sym (get_or-take k ns j d first))
      (subst (λ (v : Record). IsRowPrefix (get_or ns j d) v.key.row) (sym (get_or-take n rs (16 * j) u inside)) (h.each j d u low))

  pub fronts_cut : IsRowIndex (take k ns) (take n rs)
  fronts_cut = record {
    all = omega (arith, few_numbers, few_records, most, h.all);
    few = omega (arith, few_numbers, few_records, least, h.few);
    each = each;
  }

-- ---- their places in the body
each_take : {X : Type 0} (P : X → Type 0) (n : ℕ) (xs : List X) → AllByRecursion P xs → AllByRecursion P (take n xs)
each_take P zero xs a = tt
each_take P (suc n) [] a = tt
each_take P (suc n) (x ∷ xs) a = (a.0, each_take P n xs a.1)

pub records_cut : (body places : List ℕ) (n : ℕ) → records_at body (take n places) ≡ take n (records_at body places)
records_cut body places n = sym (take-map (record_at body) n places)

pub indexed_cut : (body places now before after : List ℕ) (n : ℕ) → now ≡ take n places → IsIndexed body places before → IsRowIndex after (take n (records_at body places)) → IsIndexed body now after
indexed_cut body places now before after n is h noted = subst (λ ps. IsIndexed body ps after) (sym is) (record {
  packed = record {
    at = each_take (IsAt body) n places h.packed.at;
    timestamps = subst HasI64Timestamps (sym (records_cut body places n)) (part_timestamps 0 n (records_at body places) h.packed.timestamps);
  };
  room = omega (arith, h.room, length-take n places);
  row_index = subst (IsRowIndex after) (sym (records_cut body places n)) noted;
})
