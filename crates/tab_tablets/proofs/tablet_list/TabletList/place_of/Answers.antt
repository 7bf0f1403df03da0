use Rattle.std.proofs.Common.{◌≡◌, ◌∙◌, ◌+◌, ◌≤◌, List, [], ◌∷◌, ◌++◌, None, not, refl, sym, ap, subst, length, rules, ℕ}
use Rattle.std.specs.List.Sorted.{IsNonDecreasing}
use Rattle.std.proofs.lemmas.List.Sorted.{IsPartitionPoint-from_clause}
use Rattle.tab_tablet.specs.Tablets.{Tablet, is_up_to}
use Rattle.tab_tablets.specs.ByRow.{AreWhole}
use Rattle.tab_tablets.specs.EndPrefixes.{ArePrefixes}
use Rattle.tab_tablets.specs.Places.{ended, IsPlaceOf}
use Rattle.tab_tablets.proofs.EndPrefixes.{prefixes_rise, range_order, range_inside, parted_range, found_place}
use Rattle.tab_tablets.proofs.tablet_list.TabletList.place_of.Goals as goal

-- what is lent of a list is what the list holds
rises : (ps lent : List ℕ) (ts now : List Tablet) (x : Tablet) → lent ≡ ps → ts ++ x ∷ [] ≡ now → ArePrefixes ps ts → AreWhole now → IsNonDecreasing lent
rises ps lent ts now x e is h w = subst IsNonDecreasing (sym e) (prefixes_rise ps ts x h (subst AreWhole (sym is) w))

same : (ps one : List ℕ) (ts lent : List Tablet) → one ≡ ps → lent ≡ ts → ArePrefixes ps ts → ArePrefixes one lent
same ps one ts lent e f h = subst (λ (ns : List ℕ). ArePrefixes ns lent) (sym e) (subst (λ (ss : List Tablet). ArePrefixes ps ss) (sym f) h)

pub count_below-from-requires : goal.count_below-from-requires
count_below-from-requires c =
    rises c.self.inside.prefixes.items c.as_slice-prefixes.result.now c.self.inside.lower.items c.args.self.now (ended None c.self.inside.last) c.as_slice-prefixes.ensures.value c.self.view_is c.self.invariant c.requires

pub count_up_to-end-requires-clause-rising : goal.count_up_to-end-requires-clause-rising
count_up_to-end-requires-clause-rising c =
    rises c.self.inside.prefixes.items c.as_slice-prefixes.result.now c.self.inside.lower.items c.args.self.now (ended None c.self.inside.last) c.as_slice-prefixes.ensures.value c.self.view_is c.self.invariant c.requires

pub offset_bounds-deref-from : goal.offset_bounds-deref-from
offset_bounds-deref-from c =
    let own : ArePrefixes c.as_slice-prefixes.result.now c.deref.result.now = same c.self.inside.prefixes.items c.as_slice-prefixes.result.now c.self.inside.lower.items c.deref.result.now c.as_slice-prefixes.ensures.value c.deref.ensures.value c.self.invariant in
    let order : c.count_below-from.result ≤ c.count_up_to-end.result = range_order c.row_prefix-prefix.result c.as_slice-prefixes.result.now c.count_below-from.result c.count_up_to-end.result c.count_below-from.ensures c.count_up_to-end.ensures in
    let inside : c.count_up_to-end.result ≤ length c.deref.result.now = range_inside c.row_prefix-prefix.result c.as_slice-prefixes.result.now c.count_below-from.result c.count_up_to-end.result c.count_below-from.ensures c.count_up_to-end.ensures c.deref.result.now own in
    search rules

pub slice_bounds-alike-count : goal.slice_bounds-alike-count
slice_bounds-alike-count c = range_order c.row_prefix-prefix.result c.as_slice-prefixes.result.now c.count_below-from.result c.count_up_to-end.result c.count_below-from.ensures c.count_up_to-end.ensures

pub slice_bounds-alike-start : goal.slice_bounds-alike-start
slice_bounds-alike-start c =
    let order : c.count_below-from.result ≤ c.count_up_to-end.result = range_order c.row_prefix-prefix.result c.as_slice-prefixes.result.now c.count_below-from.result c.count_up_to-end.result c.count_below-from.ensures c.count_up_to-end.ensures in
    search rules

pub slice_bounds-alike-end : goal.slice_bounds-alike-end
slice_bounds-alike-end c =
    let own : ArePrefixes c.as_slice-prefixes.result.now c.deref.result.now = same c.self.inside.prefixes.items c.as_slice-prefixes.result.now c.self.inside.lower.items c.deref.result.now c.as_slice-prefixes.ensures.value c.deref.ensures.value c.self.invariant in
    let order : c.count_below-from.result ≤ c.count_up_to-end.result = range_order c.row_prefix-prefix.result c.as_slice-prefixes.result.now c.count_below-from.result c.count_up_to-end.result c.count_below-from.ensures c.count_up_to-end.ensures in
    let inside : c.count_up_to-end.result ≤ length c.deref.result.now = range_inside c.row_prefix-prefix.result c.as_slice-prefixes.result.now c.count_below-from.result c.count_up_to-end.result c.count_below-from.ensures c.count_up_to-end.ensures c.deref.result.now own in
    search rules

pub returns : goal.returns
returns c =
    let last : Tablet = ended None c.self.inside.last in
    let own : ArePrefixes c.as_slice-prefixes.result.now c.deref.result.now = same c.self.inside.prefixes.items c.as_slice-prefixes.result.now c.self.inside.lower.items c.deref.result.now c.as_slice-prefixes.ensures.value c.deref.ensures.value c.self.invariant in
    let is : c.deref.result.now ++ last ∷ [] ≡ c.args.self.now = ap (λ (l : List Tablet). l ++ last ∷ []) c.deref.ensures.value ∙ c.self.view_is in
    let whole : AreWhole (c.deref.result.now ++ last ∷ []) = subst AreWhole (sym is) c.requires in
    subst (λ (ts : List Tablet). IsPlaceOf c.args.row.now ts (c.count_below-from.result + c.partition_point.result)) is
    (found_place c.args.row.now c.row_prefix-prefix.result c.as_slice-prefixes.result.now c.deref.result.now c.row_prefix-prefix.ensures own c.count_below-from.result c.count_up_to-end.result c.count_below-from.ensures c.count_up_to-end.ensures c.partition_point.result
    (IsPartitionPoint-from_clause (λ (t : Tablet). not (is_up_to t.end c.args.row.now)) _ _ c.partition_point.ensures.partitioned (parted_range c.args.row.now c.deref.result.now last c.count_below-from.result c.count_up_to-end.result whole) (λ a r q k. search rules))
    last refl whole c.partition_point.ensures.bound)
