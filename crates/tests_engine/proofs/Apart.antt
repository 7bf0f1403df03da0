-- Rising lists that share no place make one list of records at places of their own.
use Rattle.std.proofs.Common.{◌≡◌, ◌≢◌, ◌⊎◌, inl, inr, List, [], ◌∷◌, ◌++◌, Bool, true, not, sym, ◌∙◌, ap, subst, map}
use Rattle.std.specs.List.{list_all}
use Rattle.std.specs.Cmp.{first_so, second_so}
use Rattle.std.specs.Ordering.{is_eq}
use Rattle.std.specs.declared.cmp.Ordering.TheVariants.{Equal}
use mathlib.Core.Bool.{true≢false}
use Rattle.tab_key.specs.Order.{record_cmp}
use Rattle.tab_key.specs.Records.{Record}
use Rattle.tab_key.specs.Sorted.{IsDistinct, IsIn}
use Rattle.tab_cells.proofs.Lists.{in_append}
use Rattle.tab_cells.proofs.Rising.{rising_distinct}
use Rattle.tab_iter.specs.Lists.{IsRising}
use Rattle.tab_iter.proofs.BagLaws.{apart_join}
use Rattle.tab_iter.specs.Bags.{flat}

each_of : (p : Record → Bool) (xs : List Record) → list_all p xs ≡ true → (u : Record) → IsIn xs u → p u ≡ true
each_of p [] e u h = absurd h
each_of p (x ∷ xs) e u (inl s) = ap p (sym s) ∙ first_so (p x) (list_all p xs) e
each_of p (x ∷ xs) e u (inr h) = each_of p xs (second_so (p x) (list_all p xs) e) u h

pub apart_of : (xs ys : List Record) → list_all (λ x. list_all (λ y. not (is_eq (record_cmp x y))) ys) xs ≡ true → (x y : Record) → IsIn xs x → IsIn ys y → record_cmp x y ≢ Equal
apart_of xs ys e x y h k t = true≢false (sym (each_of (λ y. not (is_eq (record_cmp x y))) ys (each_of (λ x. list_all (λ y. not (is_eq (record_cmp x y))) ys) xs e x h) y k) ∙ ap (λ o. not (is_eq o)) t)

nothing_more : (xs : List Record) → IsDistinct xs → IsDistinct (xs ++ [])
nothing_more xs d = apart_join xs [] d tt (λ x y h k. absurd k)

pub lent_apart : (us vs xs ys : List Record) → us ≡ xs → vs ≡ ys → ((x y : Record) → IsIn us x → IsIn vs y → record_cmp x y ≢ Equal) → (x y : Record) → IsIn xs x → IsIn ys y → record_cmp x y ≢ Equal
lent_apart us vs xs ys a b f x y h k = f x y (subst (λ l. IsIn l x) (sym a) h) (subst (λ l. IsIn l y) (sym b) k)

-- three lists as the whole lists of three sources
pub three_distinct : {S : Type 0} (whole : S → List Record) (i0 i1 i2 items : List S) (s t v : S) (xs ys zs : List Record) → i0 ≡ [] → i1 ≡ i0 ++ s ∷ [] → i2 ≡ i1 ++ t ∷ [] → items ≡ i2 ++ v ∷ [] → whole s ≡ xs → whole t ≡ ys → whole v ≡ zs → IsRising xs → IsRising ys → IsRising zs → ((x y : Record) → IsIn xs x → IsIn ys y → record_cmp x y ≢ Equal) → ((x y : Record) → IsIn xs x → IsIn zs y → record_cmp x y ≢ Equal) → ((x y : Record) → IsIn ys x → IsIn zs y → record_cmp x y ≢ Equal) → IsDistinct (flat (map whole items))
three_distinct whole i0 i1 i2 items s t v xs ys zs e0 e1 e2 e3 a b c up vp wp xy xz yz =
    let is : items ≡ s ∷ t ∷ v ∷ [] = e3 ∙ ap (λ l. l ++ v ∷ []) (e2 ∙ ap (λ l. l ++ t ∷ []) (e1 ∙ ap (λ l. l ++ s ∷ []) e0)) in
    subst (λ l. IsDistinct (flat (map whole l))) (sym is) (subst IsDistinct (λ i. sym a i ++ (sym b i ++ (sym c i ++ []))) all)
  where
    later : IsDistinct (ys ++ (zs ++ []))
    later = apart_join ys (zs ++ []) (rising_distinct ys vp) (nothing_more zs (rising_distinct zs wp)) (λ x y h k. go x y h (in_append zs [] y k))
      where
        go : (x y : Record) → IsIn ys x → IsIn zs y ⊎ ⊥ → record_cmp x y ≢ Equal
        go x y h (inl k) = yz x y h k
        go x y h (inr k) = absurd k

    all : IsDistinct (xs ++ (ys ++ (zs ++ [])))
    all = apart_join xs (ys ++ (zs ++ [])) (rising_distinct xs up) later (λ x y h k. go x y h (in_append ys (zs ++ []) y k))
      where
        last : (x y : Record) → IsIn xs x → IsIn zs y ⊎ ⊥ → record_cmp x y ≢ Equal
        last x y h (inl k) = xz x y h k
        last x y h (inr k) = absurd k

        go : (x y : Record) → IsIn xs x → IsIn ys y ⊎ IsIn (zs ++ []) y → record_cmp x y ≢ Equal
        go x y h (inl k) = xy x y h k
        go x y h (inr k) = last x y h (in_append zs [] y k)
