-- Rising lists of names, and lists of rights that rise by name: two that say the same are one.
use Rattle.std.proofs.Common.{◌≡◌, ℕ, Bool, true, false, cond, ◌&&◌, ◌||◌, List, [], ◌∷◌, map, refl, sym, ap, ◌∙◌, subst}
use Rattle.std.specs.Prelude.{filter, bytes_eq}
use Rattle.std.specs.List.{AllByRecursion, list_any}
use Rattle.std.specs.List.Sorted.{IsStrictlySortedBy}
use Rattle.std.specs.Ordering.{is_eq, ordering_reverse}
use Rattle.std.specs.declared.cmp.Ordering.TheVariants.{Less, Greater}
use Rattle.std.specs.Cmp.Lexicographic.{nat_list_cmp_total}
use Rattle.std.proofs.lemmas.Slice.Eq.{bytes_eq-Decides}
use mathlib.Core.Bool.{true≢false}
use Rattle.tab_key.specs.Bytes.{bytes_cmp}
use Rattle.tab_label.specs.Sets.{IsRising, has}
use Rattle.tab_policy.specs.declared.permission.TablePermission.{TablePermission}
use Rattle.tab_policy.specs.declared.permission.TablePermission.TheVariants as table
use Rattle.tab_policy.specs.declared.sets.TablePermissions.{TablePermissions}
use Rattle.tab_policy.specs.Permissions.{all_table}
use Rattle.tab_policy.specs.Sets.{table_contains}
use Rattle.tab_policy.specs.Holders.{AreUsers, has_any}
use Rattle.tab_policy.specs.State.{State, table_granted}
use Rattle.tab_policy.proofs.NameLemmas.{same_name}
use Rattle.tab_image.specs.declared.table.ImageRight.{ImageRight}
use Rattle.tab_saving.specs.ImageOf.{right_of, rights_of, image_with}
use Rattle.tab_saving.specs.OneImage.{OneImageEach}
use Rattle.tab_saving.proofs.Granted.{among, rights_read}

-- ---- names in their order
pub itself : (n : List ℕ) → bytes_eq n n ≡ true
itself n = (bytes_eq-Decides n n).1 refl

flipped : (a b : List ℕ) → bytes_eq a b ≡ false → bytes_eq b a ≡ false
flipped a b e = go (bytes_eq b a) refl
  where
    go : (v : Bool) → bytes_eq b a ≡ v → v ≡ false
    go false f = refl
    go true f = absurd (true≢false (sym ((bytes_eq-Decides a b).1 (sym ((bytes_eq-Decides b a).0 f))) ∙ e))

Less-not_equal : is_eq Less ≡ true → ⊥
Less-not_equal e = cc

Greater-not_Less : Greater ≡ Less → ⊥
Greater-not_Less e = cc

pub not_below_itself : (n : List ℕ) → bytes_cmp n n ≡ Less → ⊥
not_below_itself n e = Less-not_equal (sym (ap is_eq e) ∙ same_name n n ∙ itself n)

not_both : (m n : List ℕ) → bytes_cmp m n ≡ Less → bytes_cmp n m ≡ Less → ⊥
not_both m n p q = Greater-not_Less (sym (nat_list_cmp_total.antisymm m n ∙ ap ordering_reverse q) ∙ p)

-- what holds of each holds of the member
pub all_has : (P : List ℕ → Type 0) (xs : List (List ℕ)) → AllByRecursion P xs → (n : List ℕ) → has xs n ≡ true → P n
all_has P [] a n h = absurd (true≢false (sym h))
all_has P (x ∷ xs) a n h = go (all_has P xs a.1 n) (bytes_eq n x) refl h
  where
    go : (has xs n ≡ true → P n) → (v : Bool) → bytes_eq n x ≡ v → (v || has xs n) ≡ true → P n
    go rest true e h = subst P (sym ((bytes_eq-Decides n x).0 e)) a.0
    go rest false e h = rest h

-- what is below all of them is none of them
none_below : (x : List ℕ) (xs : List (List ℕ)) → AllByRecursion (λ y. bytes_cmp x y ≡ Less) xs → has xs x ≡ false
none_below x xs a = go (has xs x) refl
  where
    go : (v : Bool) → has xs x ≡ v → v ≡ false
    go false e = refl
    go true e = absurd (not_below_itself x (all_has (λ y. bytes_cmp x y ≡ Less) xs a x e))

pub first_there : (x : List ℕ) (xs : List (List ℕ)) → has (x ∷ xs) x ≡ true
first_there x xs = ap (λ v. v || has xs x) (itself x)

later_there : (x n : List ℕ) (xs : List (List ℕ)) → bytes_eq n x ≡ false → has (x ∷ xs) n ≡ true → has xs n ≡ true
later_there x n xs e h = sym (ap (λ v. v || has xs n) e) ∙ h

pub same_names : (xs ys : List (List ℕ)) → IsRising xs → IsRising ys → ((n : List ℕ) → has xs n ≡ has ys n) → xs ≡ ys
unfolding IsStrictlySortedBy
same_names [] [] r s e = refl
same_names [] (y ∷ ys) r s e = absurd (true≢false (sym (e y ∙ first_there y ys)))
same_names (x ∷ xs) [] r s e = absurd (true≢false (sym (first_there x xs) ∙ e x))
same_names (x ∷ xs) (y ∷ ys) r s e = λ i. heads i ∷ same_names xs ys r.1 s.1 tails i
  where
    heads_by : (v : Bool) → bytes_eq x y ≡ v → x ≡ y
    heads_by true f = (bytes_eq-Decides x y).0 f
    heads_by false f =
        let up : bytes_cmp y x ≡ Less = all_has (λ z. bytes_cmp y z ≡ Less) ys s.0 x (later_there y x ys f (sym (e x) ∙ first_there x xs)) in
        let down : bytes_cmp x y ≡ Less = all_has (λ z. bytes_cmp x z ≡ Less) xs r.0 y (later_there x y xs (flipped x y f) (e y ∙ first_there y ys)) in
        absurd (not_both x y down up)

    heads : x ≡ y
    heads = heads_by (bytes_eq x y) refl

    tails_by : (n : List ℕ) (v : Bool) → bytes_eq n x ≡ v → has xs n ≡ has ys n
    tails_by n true f =
        let is : n ≡ x = (bytes_eq-Decides n x).0 f in
        ap (has xs) is ∙ none_below x xs r.0 ∙ sym (ap (has ys) (is ∙ heads) ∙ none_below y ys s.0)
    tails_by n false f = sym (ap (λ v. v || has xs n) f) ∙ e n ∙ ap (λ v. v || has ys n) (ap (bytes_eq n) (sym heads) ∙ f)

    tails : (n : List ℕ) → has xs n ≡ has ys n
    tails n = tails_by n (bytes_eq n x) refl

-- ---- rights
abbrev pub users_of : List ImageRight → List (List ℕ)
users_of rights = map (λ (r : ImageRight). r.user) rights

abbrev pub AreSome : List ImageRight → Type 0
AreSome rights = AllByRecursion (λ (r : ImageRight). has_any r.held ≡ true) rights

four : (a b c d : Bool) → ((a || b) || (c || d)) ≡ ((a || c) || (b || d))
four true b c d = refl
four false true true d = refl
four false true false d = refl
four false false c d = refl

spread : (b : Bool) (f g : TablePermission → Bool) (ps : List TablePermission) → list_any (λ p. (b && f p) || g p) ps ≡ ((b && list_any f ps) || list_any g ps)
spread true f g [] = refl
spread false f g [] = refl
spread true f g (p ∷ ps) = ap (λ v. (f p || g p) || v) (spread true f g ps) ∙ four (f p) (g p) (list_any f ps) (list_any g ps)
spread false f g (p ∷ ps) = ap (λ v. g p || v) (spread false f g ps)

and_true : (b : Bool) → (b && true) ≡ b
and_true true = refl
and_true false = refl

or_false : (b : Bool) → (b || false) ≡ b
or_false true = refl
or_false false = refl

-- whoever is named holds something
named : (rights : List ImageRight) → AreSome rights → (n : List ℕ) → has (users_of rights) n ≡ list_any (among rights n) all_table
named [] a n = refl
named (r ∷ rs) a n =
    ap (λ v. bytes_eq n r.user || v) (named rs a.1 n)
    ∙ ap (λ v. v || list_any (among rs n) all_table) (sym (ap (λ v. bytes_eq n r.user && v) a.0 ∙ and_true (bytes_eq n r.user)))
    ∙ sym (spread (bytes_eq n r.user) (table_contains r.held) (among rs n) all_table)

not_named : (rights : List ImageRight) (n : List ℕ) (p : TablePermission) → has (users_of rights) n ≡ false → among rights n p ≡ false
not_named [] n p h = refl
not_named (r ∷ rs) n p h = go (not_named rs n p) (bytes_eq n r.user) h
  where
    go : (has (users_of rs) n ≡ false → among rs n p ≡ false) → (v : Bool) → (v || has (users_of rs) n) ≡ false → ((v && table_contains r.held p) || among rs n p) ≡ false
    go rest true h = absurd (true≢false h)
    go rest false h = rest h

-- what the first holds, if none behind it has his name
first_holds : (r : ImageRight) (rs : List ImageRight) (n : List ℕ) (p : TablePermission) → bytes_eq n r.user ≡ true → has (users_of rs) n ≡ false → among (r ∷ rs) n p ≡ table_contains r.held p
first_holds r rs n p is none = (λ i. (is i && table_contains r.held p) || not_named rs n p none i) ∙ or_false (table_contains r.held p)

same_held : (s t : TablePermissions) → ((p : TablePermission) → table_contains s p ≡ table_contains t p) → s ≡ t
same_held s t e = λ i. record { read = e table.Read i; write = e table.Write i; alter_table = e table.AlterTable i; grant = e table.Grant i; drop_table = e table.DropTable i }

first_user : (x y : ImageRight) (xs ys : List ImageRight) → users_of (x ∷ xs) ≡ users_of (y ∷ ys) → x.user ≡ y.user
first_user x y xs ys e = cc

other_users : (x y : ImageRight) (xs ys : List ImageRight) → users_of (x ∷ xs) ≡ users_of (y ∷ ys) → users_of xs ≡ users_of ys
other_users x y xs ys e = cc

of_same_users : (xs ys : List ImageRight) → users_of xs ≡ users_of ys → IsRising (users_of xs) → IsRising (users_of ys) → ((n : List ℕ) (p : TablePermission) → among xs n p ≡ among ys n p) → xs ≡ ys
unfolding IsStrictlySortedBy
of_same_users [] [] u r s e = refl
of_same_users [] (y ∷ ys) u r s e = absurd (cc)
of_same_users (x ∷ xs) [] u r s e = absurd (cc)
of_same_users (x ∷ xs) (y ∷ ys) u r s e = λ i. record { user = user i; held = held i } ∷ of_same_users xs ys (other_users x y xs ys u) r.1 s.1 tails i
  where
    user : x.user ≡ y.user
    user = first_user x y xs ys u

    alone : has (users_of xs) x.user ≡ false
    alone = none_below x.user (users_of xs) r.0

    also_alone : has (users_of ys) x.user ≡ false
    also_alone = ap (has (users_of ys)) user ∙ none_below y.user (users_of ys) s.0

    held : x.held ≡ y.held
    held = same_held x.held y.held (λ p. sym (first_holds x xs x.user p (itself x.user) alone) ∙ e x.user p ∙ first_holds y ys x.user p (ap (bytes_eq x.user) (sym user) ∙ itself x.user) also_alone)

    tails_by : (n : List ℕ) (p : TablePermission) (v : Bool) → bytes_eq n x.user ≡ v → among xs n p ≡ among ys n p
    tails_by n p true f =
        let is : n ≡ x.user = (bytes_eq-Decides n x.user).0 f in
        not_named xs n p (ap (has (users_of xs)) is ∙ alone) ∙ sym (not_named ys n p (ap (has (users_of ys)) is ∙ also_alone))
    tails_by n p false f =
        sym (ap (λ v. (v && table_contains x.held p) || among xs n p) f) ∙ e n p ∙ ap (λ v. (v && table_contains y.held p) || among ys n p) (ap (bytes_eq n) (sym user) ∙ f)

    tails : (n : List ℕ) (p : TablePermission) → among xs n p ≡ among ys n p
    tails n p = tails_by n p (bytes_eq n x.user) refl

any_same : (f g : TablePermission → Bool) → ((p : TablePermission) → f p ≡ g p) → (ps : List TablePermission) → list_any f ps ≡ list_any g ps
any_same f g same [] = refl
any_same f g same (p ∷ ps) = λ i. same p i || any_same f g same ps i

same_rights : (xs ys : List ImageRight) → IsRising (users_of xs) → IsRising (users_of ys) → AreSome xs → AreSome ys → ((n : List ℕ) (p : TablePermission) → among xs n p ≡ among ys n p) → xs ≡ ys
same_rights xs ys r s a b e = of_same_users xs ys (same_names (users_of xs) (users_of ys) r s (λ n. named xs a n ∙ any_same (among xs n) (among ys n) (e n) all_table ∙ sym (named ys b n))) r s e

-- ---- the rights that an image has
filter_some : (xs : List ImageRight) → AreSome (filter (λ (r : ImageRight). has_any r.held) xs)
filter_some [] = tt
filter_some (x ∷ xs) = go (has_any x.held) refl (filter_some xs)
  where
    go : (v : Bool) → has_any x.held ≡ v → AreSome (filter (λ (r : ImageRight). has_any r.held) xs) → AreSome (cond v (x ∷ filter (λ (r : ImageRight). has_any r.held) xs) (filter (λ (r : ImageRight). has_any r.held) xs))
    go true e rest = (e, rest)
    go false e rest = rest

module _ (s : State) (t : List ℕ) where
  pub all_users : (P : List ℕ → Type 0) (ns : List (List ℕ)) → AllByRecursion P ns → AllByRecursion P (users_of (rights_of s ns t))
  all_users P [] a = tt
  all_users P (n ∷ ns) a = go (has_any (right_of s t n).held) (all_users P ns a.1)
    where
      go : (v : Bool) → AllByRecursion P (users_of (rights_of s ns t)) → AllByRecursion P (users_of (cond v (right_of s t n ∷ rights_of s ns t) (rights_of s ns t)))
      go true rest = (a.0, rest)
      go false rest = rest

  pub rights_rise : (ns : List (List ℕ)) → IsRising ns → IsRising (users_of (rights_of s ns t))
  unfolding IsStrictlySortedBy
  rights_rise [] r = tt
  rights_rise (n ∷ ns) r = go (has_any (right_of s t n).held) (rights_rise ns r.1)
    where
      go : (v : Bool) → IsRising (users_of (rights_of s ns t)) → IsRising (users_of (cond v (right_of s t n ∷ rights_of s ns t) (rights_of s ns t)))
      go true rest = (all_users (λ m. bytes_cmp n m ≡ Less) ns r.0, rest)
      go false rest = rest

  pub rights_some : (ns : List (List ℕ)) → AreSome (rights_of s ns t)
  rights_some ns = filter_some (map (right_of s t) ns)

  -- a rising list of all who hold anything, with all that they hold, is that of the image
  pub rights_are : (ns : List (List ℕ)) → AreUsers s ns → (rights : List ImageRight) → IsRising (users_of rights) → AreSome rights → ((n : List ℕ) (p : TablePermission) → among rights n p ≡ table_granted s n p t) → rights ≡ rights_of s ns t
  rights_are ns users rights r a e = same_rights rights (rights_of s ns t) r (rights_rise ns users.rising) a (rights_some ns) (λ n p. e n p ∙ sym (rights_read s ns users t n p))

-- ---- a core has one image
pub one_image_each : OneImageEach
one_image_each h image other of also =
    of.says ∙ ap (image_with h) (same_names of.names also.names of.users.rising also.users.rising (λ n. of.users.all n ∙ sym (also.users.all n))) ∙ sym also.says
