-- The holders that a policy lists, as the rights of an image.
use Rattle.std.proofs.Common.{◌≡◌, ℕ, ◌&&◌, ◌||◌, List, [], ◌∷◌, ◌++◌, map, true, refl, sym, ap, ◌∙◌, subst}
use Rattle.std.specs.Prelude.{bytes_eq}
use Rattle.std.specs.List.{AllByRecursion, flat_map}
use Rattle.std.proofs.lemmas.List.{length-map}
use Rattle.std.proofs.lemmas.List.Elements.{recursion_from_All}
use Rattle.tab_label.specs.Sets.{IsRising}
use Rattle.tab_policy.specs.declared.holder.Holder.{Holder}
use Rattle.tab_policy.specs.declared.permission.TablePermission.{TablePermission}
use Rattle.tab_policy.specs.Sets.{table_contains}
use Rattle.tab_policy.specs.Holders.{AreUsers, AreHolders, has_any, held_among}
use Rattle.tab_policy.specs.State.{State}
use Rattle.tab_image.specs.Spelling.{u32, counted, right_bytes}
use Rattle.tab_image.specs.declared.table.ImageRight.{ImageRight}
use Rattle.tab_saving.specs.ImageOf.{rights_of}
use Rattle.tab_saving.proofs.Granted.{among}
use Rattle.tab_saving.proofs.OneList.{users_of, AreSome, rights_are}

abbrev pub as_right : Holder → ImageRight
as_right h = record { user = h.user; held = h.held }

users_same : (hs : List Holder) → users_of (map as_right hs) ≡ map (λ (h : Holder). h.user) hs
users_same [] = refl
users_same (h ∷ hs) = ap (λ ns. h.user ∷ ns) (users_same hs)

among_same : (hs : List Holder) (n : List ℕ) (p : TablePermission) → among (map as_right hs) n p ≡ held_among hs n p
among_same [] n p = refl
among_same (h ∷ hs) n p = ap (λ b. (bytes_eq n h.user && table_contains h.held p) || b) (among_same hs n p)

some_same : (hs : List Holder) → AllByRecursion (λ (h : Holder). has_any h.held ≡ true) hs → AreSome (map as_right hs)
some_same [] a = tt
some_same (h ∷ hs) a = (a.0, some_same hs a.1)

-- they are the rights that the image has
pub holders_are : (s : State) (names : List (List ℕ)) (t : List ℕ) (hs : List Holder) → AreUsers s names → AreHolders s t hs → map as_right hs ≡ rights_of s names t
holders_are s names t hs users are = rights_are s t names users (map as_right hs) (subst IsRising (sym (users_same hs)) are.rising)
    (some_same hs (recursion_from_All (λ (h : Holder). has_any h.held ≡ true) hs are.some)) (λ n p. among_same hs n p ∙ are.all n p)

-- ---- texts of lists
each_map : {A B : Type 0} (part : B → List ℕ) (f : A → B) (xs : List A) → flat_map part (map f xs) ≡ flat_map (λ x. part (f x)) xs
each_map part f [] = refl
each_map part f (x ∷ xs) = ap (λ t. part (f x) ++ t) (each_map part f xs)

pub list_of_map : {A B : Type 0} (part : B → List ℕ) (f : A → B) (xs : List A) → counted part (map f xs) ≡ counted (λ x. part (f x)) xs
list_of_map part f xs = λ i. u32 (length-map xs f i) ++ each_map part f xs i

-- what is written of them is what is written of the rights
pub holders_written : (s : State) (names : List (List ℕ)) (t : List ℕ) (hs : List Holder) → AreUsers s names → AreHolders s t hs → counted (λ h. right_bytes (as_right h)) hs ≡ counted right_bytes (rights_of s names t)
holders_written s names t hs users are = sym (list_of_map right_bytes as_right hs) ∙ ap (counted right_bytes) (holders_are s names t hs users are)
