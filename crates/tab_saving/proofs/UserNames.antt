-- The names of all users, as a set: each list of all users is it.
use Rattle.std.proofs.Common.{◌≡◌, ℕ, ◌||◌, List, [], ◌∷◌, length, refl, sym, ap, ◌∙◌, subst}
use Rattle.std.specs.List.{list_any}
use Rattle.std.specs.Map.{keys_of}
use Rattle.std.specs.Ordering.{is_eq}
use Rattle.std.proofs.lemmas.Map.Made.{is_some-lookup}
use Rattle.tab_key.specs.Bytes.{bytes_cmp}
use Rattle.tab_label.specs.Sets.{IsRising, has}
use Rattle.tab_label.proofs.SetLemmas.{rising_set, has_set_of}
use Rattle.tab_policy.specs.Holders.{AreUsers}
use Rattle.tab_policy.specs.State.{State, user_exists}
use Rattle.tab_policy.proofs.NameLemmas.{same_name}
use Rattle.tab_store.specs.Stores.{CoreContents}
use Rattle.tab_saving.specs.ImageOf.{user_names, HaveOwnNames, image_with, core_image, IsImageOf}
use Rattle.tab_saving.specs.OneImage.{ImagesAreThis}
use Rattle.tab_saving.proofs.OneList.{same_names}

-- ---- the set
names_rise : (s : State) → IsRising (user_names s)
unfolding user_names
names_rise s = rising_set (keys_of s.users)

found : (ms : List (List ℕ)) (n : List ℕ) → has ms n ≡ list_any (λ m. is_eq (bytes_cmp n m)) ms
found [] n = refl
found (m ∷ ms) n = λ i. sym (same_name n m) i || found ms n i

named : (s : State) (n : List ℕ) → has (user_names s) n ≡ user_exists s n
unfolding user_names user_exists
named s n = has_set_of (keys_of s.users) n ∙ found (keys_of s.users) n ∙ sym (is_some-lookup (λ m. is_eq (bytes_cmp n m)) s.users)

-- a list of all users is the set of their names
pub names_are : (s : State) (names : List (List ℕ)) → AreUsers s names → names ≡ user_names s
names_are s names users = same_names names (user_names s) users.rising (names_rise s) (λ n. users.all n ∙ sym (named s n))

-- and the set is one, if no two users have one name
pub own_names : (s : State) → HaveOwnNames s → AreUsers s (user_names s)
own_names s own = record { rising = names_rise s; all = named s; count = own }

-- ---- the image
pub own_image : (h : CoreContents) → HaveOwnNames h.policy → IsImageOf h (core_image h)
own_image h own = record { names = user_names h.policy; users = own_names h.policy own; says = refl }

pub images_are_this : ImagesAreThis
images_are_this h image = (λ of. (is_this of, own of), λ both. subst (IsImageOf h) (sym both.0) (own_image h both.1))
  where
    is_this : IsImageOf h image → image ≡ core_image h
    is_this of = of.says ∙ ap (image_with h) (names_are h.policy of.names of.users)

    own : IsImageOf h image → HaveOwnNames h.policy
    own of = ap length (sym (names_are h.policy of.names of.users)) ∙ of.users.count
