-- A bookmark at what a source has left brings back just that.
use Rattle.std.proofs.Common.{◌≡◌, inl, ℕ, List, [], ◌∷◌, ◌++◌, true, false, cond, refl, sym, ◌∙◌, ap, subst}
use Rattle.std.specs.Prelude.{Some, None}
use Rattle.std.specs.Ordering.{is_lt}
use Rattle.tab_key.specs.Order.{key_cmp, place_cmp, newer_cmp, stands_before}
use Rattle.tab_key.specs.Records.{Key, Record}
use Rattle.tab_key.proofs.Order.{not_before_itself}
use Rattle.tab_key.proofs.Rising.{is_less}
use Rattle.tab_iter.specs.Lists.{first_of, from_key, IsRising, IsEnd}
use Rattle.tab_cells.proofs.Lists.{by_bool, in_right}
use Rattle.tab_iter.proofs.ListLaws.{first_less, later_rises}
use Rattle.tab_session.specs.Bookmarks.{from_record}

-- the order of records doesn't read the value
same_place : (u r : Record) (v : List ℕ) → stands_before u (record r { value = v }) ≡ stands_before u r
unfolding place_cmp newer_cmp
same_place u r v = refl

pub stays_first : (r u : Record) (us : List Record) → stands_before u r ≡ false → from_record r (u ∷ us) ≡ u ∷ us
stays_first r u us e = ap (λ b. cond b (from_record r us) (u ∷ us)) e

pub passes_first : (r u : Record) (us : List Record) → stands_before u r ≡ true → from_record r (u ∷ us) ≡ from_record r us
passes_first r u us e = ap (λ b. cond b (from_record r us) (u ∷ us)) e

-- a place is found behind all that stands before it
behind : (r n : Record) (ps us : List Record) → ((u : Record) → stands_before u r ≡ stands_before u n) → IsRising (ps ++ n ∷ us) → from_record r (ps ++ n ∷ us) ≡ n ∷ us
behind r n [] us same up = stays_first r n us (same n ∙ not_before_itself n)
behind r n (p ∷ ps) us same up = passes_first r p (ps ++ n ∷ us) (same p ∙ ap is_lt (first_less p (ps ++ n ∷ us) up n (in_right ps (n ∷ us) n (inl refl)))) ∙ behind r n ps us same (later_rises p (ps ++ n ∷ us) up)

pub at_first : (r n : Record) (rest w : List Record) → r ≡ record n { value = [] } → Some n ≡ first_of rest → IsRising w → IsEnd rest w → from_record r w ≡ rest
at_first r n [] w e f up is = absurd (let bad : Some n ≡ None = f in cc)
at_first r n (u ∷ us) w e f up is =
    let first : n ≡ u = cc in
    let same : (v : Record) → stands_before v r ≡ stands_before v u = λ v. ap (stands_before v) e ∙ same_place v n [] ∙ ap (stands_before v) first in
    subst (λ l. from_record r l ≡ u ∷ us) is.whole (behind r u is.passed us same (subst IsRising (sym is.whole) up))

key_first : (u r : Record) → is_lt (key_cmp u.key r.key) ≡ true → stands_before u r ≡ true
unfolding place_cmp
key_first u r e = rw (is_less (key_cmp u.key r.key) e) refl

-- a seek to the key passes nothing that is ahead of the place
pub from_its_key : (r : Record) (w : List Record) → from_record r (from_key r.key w) ≡ from_record r w
from_its_key r [] = refl
from_its_key r (u ∷ us) = go (from_its_key r us)
  where
    go : from_record r (from_key r.key us) ≡ from_record r us → from_record r (from_key r.key (u ∷ us)) ≡ from_record r (u ∷ us)
    go ih = by_bool (is_lt (key_cmp u.key r.key))
        (λ e. ap (λ b. from_record r (cond b (from_key r.key us) (u ∷ us))) e ∙ ih ∙ sym (passes_first r u us (key_first u r e)))
        (λ e. ap (λ b. from_record r (cond b (from_key r.key us) (u ∷ us))) e)

pub sought : (r : Record) (k : Key) (w rest : List Record) → k ≡ r.key → rest ≡ from_key k w → from_record r rest ≡ from_record r w
sought r k w rest same e = ap (from_record r) (e ∙ ap (λ l. from_key l w) same) ∙ from_its_key r w
