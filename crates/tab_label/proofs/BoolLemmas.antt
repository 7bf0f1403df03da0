-- Tests by '&&' and '||', taken apart and put together.
use Rattle.std.proofs.Common.{◌≡◌, ◌⊎◌, inl, inr, Bool, true, false, ◌&&◌, ◌||◌, refl, sym}

pub both : (p q : Bool) → (p && q) ≡ true → (p ≡ true) × (q ≡ true)
both true q h = (refl, h)
both false q h = absurd cc

pub either : (p q : Bool) → (p || q) ≡ true → (p ≡ true) ⊎ (q ≡ true)
either true q h = inl refl
either false q h = inr h

pub from_both : (p q : Bool) → p ≡ true → q ≡ true → (p && q) ≡ true
from_both true q h k = k
from_both false q h k = absurd cc

pub from_either : (p q : Bool) → (p ≡ true) ⊎ (q ≡ true) → (p || q) ≡ true
from_either true q h = refl
from_either false q (inl h) = absurd cc
from_either false q (inr h) = h

-- Two tests that are true together are one.
pub same_test : (p q : Bool) → (p ≡ true → q ≡ true) → (q ≡ true → p ≡ true) → p ≡ q
same_test true q f g = sym (f refl)
same_test false true f g = absurd (let e = g refl in cc)
same_test false false f g = refl
