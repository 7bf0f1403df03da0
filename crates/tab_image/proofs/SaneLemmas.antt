-- The tests of records and labels.
use Rattle.std.proofs.Common.{◌≡◌, ◌∙◌, sym, inl, inr, ℕ, suc, ◌<◌, Bool, List, [], ◌∷◌, length, drop, get_or, refl, ap, drop-cons, Result, Ok, Err}
use Rattle.std.specs.Prelude.{is_ok, ◌&&◌}
use Rattle.std.specs.List.{list_all}
use Rattle.tab_key.specs.Records.{Record}
use Rattle.tab_mem.specs.Lists.{HasShortParts}
use Rattle.tab_label.specs.Holding.{judged, read_judged}
use Rattle.tab_label.specs.Reading.{label_of}
use Rattle.tab_label.specs.Grammar.{Label}
use Rattle.tab_image.specs.Conditions.{is_accepted, is_sane_record}
use Rattle.tab_image.proofs.SaneLaw.{short_record_decides}

-- a text is judged exactly where it is a label
pub judges : (text : List ℕ) (auths : List (List ℕ)) → is_ok (judged text auths) ≡ is_ok (label_of text)
judges text auths = go (label_of text)
  where
    go : (r : Result Label ℕ) → is_ok (read_judged r auths) ≡ is_ok r
    go (Ok l) = refl
    go (Err n) = refl

-- what passes is passed over
pub all_behind : {A : Type 0} (p : A → Bool) (xs : List A) (i : ℕ) (d : A) → i < length xs → list_all p (drop i xs) ≡ (p (get_or xs i d) && list_all p (drop (suc i) xs))
all_behind p xs i d lt = ap (list_all p) (drop-cons xs i d lt)

-- of records without a part that is too long the other conditions decide
pub short_accepted : (next : ℕ) (us : List Record) → HasShortParts us → list_all (is_accepted next) us ≡ list_all (is_sane_record next) us
short_accepted next [] short = refl
short_accepted next (u ∷ us) short =
    ap (λ b. is_accepted next u && b) (short_accepted next us (λ v h. short v (inr h)))
    ∙ ap (λ b. (b && is_accepted next u) && list_all (is_sane_record next) us) (sym ((short_record_decides u).1 (short u (inl refl))))
