-- Groups whose rows stand before a bound's.
use Rattle.std.proofs.Common.{◌≡◌, ℕ, List, [], ◌∷◌, ◌++◌, true, false, cond, refl, sym, ◌∙◌, ap, append_assoc, append-nil}
use Rattle.std.specs.Ordering.{is_lt}
use Rattle.std.proofs.lemmas.List.Elements.{filter-append}
use Rattle.tab_key.specs.Bytes.{bytes_cmp}
use Rattle.tab_key.specs.Records.{Record}
use Rattle.tab_iter.specs.Bags.{flat}
use Rattle.tab_mem.specs.Groups.{row_of, HaveRow, IsOfOneRow}
use Rattle.tab_mem.specs.Parting.{row_below, before}
use Rattle.tab_mem.proofs.Spanned.{flat_more}

module _ (b : Record) (row : List ℕ) where
  all_below : (us : List Record) → HaveRow row us → is_lt (bytes_cmp row b.key.row) ≡ true → before b us ≡ us
  all_below [] a e = refl
  all_below (u ∷ us) a e =
      let here : row_below u b ≡ true = ap (λ r. is_lt (bytes_cmp r b.key.row)) a.0 ∙ e in
      ap (λ v. cond v (u ∷ before b us) (before b us)) here ∙ ap (λ l. u ∷ l) (all_below us a.1 e)

  none_below : (us : List Record) → HaveRow row us → is_lt (bytes_cmp row b.key.row) ≡ false → before b us ≡ []
  none_below [] a e = refl
  none_below (u ∷ us) a e =
      let here : row_below u b ≡ false = ap (λ r. is_lt (bytes_cmp r b.key.row)) a.0 ∙ e in
      ap (λ v. cond v (u ∷ before b us) (before b us)) here ∙ none_below us a.1 e

-- a group goes behind the others as a whole, or not at all
pub group_taken : (b : Record) (ws now : List (List Record)) (g : List Record) → IsOfOneRow g → is_lt (bytes_cmp (row_of g) b.key.row) ≡ true → now ≡ ws ++ g ∷ [] → flat now ≡ flat ws ++ before b g
group_taken b ws now g one e is = ap flat is ∙ flat_more ws g ∙ ap (λ l. flat ws ++ l) (sym (all_below b (row_of g) g one e))

pub group_left : (b : Record) (ws : List (List Record)) (g : List Record) → IsOfOneRow g → is_lt (bytes_cmp (row_of g) b.key.row) ≡ false → flat ws ≡ flat ws ++ before b g
group_left b ws g one e = sym (append-nil (flat ws)) ∙ ap (λ l. flat ws ++ l) (sym (none_below b (row_of g) g one e))

-- the first of those that are left
pub bounded_one : (b : Record) (ws now : List (List Record)) (g rest left all : List Record) → flat now ≡ flat ws ++ before b g → g ++ rest ≡ left → flat ws ++ before b left ≡ all → flat now ++ before b rest ≡ all
bounded_one b ws now g rest left all e f h =
    ap (λ l. l ++ before b rest) e
    ∙ append_assoc (flat ws) (before b g) (before b rest)
    ∙ ap (λ l. flat ws ++ l) (sym (filter-append (λ u. row_below u b) g rest) ∙ ap (before b) f)
    ∙ h

-- when none is left
pub bounded_all : (b : Record) (ws : List (List Record)) (left all : List Record) → left ≡ [] → flat ws ++ before b left ≡ all → flat ws ≡ all
bounded_all b ws left all none h = sym (append-nil (flat ws)) ∙ ap (λ l. flat ws ++ before b l) (sym none) ∙ h
