-- What is done to a table that was lent, or to none.
use Rattle.std.proofs.Common.{◌≡◌, ℕ, List, Bool, true, false, cond, Some, None, refl, sym, ap, ◌∙◌, subst, length, Option, OnSome, MutBor, Result}
use Rattle.std.specs.Prelude.{bytes_eq, OnOk, OnErr}
use Rattle.std.specs.Option.{option_map, option_copied_mut}
use Rattle.std.proofs.lemmas.Result.{on_ok_weaker, on_err_weaker}
use Rattle.std.proofs.lemmas.Slice.Eq.{bytes_eq-Decides}
use Rattle.tab_store.specs.Stores.{TableContents, RiseByName}
use Rattle.tab_store.specs.Tables.{TableState, table_at, changed_table}
use Rattle.tab_store.specs.Lending.{Leaves}

-- Of these tables the one of this name is what f makes of it, if it is there, and all others stay.
pub record Alters (t : List ℕ) (f : TableState → TableState) (ts new : List TableContents) : Type 0 where
  pub names : RiseByName new
  pub count : length new ≡ length ts
  pub changed : (q : List ℕ) → table_at new q ≡ changed_table t f ts q

-- names that are the same have the same table
at_same : (ts : List TableContents) (t q : List ℕ) → bytes_eq t q ≡ true → table_at ts q ≡ table_at ts t
at_same ts t q same = sym (ap (table_at ts) ((bytes_eq-Decides t q).0 same))

-- there is none
pub alters_none : (t : List ℕ) (f : TableState → TableState) (ts new : List TableContents) → RiseByName ts → table_at ts t ≡ None → new ≡ ts → Alters t f ts new
alters_none t f ts new names none same = subst (Alters t f ts) (sym same) (record { names = names; count = refl; changed = λ q. go q (bytes_eq t q) refl })
  where
    go : (q : List ℕ) (b : Bool) → bytes_eq t q ≡ b → table_at ts q ≡ cond b (option_map f (table_at ts q)) (table_at ts q)
    go q true is = let missing : table_at ts q ≡ None = at_same ts t q is ∙ none in missing ∙ sym (ap (option_map f) missing)
    go q false is = refl

-- The table of this name was lent as it was, and is so now.
pub record Lent (t : List ℕ) (ts new : List TableContents) (was now : TableState) : Type 0 where
  pub had : table_at ts t ≡ Some was
  pub left : Leaves t ts now new

pub lent_so : (t : List ℕ) (ts new : List TableContents) (now : TableState) (r : Option (MutBor TableState)) (b : MutBor TableState) → option_copied_mut r ≡ table_at ts t → r ≡ Some b → OnSome r (Leaves t ts now new) → Lent t ts new b.now now
lent_so t ts new now r b value is left = record { had = sym value ∙ ap option_copied_mut is; left = subst (λ (o : Option (MutBor TableState)). OnSome o (Leaves t ts now new)) is left }

pub alters : {t : List ℕ} {ts new : List TableContents} {was now : TableState} (f : TableState → TableState) → Lent t ts new was now → now ≡ f was → Alters t f ts new
alters {t} {ts} {new} {was} {now} f lent is = record { names = lent.left.names; count = lent.left.count; changed = λ q. lent.left.tables q ∙ go q (bytes_eq t q) refl }
  where
    go : (q : List ℕ) (b : Bool) → bytes_eq t q ≡ b → cond b (Some now) (table_at ts q) ≡ cond b (option_map f (table_at ts q)) (table_at ts q)
    go q true same = ap Some is ∙ sym (ap (option_map f) (at_same ts t q same ∙ lent.had))
    go q false same = refl

-- where it is as it was
pub untouched : {t : List ℕ} {ts new : List TableContents} {was now : TableState} → Lent t ts new was now → now ≡ was → new ≡ ts
untouched lent same = lent.left.same (lent.had ∙ ap Some (sym same))

-- whether that was done or not
pub alters_ok : {T E : Type 0} {t : List ℕ} {ts new : List TableContents} {was now : TableState} (f : TableState → TableState) (done : Result T E) → Lent t ts new was now → OnOk done (now ≡ f was) → OnOk done (Alters t f ts new)
alters_ok f done lent ok = on_ok_weaker done (alters f lent) ok

pub untouched_err : {T E : Type 0} {t : List ℕ} {ts new : List TableContents} {was now : TableState} (done : Result T E) → Lent t ts new was now → OnErr done (now ≡ was) → OnErr done (new ≡ ts)
untouched_err done lent err = on_err_weaker done (untouched lent) err
