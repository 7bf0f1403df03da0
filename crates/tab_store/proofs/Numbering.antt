-- Each exact step leaves a core no two tablets with one number, as long as there are numbers.
use Rattle.std.proofs.Common.{◌≡◌, ◌⊎◌, inl, inr, ℕ, ◌+◌, ◌≤◌, ◌<◌, List, [], ◌∷◌, Bool, true, false, cond, ◌==◌, refl, sym, ◌∙◌, subst, arith}
use Rattle.std.specs.Prelude.{ℤ, Option, Some, None, bytes_eq}
use Rattle.std.specs.Cmp.Lexicographic.{bytes_decides}
use mathlib.Core.Bool.{true≢false}
use Rattle.tab_tablets.specs.Tablets.{Tablet, new_tablet, next_number}
use Rattle.tab_tablets.specs.Parts.{TabletMerge}
use Rattle.tab_tablets.proofs.Parted.{nat_same}
use Rattle.tab_history.specs.Checks.{Caller}
use Rattle.tab_history.specs.Answers.{Told, told, numbered, granted}
use Rattle.tab_history.specs.Legal.{takes_memory}
use Rattle.tab_history.specs.declared.event.Act.{Act}
use Rattle.tab_history.specs.declared.event.Act.TheVariants.{Open, Rights as AsksRights}
use Rattle.tab_history.specs.declared.event.Event.{Event}
use Rattle.tab_history.specs.declared.reply.Refusal.{Refusal}
use Rattle.tab_history.specs.declared.reply.Refusal.TheVariants.{NoMemory, TooLarge}
use Rattle.tab_history.specs.declared.reply.Reply.TheVariants.{Done, Refused}
use Rattle.tab_key.specs.declared.limited_part.LimitedPart.TheVariants.{Numbers}
use Rattle.tab_store.specs.Stores.{CoreContents, table_in, tablets_in}
use Rattle.tab_store.specs.Stepping.{TabletWork, Freezing, Writing, Compacting, Counting, Splitting, Halving, Listing, Beginning, Installing, TableWork, Aside, Making, Dropping, On, work_of, place_of, lays_in, told_by, laid_by, tablets_numbered, tablet_told, told_exactly, laid_exactly, laid_told, LaysExactly, now_at, plain_answer}
use Rattle.tab_store.specs.Numbers.{has_number, NumbersDiffer, AreNumbered, NumbersStay}
use Rattle.tab_store.proofs.Passed.{caller, refusal, spent}
use Rattle.tab_store.proofs.Numbered.{or_true, Renumbered, IsPlain, work_numbers}

-- ---- the next number
work_grows : (work : TableWork) (n : ℕ) → tablets_numbered work n < 18446744073709551615 → n ≤ tablets_numbered work n
work_grows Aside n lt = omega arith
work_grows (Making t) n lt = omega (arith, lt)
work_grows (Dropping t) n lt = omega arith
work_grows (On t (Splitting row)) n lt = omega (arith, lt)
work_grows (On t (Halving row limit)) n lt = omega (arith, lt)
work_grows (On t Freezing) n lt = omega arith
work_grows (On t (Writing m)) n lt = omega arith
work_grows (On t (Compacting kind)) n lt = omega arith
work_grows (On t Counting) n lt = omega arith
work_grows (On t Listing) n lt = omega arith
work_grows (On t (Beginning row kind)) n lt = omega arith
work_grows (On t (Installing given)) n lt = omega arith

le_itself : (n : ℕ) → n ≤ n
le_itself n = omega arith

grows : (r : Told) (work : TableWork) (n : ℕ) → tablet_told r work n < 18446744073709551615 → n ≤ tablet_told r work n
grows Done work n lt = work_grows work n lt
grows r work n lt = le_itself n

pub below_too : (n m k : ℕ) → n ≤ m → m < k → n < k
below_too n m k le lt = omega (arith, le, lt)

pub on_to : (k n m : ℕ) → k < n → n ≤ m → k < m
on_to k n m lt le = omega (arith, lt, le)

apart_by : (k n : ℕ) → k < n → n ≤ k → ⊥
apart_by k n lt le = omega (arith, lt, le)

-- the answer of histories to work that numbers tablets is that it is done
abbrev IsPlainOf : TableWork → Told → Type 0
IsPlainOf Aside plain = Unit {0}
IsPlainOf (Making t) plain = plain ≡ Done
IsPlainOf (Dropping t) plain = Unit {0}
IsPlainOf (On t work) plain = IsPlain work plain

work_plain : (work : TabletWork) → IsPlain work Done
work_plain (Splitting row) = refl
work_plain (Halving row limit) = refl
work_plain _ = tt

done_plain : (work : TableWork) → IsPlainOf work Done
done_plain Aside = tt
done_plain (Making t) = refl
done_plain (Dropping t) = tt
done_plain (On t work) = work_plain work

-- ---- all tables
module _ (old : CoreContents) (a : AreNumbered (tablets_in old) old.tablet) where
  as_they_were : (next : ℕ) → old.tablet ≤ next → AreNumbered (tablets_in old) next
  as_they_were next le = record { once = a.once; apart = a.apart; below = λ q k h. on_to k old.tablet next (a.below q k h) le }

  -- where something was done to one of them
  module _ (t : List ℕ) (after : List ℕ → List Tablet) (next : ℕ) (le : old.tablet ≤ next) (done : (q : List ℕ) → t ≡ q → Renumbered old.tablet next (tablets_in old q) (after q)) where
    abbrev left : List ℕ → List Tablet
    left q = cond (bytes_eq t q) (after q) (tablets_in old q)

    -- where a number comes from
    abbrev From : List ℕ → ℕ → Type 0
    From q k = (has_number k (tablets_in old q) ≡ true) ⊎ ((t ≡ q) × (old.tablet ≤ k) × (k < next))

    comes : (q : List ℕ) (k : ℕ) → has_number k (left q) ≡ true → From q k
    comes q k = go (bytes_eq t q) refl
      where
        new : t ≡ q → (has_number k (tablets_in old q) ≡ true) ⊎ ((old.tablet ≤ k) × (k < next)) → From q k
        new e (inl h) = inl h
        new e (inr h) = inr (e, h.0, h.1)

        go : (v : Bool) → bytes_eq t q ≡ v → has_number k (cond v (after q) (tablets_in old q)) ≡ true → From q k
        go true e h = let is : t ≡ q = (bytes_decides t q).0 e in new is ((done q is).from k h)
        go false e h = inl h

    one_table : (q r : List ℕ) (k : ℕ) → From q k → From r k → q ≡ r
    one_table q r k (inl g) (inl h) = a.apart q r k g h
    one_table q r k (inl g) (inr h) = absurd (apart_by k old.tablet (a.below q k g) h.1)
    one_table q r k (inr g) (inl h) = absurd (apart_by k old.tablet (a.below r k h) g.1)
    one_table q r k (inr g) (inr h) = sym g.0 ∙ h.0

    under : (q : List ℕ) (k : ℕ) → From q k → k < next
    under q k (inl g) = on_to k old.tablet next (a.below q k g) le
    under q k (inr g) = g.2

    each_differs : (q : List ℕ) → NumbersDiffer (left q)
    each_differs q = go (bytes_eq t q) refl
      where
        go : (v : Bool) → bytes_eq t q ≡ v → NumbersDiffer (cond v (after q) (tablets_in old q))
        go true e = (done q ((bytes_decides t q).0 e)).differ
        go false e = a.once q

    one_done : AreNumbered left next
    one_done = record { once = each_differs; apart = λ q r k g h. one_table q r k (comes q k g) (comes r k h); below = λ q k h. under q k (comes q k h) }

  -- a table that is made
  made : (next : ℕ) → next ≡ old.tablet + 1 → (ts : List Tablet) → Renumbered old.tablet next ts (new_tablet old.tablet None ∷ [])
  made next is ts = record { differ = (refl, tt); from = λ k h. given k (or_true (old.tablet == k) false h) }
    where
      given : (k : ℕ) → ((old.tablet == k) ≡ true) ⊎ (false ≡ true) → (has_number k ts ≡ true) ⊎ ((old.tablet ≤ k) × (k < next))
      given k (inl e) = let same = nat_same old.tablet k e in inr (omega (arith, same), omega (arith, same, is))
      given k (inr e) = absurd (true≢false (sym e))

  module _ (now : ℤ) where
    abbrev Laid : TableWork → Told → Type 0
    Laid work plain = tablet_told (told_by old now work plain) work old.tablet < 18446744073709551615 → AreNumbered (λ q. laid_by old now work plain q) (tablet_told (told_by old now work plain) work old.tablet)

    making : (t : List ℕ) → Laid (Making t) Done
    making t lt = one_done t (λ q. new_tablet old.tablet None ∷ []) (next_number old.tablet) (omega (arith, lt)) (λ q e. made (next_number old.tablet) (omega (arith, lt)) (tablets_in old q))

    laid_numbers : (work : TableWork) (plain : Told) → IsPlainOf work plain → Laid work plain
    laid_numbers Aside plain is lt = as_they_were _ (grows plain Aside old.tablet lt)
    laid_numbers (Making t) plain is lt = subst (Laid (Making t)) (sym is) (making t) lt
    laid_numbers (Dropping t) plain is lt = one_done t (λ q. []) (tablet_told plain (Dropping t) old.tablet) (grows plain (Dropping t) old.tablet lt) (λ q e. record { differ = tt; from = λ k h. absurd (true≢false (sym h)) })
    laid_numbers (On t work) plain is lt =
        let r : Told = told_by old now (On t work) plain in
        one_done t (λ q. (lays_in old now work plain (table_in old q)).1) (tablet_told r (On t work) old.tablet) (grows r (On t work) old.tablet lt)
        (λ q e. subst (λ x. Renumbered old.tablet (tablet_told r (On t work) old.tablet) (tablets_in old x) (lays_in old now work plain (table_in old x)).1) e
        (work_numbers (place_of old now (table_in old t)) t (tablets_in old t) (a.once t) (a.below t) work plain is lt))

    module _ (given : Option TabletMerge) where
      -- what is left by an act of which this was told
      abbrev Left : Act → Told → (List ℕ → List Tablet) → Type 0
      Left act r after = tablet_told r (work_of given act) old.tablet < 18446744073709551615 → AreNumbered after (tablet_told r (work_of given act) old.tablet)

      untouched : (act : Act) (r : Told) → Left act r (tablets_in old)
      untouched act r lt = as_they_were _ (grows r (work_of given act) old.tablet lt)

      told_left : (act : Act) (r plain : Told) → Left act r (λ q. laid_exactly old now given act plain q) → Left act r (λ q. laid_told r old now given act plain q)
      told_left act (Refused NoMemory) plain l = untouched act (Refused NoMemory)
      told_left act r plain l = l

      done_left : (c : Caller) (act : Act) → Left act (told_exactly old now given act (granted c act)) (λ q. laid_exactly old now given act (granted c act) q)
      done_left c (Open scan) = laid_numbers (work_of given (Open scan)) (granted c (Open scan)) tt
      done_left c (AsksRights t) = laid_numbers (work_of given (AsksRights t)) (granted c (AsksRights t)) tt
      done_left c act = laid_numbers (work_of given act) Done (done_plain (work_of given act))

      abbrev Answered : Act → Told → Told → Type 0
      Answered act plain r = Left act r (λ q. laid_told r old now given act plain q)

      answer_left : (c : Caller) (act : Act) (o : Option Refusal) (used_up : Bool) (r : Told) → r ≡ told_exactly old now given act (told o (numbered used_up (granted c act))) → Answered act (told o (numbered used_up (granted c act))) r
      answer_left c act None false r e = subst (Answered act (granted c act)) (sym e) (told_left act (told_exactly old now given act (granted c act)) (granted c act) (done_left c act))
      answer_left c act None true r e = told_left act r (Refused (TooLarge Numbers)) (untouched act r)
      answer_left c act (Some k) used_up r e = told_left act r (Refused k) (untouched act r)

step_left : (old : CoreContents) (a : AreNumbered (tablets_in old) old.tablet) (event : Event) (given : Option TabletMerge) (r : Told)
    → ((r ≡ told_exactly old (now_at old event) given event.act (plain_answer old event)) ⊎ ((takes_memory event.act ≡ true) × (r ≡ Refused NoMemory))) → Answered old a (now_at old event) given event.act (plain_answer old event) r
step_left old a event given r (inl e) = answer_left old a (now_at old event) given (caller old event) event.act (refusal old event) (spent old event) r e
step_left old a event given r (inr e) = subst (Answered old a (now_at old event) given event.act (plain_answer old event)) (sym e.1) (untouched old a (now_at old event) given event.act (Refused NoMemory))

-- the next number doesn't fall
pub next_grows : (old new : CoreContents) (now : ℤ) (given job : Option TabletMerge) (act : Act) (plain r : Told) → LaysExactly old now given act plain r job new → new.tablet < 18446744073709551615 → old.tablet ≤ new.tablet
next_grows old new now given job act plain r exact lt =
    subst (λ n. old.tablet ≤ n) (sym exact.tablet) (grows r (work_of given act) old.tablet (subst (λ n. n < 18446744073709551615) exact.tablet lt))

pub numbers_stay : NumbersStay
numbers_stay old new given job event r was exact lt =
    let work : TableWork = work_of given event.act in
    let more : tablet_told r work old.tablet < 18446744073709551615 = subst (λ n. n < 18446744073709551615) exact.tablet lt in
    let a : AreNumbered (tablets_in old) old.tablet = was (below_too old.tablet new.tablet 18446744073709551615 (next_grows old new (now_at old event) given job event.act (plain_answer old event) r exact lt) lt) in
    subst (λ n. AreNumbered (tablets_in new) n) (sym exact.tablet)
    (subst (λ f. AreNumbered f (tablet_told r work old.tablet)) (sym (λ i q. exact.tablets q i)) (step_left old a event given r exact.answers more))
