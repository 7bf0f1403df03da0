-- Entries are read one behind the other, exactly as they stand.
use Rattle.std.proofs.Common.{◌≡◌, ℕ, zero, suc, ◌+◌, ◌≤◌, ◌<◌, ◌==◌, Bool, true, false, cond, List, [], ◌∷◌, ◌++◌, length, Option, Some, None, refl, sym, ap, subst, ◌∙◌, append_assoc, append-nil, arith}
use Rattle.std.specs.Prelude.{unwrap_or}
use Rattle.std.proofs.lemmas.Bool.Decides.{nat_tests}
use Rattle.std.proofs.lemmas.List.{length-append, nil_from_length}
use Rattle.tab_history.specs.declared.event.Event.{Event}
use Rattle.tab_codec.specs.Parts.{IsBytes}
use Rattle.tab_codec.specs.Reading.{◌>>=◌, i64_at, u64_at}
use Rattle.tab_codec.proofs.Exact.{some_inj}
use Rattle.tab_codec.proofs.PartLaw.{eq_is}
use Rattle.tab_journal.specs.Journals.{AreEntries}
use Rattle.tab_journal.specs.Laws.{EntriesAreRead}
use Rattle.tab_journal.specs.Reading.{entry_at, entries_within, entries_from, entries_in}
use Rattle.tab_journal.proofs.Forms.{exact_entry, entry_long}

abbrev step : ℕ → List ℕ → Option (Event × List ℕ) → List Event × List ℕ
step k bytes o = unwrap_or (o >>= λ e. let behind = entries_within k e.1 in Some (e.0 ∷ behind.0, behind.1)) ([], bytes)

pub nothing_there : entry_at [] ≡ None
unfolding entry_at i64_at u64_at
nothing_there = refl

-- ---- what is read
-- the entries in front of some bytes, and what is left behind them
pub record Front (bytes : List ℕ) (es : List Event) (left : List ℕ) : Type 0 where
  pub kept : List ℕ
  pub parts : bytes ≡ kept ++ left
  pub are : AreEntries kept es
  pub ends : entry_at left ≡ None

within_sound : (k : ℕ) (bytes : List ℕ) → IsBytes bytes → length bytes ≤ k → Front bytes (entries_within k bytes).0 (entries_within k bytes).1
within_sound zero bytes fits short =
    let none : bytes ≡ [] = nil_from_length bytes (omega (arith, short)) in
    record { kept = []; parts = refl; are = refl; ends = ap entry_at none ∙ nothing_there }
within_sound (suc k) bytes fits short = go (λ rest more less. within_sound k rest more less) (entry_at bytes) refl
  where
    go : ((rest : List ℕ) → IsBytes rest → length rest ≤ k → Front rest (entries_within k rest).0 (entries_within k rest).1)
        → (o : Option (Event × List ℕ)) → entry_at bytes ≡ o → Front bytes (entries_within (suc k) bytes).0 (entries_within (suc k) bytes).1
    go later None is = subst (λ (p : List Event × List ℕ). Front bytes p.0 p.1) (sym (ap (step k bytes) is)) (record { kept = []; parts = refl; are = refl; ends = is })
    go later (Some (e, rest)) is =
        let t = exact_entry.sound bytes e rest fits is in
        let len : length bytes ≡ length t.front + length rest = ap (λ (z : List ℕ). length z) t.parts ∙ length-append t.front rest in
        let r = later rest t.fits (omega (arith, len, short, entry_long t.front e t.says)) in
        subst (λ (p : List Event × List ℕ). Front bytes p.0 p.1) (sym (ap (step k bytes) is)) (record {
          kept = t.front ++ r.kept;
          parts = t.parts ∙ ap (λ (z : List ℕ). t.front ++ z) r.parts ∙ sym (append_assoc t.front r.kept (entries_within k rest).1);
          are = (t.front, r.kept, refl, t.says, r.are);
          ends = r.ends;
        })

pub from_sound : (bytes : List ℕ) → IsBytes bytes → Front bytes (entries_from bytes).0 (entries_from bytes).1
unfolding entries_from
from_sound bytes fits = within_sound (length bytes) bytes fits (omega arith)

-- ---- what stands there is read
within_complete : (es : List Event) (k : ℕ) (bytes rest : List ℕ) → AreEntries bytes es → length (bytes ++ rest) ≤ k → entry_at rest ≡ None → entries_within k (bytes ++ rest) ≡ (es, rest)
within_complete [] zero bytes rest are short none = ap (λ (z : List ℕ). ([], z ++ rest)) are
within_complete [] (suc k) bytes rest are short none = ap (λ (z : List ℕ). entries_within (suc k) (z ++ rest)) are ∙ ap (step k rest) none
within_complete (e ∷ es) zero bytes rest are short none =
    let len : length bytes ≡ length are.0 + length are.1 = ap (λ (z : List ℕ). length z) are.2 ∙ length-append are.0 are.1 in
    absurd (omega (arith, len, short, length-append bytes rest, entry_long are.0 e are.3))
within_complete (e ∷ es) (suc k) bytes rest are short none =
    let same : bytes ++ rest ≡ are.0 ++ (are.1 ++ rest) = ap (λ (z : List ℕ). z ++ rest) are.2 ∙ append_assoc are.0 are.1 rest in
    let len : length (bytes ++ rest) ≡ length are.0 + length (are.1 ++ rest) = ap (λ (z : List ℕ). length z) same ∙ length-append are.0 (are.1 ++ rest) in
    let first : entry_at (are.0 ++ (are.1 ++ rest)) ≡ Some (e, are.1 ++ rest) = exact_entry.complete are.0 (are.1 ++ rest) e are.3 in
    let more : entries_within k (are.1 ++ rest) ≡ (es, rest) = within_complete es k (are.1) rest are.4 (omega (arith, len, short, entry_long are.0 e are.3)) none in
    ap (λ (z : List ℕ). entries_within (suc k) z) same ∙ ap (step k (are.0 ++ (are.1 ++ rest))) first ∙ ap (λ (p : List Event × List ℕ). (e ∷ p.0, p.1)) more

pub from_complete : (bytes rest : List ℕ) (es : List Event) → AreEntries bytes es → entry_at rest ≡ None → entries_from (bytes ++ rest) ≡ (es, rest)
unfolding entries_from
from_complete bytes rest es are none = within_complete es (length (bytes ++ rest)) bytes rest are (omega arith) none

pub from_whole : (bytes : List ℕ) (es : List Event) → AreEntries bytes es → entries_from bytes ≡ (es, [])
from_whole bytes es are = ap entries_from (sym (append-nil bytes)) ∙ from_complete bytes [] es are nothing_there

-- one entry in front, and none
pub record More (bytes : List ℕ) (e : Event) (behind : List ℕ) : Type 0 where
  pub fits : IsBytes behind
  pub shorter : length behind < length bytes
  pub front : (entries_from bytes).0 ≡ e ∷ (entries_from behind).0
  pub left : (entries_from bytes).1 ≡ (entries_from behind).1

pub from_more : (bytes : List ℕ) (e : Event) (behind : List ℕ) → IsBytes bytes → entry_at bytes ≡ Some (e, behind) → More bytes e behind
from_more bytes e behind fits is =
    let t = exact_entry.sound bytes e behind fits is in
    let f = from_sound behind t.fits in
    let len : length bytes ≡ length t.front + length behind = ap (λ (z : List ℕ). length z) t.parts ∙ length-append t.front behind in
    let same : bytes ≡ (t.front ++ f.kept) ++ (entries_from behind).1 = t.parts ∙ ap (λ (z : List ℕ). t.front ++ z) f.parts ∙ sym (append_assoc t.front f.kept (entries_from behind).1) in
    let all : entries_from bytes ≡ (e ∷ (entries_from behind).0, (entries_from behind).1) =
    ap entries_from same ∙ from_complete (t.front ++ f.kept) (entries_from behind).1 (e ∷ (entries_from behind).0) (t.front, f.kept, refl, t.says, f.are) f.ends in
    record {
      fits = t.fits;
      shorter = omega (arith, len, entry_long t.front e t.says);
      front = ap (λ (p : List Event × List ℕ). p.0) all;
      left = ap (λ (p : List Event × List ℕ). p.1) all;
    }

pub from_none : (bytes : List ℕ) → entry_at bytes ≡ None → ((entries_from bytes).0 ≡ []) × ((entries_from bytes).1 ≡ bytes)
from_none bytes none = let e = from_complete [] bytes [] refl none in (ap (λ (p : List Event × List ℕ). p.0) e, ap (λ (p : List Event × List ℕ). p.1) e)

-- all of the bytes, or a part of them
pub in_whole : (bytes : List ℕ) (es : List Event) → (entries_from bytes).0 ≡ es → (entries_from bytes).1 ≡ [] → entries_in bytes ≡ Some es
unfolding entries_in
in_whole bytes es front left = (λ i. cond (length (left i) == 0) (Some (front i)) None)

pub in_part : (bytes : List ℕ) → 0 < length (entries_from bytes).1 → entries_in bytes ≡ None
unfolding entries_in
in_part bytes some = let no : (length (entries_from bytes).1 == 0) ≡ false = grind (arith, nat_tests, some) in ap (λ (b : Bool). cond b (Some (entries_from bytes).0) None) no

pub in_all : (bytes : List ℕ) (es fs : List Event) → entries_in bytes ≡ Some es → AreEntries bytes fs → es ≡ fs
in_all bytes es fs is are =
    let whole = from_whole bytes fs are in
    some_inj es fs (sym is ∙ in_whole bytes fs (ap (λ (p : List Event × List ℕ). p.0) whole) (ap (λ (p : List Event × List ℕ). p.1) whole))

-- ---- both ways
all_left : (es : List Event) (left : List ℕ) (b : Bool) (fs : List Event) → (length left == 0) ≡ b → cond b (Some es) None ≡ Some fs → (es ≡ fs) × (left ≡ [])
all_left es left true fs test is = (some_inj es fs is, nil_from_length left (eq_is (length left) 0 test))
all_left es left false fs test is = absurd cc

pub entries_are_read : EntriesAreRead
unfolding entries_in
entries_are_read bytes es fits = (forth, back)
  where
    forth : entries_in bytes ≡ Some es → AreEntries bytes es
    forth is =
        let f = from_sound bytes fits in
        let all = all_left (entries_from bytes).0 (entries_from bytes).1 (length (entries_from bytes).1 == 0) es refl is in
        let same : bytes ≡ f.kept = f.parts ∙ ap (λ (z : List ℕ). f.kept ++ z) all.1 ∙ append-nil f.kept in
        subst (λ (z : List ℕ). AreEntries z es) (sym same) (subst (λ (xs : List Event). AreEntries f.kept xs) all.0 f.are)

    back : AreEntries bytes es → entries_in bytes ≡ Some es
    back are = ap (λ (p : List Event × List ℕ). cond (length p.1 == 0) (Some p.0) None) (from_whole bytes es are)

-- ---- one behind the other
pub parts_joined : (a b : List ℕ) (es fs : List Event) → AreEntries a es → AreEntries b fs → AreEntries (a ++ b) (es ++ fs)
parts_joined a b [] fs are more = subst (λ (z : List ℕ). AreEntries z fs) (sym (ap (λ (z : List ℕ). z ++ b) are)) more
parts_joined a b (e ∷ es) fs are more = (are.0, are.1 ++ b, ap (λ (z : List ℕ). z ++ b) are.2 ∙ append_assoc are.0 are.1 b, are.3, parts_joined are.1 b es fs are.4 more)
