-- The line that has begun.
use Rattle.std.proofs.Common.{ℕ, suc, ◌≡◌, ◌+◌, ◌<◌, Bool, true, false, cond, List, [], ◌∷◌, ◌++◌, length, sym, ap, ◌∙◌, subst, arith, length-append}
use Rattle.std.specs.List.{prefix_len}
use Rattle.std.proofs.lemmas.List.{append-nil}
use Rattle.tab_shell.specs.declared.pending.Pending.{Pending}
use Rattle.tab_shell.specs.Scripts.{is_inside, IsInside}
use Rattle.tab_shell.specs.Ahead.{Pends, KeptOrLost}

pub inside_more : (gone part : List ℕ) → IsInside gone → IsInside part → IsInside (gone ++ part)
inside_more [] part a b = b
inside_more (x ∷ xs) part a b =
    elim (is_inside x) as (λ t. cond t (1 + prefix_len is_inside xs) 0 ≡ suc (length xs) → cond t (1 + prefix_len is_inside (xs ++ part)) 0 ≡ suc (length (xs ++ part))) [
      | true ↦ λ h. let i : prefix_len is_inside xs ≡ length xs = omega (arith, h) in let j = inside_more xs part i b in omega (arith, j)
      | false ↦ λ h. absurd (omega (arith, h))
    ] a

pub pends_nothing : (p : Pending) (part gone : List ℕ) → length part ≡ 0 → Pends p gone → Pends p (gone ++ part)
pends_nothing p [] gone none h = subst (λ (g : List ℕ). Pends p g) (sym (append-nil gone)) h
pends_nothing p (x ∷ xs) gone none h = absurd (omega arith)

kept_is : (b : Bool) (bytes gone : List ℕ) → b ≡ false → KeptOrLost b bytes gone → bytes ≡ gone
kept_is false bytes gone is h = h
kept_is true bytes gone is h = absurd cc

-- where the bytes aren't lost they are the line
pub text_is : (p : Pending) (gone : List ℕ) → p.lost ≡ false → Pends p gone → p.bytes.items ≡ gone
text_is p gone kept h = kept_is p.lost p.bytes.items gone kept h.kept

lost_is : (b : Bool) (bytes gone : List ℕ) → b ≡ true → KeptOrLost b bytes gone → 0 < length gone
lost_is true bytes gone is h = h
lost_is false bytes gone is h = absurd cc

is_kept : (b : Bool) (bytes gone : List ℕ) → b ≡ false → bytes ≡ gone → KeptOrLost b bytes gone
is_kept false bytes gone is h = h
is_kept true bytes gone is h = absurd cc

is_lost : (b : Bool) (bytes gone : List ℕ) → b ≡ true → 0 < length gone → KeptOrLost b bytes gone
is_lost true bytes gone is h = h
is_lost false bytes gone is h = absurd cc

pub pends_lost : (p q : Pending) (part gone : List ℕ) → q.lost ≡ true → IsInside part → 0 < length part → Pends p gone → Pends q (gone ++ part)
pends_lost p q part gone lost inside some h = record {
  inside = inside_more gone part h.inside inside;
  kept = is_lost q.lost q.bytes.items (gone ++ part) lost (omega (arith, length-append gone part));
}

pub pends_kept : (p q : Pending) (part gone : List ℕ) → p.lost ≡ false → q.lost ≡ false → q.bytes.items ≡ p.bytes.items ++ part → IsInside part → Pends p gone → Pends q (gone ++ part)
pends_kept p q part gone was now is inside h = record {
  inside = inside_more gone part h.inside inside;
  kept = is_kept q.lost q.bytes.items (gone ++ part) now (is ∙ ap (λ x. x ++ part) (kept_is p.lost p.bytes.items gone was h.kept));
}
