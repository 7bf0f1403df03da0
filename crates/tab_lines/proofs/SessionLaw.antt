-- The lines of sessions are exactly what is read of their words.
use Rattle.std.proofs.Common.{ℕ, ◌≡◌, List, [], ◌∷◌, refl, subst, ap, Some, ◌∙◌, Option}
use Rattle.std.specs.Prelude.{codes}
use Rattle.std.specs.Option.{option_map}
use Rattle.tab_key.specs.declared.range.Bounds.{Bounds}
use Rattle.tab_lines.specs.declared.line.Line.{Line}
use Rattle.tab_lines.specs.declared.line.Line.TheVariants as says
use Rattle.tab_lines.specs.Gives.{field}
use Rattle.tab_lines.specs.Fields.{small_of, bound_of}
use Rattle.tab_lines.specs.Lines.{next_of, ranges_of, many_of, close_of}
use Rattle.tab_lines.specs.Forms.{IsSmall, AreRanges, Form}
use Rattle.tab_lines.specs.Forms.AreRanges.{none as no_ranges, pair as one_pair}
use Rattle.tab_lines.specs.Forms.Form.{next as form_next, many as form_many, close as form_close}
use Rattle.tab_lines.proofs.NumberLaw.{small_read}
use Rattle.tab_lines.proofs.RangeLemmas.{first_range}
use Rattle.tab_lines.proofs.ListLaw.{bounds_read}
use Rattle.tab_lines.proofs.Inverting.{Words, some_inj, bind_some, field_some, on_bind, on_map, on_then, on_field, on_ends}

-- ---- next
pub next_sound : (words : Words) (line : Line) → next_of words ≡ Some line → Form (codes "next" ∷ words) line
unfolding next_of
next_sound words line is =
    on_field small_of words _ line (λ ws. Form (codes "next" ∷ ws) line) is (λ k ws1 session e1 f1.
    on_field small_of ws1 _ line (λ ws. Form (codes "next" ∷ k ∷ ws) line) f1 (λ n ws2 count e2 f2.
    on_ends ws2 _ line (λ ws. Form (codes "next" ∷ k ∷ n ∷ ws) line) f2 (λ f3.
    subst (λ (y : Line). Form (codes "next" ∷ k ∷ n ∷ []) y) (some_inj (says.Next session count) line f3)
    (form_next k n session count (small_read.sound k session e1) (small_read.sound n count e2)))))

pub next_complete : (k n : List ℕ) (session count : ℕ) → IsSmall k session → IsSmall n count → next_of (k ∷ n ∷ []) ≡ Some (says.Next session count)
unfolding next_of
next_complete k n session count s c =
    bind_some (field small_of (k ∷ n ∷ [])) (session, n ∷ []) _ _ (field_some small_of k (n ∷ []) session (small_read.complete k session s))
    (bind_some (field small_of (n ∷ [])) (count, []) _ _ (field_some small_of n [] count (small_read.complete n count c)) refl)

-- ---- many
ranges_sound : (words : Words) (ranges : List Bounds) → ranges_of words ≡ Some ranges → AreRanges words ranges
ranges_sound [] ranges is = subst (λ (rs : List Bounds). AreRanges [] rs) (some_inj [] ranges is) no_ranges
ranges_sound (low ∷ []) ranges is = absurd cc
ranges_sound (low ∷ high ∷ words) ranges is =
    on_then _ (bound_of low) ranges (AreRanges (low ∷ high ∷ words) ranges) is (λ l e1 f1.
    on_then _ (bound_of high) ranges (AreRanges (low ∷ high ∷ words) ranges) f1 (λ h e2 f2.
    on_map _ (ranges_of words) ranges (AreRanges (low ∷ high ∷ words) ranges) f2 (λ rest e3 f3.
    subst (λ (rs : List Bounds). AreRanges (low ∷ high ∷ words) rs) f3
    (one_pair low high words l h rest (bounds_read.sound low l e1) (bounds_read.sound high h e2) (ranges_sound words rest e3)))))

ranges_complete : (words : Words) (ranges : List Bounds) → AreRanges words ranges → ranges_of words ≡ Some ranges
ranges_complete words ranges no_ranges = refl
ranges_complete words ranges (one_pair l h ws low high rest b1 b2 are) =
    first_range l h ws low high (bounds_read.complete l low b1) (bounds_read.complete h high b2) ∙ ap (λ (o : Option (List Bounds)). option_map (λ rs. record { low = low; high = high } ∷ rs) o) (ranges_complete ws rest are)

pub many_sound : (words : Words) (line : Line) → many_of words ≡ Some line → Form (codes "many" ∷ words) line
unfolding many_of
many_sound words line is =
    on_field small_of words _ line (λ ws. Form (codes "many" ∷ ws) line) is (λ k ws session e1 f1.
    on_bind (ranges_of ws) _ line (Form (codes "many" ∷ k ∷ ws) line) f1 (λ ranges e2 f2.
    subst (λ (y : Line). Form (codes "many" ∷ k ∷ ws) y) (some_inj (says.Many session ranges) line f2)
    (form_many k ws session ranges (small_read.sound k session e1) (ranges_sound ws ranges e2))))

pub many_complete : (k : List ℕ) (words : Words) (session : ℕ) (ranges : List Bounds) → IsSmall k session → AreRanges words ranges → many_of (k ∷ words) ≡ Some (says.Many session ranges)
unfolding many_of
many_complete k words session ranges s are =
    bind_some (field small_of (k ∷ words)) (session, words) _ _ (field_some small_of k words session (small_read.complete k session s))
    (bind_some (ranges_of words) ranges _ _ (ranges_complete words ranges are) refl)

-- ---- close
pub close_sound : (words : Words) (line : Line) → close_of words ≡ Some line → Form (codes "close" ∷ words) line
unfolding close_of
close_sound words line is =
    on_field small_of words _ line (λ ws. Form (codes "close" ∷ ws) line) is (λ k ws session e1 f1.
    on_ends ws _ line (λ ws. Form (codes "close" ∷ k ∷ ws) line) f1 (λ f2.
    subst (λ (y : Line). Form (codes "close" ∷ k ∷ []) y) (some_inj (says.Close session) line f2) (form_close k session (small_read.sound k session e1))))

pub close_complete : (k : List ℕ) (session : ℕ) → IsSmall k session → close_of (k ∷ []) ≡ Some (says.Close session)
unfolding close_of
close_complete k session s = bind_some (field small_of (k ∷ [])) (session, []) _ _ (field_some small_of k [] session (small_read.complete k session s)) refl
