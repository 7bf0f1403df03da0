-- The words of a line, piece by piece.
use Rattle.std.proofs.Common.{◌≡◌, ℕ, suc, ◌+◌, ◌<◌, List, [], ◌∷◌, ◌++◌, length, get_or, drop, refl, sym, ap, ◌∙◌, arith, append_assoc}
use Rattle.std.specs.Prelude.{codes, Vec}
use Rattle.std.specs.declared.alloc.Global.{Global}
use Rattle.std.specs.List.{flat_map}
use Rattle.std.proofs.lemmas.List.Folds.{flat_map-map}
use Rattle.tab_label.specs.Sets.{byte_lists}
use Rattle.tab_mutation.specs.Mutations.{Update}
use Rattle.tab_text.specs.Words.{empty_word}
use Rattle.tab_text.specs.Lines.{after_spaces}
use Rattle.tab_audit.specs.Words.{part_byte, part_word, list_word, update_words, updates_words}
use Rattle.tab_audit.specs.Lists.{later_update}

-- ---- parts

pub part_none : (bs : List ℕ) → length bs ≡ 0 → part_word bs ≡ empty_word
part_none [] none = refl
part_none (b ∷ bs) none = absurd (omega arith)

pub part_some : (bs : List ℕ) → 0 < length bs → part_word bs ≡ flat_map part_byte bs
part_some [] some = absurd (omega arith)
part_some (b ∷ bs) some = refl

-- ---- lists

-- the first member, and then the others
pub list_first : {A : Type 0} (f : A → List ℕ) (xs others : List A) (d : A) → 0 < length xs → others ≡ drop 1 xs
    → f (get_or xs 0 d) ++ flat_map (λ x. 44 ∷ f x) others ≡ list_word f xs
list_first f [] others d some is = absurd (omega arith)
list_first f (x ∷ xs) others d some is = ap (λ ys. f x ++ flat_map (λ y. 44 ∷ f y) ys) is

-- authorizations as they lie in memory
pub list_terms : (terms : List (Vec ℕ Global)) → list_word (λ (v : Vec ℕ Global). part_word v.items) terms ≡ list_word part_word (byte_lists terms)
list_terms [] = refl
list_terms (v ∷ vs) = ap (λ t. part_word v.items ++ t) (sym (flat_map-map (λ y. 44 ∷ part_word y) (λ (v : Vec ℕ Global). v.items) vs))

-- ---- updates

pub after_spaces-append : (a b : List (List ℕ)) → after_spaces (a ++ b) ≡ after_spaces a ++ after_spaces b
after_spaces-append [] b = refl
after_spaces-append (w ∷ ws) b = ap (λ t. 32 ∷ (w ++ t)) (after_spaces-append ws b) ∙ ap (λ t. 32 ∷ t) (sym (append_assoc w (after_spaces ws) (after_spaces b)))

-- updates behind the first one
later_each : (us : List Update) → after_spaces (flat_map (λ v. codes ";" ∷ update_words v) us) ≡ flat_map later_update us
later_each [] = refl
later_each (u ∷ us) =
    let rest : List (List ℕ) = flat_map (λ v. codes ";" ∷ update_words v) us in
    ap (λ t. 32 ∷ 59 ∷ t) (after_spaces-append (update_words u) rest) ∙ ap (λ t. 32 ∷ 59 ∷ (after_spaces (update_words u) ++ t)) (later_each us)

-- the first update, and then the others
pub some_updates : (us : List Update) (d : Update) → 0 < length us → after_spaces (update_words (get_or us 0 d)) ++ flat_map later_update (drop 1 us) ≡ after_spaces (updates_words us)
some_updates [] d some = absurd (omega arith)
some_updates (u ∷ us) d some =
    ap (λ t. after_spaces (update_words u) ++ t) (sym (later_each us)) ∙ sym (after_spaces-append (update_words u) (flat_map (λ v. codes ";" ∷ update_words v) us))

-- one of the others
pub later_at : (us : List Update) (i : ℕ) (d : Update) → 0 < length us → get_or us (i + 1) d ≡ get_or (drop 1 us) i d
later_at [] i d some = absurd (omega arith)
later_at (u ∷ us) i d some = let more : i + 1 ≡ suc i = omega arith in ap (λ n. get_or (u ∷ us) n d) more

-- two words, and then others, and a line feed
pub two_first : (a b : List ℕ) (ws : List (List ℕ)) → after_spaces (a ∷ b ∷ []) ++ (after_spaces ws ++ 10 ∷ []) ≡ after_spaces (a ∷ b ∷ ws) ++ 10 ∷ []
two_first a b ws = sym (append_assoc (after_spaces (a ∷ b ∷ [])) (after_spaces ws) (10 ∷ [])) ∙ ap (λ t. t ++ 10 ∷ []) (sym (after_spaces-append (a ∷ b ∷ []) ws))
